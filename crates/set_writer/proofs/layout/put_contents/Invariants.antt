-- `set_writer::layout::put_contents` meets its contract: the entries of the places that are left. No axiom.
use Rattle.octets.proofs.Vocabulary.{◌+◌, ◌<◌, length}
use Rattle.buffers.proofs.Written.{Going}
use Rattle.set_writer.specs.Writer.{contents, body_bytes, front}
use Rattle.set_writer.specs.Places.{pieces_at}
use Rattle.set_writer.proofs.Laying.{left}
use Rattle.set_writer.proofs.layout.put_contents.Given as goal

abbrev pub invariant-loop-from : goal.invariant-loop-from
invariant-loop-from l = record {
  fits : l.offset + length (body_bytes (left l.stream l.places l.from-index)) < 65536;
  going : Going l.initial.w (contents (front (pieces_at l.stream l.places)) (pieces_at l.stream l.places)) l.w (contents l.offset (left l.stream l.places l.from-index));
}
