-- `set_writer::layout::put_bodies` meets its contract: the bodies of the places that are left. No axiom.
use Rattle.buffers.proofs.Written.{Going}
use Rattle.set_writer.specs.Writer.{body_bytes}
use Rattle.set_writer.specs.Places.{pieces_at}
use Rattle.set_writer.proofs.Laying.{left}
use Rattle.set_writer.proofs.layout.put_bodies.Given as goal

abbrev pub invariant-loop-from : goal.invariant-loop-from
invariant-loop-from l = Going l.initial.w (body_bytes (pieces_at l.stream l.places)) l.w (body_bytes (left l.stream l.places l.from-index))
