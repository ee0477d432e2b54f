-- `board::pipe::hk_pipe_event` meets its contract: what the event gets, handed out. No axiom.
use Rattle.octets.proofs.Vocabulary.{refl}
use Rattle.sets.specs.Opening.{lent}
use Rattle.pipes.specs.Coded.{response_in}
use Rattle.pipes.specs.Pipe.{wire_of}
use Rattle.board.specs.Exports.{spot_of}
use Rattle.board.proofs.Piping.{answers-pipe}
use Rattle.board.proofs.pipe.hk_pipe_event.Goals as goal

pub returns : goal.returns
returns c =
    let a = c.args in
    let wire = c.wire_of-wire in
    let h = c.hear-response in
    let f = c.finish.ensures in
    answers-pipe (lent a.set.now a.serial.now) a.image.now a.pipe.now a.setup.now a.reply.now a.set.ref_ptr a.set.ref_ptr a.serial.ref_ptr a.reply.ref_ptr (spot_of a.set.ref_ptr)
    a.set.now refl refl wire.result (wire_of a.kind a.value) (response_in h.result) _ _ wire.ensures h.ensures f.number f.out f.part
