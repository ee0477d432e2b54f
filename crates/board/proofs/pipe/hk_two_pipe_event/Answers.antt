-- `board::pipe::hk_two_pipe_event` meets its contract: what the event gets, handed out; the part is of the set in use. No axiom.
use Rattle.sets.specs.Opening.{lent_two}
use Rattle.pipes.specs.Coded.{response_in}
use Rattle.pipes.specs.Pipe.{wire_of}
use Rattle.board.specs.Exports.{spot_of}
use Rattle.board.proofs.TwoSets.{chosen, place}
use Rattle.board.proofs.Piping.{answers-pipe}
use Rattle.board.proofs.pipe.hk_two_pipe_event.Goals as goal

pub returns : goal.returns
returns c =
    let a = c.args in
    let speed = c.peek-speed in
    let wire = c.wire_of-wire in
    let h = c.hear_two-response in
    let u = c.in_use-used in
    let f = c.finish.ensures in
    answers-pipe (lent_two a.full.now a.high.now a.serial.now) a.image.now a.pipe.now a.setup.now a.reply.now a.full.ref_ptr u.result.ref_ptr a.serial.ref_ptr a.reply.ref_ptr (spot_of a.high.ref_ptr)
    u.result.now (chosen a.full.now a.high.now a.serial.now a.image.now speed.ensures u.ensures.bytes)
    (place a.full.now a.high.now a.serial.now a.image.now speed.ensures u.result.ref_ptr a.full.ref_ptr a.high.ref_ptr u.ensures.block u.ensures.offset)
    wire.result (wire_of a.kind a.value) (response_in h.result) _ _ wire.ensures h.ensures f.number f.out f.part
