-- `pipes::response::part_sent` meets its contract: the packet under way is a part of what is lent. No axiom.
use Rattle.pipes.proofs.Settling.{sent-inside}
use Rattle.pipes.proofs.response.part_sent.Goals as goal

pub part_of-requires : goal.part_of-requires
part_of-requires c =
    let a = c.args in
    rw (c.sent-piece.ensures, c.lengths_in.ensures) (sent-inside a.first.now a.used.now a.serial.now a.reply.now a.order a.next)
