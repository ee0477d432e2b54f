-- `pipes::sending::piece_of` meets its contract: the packet lies inside the reply. No axiom.
use Rattle.octets.proofs.Vocabulary.{arith}
use Rattle.packets.proofs.Sizes.{inside}
use Rattle.pipes.proofs.sending.piece_of.Goals as goal

pub overflow_add-result : goal.overflow_add-result
overflow_add-result c = let t = c.args.transfer in omega (arith, rw (← c.in-Some.ensures) at (inside t.length t.asked t.size t.moved))
