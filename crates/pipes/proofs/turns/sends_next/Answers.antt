-- `pipes::turns::sends_next` meets its contract: a packet that is there has a small number. No axiom.
use Rattle.octets.proofs.Vocabulary.{ap, sym, arith}
use Rattle.packets.specs.Packets.{Packet}
use Rattle.pipes.proofs.Packets.{small}
use Rattle.pipes.proofs.turns.sends_next.Goals as goal

pub overflow_cast-moved : goal.overflow_cast-moved
overflow_cast-moved c = let t = c.args.transfer in omega (arith, small t.length t.asked t.size _ (ap (λ (p : Packet). p.number) (sym c.in-Some.ensures)))
