-- `events::halts::without` meets its contract: bit by bit. No axiom.
use Rattle.octets.proofs.Vocabulary.{arith}
use Rattle.descriptors.proofs.EndpointBits.{clears}
use Rattle.events.proofs.halts.without.Goals as goal

pub returns : goal.returns
returns c = λ es e. clears es c.args.word c.args.bits c.without.result c.ranges.word.fits (omega (arith, c.without.type_inv)) e c.without.ensures
