-- `octets::flip_bit` meets its contract. No axiom.
use Rattle.octets.proofs.Bits.{shifted_one, xor-flips}
use Rattle.octets.proofs.flip_bit.Goals as goal

pub returns : goal.returns
returns c = rw (shifted_one c.args.e c.requires) (xor-flips c.args.word c.args.e)
