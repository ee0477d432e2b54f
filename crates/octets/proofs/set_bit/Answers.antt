-- `octets::set_bit` meets its contract. No axiom.
use Rattle.octets.proofs.Bits.{shifted_one, or-sets}
use Rattle.octets.proofs.set_bit.Goals as goal

pub returns : goal.returns
returns c = rw (shifted_one c.args.e c.requires) (or-sets c.args.word c.args.e)
