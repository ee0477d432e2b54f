-- `octets::clear_bit` meets its contract. No axiom.
use Rattle.octets.proofs.Bits.{shifted_one, and-clears}
use Rattle.octets.proofs.clear_bit.Goals as goal

pub returns : goal.returns
returns c = rw (shifted_one c.args.e c.requires) (and-clears c.args.word c.args.e c.requires c.ranges.word.fits)
