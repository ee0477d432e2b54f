-- `descriptors::limits::is_named` meets its contract. No axiom.
use Rattle.octets.proofs.Vocabulary.{sym}
use Rattle.octets.proofs.Bits.{bit_past}
use Rattle.descriptors.proofs.limits.is_named.Goals as goal

pub returns : goal.returns
returns c = sym (bit_past 16 _ _ c.ranges.types.fits c.if-t-lt16.false)
