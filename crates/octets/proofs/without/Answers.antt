-- `octets::without` meets its contract, bit by bit. No axiom.
use Rattle.octets.proofs.Words.{without-digit}
use Rattle.octets.proofs.without.Goals as goal

pub returns : goal.returns
returns c = λ k h. without-digit c.args.word c.args.bits k c.ranges.bits.fits h
