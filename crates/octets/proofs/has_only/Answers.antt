-- `octets::has_only` meets its contract: no bit is left. No axiom.
use Rattle.octets.proofs.Words.{nothing_left}
use Rattle.octets.proofs.has_only.Goals as goal

pub returns : goal.returns
returns c = nothing_left c.args.word c.args.allowed c.ranges.word.fits c.ranges.allowed.fits
