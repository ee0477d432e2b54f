-- `listing::list` meets its contract: in a buffer that is long enough for any text. No axiom.
use Rattle.octets.proofs.Vocabulary.{refl}
use Rattle.std.proofs.Common.{rules}
use Rattle.sets.specs.Opening.{lent}
use Rattle.listing.proofs.Listed.{enough, listed}
use Rattle.listing.proofs.list.Goals as goal

pub put_listing-requires : goal.put_listing-requires
put_listing-requires c = enough c.args.limits (lent c.args.set.now c.args.serial.now) c.args.out.now c.requires

pub returns : goal.returns
returns c = listed c.args.limits (lent c.args.set.now c.args.serial.now) c.args.out.now c.requires refl refl c.put_listing.ensures (search rules)
