-- `listing::put_decimal` meets its contract: the digits from the powers that are left on. No axiom.
use Rattle.octets.proofs.Vocabulary.{drop}
use Rattle.listing.specs.Listing.{decimal}
use Rattle.buffers.proofs.Written.{Going}
use Rattle.listing.proofs.Decimal.{from_powers}
use Rattle.listing.proofs.put_decimal.Given as goal

abbrev pub invariant-loop-power : goal.invariant-loop-power
invariant-loop-power l = Going l.initial.w (decimal l.x) l.w (from_powers (drop l.power-index l.power-items) l.x)
