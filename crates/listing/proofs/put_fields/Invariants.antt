-- `listing::put_fields` meets its contract: the fields that are left are written. No axiom.
use Rattle.octets.proofs.Vocabulary.{drop}
use Rattle.listing.specs.Listing.{fields}
use Rattle.buffers.proofs.Written.{Going}
use Rattle.listing.proofs.put_fields.Given as goal

abbrev pub invariant-loop-number : goal.invariant-loop-number
invariant-loop-number l = Going l.initial.w (fields l.numbers) l.w (fields (drop l.number-index l.numbers))
