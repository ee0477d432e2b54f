-- `listing::put_fields` meets its contract: the fields that are left are written. No axiom.
use Rattle.octets.proofs.Vocabulary.{refl, ℕ, ◌+◌, ◌<◌, ◌≤◌, List, [], ◌∷◌, ◌++◌, length, drop, get_or}
use Rattle.listing.specs.Listing.{decimal, fields}
use Rattle.buffers.specs.declared.Writer.{Writer}
use Rattle.buffers.specs.Written.{Wrote}
use Rattle.buffers.proofs.Written.{Going, room_for, next, done}
use Rattle.listing.proofs.Lines.{next_field, no_field}
use Rattle.listing.proofs.put_fields.Goals as goal

module _ {start w : Writer} {whole : List ℕ} (numbers : List ℕ) (i : ℕ) (g : Going start whole w (fields (drop i numbers))) where
  -- the space is written
  spaced : {is : Writer} → i < length numbers → Wrote w (32 ∷ []) is → Going start whole is (decimal (get_or numbers i 0) ++ fields (drop (i + 1) numbers))
  spaced h r = next g (32 ∷ []) _ (next_field numbers i h) r

  -- the line feed is written
  ended : {is : Writer} → length numbers ≤ i → Wrote w (10 ∷ []) is → Going start whole is []
  ended h r = next g (10 ∷ []) [] (no_field numbers i h) r

pub put-requires : goal.put-requires
put-requires c = room_for c.loop-number.invariant (32 ∷ []) _ (next_field c.args.numbers.now c.loop-number.number-index c.loop-number-test.true)

pub put_decimal-requires : goal.put_decimal-requires
put_decimal-requires c = room_for (spaced c.args.numbers.now c.loop-number.number-index c.loop-number.invariant c.loop-number-test.true c.put.ensures) _ _ refl

pub loop-number-preserved : goal.loop-number-preserved
loop-number-preserved c = next (spaced c.args.numbers.now c.loop-number.number-index c.loop-number.invariant c.loop-number-test.true c.put.ensures) _ _ refl c.put_decimal.ensures

pub put-requires-2 : goal.put-requires-2
put-requires-2 c = room_for c.loop-number.invariant (10 ∷ []) [] (no_field c.args.numbers.now c.loop-number.number-index c.loop-number-test.false)

pub returns : goal.returns
returns c = done (ended c.args.numbers.now c.loop-number.number-index c.loop-number.invariant c.loop-number-test.false c.put-2.ensures) refl
