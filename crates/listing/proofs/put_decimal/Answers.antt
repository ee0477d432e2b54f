-- `listing::put_decimal` meets its contract: the digits from the powers that are left on. No axiom.
use Rattle.octets.proofs.Vocabulary.{◌≡◌, refl, ap, ℕ, ◌+◌, ◌<◌, ◌≤◌, List, [], ◌++◌, length, drop, get_or, drop_of_length-le, arith}
use Rattle.std.proofs.lemmas.List.{at_drop_more}
use Rattle.listing.specs.Written.{lead}
use Rattle.buffers.proofs.Written.{begun, room_for, next, done}
use Rattle.listing.proofs.Decimal.{last, from_powers, spelled}
use Rattle.listing.proofs.put_decimal.Goals as goal

module _ (powers : List ℕ) (i x : ℕ) where
  next_power : i < length powers → from_powers (drop i powers) x ≡ lead (get_or powers i 0) x ++ from_powers (drop (i + 1) powers) x
  next_power h = at_drop_more (λ ps. from_powers ps x) powers i 0 h

  no_power : length powers ≤ i → from_powers (drop i powers) x ≡ last x
  no_power h = ap (λ ps. from_powers ps x) (drop_of_length-le powers h)

pub loop-power-init : goal.loop-power-init
loop-power-init c = rw (← spelled c.args.x (omega arith)) (begun _ _ c.requires)

pub put_lead-requires-clause-room : goal.put_lead-requires-clause-room
put_lead-requires-clause-room c = room_for c.loop-power.invariant _ _ (next_power _ c.loop-power.power-index c.args.x c.loop-power-test.true)

pub loop-power-preserved : goal.loop-power-preserved
loop-power-preserved c = next c.loop-power.invariant _ _ (next_power _ c.loop-power.power-index c.args.x c.loop-power-test.true) c.put_lead.ensures

pub returns : goal.returns
returns c = done (next c.loop-power.invariant (last c.args.x) [] (no_power _ c.loop-power.power-index c.args.x c.loop-power-test.false) c.put.ensures) refl
