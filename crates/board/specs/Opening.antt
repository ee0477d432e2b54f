-- hk_open: its number is 0 to 6 or 8, 8 for an image of another length alone; and on 32 bytes it says exactly which of the six groups hold.
-- hk_two_open: the same of both sets, one after the other, then 24. No axiom.
use Rattle.std.specs.Prelude.{ℕ, suc, ◌≡◌, List, Bool, true, false, ◌&&◌, length}
use Rattle.std.proofs.Common.{arith, sym, ◌∙◌}
use borrow.Author.Tests.{eq-eqb, ne_eqb}
use Rattle.octets.proofs.Sentences.{joined}
use Rattle.descriptors.specs.Limits.{full_speed, paired_full, high_speed}
use Rattle.sets.specs.Opening.{Board, lent, lent_two, opening}
use Rattle.sets.specs.Pair.{agrees, opening_two}
use Rattle.sets.specs.View.{opening_of}
use Rattle.sets.proofs.Pair
use Rattle.events.specs.Step.{opened}
use Rattle.promises.specs.Opening.{groups, AllHold, FirstBroken, accepts_exactly, refuses_exactly}
use Rattle.promises.specs.Refusal.{opens}
use Rattle.promises.specs.Refusals.{opened_number}
use Rattle.board.specs.Exports.{Opens}

-- 8 where the image is not 32 bytes, else 0 to 6, or 24 where two sets are lent
pub opening_number : {b : Board} {image : List ℕ} {n : ℕ} {left : List ℕ} → Opens b image n left → opens b image n ≡ true
opening_number {b} {image} o = rw o.number (opened_number b image)

opening-is : {b : Board} {image : List ℕ} {n : ℕ} {left : List ℕ} → length image ≡ 32 → Opens b image n left → n ≡ opening_of b
unfolding opened
opening-is {image = image} l o = rw (eq-eqb (length image) 32 l) at o.number

-- ---- one set
module _ {set serial image : List ℕ} {n : ℕ} {left : List ℕ} (l : length image ≡ 32) (o : Opens (lent set serial) image n left) where
  -- 0 exactly when groups 1 to 6 all hold
  pub opening_accepts : (n ≡ 0 → AllHold (groups full_speed (lent set serial))) × (AllHold (groups full_speed (lent set serial)) → n ≡ 0)
  opening_accepts = let (p, q) = accepts_exactly full_speed (lent set serial) in (λ z. p (sym (opening-is l o) ∙ z), λ h. opening-is l o ∙ q h)

  -- and g = i + 1 exactly when groups 1 to i hold and group g does not
  pub opening_refuses : (i : ℕ) → (n ≡ suc i → FirstBroken i (groups full_speed (lent set serial))) × (FirstBroken i (groups full_speed (lent set serial)) → n ≡ suc i)
  opening_refuses i = let (p, q) = refuses_exactly full_speed (lent set serial) i in (λ z. p (sym (opening-is l o) ∙ z), λ h. opening-is l o ∙ q h)

-- ---- two sets: "opening gives the full-speed set's 1–6, the other's, then 24 if types 6 and 7 are not as said" (L7)
module _ {full high serial image : List ℕ} {n : ℕ} {left : List ℕ} (l : length image ≡ 32) (o : Opens (lent_two full high serial) image n left) where
  abbrev of_full : List Bool
  of_full = groups paired_full (lent full serial)

  abbrev of_high : List Bool
  of_high = groups high_speed (lent high serial)

  abbrev as_said : Bool
  as_said = agrees full high && agrees high full

  number : n ≡ opening_two full high serial
  number = opening-is l o

  whole : AllHold of_full → opening paired_full (lent full serial) ≡ 0
  whole h = (accepts_exactly paired_full (lent full serial)).1 h

  whole-high : AllHold of_high → opening high_speed (lent high serial) ≡ 0
  whole-high h = (accepts_exactly high_speed (lent high serial)).1 h

  -- 0 exactly when all groups of both hold, and types 6 and 7 are as said
  pub opening_two_accepts : (n ≡ 0 → AllHold of_full × (AllHold of_high × (as_said ≡ true))) × (AllHold of_full × (AllHold of_high × (as_said ≡ true)) → n ≡ 0)
  unfolding opening_two
  opening_two_accepts = (
    λ z. let p = Pair.opened full high serial (sym number ∙ z) in
        ((accepts_exactly paired_full (lent full serial)).0 p.slow, ((accepts_exactly high_speed (lent high serial)).0 p.fast, joined p.here p.there)),
    λ (f, (h, a)). number ∙ rw (whole f, whole-high h, a),
  )

  -- g = i + 1 where the full-speed set's group g is its first that is broken; or, where that set's all hold, the high-speed set's
  pub opening_two_full : (i : ℕ) → FirstBroken i of_full → n ≡ suc i
  unfolding opening_two
  opening_two_full i b = number ∙ rw ((refuses_exactly paired_full (lent full serial) i).1 b, ne_eqb (suc i) 0 (λ p. omega (arith, p)))

  pub opening_two_high : (i : ℕ) → AllHold of_full → FirstBroken i of_high → n ≡ suc i
  unfolding opening_two
  opening_two_high i f b = number ∙ rw (whole f, (refuses_exactly high_speed (lent high serial) i).1 b, ne_eqb (suc i) 0 (λ p. omega (arith, p)))

  -- and 24 where both sets' all hold, and types 6 and 7 are not as said
  pub opening_two_pair : AllHold of_full → AllHold of_high → as_said ≡ false → n ≡ 24
  unfolding opening_two
  opening_two_pair f h a = number ∙ rw (whole f, whole-high h, a)
