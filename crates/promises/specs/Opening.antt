-- "Opening checks groups 1 to 6 in order; the first group broken gives the number": it gives 0 exactly when all six hold, and g exactly when
-- the groups before g hold and g does not. No axiom.
use Rattle.std.specs.Prelude.{ℕ, zero, suc, ◌+◌, ◌≤◌, ◌≡◌, List, [], ◌∷◌, Bool, true, false, not, take}
use Rattle.std.proofs.Common.{arith, sym, ◌∙◌}
use Rattle.std.proofs.Math.Path.{refl}
use Rattle.std.proofs.lemmas.Bool.{false≢true}
use Rattle.std.proofs.Math.Option.{some, some-injective, none-ne-some}
use Rattle.std.proofs.Math.ListN.{get_elem?}
use Rattle.octets.specs.Sentences.{pick, every}
use Rattle.descriptors.specs.declared.limits.Limits.{Limits}
use Rattle.descriptors.specs.Limits.{full_speed}
use Rattle.sets.specs.Contents.{good_frame, good_contents}
use Rattle.sets.specs.Pieces.{pieces_in}
use Rattle.sets.specs.Strings.{good_strings}
use Rattle.sets.specs.Opening.{Board, good_devices, good_configurations, good_block, opening}
use Rattle.promises.specs.Examples.{computed, S}
use Rattle.promises.specs.Bench.{opens, stands}

-- ---- what the statements say
-- frame, contents, device, configurations, strings, serial block: the first is group 1
abbrev pub groups : Limits → Board → List Bool
groups limits b =
    let ps = pieces_in b.set in
    good_frame b.set ∷ good_contents limits b.set ∷ good_devices limits ps ∷ good_configurations limits ps ∷ good_strings ps ∷ good_block ps b.serial ∷ []

abbrev pub AllHold : List Bool → Type 0
AllHold gs = every (λ g. g) gs ≡ true

-- those before place i hold, and the one there does not
abbrev pub FirstBroken : ℕ → List Bool → Type 0
FirstBroken i gs = AllHold (take i gs) × (get_elem? gs i ≡ some false)

-- ---- any groups, the first of them with number n
abbrev first_broken : ℕ → List Bool → ℕ
first_broken n [] = 0
first_broken n (g ∷ gs) = pick (not g) n (first_broken (suc n) gs)

none-broken : (n : ℕ) (gs : List Bool) → first_broken (suc n) gs ≡ 0 → AllHold gs
unfolding every
none-broken n [] p = refl
none-broken n (true ∷ gs) p = none-broken (suc n) gs p
none-broken n (false ∷ gs) p = absurd (omega arith)

all_hold : (n : ℕ) (gs : List Bool) → AllHold gs → first_broken n gs ≡ 0
unfolding every
all_hold n [] p = refl
all_hold n (true ∷ gs) p = all_hold (suc n) gs p
all_hold n (false ∷ gs) p = absurd (false≢true p)

-- the number is 0, or at least the first one's
low : (n : ℕ) (gs : List Bool) → (first_broken n gs ≡ 0 → ⊥) → n ≤ first_broken n gs
low n [] z = absurd (z refl)
low n (true ∷ gs) z = omega (arith, low (suc n) gs z)
low n (false ∷ gs) z = omega arith

broken-at : (n : ℕ) (gs : List Bool) (i : ℕ) → first_broken (suc n) gs ≡ suc n + i → FirstBroken i gs
unfolding every
broken-at n [] i p = absurd (omega arith)
broken-at n (true ∷ gs) zero p = absurd (let l = low (suc (suc n)) gs (λ z. omega arith) in omega arith)
broken-at n (true ∷ gs) (suc i) p = broken-at (suc n) gs i (p ∙ omega arith)
broken-at n (false ∷ gs) zero p = (refl, refl)
broken-at n (false ∷ gs) (suc i) p = absurd (omega arith)

at-broken : (n : ℕ) (gs : List Bool) (i : ℕ) → FirstBroken i gs → first_broken n gs ≡ n + i
unfolding every
at-broken n [] i (p, q) = absurd (none-ne-some false q)
at-broken n (true ∷ gs) zero (p, q) = absurd (false≢true (sym (some-injective true false q)))
at-broken n (true ∷ gs) (suc i) (p, q) = at-broken (suc n) gs i (p, q) ∙ omega arith
at-broken n (false ∷ gs) zero (p, q) = omega arith
at-broken n (false ∷ gs) (suc i) (p, q) = absurd (false≢true p)

-- ---- opening
module _ (limits : Limits) (b : Board) where
  in_order : opening limits b ≡ first_broken 1 (groups limits b)
  unfolding opening
  in_order = refl

  -- the number is 0 exactly when groups 1 to 6 all hold
  pub accepts_exactly : (opening limits b ≡ 0 → AllHold (groups limits b)) × (AllHold (groups limits b) → opening limits b ≡ 0)
  accepts_exactly = (λ p. none-broken 0 (groups limits b) (sym in_order ∙ p), λ p. in_order ∙ all_hold 1 (groups limits b) p)

  -- it is g = i + 1 exactly when groups 1 to i hold and group g does not
  pub refuses_exactly : (i : ℕ) → (opening limits b ≡ suc i → FirstBroken i (groups limits b)) × (FirstBroken i (groups limits b) → opening limits b ≡ suc i)
  refuses_exactly i = (λ p. broken-at 0 (groups limits b) i (sym in_order ∙ p ∙ omega arith), λ p. in_order ∙ at-broken 1 (groups limits b) i p ∙ omega arith)

-- ---- inhabited: S has all six; with its interface's bLength 0 the first three hold and the fourth does not
pub all_hold_s : AllHold (groups full_speed S)
all_hold_s = (accepts_exactly full_speed S).0 opens

pub fourth_broken : FirstBroken 3 (groups full_speed stands)
unfolding computed
fourth_broken = (refuses_exactly full_speed stands 3).0 refl
