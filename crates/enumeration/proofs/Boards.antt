-- The same for each kind of board: of one set, which has no test mode, and of two, at either speed. No axiom.
use Rattle.octets.proofs.Vocabulary.{◌≡◌, refl, ℕ, ◌≤◌, List, Bool, true, false, ◌||◌, false≢true, eqb, arith, lt-leb, eq-eqb, eqb-true, eqb-false}
use Rattle.octets.proofs.Sentences.{cases}
use Rattle.descriptors.specs.Limits.{full_speed}
use Rattle.sets.specs.Opening.{lent, lent_two, opening}
use Rattle.sets.specs.Pair.{opening_two}
use Rattle.sets.specs.View.{view_of}
use Rattle.records.specs.declared.Device.{Device}
use Rattle.records.specs.Device.{in_test_mode}
use Rattle.records.specs.Current.{view_at}
use Rattle.records.specs.Fits.{fits_on}
use Rattle.events.specs.Step.{good_reset}
use Rattle.laws.proofs.Fitting.{fitting}
use Rattle.enumeration.specs.Enumerates.{EnumeratesOne, EnumeratesTwo}
use Rattle.enumeration.proofs.Enumerates.{enumerates}

-- ---- one set: every record that fits it is in no test mode
pub no_test_mode : (set serial : List ℕ) (d : Device) → fits_on (lent set serial) d ≡ true → in_test_mode d ≡ false
unfolding view_of
no_test_mode set serial d fit = go (eqb d.speed 0) refl (fitting (view_at (lent set serial) d) d fit).common.range.running
  where
    go : (t : Bool) → eqb d.speed 0 ≡ t → (t || false) ≡ true → in_test_mode d ≡ false
    go true p q = lt-leb 2 d.speed (omega (arith, eqb-true d.speed 0 p))
    go false p q = absurd (false≢true q)

pub enumerates_one : EnumeratesOne
enumerates_one set serial octets opens d sized fit a low high i there =
    enumerates (lent set serial) (octets, tt) (eq-eqb (opening full_speed (lent set serial)) 0 opens) d (record { fit = fit; sized = sized; calm = no_test_mode set serial d fit })
    0 refl a low high i there

-- ---- two sets: speed 0 is the full-speed set, 1 the other
either_speed : (speed : ℕ) → speed ≤ 1 → good_reset true speed ≡ true
either_speed speed l = cases (eqb speed 0) (λ p. rw p refl) (λ p. rw (p, eq-eqb speed 1 (omega (arith, one speed (eqb-false speed 0 p)))) refl)
  where
    one : (n : ℕ) → (n ≡ 0 → ⊥) → 1 ≤ n
    one n z = cases (eqb n 0) (λ p. absurd (z (eqb-true n 0 p))) (λ p. omega (arith, z))

pub enumerates_two : EnumeratesTwo
enumerates_two full high serial slow fast opens d sized fit calm speed l a low most i there =
    enumerates (lent_two full high serial) (slow, fast) (eq-eqb (opening_two full high serial) 0 opens) d (record { fit = fit; sized = sized; calm = calm })
    speed (either_speed speed l) a low most i there
