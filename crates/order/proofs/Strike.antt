-- One owner must not notice the others: strike events out of a run, and every event left gets the same answer, and what is looked at
-- ends the same. From an unwinding pair: a struck event changes nothing of what is looked at; every other event gives equal answers,
-- and equal looks, from records that look the same. No axiom.
use mathlib.Core.Path.{◌≡◌, refl}
use mathlib.Core.List.{List, [], ◌∷◌}
use mathlib.Core.Bool.{Bool, true, false, not}
use Rattle.order.specs.Run.{run, log, keep}
use Rattle.order.specs.Strike.{strike, left, FairRun}

-- Same r s: r and s look the same (k's part and the shared part). Good: an invariant that every event keeps.
pub record Unwinding {R E A : Type 0} (answer : R → E → A) (next : R → E → R) (Good : R → Type 0) (struck : R → E → Bool)
    (Fair : R → E → Type 0) (Same : R → R → Type 0) : Type 0 where
  pub keeps : (r : R) (e : E) → Good r → Good (next r e)
  pub unseen : (r s : R) (e : E) → Good r → Good s → struck r e ≡ true → Fair r e → Same r s → Same (next r e) s
  pub reply : (r s : R) (e : E) → Good r → Good s → struck r e ≡ false → Same r s → answer r e ≡ answer s e
  pub local : (r s : R) (e : E) → Good r → Good s → struck r e ≡ false → Same r s → Same (next r e) (next s e)

module _ {R E A : Type 0} {answer : R → E → A} {next : R → E → R} {Good : R → Type 0} {struck : R → E → Bool} {Fair : R → E → Type 0}
    {Same : R → R → Type 0} (U : Unwinding answer next Good struck Fair Same) where
  -- the full run xs from r and what is left of it from s: equal answers, and records that look the same
  abbrev Unnoticed : R → R → List E → List E → Type 0
  Unnoticed r s xs ys = (left answer next struck r xs ≡ log answer next s ys) × Same (run next r xs) (run next s ys)

  -- `left .. r xs` pairs each event left with its answer in the full run; `log .. s (strike .. r xs)` pairs the events of the struck
  -- run, in their order, with their answers there. That these are one list says that each event left gets the same answer.
  pub unnoticed : (xs : List E) (r s : R) → Good r → Good s → Same r s → FairRun next struck Fair r xs
      → (left answer next struck r xs ≡ log answer next s (strike next struck r xs))
      × Same (run next r xs) (run next s (strike next struck r xs))
  unnoticed [] r s g d h f = (refl, h)
  unnoticed (e ∷ xs) r s g d h f = go (struck r e) refl (λ t b i. unnoticed xs (next r e) t (U.keeps r e g) b i f.1)
    where
      go : (b : Bool) → struck r e ≡ b
          → ((t : R) → Good t → Same (next r e) t → Unnoticed (next r e) t xs (strike next struck (next r e) xs))
          → (keep (not b) (e, answer r e) (left answer next struck (next r e) xs)
          ≡ log answer next s (keep (not b) e (strike next struck (next r e) xs)))
          × Same (run next (next r e) xs) (run next s (keep (not b) e (strike next struck (next r e) xs)))
      go true p ih = ih s d (U.unseen r s e g d p (f.0 p) h)
      go false p ih =
          let i = ih (next s e) (U.keeps s e d) (U.local r s e g d p h) in
          (rw (U.reply r s e g d p h, i.0), i.1)
