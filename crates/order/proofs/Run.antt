-- An owner's events with one event more, and two systems that run beside each other. No axiom.
use Prim.Native.Nat.{ℕ}
use mathlib.Core.Path.{◌≡◌, refl, ap}
use mathlib.Core.List.{List, [], ◌∷◌, map}
use borrow.Author.Tests.{eq-eqb, ne_eqb}
use Rattle.order.specs.Run.{run, answers, log, keep, own}

pub own-mine : {E : Type 0} (who : E → ℕ) (k : ℕ) (e : E) (xs : List E) → who e ≡ k → own who k (e ∷ xs) ≡ e ∷ own who k xs
own-mine who k e xs p = ap (λ t. keep t e (own who k xs)) (eq-eqb (who e) k p)

pub own-other : {E : Type 0} (who : E → ℕ) (k : ℕ) (e : E) (xs : List E) → (who e ≡ k → ⊥) → own who k (e ∷ xs) ≡ own who k xs
own-other who k e xs n = ap (λ t. keep t e (own who k xs)) (ne_eqb (who e) k n)

-- ---- a second system, whose records are images `shown r` and whose answers are `said a`, runs beside the first
module _ {R Q E A B : Type 0} (answer : R → E → A) (next : R → E → R) (reply : Q → E → B) (after : Q → E → Q) (Good : R → Type 0)
    (shown : R → Q) (said : A → B) (keeps : (r : R) (e : E) → Good r → Good (next r e))
    (replies : (r : R) (e : E) → Good r → reply (shown r) e ≡ said (answer r e))
    (follows : (r : R) (e : E) → Good r → after (shown r) e ≡ shown (next r e)) where
  pub run-shown : (r : R) (xs : List E) → Good r → run after (shown r) xs ≡ shown (run next r xs)
  run-shown r [] g = refl
  run-shown r (e ∷ xs) g = rw (follows r e g) (run-shown (next r e) xs (keeps r e g))

  pub answers-shown : (r : R) (xs : List E) → Good r → answers reply after (shown r) xs ≡ map said (answers answer next r xs)
  answers-shown r [] g = refl
  answers-shown r (e ∷ xs) g = rw (follows r e g, replies r e g, answers-shown (next r e) xs (keeps r e g))

  pub log-shown : (r : R) (xs : List E) → Good r → log reply after (shown r) xs ≡ map (λ p. (p.0, said p.1)) (log answer next r xs)
  log-shown r [] g = refl
  log-shown r (e ∷ xs) g = rw (follows r e g, replies r e g, log-shown (next r e) xs (keeps r e g))
