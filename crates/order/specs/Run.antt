-- Runs of events over any system, and what of a run is one owner's.
-- A system is two functions: `answer r e`, what event e gets at record r, and `next r e`, the record that it leaves.
use Rattle.std.specs.Prelude.{ℕ, List, [], ◌∷◌, Bool, true, false, eqb}

-- the record after a run
abbrev pub run : {R E : Type 0} → (R → E → R) → R → List E → R
run next r [] = r
run next r (e ∷ xs) = run next (next r e) xs

-- the answers of a run, in its order
abbrev pub answers : {R E A : Type 0} → (R → E → A) → (R → E → R) → R → List E → List A
answers answer next r [] = []
answers answer next r (e ∷ xs) = answer r e ∷ answers answer next (next r e) xs

-- the log of a run: each event with the answer that it gets, in the run's order
abbrev pub log : {R E A : Type 0} → (R → E → A) → (R → E → R) → R → List E → List (E × A)
log answer next r [] = []
log answer next r (e ∷ xs) = (e, answer r e) ∷ log answer next (next r e) xs

-- every event of the run is one of those considered
abbrev pub All : {E : Type 0} → (E → Type 0) → List E → Type 0
All Ok [] = Unit {0}
All Ok (e ∷ xs) = Ok e × All Ok xs

abbrev pub keep : {A : Type 0} → Bool → A → List A → List A
keep true a l = a ∷ l
keep false a l = l

-- the events whose owner is k, in their order
abbrev pub own : {E : Type 0} → (E → ℕ) → ℕ → List E → List E
own who k [] = []
own who k (e ∷ xs) = keep (eqb (who e) k) e (own who k xs)

-- k's part of the log: k's n-th event with the answer that it got
abbrev pub log_of : {R E A : Type 0} → (R → E → A) → (R → E → R) → (E → ℕ) → ℕ → R → List E → List (E × A)
log_of answer next who k r xs = own (λ p. who p.0) k (log answer next r xs)
