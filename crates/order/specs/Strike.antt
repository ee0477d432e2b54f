-- A run with events struck out of it.
use Rattle.std.specs.Prelude.{◌≡◌, List, [], ◌∷◌, Bool, true, not}
use Rattle.order.specs.Run.{keep}

-- `struck r e`: event e, arriving at r, is struck out. It is read off the record of the full run, as "arrived in Configured and
-- concerned an interface other than k" is.
-- what is left of the run
abbrev pub strike : {R E : Type 0} → (R → E → R) → (R → E → Bool) → R → List E → List E
strike next struck r [] = []
strike next struck r (e ∷ xs) = keep (not (struck r e)) e (strike next struck (next r e) xs)

-- the events left, each with the answer that it got in the full run
abbrev pub left : {R E A : Type 0} → (R → E → A) → (R → E → R) → (R → E → Bool) → R → List E → List (E × A)
left answer next struck r [] = []
left answer next struck r (e ∷ xs) = keep (not (struck r e)) (e, answer r e) (left answer next struck (next r e) xs)

-- a premise on the run: each struck event arrived at a record at which it may be struck (nothing waits, not suspended)
abbrev pub FairRun : {R E : Type 0} → (R → E → R) → (R → E → Bool) → (R → E → Type 0) → R → List E → Type 0
FairRun next struck Fair r [] = Unit {0}
FairRun next struck Fair r (e ∷ xs) = (struck r e ≡ true → Fair r e) × FairRun next struck Fair (next r e) xs
