-- The words in which the rules are written: choice, "if .. then", and sentences about every and some element of a list.
use Rattle.std.specs.Prelude.{ℕ, zero, suc, Bool, true, false, ◌&&◌, ◌||◌, not, List, [], ◌∷◌, eqb}
use Rattle.std.proofs.Math.Option.{Option, some, none}

abbrev pub pick : {A : Type 0} → Bool → A → A → A
pick true a b = a
pick false a b = b

-- if a then b
infixr 32 ◌⇒◌
abbrev pub ◌⇒◌ : Bool → Bool → Bool
a ⇒ b = not a || b

unfoldable pub every : {A : Type 0} → (A → Bool) → List A → Bool
every f [] = true
every f (x ∷ xs) = f x && every f xs

unfoldable pub any : {A : Type 0} → (A → Bool) → List A → Bool
any f [] = false
any f (x ∷ xs) = f x || any f xs

-- those for which f holds, in their order
unfoldable pub only : {A : Type 0} → (A → Bool) → List A → List A
only f [] = []
only f (x ∷ xs) = pick (f x) (x ∷ only f xs) (only f xs)

-- the first for which f holds
unfoldable pub first : {A : Type 0} → (A → Bool) → List A → Option A
first f [] = none
first f (x ∷ xs) = pick (f x) (some x) (first f xs)

-- r holds of each two, the earlier first
unfoldable pub pairs : {A : Type 0} → (A → A → Bool) → List A → Bool
pairs r [] = true
pairs r (x ∷ xs) = every (r x) xs && pairs r xs

-- r holds of each two that stand side by side
unfoldable pub neighbours : {A : Type 0} → (A → A → Bool) → List A → Bool
neighbours r [] = true
neighbours r (x ∷ []) = true
neighbours r (x ∷ y ∷ ys) = r x y && neighbours r (y ∷ ys)

-- f holds of every number below n
unfoldable pub below : ℕ → (ℕ → Bool) → Bool
below zero f = true
below (suc n) f = f n && below n f

-- the numbers from k on, n of them; those below n
unfoldable pub from : ℕ → ℕ → List ℕ
from k zero = []
from k (suc n) = k ∷ from (suc k) n

abbrev pub up_to : ℕ → List ℕ
up_to n = from 0 n

abbrev pub member : ℕ → List ℕ → Bool
member n = any (eqb n)

abbrev pub is_some : {A : Type 0} → Option A → Bool
is_some none = false
is_some (some a) = true

abbrev pub is_empty : {A : Type 0} → List A → Bool
is_empty [] = true
is_empty (x ∷ xs) = false
