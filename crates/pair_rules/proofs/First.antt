-- The first of a pair's rules that is broken: of one list of them, with its block, or of the lists behind it. No axiom.
use Rattle.std.specs.Prelude.{Option as Either, Some, None, is_some}
use Rattle.std.specs.Option.{option_or}
use Rattle.octets.proofs.Vocabulary.{◌≡◌, refl, sym, ap, ◌∙◌, ℕ, List, [], ◌∷◌, ◌++◌, map, Bool, true, false, false≢true, not, Option, some, none}
use Rattle.octets.specs.Sentences.{pick, first}
use Rattle.sets.specs.Pair.{opening_two}
use Rattle.rules.specs.Findings.{Finding}
use Rattle.rules.specs.Explained.{is_broken}
use Rattle.rules.specs.After.{fault_in}
use Rattle.pair_rules.specs.declared.BlockFault.{BlockFault}
use Rattle.pair_rules.specs.Explained.{Placed, of_set, findings_two, is_broken_there, told_two, explained_two}
use Rattle.pair_rules.specs.Placed.{About, about, placed_of, told_in}

-- ---- one list and those behind it
abbrev pub or_later : ℕ → Option Finding → Option Placed → Option Placed
or_later block none later = later
or_later block (some x) later = some (of_set block x)

pub first-there : (block : ℕ) (xs : List Finding) (ys : List Placed)
    → first is_broken_there (map (of_set block) xs ++ ys) ≡ or_later block (first is_broken xs) (first is_broken_there ys)
unfolding first
first-there block [] ys = refl
first-there block (x ∷ xs) ys = go x.holds (first-there block xs ys)
  where
    go : (b : Bool) → first is_broken_there (map (of_set block) xs ++ ys) ≡ or_later block (first is_broken xs) (first is_broken_there ys)
        → pick (not b) (some (of_set block x)) (first is_broken_there (map (of_set block) xs ++ ys)) ≡ or_later block (pick (not b) (some x) (first is_broken xs)) (first is_broken_there ys)
    go true p = p
    go false p = refl

-- the last list
pub first_alone : (block : ℕ) (xs : List Finding) → first is_broken_there (map (of_set block) xs) ≡ or_later block (first is_broken xs) none
unfolding first
first_alone block [] = refl
first_alone block (x ∷ xs) = go x.holds (first_alone block xs)
  where
    go : (b : Bool) → first is_broken_there (map (of_set block) xs) ≡ or_later block (first is_broken xs) none
        → pick (not b) (some (of_set block x)) (first is_broken_there (map (of_set block) xs)) ≡ or_later block (pick (not b) (some x) (first is_broken xs)) none
    go true p = p
    go false p = refl

-- ---- what the code finds in one list, or else in those behind it
told-later : (block : ℕ) (o : Option Finding) (later : Option Placed) → told_in (or_later block o later) ≡ option_or (placed_of block (fault_in o)) (told_in later)
told-later block none later = refl
told-later block (some x) later = refl

told-alone : (block : ℕ) (o : Option Finding) → told_in (or_later block o none) ≡ placed_of block (fault_in o)
told-alone block none = refl
told-alone block (some x) = refl

abbrev pub in_list : ℕ → List Finding → Either About
in_list block xs = placed_of block (fault_in (first is_broken xs))

list-then : (block : ℕ) (xs : List Finding) (ys : List Placed) → told_in (first is_broken_there (map (of_set block) xs ++ ys)) ≡ option_or (in_list block xs) (told_in (first is_broken_there ys))
list-then block xs ys = ap told_in (first-there block xs ys) ∙ told-later block (first is_broken xs) (first is_broken_there ys)

ends : (o : Either BlockFault) (later : Either About) → is_some o ≡ true → option_or (about o) later ≡ about o
ends None later p = absurd (false≢true p)
ends (Some x) later p = refl

goes-on : (o : Either BlockFault) (later : Either About) → is_some o ≡ false → option_or (about o) later ≡ later
goes-on None later p = refl
goes-on (Some x) later p = absurd (false≢true (sym p))

-- the search ends at a list with a broken rule, and else goes on with the lists behind it
module _ (block : ℕ) (xs : List Finding) (o : Either BlockFault) (found : about o ≡ in_list block xs) where
  in-order : (ys : List Placed) → told_in (first is_broken_there (map (of_set block) xs ++ ys)) ≡ option_or (about o) (told_in (first is_broken_there ys))
  in-order ys = list-then block xs ys ∙ ap (λ t. option_or t (told_in (first is_broken_there ys))) (sym found)

  pub told-here : (ys : List Placed) → is_some o ≡ true → about o ≡ told_in (first is_broken_there (map (of_set block) xs ++ ys))
  told-here ys p = sym (in-order ys ∙ ends o _ p)

  pub told-behind : (ys : List Placed) {r : Either About} → is_some o ≡ false → r ≡ told_in (first is_broken_there ys) → r ≡ told_in (first is_broken_there (map (of_set block) xs ++ ys))
  told-behind ys p q = q ∙ sym (in-order ys ∙ goes-on o _ p)

  pub told-last : about o ≡ told_in (first is_broken_there (map (of_set block) xs))
  told-last = found ∙ sym (ap told_in (first_alone block xs) ∙ told-alone block (first is_broken xs))

-- whatever is told, its number is that of opening both
number-told : (full high serial : List ℕ) (o : Option Placed) → (told_two full high serial o).number ≡ opening_two full high serial
number-told full high serial none = refl
number-told full high serial (some x) = refl

pub told-number : (full high serial : List ℕ) → (explained_two full high serial).number ≡ opening_two full high serial
unfolding explained_two
told-number full high serial = number-told full high serial (first is_broken_there (findings_two full high serial))
