-- The rule that is named is of the first group that is broken: opening's number. No axiom.
use Rattle.octets.proofs.Vocabulary.{◌≡◌, refl, ℕ, ◌/◌, List, [], ◌∷◌, ◌++◌, Bool, true, false, ◌&&◌, not, Option, some, eqb-true}
use Rattle.octets.specs.Sentences.{pick, every, first}
use Rattle.octets.proofs.Sentences.{both}
use Rattle.rules.specs.Findings.{Finding}
use Rattle.rules.specs.Explained.{is_broken, fault_of}
use Rattle.rules.proofs.Grouped.{in_group}
use Rattle.rules.proofs.RuleFrames.{all_hold}

abbrev pub group_of : Option Finding → ℕ
group_of o = (fault_of o).rule / 100

-- the rules of one group, before others
pub group-first : (g : ℕ) (xs ys : List Finding) → every (in_group g) xs ≡ true → group_of (first is_broken (xs ++ ys)) ≡ pick (not (all_hold xs)) g (group_of (first is_broken ys))
unfolding every first
group-first g [] ys p = refl
group-first g (x ∷ xs) ys p = let (q, r) = both (in_group g x) (every (in_group g) xs) p in go x.holds q (group-first g xs ys r)
  where
    go : (b : Bool) → in_group g x ≡ true → group_of (first is_broken (xs ++ ys)) ≡ pick (not (all_hold xs)) g (group_of (first is_broken ys))
        → group_of (pick (not b) (some x) (first is_broken (xs ++ ys))) ≡ pick (not (b && all_hold xs)) g (group_of (first is_broken ys))
    go true q ih = ih
    go false q ih = eqb-true (x.rule / 100) g q

-- the last group
pub group-last : (g : ℕ) (xs : List Finding) → every (in_group g) xs ≡ true → group_of (first is_broken xs) ≡ pick (not (all_hold xs)) g 0
unfolding every first
group-last g [] p = refl
group-last g (x ∷ xs) p = let (q, r) = both (in_group g x) (every (in_group g) xs) p in go x.holds q (group-last g xs r)
  where
    go : (b : Bool) → in_group g x ≡ true → group_of (first is_broken xs) ≡ pick (not (all_hold xs)) g 0
        → group_of (pick (not b) (some x) (first is_broken xs)) ≡ pick (not (b && all_hold xs)) g 0
    go true q ih = ih
    go false q ih = eqb-true (x.rule / 100) g q
