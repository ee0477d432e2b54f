-- A pair: all rules of one set beside the other hold exactly where opening's definition does, and the rule that is named belongs to the number of opening both. No axiom.
use Rattle.octets.proofs.Vocabulary.{◌≡◌, refl, sym, ap, ◌∙◌, ℕ, ◌+◌, ◌/◌, ◌≤◌, List, [], ◌∷◌, ◌++◌, map, Bool, true, false, ◌&&◌, not, and-true, and_assoc, Option, some, none, length, eqb, arith, leb-true, le-leb, ne_eqb}
use Rattle.octets.specs.Sentences.{pick, every, only, first}
use Rattle.octets.proofs.Sentences.{joined, every_append, every-member, first_some}
use Rattle.descriptors.specs.Limits.{paired_full, high_speed}
use Rattle.sets.specs.declared.Entry.{Entry}
use Rattle.sets.specs.Contents.{body_of, is_kind, entries, entries_of}
use Rattle.sets.specs.Pieces.{piece_for, has_index, has_no_language, sole}
use Rattle.sets.specs.Device.{device_body}
use Rattle.sets.specs.Opening.{lent, opening}
use Rattle.sets.specs.Pair.{same, qualifier_of, is_qualifier_of, qualifies, retyped, mirrors_entry, mirrors_all, mirrors, agrees, or_else, opening_two}
use Rattle.sets.proofs.Pieces.{of-kind}
use Rattle.rules.specs.Findings.{Finding}
use Rattle.rules.specs.Explained.{findings, is_broken}
use Rattle.rules.proofs.Grouped.{every_in}
use Rattle.pair_rules.specs.Pair.{qualifier_entry_findings, mirror_findings, beside_findings, later, mirrors_from, pair_findings}
use Rattle.pair_rules.specs.Explained.{Placed, of_set, findings_two, is_broken_there, told_two, explained_two}
use Rattle.pair_rules.proofs.Agreeing.{long-enough}
use Rattle.pair_rules.proofs.Grouped.{group-24}
use Rattle.pair_rules.proofs.First.{or_later, first-there, first_alone}
use Rattle.rules.proofs.RuleFrames.{all_hold}
use Rattle.rules.proofs.RuleGroups.{group_of, group-last}
use Rattle.rules.proofs.RuleBelongs.{named-group, grouped, some-group, set-grouped}

-- ---- type 6
four-row : (i l : Bool) (a b : List ℕ) → (i && (l && (eqb (length a) (length b) && (same a b && true)))) ≡ (i && l && same a b)
four-row i l a b =
    ap (λ t. i && (l && t)) (ap (λ t. eqb (length a) (length b) && t) (and-true (same a b)) ∙ long-enough a b) ∙ sym (and_assoc i l (same a b))

qualifiers-same : (set device : List ℕ) (es : List Entry) → all_hold (qualifier_entry_findings set device es) ≡ sole (is_qualifier_of device) (map (piece_for set) es)
unfolding every
qualifiers-same set device [] = refl
qualifiers-same set device (e ∷ []) = four-row (has_index 0 (piece_for set e)) (has_no_language (piece_for set e)) (body_of set e) (qualifier_of device)
qualifiers-same set device (e ∷ f ∷ es) = refl

-- ---- type 7
module _ (set other : List ℕ) where
  entry-same : (at : ℕ) (e f : Entry) → all_hold (mirror_findings set at e f (body_of other f)) ≡ mirrors_entry set other e f
  unfolding every
  entry-same at e f = four-row (eqb e.index f.index) (eqb e.language 0) (body_of set e) (retyped (body_of other f))

  mirrors-same : (at : ℕ) (fs es : List Entry) → all_hold (mirrors_from set other at fs es) ≡ mirrors_all set other (only (is_kind 7) es) fs
  unfolding every mirrors_from mirrors_all only
  mirrors-same at [] [] = refl
  mirrors-same at (f ∷ fs) [] = refl
  mirrors-same at fs (e ∷ es) = go fs (is_kind 7 e) (mirrors-same (at + 8) (later fs) es) (mirrors-same (at + 8) fs es)
    where
      rest : List Entry
      rest = only (is_kind 7) es

      go : (fs : List Entry) (b : Bool) → all_hold (mirrors_from set other (at + 8) (later fs) es) ≡ mirrors_all set other rest (later fs)
          → all_hold (mirrors_from set other (at + 8) fs es) ≡ mirrors_all set other rest fs
          → all_hold (pick b (beside_findings set other at e fs ++ mirrors_from set other (at + 8) (later fs) es) (mirrors_from set other (at + 8) fs es))
          ≡ mirrors_all set other (pick b (e ∷ rest) rest) fs
      go fs false p q = q
      go [] true p q = refl
      go (f ∷ fs) true p q =
          every_append (λ x. x.holds) (mirror_findings set at e f (body_of other f)) (mirrors_from set other (at + 8) fs es)
          ∙ ap (λ t. all_hold (mirror_findings set at e f (body_of other f)) && t) p
          ∙ ap (λ t. t && mirrors_all set other rest fs) (entry-same at e f)

  pub pair_same : all_hold (pair_findings set other) ≡ agrees set other
  unfolding qualifies mirrors
  pair_same =
      let found = qualifier_entry_findings set (device_body other) (entries_of 6 set) in
      every_append (λ x. x.holds) found (mirrors_from set other 4 (entries_of 2 other) (entries set))
      ∙ ap (λ t. t && all_hold (mirrors_from set other 4 (entries_of 2 other) (entries set))) (qualifiers-same set (device_body other) (entries_of 6 set) ∙ ap (sole (is_qualifier_of (device_body other))) (of-kind set 6))
      ∙ ap (λ t. qualifies set other && t) (mirrors-same 4 (entries_of 2 other) (entries set))

-- ---- the number of opening both
pub pair-grouped : (set other : List ℕ) → every grouped (pair_findings set other) ≡ true
pair-grouped set other = every_in grouped (λ x h. le-leb 1 (x.rule / 100) h) 24 (omega arith) (pair_findings set other) (group-24 set other)

abbrev pub group_there : Option Placed → ℕ
group_there none = 0
group_there (some x) = x.finding.rule / 100

group-then : (block : ℕ) (xs : List Finding) (later : Option Placed) → every grouped xs ≡ true
    → group_there (or_later block (first is_broken xs) later) ≡ or_else (group_of (first is_broken xs)) (group_there later)
group-then block xs later p = go (first is_broken xs) refl
  where
    go : (o : Option Finding) → first is_broken xs ≡ o → group_there (or_later block o later) ≡ or_else (group_of o) (group_there later)
    go none e = refl
    go (some x) e = let h = some-group xs p e in rw (ne_eqb (x.rule / 100) 0 (λ z. omega arith))

group-alone : (block : ℕ) (o : Option Finding) → group_there (or_later block o none) ≡ group_of o
group-alone block none = refl
group-alone block (some x) = refl

either_way : (a b : Bool) → or_else (pick (not a) 24 0) (pick (not b) 24 0) ≡ pick (a && b) 0 24
either_way true true = refl
either_way true false = refl
either_way false b = refl

module _ (full high serial : List ℕ) where
  beside-group : group_there (first is_broken_there (map (of_set 0) (pair_findings full high) ++ map (of_set 1) (pair_findings high full))) ≡ pick (agrees full high && agrees high full) 0 24
  beside-group =
      ap group_there (first-there 0 (pair_findings full high) (map (of_set 1) (pair_findings high full)))
      ∙ group-then 0 (pair_findings full high) _ (pair-grouped full high)
      ∙ ap (λ n. or_else n (group_there (first is_broken_there (map (of_set 1) (pair_findings high full))))) (group-last 24 (pair_findings full high) (group-24 full high) ∙ ap (λ b. pick (not b) 24 0) (pair_same full high))
      ∙ ap (or_else (pick (not (agrees full high)) 24 0))
      (ap group_there (first_alone 1 (pair_findings high full)) ∙ group-alone 1 (first is_broken (pair_findings high full)) ∙ group-last 24 (pair_findings high full) (group-24 high full) ∙ ap (λ b. pick (not b) 24 0) (pair_same high full))
      ∙ either_way (agrees full high) (agrees high full)

  pub named-two : group_there (first is_broken_there (findings_two full high serial)) ≡ opening_two full high serial
  unfolding findings_two opening_two
  named-two =
      let beside = map (of_set 0) (pair_findings full high) ++ map (of_set 1) (pair_findings high full) in
      let second = findings high_speed (lent high serial) in
      ap group_there (first-there 0 (findings paired_full (lent full serial)) (map (of_set 1) second ++ beside))
      ∙ group-then 0 (findings paired_full (lent full serial)) _ (set-grouped paired_full (lent full serial))
      ∙ ap (λ n. or_else n (group_there (first is_broken_there (map (of_set 1) second ++ beside)))) (named-group paired_full (lent full serial))
      ∙ ap (or_else (opening paired_full (lent full serial)))
      (ap group_there (first-there 1 second beside)
      ∙ group-then 1 second _ (set-grouped high_speed (lent high serial))
      ∙ ap (λ n. or_else n (group_there (first is_broken_there beside))) (named-group high_speed (lent high serial))
      ∙ ap (or_else (opening high_speed (lent high serial))) beside-group)

  rule-there : (o : Option Placed) → (told_two full high serial o).rule / 100 ≡ group_there o
  rule-there none = refl
  rule-there (some x) = refl

  pub belongs-two : (explained_two full high serial).rule / 100 ≡ opening_two full high serial
  unfolding explained_two
  belongs-two = rule-there (first is_broken_there (findings_two full high serial)) ∙ named-two

-- each of a pair's rules has a group too
abbrev grouped_there : Placed → Bool
grouped_there y = grouped y.finding

there : (block : ℕ) (xs : List Finding) → every grouped_there (map (of_set block) xs) ≡ every grouped xs
unfolding every
there block [] = refl
there block (x ∷ xs) = ap (λ t. grouped x && t) (there block xs)

pub there-group : (full high serial : List ℕ) {x : Placed} → first is_broken_there (findings_two full high serial) ≡ some x → 1 ≤ x.finding.rule / 100
unfolding findings_two
there-group full high serial {x} p =
    let one = map (of_set 0) (findings paired_full (lent full serial)) in
    let two = map (of_set 1) (findings high_speed (lent high serial)) in
    let three = map (of_set 0) (pair_findings full high) in
    let four = map (of_set 1) (pair_findings high full) in
    let all : every grouped_there (one ++ (two ++ (three ++ four))) ≡ true =
    every_append grouped_there one (two ++ (three ++ four)) ∙ joined (there 0 (findings paired_full (lent full serial)) ∙ set-grouped paired_full (lent full serial))
    (every_append grouped_there two (three ++ four) ∙ joined (there 1 (findings high_speed (lent high serial)) ∙ set-grouped high_speed (lent high serial))
    (every_append grouped_there three four ∙ joined (there 0 (pair_findings full high) ∙ pair-grouped full high) (there 1 (pair_findings high full) ∙ pair-grouped high full))) in
    leb-true 1 (x.finding.rule / 100) (every-member grouped_there all (first_some is_broken_there (one ++ (two ++ (three ++ four))) p).0)

-- none is named where opening both accepts, and one where it refuses
module _ (full high serial : List ℕ) where
  abbrev pub named : Option Placed
  named = first is_broken_there (findings_two full high serial)

  pub none-there : opening_two full high serial ≡ 0 → named ≡ none
  none-there p = go named refl
    where
      go : (o : Option Placed) → named ≡ o → named ≡ none
      go none e = e
      go (some x) e =
          let h = there-group full high serial e in
          let g : x.finding.rule / 100 ≡ opening_two full high serial = sym (ap group_there e) ∙ named-two full high serial in
          absurd (omega (arith, h, g, p))

  pub some-there : (opening_two full high serial ≡ 0 → ⊥) → named ≡ none → ⊥
  some-there p e = p (sym (named-two full high serial) ∙ ap group_there e)
