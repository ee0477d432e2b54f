-- U3, over the exported calls: what hk_explain and hk_super_explain give is the first finding that is broken, its rule and its place; the rule's hundreds are opening's
-- number. hk_two_explain gives the first of a pair's, with its block. No axiom.
use Rattle.std.specs.Prelude.{ℕ, ◌/◌, ◌≤◌, ◌<◌, ◌≡◌, refl, true, List, length}
use Rattle.std.proofs.Common.{arith, sym, ap, ◌∙◌}
use Rattle.std.proofs.Math.Option.{Option, some, none}
use Rattle.octets.specs.Sentences.{every, first}
use Rattle.descriptors.specs.declared.limits.Limits.{Limits}
use Rattle.sets.specs.Opening.{Board, lent, opening}
use Rattle.sets.specs.Pair.{opening_two}
use Rattle.rules.specs.Findings.{Finding}
use Rattle.rules.specs.Explained.{findings, is_broken, fault_of, inside, lent_for, explained}
use Rattle.pair_rules.specs.Explained.{Placed, findings_two, is_broken_there, lent_as, told_two, explained_two}
use Rattle.maker_laws.specs.RuleNamed.{NamesFirst, holds_here, holds_there}
use Rattle.maker_laws.proofs.RuleFirst.{names-first, all_hold, place_inside, first_byte}
use Rattle.rules.proofs.RuleBelongs.{some-group, set-grouped}
use Rattle.pair_rules.proofs.RulePair.{there-group}
use Rattle.maker_promises.specs.Explained.{belongs, belongs_two}
use Rattle.board.specs.Makers.{Tells, TellsTwo}

-- ---- one set
-- the finding that is told, of what opening asks of a set and a serial block, rule by rule
pub record FirstBroken (limits : Limits) (b : Board) (answer rule place : ℕ) : Type 0 where
  pub finding : Finding
  -- it is broken, and each before it in the one order holds
  pub broken : NamesFirst holds_here (findings limits b) finding
  pub named : rule ≡ finding.rule
  -- its byte, in the serial block in group 6, else in the set; one that is missing is looked for at the last that is there
  pub lies : place ≡ inside (lent_for b answer) finding.place
  pub within : 0 < length (lent_for b answer) → place < length (lent_for b answer)

pub record TellsFirst (limits : Limits) (b : Board) (answer rule place : ℕ) : Type 0 where
  pub number : answer ≡ opening limits b
  pub group : rule / 100 ≡ answer
  -- 0: every rule holds, and nothing is named
  pub accepted : answer ≡ 0 → (every holds_here (findings limits b) ≡ true) × (rule ≡ 0) × (place ≡ 0)
  -- else the first that does not
  pub refused : (answer ≡ 0 → ⊥) → FirstBroken limits b answer rule place

module _ {limits : Limits} {set serial : List ℕ} {answer rule place : ℕ} (t : Tells limits set serial answer rule place) where
  abbrev b : Board
  b = lent set serial

  same-group : rule / 100 ≡ answer
  same-group = ap (λ (n : ℕ). n / 100) t.broken ∙ belongs limits b ∙ sym t.number

  rule-is : (o : Option Finding) → first is_broken (findings limits b) ≡ o → rule ≡ (fault_of o).rule
  unfolding explained
  rule-is o e = rw e at t.broken

  place_is : (o : Option Finding) → first is_broken (findings limits b) ≡ o → place ≡ inside (lent_for b answer) (fault_of o).place
  unfolding explained
  place_is o e = rw (e, ← t.number) at t.lies

  pub explains : TellsFirst limits (lent set serial) answer rule place
  explains = go (first is_broken (findings limits b)) refl
    where
      go : (o : Option Finding) → first is_broken (findings limits b) ≡ o → TellsFirst limits b answer rule place
      go none e =
          let r : rule ≡ 0 = rule-is none e in
          record {
            number = t.number;
            group = same-group;
            accepted = λ z. (all_hold holds_here (findings limits b) e, r, place_is none e ∙ first_byte (lent_for b answer));
            refused = λ nonzero. absurd (nonzero (sym same-group ∙ ap (λ (n : ℕ). n / 100) r));
          }
      go (some x) e =
          let r : rule ≡ x.rule = rule-is (some x) e in
          let lies : place ≡ inside (lent_for b answer) x.place = place_is (some x) e in
          let h : 1 ≤ rule / 100 = rw r (some-group (findings limits b) (set-grouped limits b) e) in
          record {
            number = t.number;
            group = same-group;
            accepted = λ z. absurd (omega (arith, h, same-group, z));
            refused = λ nonzero. record {
              finding = x;
              broken = names-first holds_here (findings limits b) e;
              named = r;
              lies = lies;
              within = λ h. rw lies (place_inside (lent_for b answer) x.place h);
            };
          }

-- ---- two sets lent together
pub record FirstBrokenTwo (full high serial : List ℕ) (block rule place : ℕ) : Type 0 where
  pub finding : Placed
  -- it is broken, and each before it in the one order holds
  pub broken : NamesFirst holds_there (findings_two full high serial) finding
  pub about : block ≡ finding.block
  pub named : rule ≡ finding.finding.rule
  -- its byte in its block; one that is missing is looked for at the last that is there
  pub lies : place ≡ inside (lent_as full high serial block) finding.finding.place
  pub within : 0 < length (lent_as full high serial block) → place < length (lent_as full high serial block)

pub record TellsFirstTwo (full high serial : List ℕ) (answer block rule place : ℕ) : Type 0 where
  pub number : answer ≡ opening_two full high serial
  pub group : rule / 100 ≡ answer
  -- 0: every rule holds, and nothing is named
  pub accepted : answer ≡ 0 → (every holds_there (findings_two full high serial) ≡ true) × (block ≡ 0) × (rule ≡ 0) × (place ≡ 0)
  -- else the first that does not
  pub refused : (answer ≡ 0 → ⊥) → FirstBrokenTwo full high serial block rule place

module _ {full high serial : List ℕ} {answer block rule place : ℕ} (t : TellsTwo full high serial answer block rule place) where
  two-group : rule / 100 ≡ answer
  two-group = ap (λ (n : ℕ). n / 100) t.broken ∙ belongs_two full high serial ∙ sym t.number

  abbrev found : Option Placed
  found = first is_broken_there (findings_two full high serial)

  block-is : (o : Option Placed) → found ≡ o → block ≡ (told_two full high serial o).block
  unfolding explained_two
  block-is o e = rw e at t.about

  two-rule-is : (o : Option Placed) → found ≡ o → rule ≡ (told_two full high serial o).rule
  unfolding explained_two
  two-rule-is o e = rw e at t.broken

  two-place-is : (o : Option Placed) → found ≡ o → place ≡ (told_two full high serial o).place
  unfolding explained_two
  two-place-is o e = rw e at t.lies

  pub explains_two : TellsFirstTwo full high serial answer block rule place
  explains_two = go found refl
    where
      go : (o : Option Placed) → found ≡ o → TellsFirstTwo full high serial answer block rule place
      go none e =
          let r : rule ≡ 0 = two-rule-is none e in
          record {
            number = t.number;
            group = two-group;
            accepted = λ z. (all_hold holds_there (findings_two full high serial) e, block-is none e, r, two-place-is none e);
            refused = λ nonzero. absurd (nonzero (sym two-group ∙ ap (λ (n : ℕ). n / 100) r));
          }
      go (some x) e =
          let r : rule ≡ x.finding.rule = two-rule-is (some x) e in
          let a : block ≡ x.block = block-is (some x) e in
          let lies : place ≡ inside (lent_as full high serial block) x.finding.place = rw (← a) at (two-place-is (some x) e) in
          let h : 1 ≤ rule / 100 = rw r (there-group full high serial e) in
          record {
            number = t.number;
            group = two-group;
            accepted = λ z. absurd (omega (arith, h, two-group, z));
            refused = λ nonzero. record {
              finding = x;
              broken = names-first holds_there (findings_two full high serial) e;
              about = a;
              named = r;
              lies = lies;
              within = λ h. rw lies (place_inside (lent_as full high serial block) x.finding.place h);
            };
          }
