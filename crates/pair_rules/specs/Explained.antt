-- What hk_two_explain tells: the number of opening two sets, the first rule that is broken, the block that it is about, and the byte there.
use Rattle.std.specs.Prelude.{ℕ, ◌/◌, List, ◌++◌, map, Bool, eqb}
use Rattle.std.proofs.Math.Option.{Option, some, none}
use Rattle.octets.specs.Sentences.{pick, first}
use Rattle.descriptors.specs.Limits.{paired_full, high_speed}
use Rattle.sets.specs.Opening.{lent}
use Rattle.sets.specs.Pair.{opening_two}
use Rattle.rules.specs.Findings.{Finding}
use Rattle.rules.specs.Explained.{findings, is_broken, inside}
use Rattle.pair_rules.specs.Pair.{pair_findings}

-- a finding with its block: 0 the full-speed set, 1 the high-speed set, 2 the serial block
pub record Placed : Type 0 where
  pub block : ℕ
  pub finding : Finding

-- a finding of one set: group 6 is about the serial block
abbrev pub of_set : ℕ → Finding → Placed
of_set block x = record { block = pick (eqb (x.rule / 100) 6) 2 block; finding = x }

-- every rule in its order: the full-speed set's, the high-speed set's, and then what the one says of the other, and the other of the one
unfoldable pub findings_two : List ℕ → List ℕ → List ℕ → List Placed
findings_two full high serial =
    map (of_set 0) (findings paired_full (lent full serial)) ++
    (map (of_set 1) (findings high_speed (lent high serial)) ++
    (map (of_set 0) (pair_findings full high) ++
    map (of_set 1) (pair_findings high full)))

abbrev pub is_broken_there : Placed → Bool
is_broken_there x = is_broken x.finding

-- what was lent as a block
abbrev pub lent_as : List ℕ → List ℕ → List ℕ → ℕ → List ℕ
lent_as full high serial block = pick (eqb block 0) full (pick (eqb block 1) high serial)

-- the pair's number, the block that the rule is about, the rule, and the byte of that block
pub record ExplainedTwo : Type 0 where
  pub number : ℕ
  pub block : ℕ
  pub rule : ℕ
  pub place : ℕ

-- rule 0 of block 0 where nothing is broken
abbrev pub told_two : List ℕ → List ℕ → List ℕ → Option Placed → ExplainedTwo
told_two full high serial none = record { number = opening_two full high serial; block = 0; rule = 0; place = 0 }
told_two full high serial (some x) = record {
  number = opening_two full high serial;
  block = x.block;
  rule = x.finding.rule;
  place = inside (lent_as full high serial x.block) x.finding.place;
}

unfoldable pub explained_two : List ℕ → List ℕ → List ℕ → ExplainedTwo
explained_two full high serial = told_two full high serial (first is_broken_there (findings_two full high serial))
