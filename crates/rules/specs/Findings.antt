-- What opening asks, rule by rule. A rule's number is its group and its place in the order of document 01's page: 401 is the first rule of group 4.
use Rattle.std.specs.Prelude.{ℕ, ◌+◌, Bool}

-- one rule asked of one thing: the byte where a maker has to look, and whether the rule holds there
pub record Finding : Type 0 where
  pub rule : ℕ
  pub place : ℕ
  pub holds : Bool

abbrev pub asked : ℕ → ℕ → Bool → Finding
asked rule place holds = record { rule = rule; place = place; holds = holds }

-- byte k of what begins at `at` of what begins at `start`
abbrev pub byte_at : ℕ → ℕ → ℕ → ℕ
byte_at start at k = start + at + k
