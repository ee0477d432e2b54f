-- What is promised of the rule that is named: it is broken, and each rule before it in the one order holds.
use Rattle.std.specs.Prelude.{◌≡◌, List, ◌∷◌, ◌++◌, Bool, true, false}
use Rattle.octets.specs.Sentences.{every}
use Rattle.rules.specs.Findings.{Finding}
use Rattle.pair_rules.specs.Explained.{Placed}

-- a rule of one set holds, or of a pair
abbrev pub holds_here : Finding → Bool
holds_here x = x.holds

abbrev pub holds_there : Placed → Bool
holds_there x = x.finding.holds

pub record NamesFirst {A : Type 0} (holds : A → Bool) (xs : List A) (x : A) : Type 0 where
  pub earlier : List A
  pub later : List A
  pub splits : xs ≡ earlier ++ (x ∷ later)
  pub hold : every holds earlier ≡ true
  pub broken : holds x ≡ false
