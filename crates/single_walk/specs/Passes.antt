-- Working definitions for the contracts of opening with what an event asks; no promise cites them.
use Rattle.std.specs.Prelude.{ℕ, ◌≡◌, Bool, true, false, ◌&&◌, not, List, eqb, leb, Option, Result, is_some, IfSome, IfOk, IfErr}
use Rattle.octets.specs.Sentences.{every}
use Rattle.descriptors.specs.declared.limits.Limits.{Limits}
use Rattle.descriptors.specs.declared.limits.Speed.{Speed}
use Rattle.descriptors.specs.declared.limits.Speed.TheVariants.{Full, High, Super}
use Rattle.descriptors.specs.declared.survey.Asked.{Asked}
use Rattle.descriptors.specs.Check.{configuration_refers}
use Rattle.descriptors.specs.Configuration.{configuration_of, good_configuration}
use Rattle.descriptors.specs.Survey.{Surveys}
use Rattle.single_walk.specs.declared.collect.Collected.{Collected}
use Rattle.single_walk.specs.Course.{limits_at}
use Rattle.sets.specs.declared.Entry.{Entry}
use Rattle.sets.specs.declared.opening.Broken.{Broken}
use Rattle.sets.specs.Broken.{number_of}
use Rattle.sets.specs.Contents.{bodies}
use Rattle.sets.specs.Pieces.{pieces_in}
use Rattle.sets.specs.Opening.{good_configurations}
use Rattle.steps.specs.declared.facts.Selected.{Selected}
use Rattle.steps.specs.Selected.{Knows}
use Rattle.single_walk.specs.declared.pass.Passed.{Passed}

-- a configuration entry with index n and this value, beside its body
abbrev pub numbered : Entry → ℕ → ℕ → Bool → Bool
numbered e n value seen = eqb e.index n && eqb e.language 0 && leb 1 value && not seen

abbrev pub is_high : Speed → Bool
is_high Full = false
is_high High = true
is_high Super = false

-- limits that ask of a configuration what those of their speed ask, full or high
abbrev pub AtSpeed : Limits → Type 0
AtSpeed limits = (body : List ℕ) → good_configuration limits body ≡ good_configuration (limits_at (is_high limits.speed)) body

-- one walk through a body: whether it is good; of a good body its references, and if it is selected what is asked of it
pub record WalksOf (selected : Bool) (names alternates : List ℕ) (asked : Asked) (body : List ℕ) (c : Collected) : Type 0 where
  pub refers : c.refers ≡ configuration_refers names body
  pub surveyed : selected ≡ true → Surveys (configuration_of body) alternates asked c.survey

pub record Walks (selected : Bool) (limits : Limits) (names alternates : List ℕ) (asked : Asked) (body : List ℕ) (r : Option Collected) : Type 0 where
  pub good : is_some r ≡ good_configuration limits body
  pub on : IfSome r (WalksOf selected names alternates asked body)

-- the pass over the configurations: whether they are good; of good ones the references, and what is known
pub record PassesOf (set names : List ℕ) (value : ℕ) (alternates : List ℕ) (asked : Asked) (p : Passed) : Type 0 where
  pub refers : p.refers ≡ every (configuration_refers names) (bodies 2 set)
  pub known : Knows set value alternates asked p.known

pub record Passes (limits : Limits) (set names : List ℕ) (value : ℕ) (alternates : List ℕ) (asked : Asked) (r : Option Passed) : Type 0 where
  pub good : is_some r ≡ good_configurations limits (pieces_in set)
  pub on : IfSome r (PassesOf set names value alternates asked)

-- opening: what is known of a set that opens, or why it does not, by its number
pub record Tells (gives : ℕ) (set : List ℕ) (value : ℕ) (alternates : List ℕ) (asked : Asked) (r : Result Selected Broken) : Type 0 where
  pub opens : IfOk r (λ k. (gives ≡ 0) × Knows set value alternates asked k)
  pub refuses : IfErr r (λ broken. number_of broken ≡ gives)
