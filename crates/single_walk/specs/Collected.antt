-- What a walk over a configuration body tells: whether it is good, and of a good body what an event asks of it.
-- A working definition for the contract of the walk; no promise cites it.
use Rattle.std.specs.Prelude.{ℕ, List, ◌≡◌, Option, is_some, IfSome}
use Rattle.descriptors.specs.declared.limits.Limits.{Limits}
use Rattle.descriptors.specs.declared.survey.Asked.{Asked}
use Rattle.descriptors.specs.Configuration.{configuration_of, good_configuration}
use Rattle.descriptors.specs.Check.{configuration_refers}
use Rattle.descriptors.specs.Survey.{Surveys}
use Rattle.single_walk.specs.declared.collect.Collected.{Collected}

pub record CollectedOf (names alternates : List ℕ) (asked : Asked) (body : List ℕ) (c : Collected) : Type 0 where
  pub refers : c.refers ≡ configuration_refers names body
  pub surveyed : Surveys (configuration_of body) alternates asked c.survey

pub record Collects (limits : Limits) (names alternates : List ℕ) (asked : Asked) (body : List ℕ) (r : Option Collected) : Type 0 where
  pub good : is_some r ≡ good_configuration limits body
  pub on : IfSome r (CollectedOf names alternates asked body)
