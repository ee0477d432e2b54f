-- Working definitions for the contracts that know of the selected configuration; no promise cites them.
use Rattle.std.specs.Prelude.{ℕ, ◌<◌, ◌≡◌, Bool, false, List, ltb}
use Rattle.octets.specs.Bit.{bit}
use Rattle.octets.specs.Sentences.{pick, any, first}
use Rattle.descriptors.specs.declared.survey.Asked.{Asked}
use Rattle.descriptors.specs.Configuration.{configuration_of}
use Rattle.descriptors.specs.Survey.{nothing_seen, Surveys}
use Rattle.sets.specs.Contents.{bodies, entries_of}
use Rattle.sets.specs.Found.{found, valued, can_wake, is_found}
use Rattle.sets.specs.View.{View, has_value}
use Rattle.records.specs.declared.Device.{Device}
use Rattle.records.specs.Change.{valued as configuration_of_value}
use Rattle.requests.specs.declared.Setup.{Setup}
use Rattle.events.specs.declared.Event.{Event}
use Rattle.events.specs.declared.facts.Facts.{Facts}
use Rattle.events.specs.Requests.{locate}
use Rattle.events.specs.Facts.{question_of, TellsOf}
use Rattle.steps.specs.declared.facts.Selected.{Selected}
use Rattle.steps.specs.declared.facts.Sought.{Sought}
use Rattle.steps.specs.Gathering.{selected_body}

-- before anything is known
abbrev pub nothing_known : Selected
nothing_known = record { configured = false; waking = false; survey = nothing_seen }

-- of a set, for the configuration with a value, the alternate settings of its interfaces, and what is asked of it
pub record Knows (set : List ℕ) (value : ℕ) (alternates : List ℕ) (asked : Asked) (k : Selected) : Type 0 where
  pub configured : k.configured ≡ is_found (found (first (valued set value) (entries_of 2 set)))
  pub waking : k.waking ≡ any can_wake (bodies 2 set)
  pub surveyed : Surveys (configuration_of (selected_body set value)) alternates asked k.survey

-- what only one request asks of a view
pub record Seeks (v : View) (s : Setup) (f : Sought) : Type 0 where
  pub configuration : s.bRequest ≡ 0x09 → s.wValue < 256 → f.configuration ≡ has_value (record { 0 = s.wValue }) v.configurations
  pub located : s.bRequest ≡ 0x06 → f.located ≡ locate v s

-- the facts for a question
abbrev pub facts_of : Bool → Setup → Selected → Sought → Facts
facts_of paired s k f = record {
  paired = paired;
  configured = k.configured;
  waking = k.waking;
  interface = pick (ltb s.wIndex 16) (bit k.survey.existing s.wIndex) false;
  survey = k.survey;
  configuration = f.configuration;
  located = f.located;
}

-- they are true of a view of a set that opens, at a record, for an event
pub record Told (v : View) (paired : Bool) (d : Device) (e : Event) (k : Selected) (f : Sought) : Type 0 where
  pub nonzero : has_value (record { 0 = 0 }) v.configurations ≡ false
  pub tells : TellsOf v (configuration_of_value v d) d (question_of e) (facts_of paired (question_of e) k f)
