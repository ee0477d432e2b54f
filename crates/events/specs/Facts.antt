-- Working definitions for the contracts of the requests' functions; no promise cites them.
use Rattle.std.specs.Prelude.{ℕ, ◌<◌, ◌≡◌, Bool, true, false, ◌&&◌, ◌||◌, eqb}
use Rattle.octets.specs.Sentences.{pick}
use Rattle.descriptors.specs.Configuration.{Configuration, has_interface, has_setting}
use Rattle.descriptors.specs.declared.survey.Asked.{Asked}
use Rattle.descriptors.specs.Survey.{Surveys}
use Rattle.sets.specs.View.{View, has_value, wakes}
use Rattle.records.specs.declared.Device.{Device}
use Rattle.records.specs.Change.{after}
use Rattle.records.specs.Current.{selected}
use Rattle.requests.specs.declared.Setup.{Setup}
use Rattle.events.specs.declared.Event.{Event}
use Rattle.events.specs.declared.Event.TheVariants.{Request, Malformed, StatusEnd, BusReset, Halt, PacketPassed, Power, Suspend, Resume, Wake}
use Rattle.events.specs.declared.facts.Facts.{Facts}
use Rattle.events.specs.declared.reaction.Reaction.{Reaction}
use Rattle.events.specs.Answer.{Outcome, gives}
use Rattle.events.specs.Coded.{answer_in}
use Rattle.events.specs.Requests.{by_recipient, digit, device_feature, names_test_mode, set_test_mode, interface_feature, endpoint_feature, clear_halt, set_halt, locate}

-- ---- a reaction to an event at a record
abbrev pub outcome_of : Reaction → Device → Outcome
outcome_of r d = gives (answer_in r.answer) (after r.settles r.next d)

-- an endpoint halted, or its halt and toggle cleared
abbrev pub with_halt : Bool → Device → ℕ → Device
with_halt true = set_halt
with_halt false = clear_halt

-- a feature of the recipient, set or cleared; only set is the test mode
abbrev pub feature_of_device : Bool → View → Device → Setup → Outcome
feature_of_device on v d s = pick (on && names_test_mode v.paired s) (set_test_mode d s) (device_feature (digit on) v d s)

abbrev pub feature : Bool → View → Device → Setup → Outcome
feature on v d s = by_recipient s (feature_of_device on v d s) (interface_feature v d s) (endpoint_feature (with_halt on) v d s)

-- ---- past the table: SET_ADDRESS and SET_CONFIGURATION have a wValue of one byte
abbrev pub takes_byte : ℕ → Bool
takes_byte code = eqb code 5 || eqb code 9

abbrev pub OneByte : Setup → Type 0
OneByte s = takes_byte s.bRequest ≡ true → s.wValue < 256

-- ---- what is asked of a board
-- an event's question, put as a setup: that of a function event names its endpoint, that of other events nothing
abbrev pub naming : ℕ → Setup
naming address = record { bmRequestType = 0; bRequest = 0; wValue = 0; wIndex = address; wLength = 0 }

abbrev pub question_of : Event → Setup
question_of (Request s) = s
question_of Malformed = naming 0
question_of StatusEnd = naming 0
question_of (BusReset speed) = naming 0
question_of (Halt a) = naming a
question_of (PacketPassed a) = naming a
question_of (Power source) = naming 0
question_of Suspend = naming 0
question_of Resume = naming 0
question_of Wake = naming 0

-- what it asks of the selected configuration
abbrev pub asked_by : Setup → Asked
asked_by s = record { address = s.wIndex; interface = s.wIndex; alternate = s.wValue }

-- facts are true of a view, at a record, for a question, where c is selected; two are told only to the request that asks
pub record TellsOf (v : View) (c : Configuration) (d : Device) (s : Setup) (f : Facts) : Type 0 where
  pub paired : f.paired ≡ v.paired
  pub configured : f.configured ≡ has_value (record { 0 = d.configuration }) v.configurations
  pub waking : f.waking ≡ wakes v
  pub surveyed : Surveys c d.alternates (asked_by s) f.survey
  pub interface : f.interface ≡ has_interface c s.wIndex
  pub small : has_setting c s.wIndex s.wValue ≡ true → (s.wIndex < 16) × (s.wValue < 16)
  pub configuration : s.bRequest ≡ 0x09 → s.wValue < 256 → f.configuration ≡ has_value (record { 0 = s.wValue }) v.configurations
  pub located : s.bRequest ≡ 0x06 → f.located ≡ locate v s

abbrev pub Tells : View → Device → Setup → Facts → Type 0
Tells v d s f = TellsOf v (selected v d) d s f
