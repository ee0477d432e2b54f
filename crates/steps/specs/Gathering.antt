-- Working definitions for the contracts that gather facts from a set; no promise cites them.
use Rattle.std.specs.Prelude.{ℕ, ◌+◌, ◌<◌, ◌≡◌, Bool, true, List, [], map, length, eqb, Option, Some, None}
use Rattle.std.proofs.Math.ListN.{get_elem?}
use Rattle.octets.specs.Sentences.{pick, first}
use Rattle.descriptors.specs.declared.limits.Limits.{Limits}
use Rattle.descriptors.specs.Cut.{cut, well_cut}
use Rattle.descriptors.specs.Configuration.{Configuration, configuration_of, has_interface, has_setting}
use Rattle.descriptors.specs.declared.endpoints.DescriptorPlace.{DescriptorPlace}
use Rattle.sets.specs.declared.Entry.{Entry}
use Rattle.sets.specs.Contents.{body_of, bodies, entries, entries_of}
use Rattle.sets.specs.Device.{device_body, iSerialNumber}
use Rattle.sets.specs.Strings.{languages}
use Rattle.sets.specs.Opening.{lent, opening}
use Rattle.sets.specs.Found.{found, valued}
use Rattle.sets.specs.View.{View}
use Rattle.records.specs.declared.Device.{Device}
use Rattle.records.specs.Image.{device_of}
use Rattle.records.specs.Fits.{fits}
use Rattle.events.specs.declared.Event.{Event}
use Rattle.events.specs.Answer.{Answer, SetPart, Refused, Outcome, refused}
use Rattle.events.specs.Step.{respond, Reply, reply_of}
use Rattle.events.specs.declared.facts.Located.{Located}
use Rattle.events.specs.declared.facts.Located.TheVariants.{Body, Nowhere}
use Rattle.steps.specs.Endpoint.{endpoint_descriptors, endpoint_part}

-- the configurations of a set
abbrev pub configurations_in : List ℕ → List Configuration
configurations_in set = map configuration_of (bodies 2 set)

-- ---- the set in use, by itself: `paired` if it is one of two
-- it opens, by some row of limits
abbrev pub Openable : List ℕ → List ℕ → Type 0
Openable set serial = (limits : Limits) × (opening limits (lent set serial) ≡ 0)

-- its view
abbrev pub view_in : Bool → List ℕ → List ℕ → View
view_in paired set serial = record {
  entries = entries set;
  languages = languages set;
  serial_index = iSerialNumber (device_body set);
  serial_length = length serial;
  configurations = configurations_in set;
  paired = paired;
}

-- the step, from whether what is lent opens and the view of the set in use
abbrev pub step_in : Bool → View → Device → Event → Outcome
step_in accepted v d e = pick accepted (pick (fits v d) (respond v d e) (refused 8 d)) (refused 7 d)

-- on images of any length
abbrev pub event_in : Bool → View → List ℕ → Event → Reply
event_in accepted v image e =
    pick (eqb (length image) 32) (reply_of (step_in accepted v (device_of image) e)) (record { answer = Refused (pick accepted 8 7); image = image })

-- the endpoint descriptor with a number
abbrev pub endpoint_in : Bool → View → List ℕ → Device → ℕ → Answer
endpoint_in accepted v set d k = pick accepted (pick (fits v d) (endpoint_part (get_elem? (endpoint_descriptors set d) k)) (Refused 8)) (Refused 7)

abbrev pub endpoint_on_in : Bool → View → List ℕ → List ℕ → ℕ → Answer
endpoint_on_in accepted v set image k = pick (eqb (length image) 32) (endpoint_in accepted v set (device_of image) k) (Refused (pick accepted 8 7))

-- ---- lookups
-- an entry that was looked up: its body, empty where there is none; and where that lies
abbrev pub body_found : List ℕ → Option Entry → List ℕ
body_found set None = []
body_found set (Some e) = body_of set e

abbrev pub located : Option Entry → Located
located None = Nowhere
located (Some e) = Body e.offset e.length

-- the body of the configuration with a value
abbrev pub selected_body : List ℕ → ℕ → List ℕ
selected_body set value = body_found set (found (first (valued set value) (entries_of 2 set)))

-- what a configuration's body is in an accepted set: well cut, and its numbers are small
pub record Usable (body : List ℕ) : Type 0 where
  pub whole : well_cut (cut body) ≡ true
  pub few : (j : ℕ) → has_interface (configuration_of body) j ≡ true → j < 16
  pub small : (j a : ℕ) → has_setting (configuration_of body) j a ≡ true → (j < 16) × (a < 16)

-- a descriptor that was found in the body of an entry, as a part of the set; and where that ends
abbrev pub standing : Option Entry → Option DescriptorPlace → Answer
standing None found = Refused 16
standing (Some e) None = Refused 16
standing (Some e) (Some p) = SetPart (e.offset + p.offset) p.length

abbrev pub ending : Option Entry → Option DescriptorPlace → ℕ
ending None found = 0
ending (Some e) None = 0
ending (Some e) (Some p) = e.offset + p.offset + p.length
