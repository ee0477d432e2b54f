-- What hk_endpoint answers: "the number-th endpoint descriptor of the current settings, from 0", as a part of the set in use; "7, 8, or 16 where there is
-- no such endpoint (a query, so it drops nothing)".
use Rattle.std.specs.Prelude.{ℕ, ◌+◌, List, [], map, length, eqb}
use Rattle.std.proofs.Math.Option.{Option, some, none}
use Rattle.std.proofs.Math.ListN.{get_elem?}
use Rattle.octets.specs.Sentences.{pick, first}
use Rattle.descriptors.specs.Configuration.{bConfigurationValue}
use Rattle.descriptors.specs.Endpoints.{DescriptorAt, current_descriptors}
use Rattle.sets.specs.declared.Entry.{Entry}
use Rattle.sets.specs.Contents.{body_of, entries_of}
use Rattle.sets.specs.Opening.{Board}
use Rattle.sets.specs.View.{accepted}
use Rattle.records.specs.declared.Device.{Device}
use Rattle.records.specs.Device.{in_configured}
use Rattle.records.specs.Image.{device_of}
use Rattle.records.specs.Current.{set_at}
use Rattle.records.specs.Fits.{fits_on}
use Rattle.events.specs.Answer.{Answer, SetPart, Refused}

-- the selected configuration's entry
abbrev pub selected_entry : List ℕ → Device → Option Entry
selected_entry set d = first (λ e. eqb (bConfigurationValue (body_of set e)) d.configuration) (entries_of 2 set)

-- the endpoint descriptors of its current settings, each with where it begins in the set
abbrev pub in_set : Entry → DescriptorAt → DescriptorAt
in_set e p = record { offset = e.offset + p.offset; bytes = p.bytes }

abbrev pub endpoints_in : List ℕ → Device → Option Entry → List DescriptorAt
endpoints_in set d none = []
endpoints_in set d (some e) = map (in_set e) (current_descriptors d.alternates (body_of set e))

-- "Interfaces and endpoints other than zero exist only in Configured"
unfoldable pub endpoint_descriptors : List ℕ → Device → List DescriptorAt
endpoint_descriptors set d = pick (eqb d.state in_configured) (endpoints_in set d (selected_entry set d)) []

abbrev pub endpoint_part : Option DescriptorAt → Answer
endpoint_part none = Refused 16
endpoint_part (some p) = SetPart p.offset (length p.bytes)

-- "Order: 7, 8, then .. 16"
unfoldable pub endpoint : Board → Device → ℕ → Answer
endpoint b d k = pick (accepted b) (pick (fits_on b d) (endpoint_part (get_elem? (endpoint_descriptors (set_at b d) d) k)) (Refused 8)) (Refused 7)

-- on images of any length: 7 comes before 8
unfoldable pub endpoint_on : Board → List ℕ → ℕ → Answer
endpoint_on b image k = pick (eqb (length image) 32) (endpoint b (device_of image) k) (Refused (pick (accepted b) 8 7))
