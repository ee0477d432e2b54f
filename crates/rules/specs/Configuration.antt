-- Working definitions: group 4 as the code's walk asks it, with a bit for each address that came; no promise cites them.
use Rattle.std.specs.Prelude.{ℕ, ◌+◌, List, [], ◌∷◌, ◌++◌, Bool, true, false, length}
use Rattle.octets.specs.Sentences.{pick}
use Rattle.descriptors.specs.declared.limits.Limits.{Limits}
use Rattle.descriptors.specs.declared.Setting.{Setting}
use Rattle.descriptors.specs.declared.walk.Stand.{Stand}
use Rattle.descriptors.specs.Cut.{Cutting, whole, broken, descriptor, cut}
use Rattle.descriptors.specs.Descriptor.{bDescriptorType, is_interface, is_endpoint, bEndpointAddress, bmAttributes, wMaxPacketSize, bInterval, transfer_type}
use Rattle.descriptors.specs.Descriptor.{endpoint_long_enough, type_allowed, interface_long_enough}
use Rattle.descriptors.specs.Interfaces.{number_zero, alternate_zero, follows, alternate_within}
use Rattle.descriptors.specs.Configuration.{bNumInterfaces}
use Rattle.descriptors.specs.Walk.{setting_at, before, stand_of}
use Rattle.descriptors.specs.Check.{Progress, once_in_setting, in_no_second_interface, all_came, one_may_come, onward, reaches_last, beginning}
use Rattle.sets.specs.declared.Entry.{Entry}
use Rattle.sets.specs.Contents.{body_of, is_kind, entries}
use Rattle.sets.specs.Pieces.{piece_with, has_index, has_no_language}
use Rattle.sets.specs.Opening.{value_nonzero}
use Rattle.rules.specs.declared.progress.Progress.{Progress as Kept}
use Rattle.rules.specs.Findings.{Finding, asked, byte_at}
pub use Rattle.rules.specs.Configurations.{is_whole, head_findings, head_numbers, may_number, number_findings, size_findings, interval_findings, distinct_from, body_companions}

-- how far the check is, as the code keeps it
abbrev pub progress_in : Kept → Progress
progress_in k = record { coming = k.coming; setting = k.setting; interface = k.interface; seen = k.seen }

-- ---- one descriptor, which begins at `at` of a body that begins at `start`
-- the setting that an interface descriptor begins, after a descriptor that stands at `last`
abbrev pub placed_findings : Bool → ℕ → ℕ → Setting → Setting → List Finding
placed_findings true start at s t = asked 418 (byte_at start at (pick (may_number s t) 3 2)) (follows s t) ∷ []
placed_findings false start at s t = asked 416 (byte_at start at 2) (number_zero t) ∷ asked 417 (byte_at start at 3) (alternate_zero t) ∷ []

-- an interface descriptor: the endpoints of the setting that ends here "number its bNumEndpoints"; "4 needs at least 9 bytes"; "alternates end at 15".
-- `head` is where that setting's interface descriptor begins
abbrev pub interface_findings : ℕ → ℕ → ℕ → Progress → Stand → Stand → List ℕ → List Finding
interface_findings start at head w last stand d =
    asked 421 (byte_at start head 4) (all_came w) ∷
    asked 412 (byte_at start at 0) (interface_long_enough d) ∷
    (placed_findings last.inside start at (setting_at last) (setting_at stand) ++ (asked 420 (byte_at start at 3) (alternate_within (setting_at stand)) ∷ []))

-- one endpoint more than its setting's bNumEndpoints; or "none stands before the first" interface
abbrev pub surplus : Bool → ℕ → ℕ → ℕ → Progress → Finding
surplus true start at head w = asked 421 (byte_at start head 4) (one_may_come w)
surplus false start at head w = asked 422 (byte_at start at 0) (one_may_come w)

-- "An address occurs once in a setting and in no second interface of the same configuration". What was seen before is, a bit for each address, that of this setting,
-- of this interface's settings, and of the whole body
abbrev pub address_findings : ℕ → ℕ → Progress → ℕ → List Finding
address_findings start at w address =
    asked 433 (byte_at start at 2) (once_in_setting w address) ∷
    asked 434 (byte_at start at 2) (in_no_second_interface w address) ∷ []

-- "5 at least 7", and the above in the page's order
abbrev pub endpoint_findings : Limits → ℕ → ℕ → ℕ → Progress → Stand → List ℕ → List Finding
endpoint_findings limits start at head w last d =
    let transfer = transfer_type (bmAttributes d) in
    asked 413 (byte_at start at 0) (endpoint_long_enough d) ∷
    surplus last.inside start at head w ∷
    (number_findings start at (bEndpointAddress d) (bmAttributes d) ++
    (size_findings limits start at transfer (wMaxPacketSize d) ++
    (interval_findings limits start at transfer (bInterval d) ++
    address_findings start at w (bEndpointAddress d))))

-- any descriptor after the first: "types 1, 2, 3, 6 and 7 are refused; .. any other type is stepped over"
abbrev pub type_findings : Limits → ℕ → ℕ → ℕ → Progress → Stand → Stand → List ℕ → List Finding
type_findings limits start at head w last stand d =
    pick (is_interface d) (interface_findings start at head w last stand d) (pick (is_endpoint d) (endpoint_findings limits start at head w last d) [])

abbrev pub descriptor_findings : Limits → ℕ → ℕ → ℕ → Progress → Stand → Stand → List ℕ → List Finding
descriptor_findings limits start at head w last stand d =
    asked 404 (byte_at start at 0) (is_whole d) ∷
    asked 411 (byte_at start at 1) (type_allowed (bDescriptorType d)) ∷
    type_findings limits start at head w last stand d

-- ---- a body, which begins at `start`
-- at its end: the last setting's endpoints; "the last number is bNumInterfaces − 1", and so there is one
abbrev pub end_findings : ℕ → ℕ → ℕ → Progress → Stand → List Finding
end_findings start n head w last =
    asked 421 (byte_at start head 4) (all_came w) ∷ asked 419 (byte_at start 0 4) (reaches_last n last) ∷ []

-- the descriptors after the first, from `at` on, for n interfaces
unfoldable pub rest_findings : Limits → ℕ → ℕ → ℕ → ℕ → Progress → Stand → Cutting → List Finding
rest_findings limits start n at head w last whole = end_findings start n head w last
rest_findings limits start n at head w last broken = asked 403 (byte_at start at 0) false ∷ []
rest_findings limits start n at head w last (descriptor d ds) =
    let stand = stand_of last d in
    descriptor_findings limits start at head w last stand d ++ rest_findings limits start n (at + length d) (pick (is_interface d) at head) (onward w last stand d) stand ds

abbrev pub cut_findings : Limits → ℕ → ℕ → Cutting → List Finding
cut_findings limits size start whole = asked 405 (byte_at start 0 0) false ∷ []
cut_findings limits size start broken = asked 403 (byte_at start 0 0) false ∷ []
cut_findings limits size start (descriptor d ds) =
    head_findings size start d ++ (head_numbers start d ++ rest_findings limits start (bNumInterfaces d) (length d) 0 beginning before ds)

abbrev pub body_findings : Limits → ℕ → List ℕ → List Finding
body_findings limits start body = cut_findings limits (length body) start (cut body)

-- ---- the entries
-- the n-th configuration, whose entry stands at `at`; `distinct`: its value is none of those before it.
-- "indices 0 up by one, language 0, each body as below; bConfigurationValue nonzero and distinct between them"
abbrev pub configuration_findings : Limits → ℕ → ℕ → Bool → Entry → List ℕ → List Finding
configuration_findings limits at n distinct e body =
    asked 401 (byte_at 0 at 1) (has_index n (piece_with e body)) ∷
    asked 402 (byte_at 0 at 2) (has_no_language (piece_with e body)) ∷
    (body_findings limits e.offset body ++ (body_companions limits e.offset body ++ (asked 435 (byte_at e.offset 0 5) (value_nonzero body) ∷ asked 436 (byte_at e.offset 0 5) distinct ∷ [])))

-- the entries from `at` on; `earlier` are the bodies that were there
unfoldable pub configurations_from : Limits → List ℕ → ℕ → ℕ → List (List ℕ) → List Entry → List Finding
configurations_from limits set at n earlier [] = []
configurations_from limits set at n earlier (e ∷ es) =
    let body = body_of set e in
    pick (is_kind 2 e) (configuration_findings limits at n (distinct_from earlier body) e body ++ configurations_from limits set (at + 8) (n + 1) (body ∷ earlier) es)
    (configurations_from limits set (at + 8) n earlier es)

abbrev pub configurations_findings : Limits → List ℕ → List Finding
configurations_findings limits set = configurations_from limits set 4 0 [] (entries set)
