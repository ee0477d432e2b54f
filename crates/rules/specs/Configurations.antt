-- Group 4, rule by rule: entry by entry, and in a body descriptor by descriptor. Places are bytes of the set.
use Rattle.std.specs.Prelude.{ℕ, ◌+◌, List, [], ◌∷◌, ◌++◌, map, Bool, true, false, ◌||◌, not, length, eqb, ltb}
use Rattle.std.proofs.Math.Option.{Option, some, none}
use Rattle.octets.specs.Octets.{byte}
use Rattle.octets.specs.Sentences.{pick, ◌⇒◌, every}
use Rattle.descriptors.specs.declared.limits.Limits.{Limits}
use Rattle.descriptors.specs.declared.Setting.{Setting}
use Rattle.descriptors.specs.declared.Endpoint.{Endpoint}
use Rattle.descriptors.specs.Cut.{Cutting, whole, broken, descriptor, cut}
use Rattle.descriptors.specs.Descriptor.{bDescriptorType, is_interface, is_endpoint, bNumEndpoints, bEndpointAddress, bmAttributes, wMaxPacketSize, bInterval, transfer_type}
use Rattle.descriptors.specs.Descriptor.{address_bits_zero, number_not_zero, high_bits_zero, not_control, middle_bits_zero, bulk_size, interrupt_size, isochronous_size, interrupt_interval, isochronous_interval, endpoint_long_enough, type_allowed, interface_long_enough}
use Rattle.descriptors.specs.Companion.{is_companion, long_companion}
use Rattle.descriptors.specs.Interfaces.{Group, begun_by, setting_of, endpoint_of, number_zero, alternate_zero, same_number, next_number, follows, is_last_number, alternate_within, counted, apart}
use Rattle.descriptors.specs.Configuration.{bNumInterfaces, is_configuration, head_long_enough, total_is_size, bit_seven_one, low_bits_zero, power_within, counts_interface, at_most16_interfaces}
use Rattle.sets.specs.declared.Entry.{Entry}
use Rattle.sets.specs.Contents.{body_of, is_kind, entries}
use Rattle.sets.specs.Pieces.{piece_with, has_index, has_no_language}
use Rattle.sets.specs.Opening.{value_nonzero, distinct_values}
use Rattle.rules.specs.Findings.{Finding, asked, byte_at}

-- ---- one descriptor, which begins at `at` of a body that begins at `start`
-- "every bLength at least 2 and inside the body": a descriptor that is cut off by the body's end is shorter than its bLength
abbrev pub is_whole : List ℕ → Bool
is_whole d = eqb (length d) (byte d 0)

-- the first, of a body of so many bytes: "type 2, at least 9 long; wTotalLength equals the body's length; bmAttributes has bit 7 one and bits 4–0 zero;
-- bMaxPower at most 250", "bNumInterfaces 1–16"
abbrev pub head_findings : ℕ → ℕ → List ℕ → List Finding
head_findings size start d =
    asked 404 (byte_at start 0 0) (is_whole d) ∷
    asked 405 (byte_at start 0 1) (is_configuration d) ∷
    asked 406 (byte_at start 0 0) (head_long_enough d) ∷
    asked 407 (byte_at start 0 2) (total_is_size size d) ∷ []

abbrev pub head_numbers : ℕ → List ℕ → List Finding
head_numbers start d =
    asked 408 (byte_at start 0 7) (bit_seven_one d) ∷
    asked 409 (byte_at start 0 7) (low_bits_zero d) ∷
    asked 410 (byte_at start 0 8) (power_within d) ∷
    asked 414 (byte_at start 0 4) (counts_interface d) ∷
    asked 415 (byte_at start 0 4) (at_most16_interfaces d) ∷ []

-- what stands before another descriptor: the setting that has begun, as a group with the endpoints that came, the last first, whose interface descriptor
-- begins at `head`; and every endpoint that came. "The endpoints after an interface, before the next, number its bNumEndpoints": all came
abbrev pub all_came : Option Group → Bool
all_came none = true
all_came (some g) = counted g

-- the setting that an interface descriptor begins: "The first is number 0, alternate 0; each later one has either the same
-- number and the alternate one higher, or the number one higher and alternate 0". Where its number may stand, its alternate setting is wrong
abbrev pub may_number : Setting → Setting → Bool
may_number s t = same_number s t || next_number s t

abbrev pub begin_findings : ℕ → ℕ → Option Group → Setting → List Finding
begin_findings start at none t = asked 416 (byte_at start at 2) (number_zero t) ∷ asked 417 (byte_at start at 3) (alternate_zero t) ∷ []
begin_findings start at (some g) t = asked 418 (byte_at start at (pick (may_number (setting_of g) t) 3 2)) (follows (setting_of g) t) ∷ []

-- an interface descriptor: the count of the setting that ends here; "4 needs at least 9 bytes"; "alternates end at 15"
abbrev pub interface_findings : ℕ → ℕ → ℕ → Option Group → List ℕ → List Finding
interface_findings start at head g d =
    asked 421 (byte_at start head 4) (all_came g) ∷
    asked 412 (byte_at start at 0) (interface_long_enough d) ∷
    (begin_findings start at g (begun_by d) ++ (asked 420 (byte_at start at 3) (alternate_within (begun_by d)) ∷ []))

-- an endpoint descriptor: "address bits 6–4 zero, number 1–15. Attributes bits 7–6 zero; transfer type 1 (isochronous), 2 (bulk) or 3 (interrupt);
-- bits 5–2 zero unless isochronous"
abbrev pub number_findings : ℕ → ℕ → ℕ → ℕ → List Finding
number_findings start at address attributes =
    asked 423 (byte_at start at 2) (address_bits_zero address) ∷
    asked 424 (byte_at start at 2) (number_not_zero address) ∷
    asked 425 (byte_at start at 3) (high_bits_zero attributes) ∷
    asked 426 (byte_at start at 3) (not_control attributes) ∷
    asked 427 (byte_at start at 3) (middle_bits_zero attributes) ∷ []

-- "wMaxPacketSize: bulk 8, 16, 32 or 64; interrupt 0–64; isochronous 0–1,023"
abbrev pub size_findings : Limits → ℕ → ℕ → ℕ → ℕ → List Finding
size_findings limits start at transfer size =
    asked 428 (byte_at start at 4) (bulk_size limits transfer size) ∷
    asked 429 (byte_at start at 4) (interrupt_size limits transfer size) ∷
    asked 430 (byte_at start at 4) (isochronous_size limits transfer size) ∷ []

-- "bInterval: interrupt 1–255, isochronous 1–16, bulk free"
abbrev pub interval_findings : Limits → ℕ → ℕ → ℕ → ℕ → List Finding
interval_findings limits start at transfer interval =
    asked 431 (byte_at start at 6) (interrupt_interval limits transfer interval) ∷
    asked 432 (byte_at start at 6) (isochronous_interval limits transfer interval) ∷ []

-- "An address occurs once in a setting and in no second interface of the same configuration": it is apart from those of its setting, and from all before it
abbrev pub address_findings : ℕ → ℕ → Group → List Endpoint → List ℕ → List Finding
address_findings start at g es d =
    asked 433 (byte_at start at 2) (every (λ e. apart e (endpoint_of (setting_of g) d)) (map (endpoint_of (setting_of g)) g.endpoints)) ∷
    asked 434 (byte_at start at 2) (every (λ e. apart e (endpoint_of (setting_of g) d)) es) ∷ []

-- "5 at least 7"; "none stands before the first" interface; one more of its setting may come; and the above in the page's order
abbrev pub endpoint_findings : Limits → ℕ → ℕ → ℕ → Option Group → List Endpoint → List ℕ → List Finding
endpoint_findings limits start at head none es d = asked 413 (byte_at start at 0) (endpoint_long_enough d) ∷ asked 422 (byte_at start at 0) false ∷ []
endpoint_findings limits start at head (some g) es d =
    let transfer = transfer_type (bmAttributes d) in
    asked 413 (byte_at start at 0) (endpoint_long_enough d) ∷
    asked 421 (byte_at start head 4) (ltb (length g.endpoints) (bNumEndpoints g.head)) ∷
    (number_findings start at (bEndpointAddress d) (bmAttributes d) ++
    (size_findings limits start at transfer (wMaxPacketSize d) ++
    (interval_findings limits start at transfer (bInterval d) ++
    address_findings start at g es d)))

-- any descriptor after the first: "types 1, 2, 3, 6 and 7 are refused; .. any other type is stepped over"
abbrev pub descriptor_findings : Limits → ℕ → ℕ → ℕ → Option Group → List Endpoint → List ℕ → List Finding
descriptor_findings limits start at head g es d =
    asked 404 (byte_at start at 0) (is_whole d) ∷
    asked 411 (byte_at start at 1) (type_allowed (bDescriptorType d)) ∷
    pick (is_interface d) (interface_findings start at head g d) (pick (is_endpoint d) (endpoint_findings limits start at head g es d) [])

-- ---- a body, which begins at `start`
-- the setting that has begun after a descriptor, and every endpoint that came
abbrev pub with_endpoint : Option Group → List ℕ → Option Group
with_endpoint none d = none
with_endpoint (some g) d = some (record { head = g.head; endpoints = d ∷ g.endpoints })

abbrev pub group_after : Option Group → List ℕ → Option Group
group_after g d = pick (is_interface d) (some (record { head = d; endpoints = [] })) (pick (is_endpoint d) (with_endpoint g d) g)

abbrev pub endpoints_after : Option Group → List Endpoint → List ℕ → List Endpoint
endpoints_after none es d = es
endpoints_after (some g) es d = pick (is_endpoint d) (endpoint_of (setting_of g) d ∷ es) es

-- at its end: the last setting's endpoints; "the last number is bNumInterfaces − 1", and so there is one
abbrev pub reaches_last : ℕ → Option Group → Bool
reaches_last n none = false
reaches_last n (some g) = is_last_number n (setting_of g)

abbrev pub end_findings : ℕ → ℕ → ℕ → Option Group → List Finding
end_findings start n head g = asked 421 (byte_at start head 4) (all_came g) ∷ asked 419 (byte_at start 0 4) (reaches_last n g) ∷ []

-- the descriptors after the first, from `at` on, for n interfaces
unfoldable pub rest_findings : Limits → ℕ → ℕ → ℕ → ℕ → Option Group → List Endpoint → Cutting → List Finding
rest_findings limits start n at head g es whole = end_findings start n head g
rest_findings limits start n at head g es broken = asked 403 (byte_at start at 0) false ∷ []
rest_findings limits start n at head g es (descriptor d ds) =
    descriptor_findings limits start at head g es d ++
    rest_findings limits start n (at + length d) (pick (is_interface d) at head) (group_after g d) (endpoints_after g es d) ds

abbrev pub cut_findings : Limits → ℕ → ℕ → Cutting → List Finding
cut_findings limits size start whole = asked 405 (byte_at start 0 0) false ∷ []
cut_findings limits size start broken = asked 403 (byte_at start 0 0) false ∷ []
cut_findings limits size start (descriptor d ds) =
    head_findings size start d ++ (head_numbers start d ++ rest_findings limits start (bNumInterfaces d) (length d) 0 none [] ds)

abbrev pub body_findings : Limits → ℕ → List ℕ → List Finding
body_findings limits start body = cut_findings limits (length body) start (cut body)

-- ---- companions, of a kind that has them. Document 02, L13: "a companion (type 48, at least 6 bytes) stands directly after every endpoint and nowhere else"
-- a descriptor at `at`, after one that begins at `last`; `due`: that is an endpoint
abbrev pub companion_findings : ℕ → ℕ → ℕ → Bool → List ℕ → List Finding
companion_findings start at last due d =
    asked 438 (byte_at start last 0) (due ⇒ is_companion d) ∷
    asked 439 (byte_at start at 1) (is_companion d ⇒ due) ∷
    asked 437 (byte_at start at 0) (long_companion d) ∷ []

-- all descriptors of a body, the first among them, from `at` on; and its end
unfoldable pub companions_from : ℕ → ℕ → ℕ → Bool → Cutting → List Finding
companions_from start at last due whole = asked 438 (byte_at start last 0) (not due) ∷ []
companions_from start at last due broken = []
companions_from start at last due (descriptor d ds) =
    pick (is_whole d) (companion_findings start at last due d) [] ++ companions_from start (at + length d) at (is_endpoint d) ds

abbrev pub body_companions : Limits → ℕ → List ℕ → List Finding
body_companions limits start body = pick limits.companions (companions_from start 0 0 false (cut body)) []

-- ---- the entries
-- the n-th configuration, whose entry stands at `at`; `distinct`: its value is none of those before it.
-- "indices 0 up by one, language 0, each body as below; bConfigurationValue nonzero and distinct between them"
abbrev pub configuration_findings : Limits → ℕ → ℕ → Bool → Entry → List ℕ → List Finding
configuration_findings limits at n distinct e body =
    asked 401 (byte_at 0 at 1) (has_index n (piece_with e body)) ∷
    asked 402 (byte_at 0 at 2) (has_no_language (piece_with e body)) ∷
    (body_findings limits e.offset body ++ (body_companions limits e.offset body ++ (asked 435 (byte_at e.offset 0 5) (value_nonzero body) ∷ asked 436 (byte_at e.offset 0 5) distinct ∷ [])))

-- a body beside those before it
abbrev pub distinct_from : List (List ℕ) → List ℕ → Bool
distinct_from earlier body = every (λ b. distinct_values b body) earlier

-- the entries from `at` on; `earlier` are the bodies that were there
unfoldable pub configurations_from : Limits → List ℕ → ℕ → ℕ → List (List ℕ) → List Entry → List Finding
configurations_from limits set at n earlier [] = []
configurations_from limits set at n earlier (e ∷ es) =
    let body = body_of set e in
    pick (is_kind 2 e) (configuration_findings limits at n (distinct_from earlier body) e body ++ configurations_from limits set (at + 8) (n + 1) (body ∷ earlier) es)
    (configurations_from limits set (at + 8) n earlier es)

abbrev pub configurations_findings : Limits → List ℕ → List Finding
configurations_findings limits set = configurations_from limits set 4 0 [] (entries set)
