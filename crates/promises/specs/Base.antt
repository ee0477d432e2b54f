-- Opening in document 01's own numbers: full speed alone, without the rows of limits, the companions and the BOS that L7 and L13 brought. What those requests
-- left as it was is cited. `OneSet` says that a board that lends one set opens so still.
use Rattle.std.specs.Prelude.{ℕ, Bool, false, ◌&&◌, ◌||◌, not, List, [], ◌∷◌, length, eqb, leb}
use Rattle.octets.specs.Sentences.{pick, ◌⇒◌, every, member, neighbours, pairs}
use Rattle.descriptors.specs.Cut.{cut, descriptors_of, well_cut}
use Rattle.descriptors.specs.Descriptor.{bDescriptorType, is_interface, is_endpoint, bEndpointAddress, bmAttributes, wMaxPacketSize, bInterval, transfer_type, good_address, good_attributes, endpoint_long_enough, interface_long_enough}
use Rattle.descriptors.specs.Interfaces.{grouped, good_interfaces}
use Rattle.descriptors.specs.Configuration.{bNumInterfaces, good_head}
use Rattle.sets.specs.declared.Entry.{Entry}
use Rattle.sets.specs.Contents.{entries, before, body_long_enough, bodies_at, total, end_to_end, good_frame}
use Rattle.sets.specs.Pieces.{Piece, pieces_in, pieces_of, bodies_of, sole}
use Rattle.sets.specs.Device.{bMaxPacketSize0, has18_bytes, says18_bytes, is_device, subclass_with_class, counts_configuration, at_most8_configurations, count_is_entries}
use Rattle.sets.specs.Strings.{good_strings}
use Rattle.sets.specs.Opening.{numbered_from, value_nonzero, distinct_values, good_block}
use Rattle.records.specs.Device.{fresh}
use Rattle.records.specs.Image.{image_of}
use Rattle.events.specs.Step.{Opened}

-- "8, 16, 32 or 64", of bMaxPacketSize0 and of bulk
abbrev pub eight_to64 : ℕ → Bool
eight_to64 x = eqb x 8 || eqb x 16 || eqb x 32 || eqb x 64

-- ---- group 2: "types 1 (device), 2 (configuration) or 3 (string)"
abbrev pub kind_allowed : Entry → Bool
kind_allowed e = member e.kind (1 ∷ 2 ∷ 3 ∷ [])

abbrev pub good_contents : List ℕ → Bool
good_contents set =
    every kind_allowed (entries set) &&
    neighbours before (entries set) &&
    every body_long_enough (entries set) &&
    end_to_end (bodies_at set) (total set) (entries set)

-- ---- group 3: "bMaxPacketSize0 is 8, 16, 32 or 64"
abbrev pub good_device : ℕ → List ℕ → Bool
good_device configurations d =
    has18_bytes d && says18_bytes d && is_device d &&
    eight_to64 (bMaxPacketSize0 d) &&
    subclass_with_class d &&
    counts_configuration d && at_most8_configurations d && count_is_entries configurations d

abbrev pub good_devices : List Piece → Bool
good_devices ps = sole (good_device (length (pieces_of 2 ps))) (pieces_of 1 ps)

-- ---- group 4: "wMaxPacketSize: bulk 8, 16, 32 or 64; interrupt 0–64; isochronous 0–1,023."
abbrev pub good_size : ℕ → ℕ → Bool
good_size transfer size = (eqb transfer 2 ⇒ eight_to64 size) && (eqb transfer 3 ⇒ leb size 64) && (eqb transfer 1 ⇒ leb size 1023)

-- "bInterval: interrupt 1–255, isochronous 1–16, bulk free."
abbrev pub good_interval : ℕ → ℕ → Bool
good_interval transfer interval = (eqb transfer 3 ⇒ (leb 1 interval && leb interval 255)) && (eqb transfer 1 ⇒ (leb 1 interval && leb interval 16))

abbrev pub good_endpoint : List ℕ → Bool
good_endpoint d =
    endpoint_long_enough d &&
    good_address (bEndpointAddress d) &&
    good_attributes (bmAttributes d) &&
    good_size (transfer_type (bmAttributes d)) (wMaxPacketSize d) &&
    good_interval (transfer_type (bmAttributes d)) (bInterval d)

-- "After it, types 1, 2, 3, 6 and 7 are refused"
abbrev pub good_descriptor : List ℕ → Bool
good_descriptor d =
    not (member (bDescriptorType d) (1 ∷ 2 ∷ 3 ∷ 6 ∷ 7 ∷ [])) &&
    (is_interface d ⇒ interface_long_enough d) &&
    (is_endpoint d ⇒ good_endpoint d)

abbrev pub good_descriptors : ℕ → List (List ℕ) → Bool
good_descriptors size [] = false
good_descriptors size (d ∷ ds) = good_head size d && every good_descriptor ds && good_interfaces (bNumInterfaces d) (grouped ds)

abbrev pub good_configuration : List ℕ → Bool
good_configuration body = well_cut (cut body) && good_descriptors (length body) (descriptors_of (cut body))

abbrev pub good_configurations : List Piece → Bool
good_configurations ps =
    let bs = bodies_of 2 ps in
    numbered_from 0 (pieces_of 2 ps) &&
    every good_configuration bs &&
    every value_nonzero bs &&
    pairs distinct_values bs

-- ---- "Opening checks groups 1 to 6 in order; the first group broken gives the number."
unfoldable pub opening : List ℕ → List ℕ → ℕ
opening set serial =
    let ps = pieces_in set in
    pick (not (good_frame set)) 1
    (pick (not (good_contents set)) 2
    (pick (not (good_devices ps)) 3
    (pick (not (good_configurations ps)) 4
    (pick (not (good_strings ps)) 5
    (pick (not (good_block ps serial)) 6 0)))))

-- "an image not 32 bytes gives 8 before group 1; else it becomes the fresh record, accepted or not"
unfoldable pub opened : List ℕ → List ℕ → List ℕ → Opened
opened set serial image =
    pick (eqb (length image) 32) (record { number = opening set serial; image = image_of fresh })
    (record { number = 8; image = image })
