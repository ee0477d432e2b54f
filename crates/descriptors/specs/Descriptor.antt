-- The fields of one descriptor, under USB 2.0's names, and the rules for one interface or endpoint descriptor by itself.
use Rattle.std.specs.Prelude.{ℕ, ◌/◌, ◌%◌, List, Bool, ◌&&◌, ◌||◌, not, length, eqb, leb}
use Rattle.octets.specs.Octets.{byte, word}
use Rattle.octets.specs.Sentences.{◌⇒◌}
use Rattle.descriptors.specs.declared.limits.Range.{Range}
use Rattle.descriptors.specs.declared.limits.Ranges.{Ranges}
use Rattle.descriptors.specs.declared.limits.Limits.{Limits}
use Rattle.descriptors.specs.Limits.{ranges_of, refused_types, within, doubled, named}

abbrev pub bDescriptorType : List ℕ → ℕ
bDescriptorType d = byte d 1

abbrev pub is_interface : List ℕ → Bool
is_interface d = eqb (bDescriptorType d) 4

abbrev pub is_endpoint : List ℕ → Bool
is_endpoint d = eqb (bDescriptorType d) 5

-- ---- an interface descriptor
abbrev pub bInterfaceNumber : List ℕ → ℕ
bInterfaceNumber d = byte d 2

abbrev pub bAlternateSetting : List ℕ → ℕ
bAlternateSetting d = byte d 3

abbrev pub bNumEndpoints : List ℕ → ℕ
bNumEndpoints d = byte d 4

abbrev pub iInterface : List ℕ → ℕ
iInterface d = byte d 8

-- ---- an endpoint descriptor
abbrev pub bEndpointAddress : List ℕ → ℕ
bEndpointAddress d = byte d 2

abbrev pub bmAttributes : List ℕ → ℕ
bmAttributes d = byte d 3

abbrev pub wMaxPacketSize : List ℕ → ℕ
wMaxPacketSize d = word d 4

abbrev pub bInterval : List ℕ → ℕ
bInterval d = byte d 6

-- transfer type 1 (isochronous), 2 (bulk) or 3 (interrupt): the attributes' bits 1–0
abbrev pub transfer_type : ℕ → ℕ
transfer_type attributes = attributes % 4

-- "address bits 6–4 zero"
abbrev pub address_bits_zero : ℕ → Bool
address_bits_zero address = eqb (address / 16 % 8) 0

-- "number 1–15"
abbrev pub number_not_zero : ℕ → Bool
number_not_zero address = leb 1 (address % 16)

abbrev pub good_address : ℕ → Bool
good_address address = address_bits_zero address && number_not_zero address

-- "Attributes bits 7–6 zero"
abbrev pub high_bits_zero : ℕ → Bool
high_bits_zero attributes = leb attributes 63

-- "transfer type 1 (isochronous), 2 (bulk) or 3 (interrupt)"
abbrev pub not_control : ℕ → Bool
not_control attributes = leb 1 (transfer_type attributes)

-- "bits 5–2 zero unless isochronous"
abbrev pub middle_bits_zero : ℕ → Bool
middle_bits_zero attributes = leb attributes 3 || eqb (transfer_type attributes) 1

abbrev pub good_attributes : ℕ → Bool
good_attributes attributes = high_bits_zero attributes && not_control attributes && middle_bits_zero attributes

abbrev pub ranges : Limits → Ranges
ranges limits = ranges_of limits.speed

-- a size of interrupt or isochronous: its bits 10–0 in the range, its bits 15–11 at most the speed's
abbrev pub sized : ℕ → Range → ℕ → Bool
sized bursts range size = leb range.least (size % 2048) && leb (size % 2048) range.most && leb (size / 2048) bursts

-- "wMaxPacketSize: bulk 8, 16, 32 or 64"
abbrev pub bulk_size : Limits → ℕ → ℕ → Bool
bulk_size limits transfer size = eqb transfer 2 ⇒ doubled (ranges limits).bulk size

-- "interrupt 0–64"
abbrev pub interrupt_size : Limits → ℕ → ℕ → Bool
interrupt_size limits transfer size = eqb transfer 3 ⇒ sized (ranges limits).bursts (ranges limits).interrupt size

-- "isochronous 0–1,023"
abbrev pub isochronous_size : Limits → ℕ → ℕ → Bool
isochronous_size limits transfer size = eqb transfer 1 ⇒ sized (ranges limits).bursts (ranges limits).isochronous size

abbrev pub good_size : Limits → ℕ → ℕ → Bool
good_size limits transfer size = bulk_size limits transfer size && interrupt_size limits transfer size && isochronous_size limits transfer size

-- "bInterval: interrupt 1–255"
abbrev pub interrupt_interval : Limits → ℕ → ℕ → Bool
interrupt_interval limits transfer interval = eqb transfer 3 ⇒ within (ranges limits).polling interval

-- "isochronous 1–16, bulk free"
abbrev pub isochronous_interval : Limits → ℕ → ℕ → Bool
isochronous_interval limits transfer interval = eqb transfer 1 ⇒ within (ranges limits).period interval

abbrev pub good_interval : Limits → ℕ → ℕ → Bool
good_interval limits transfer interval = interrupt_interval limits transfer interval && isochronous_interval limits transfer interval

-- "5 at least 7"
abbrev pub endpoint_long_enough : List ℕ → Bool
endpoint_long_enough d = leb 7 (length d)

abbrev pub good_endpoint : Limits → List ℕ → Bool
good_endpoint limits d =
    endpoint_long_enough d &&
    good_address (bEndpointAddress d) &&
    good_attributes (bmAttributes d) &&
    good_size limits (transfer_type (bmAttributes d)) (wMaxPacketSize d) &&
    good_interval limits (transfer_type (bmAttributes d)) (bInterval d)

-- "After it, types 1, 2, 3, 6 and 7 are refused"
abbrev pub type_allowed : ℕ → Bool
type_allowed t = not (named refused_types t)

-- "4 needs at least 9 bytes"
abbrev pub interface_long_enough : List ℕ → Bool
interface_long_enough d = leb 9 (length d)

-- "any other type is stepped over"
abbrev pub good_descriptor : Limits → List ℕ → Bool
good_descriptor limits d =
    type_allowed (bDescriptorType d) &&
    (is_interface d ⇒ interface_long_enough d) &&
    (is_endpoint d ⇒ good_endpoint limits d)
