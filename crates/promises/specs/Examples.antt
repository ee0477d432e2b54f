-- Sets to compute on: by their bytes, and by their pieces; the bench set S and the titrator T.
use Rattle.std.specs.Prelude.{ℕ, zero, suc, ◌+◌, ◌/◌, ◌%◌, length}
use mathlib.Core.List.{List, [], ◌∷◌, ◌++◌, flat_map}
use Rattle.octets.specs.Sentences.{every, any, only, first, pairs, neighbours, below, from}
use Rattle.descriptors.specs.Cut.{cut_after, descriptors_of, well_cut}
use Rattle.descriptors.specs.Interfaces.{grouped, endpoints_of, ends_at}
use Rattle.descriptors.specs.Companion.{ends_with_endpoint}
use Rattle.descriptors.specs.Configuration.{good_descriptors, good_configuration, groups_of, configuration_of, configuration_references, cleared}
use Rattle.sets.specs.Contents.{entries_from, good_frame, end_to_end, good_contents}
use Rattle.sets.specs.Strings.{words, languages, references, good_strings}
use Rattle.sets.specs.Opening.{Board, lent, good_devices, numbered_from, good_configurations, good_block, opening}
use Rattle.sets.specs.Pair.{same, qualifies, mirrors_all, mirrors, opening_two}
use Rattle.sets.specs.View.{view_of}
use Rattle.sets.specs.Pieces.{Piece}
use Rattle.set_writer.specs.Writer.{contents, body_bytes, laid}
use Rattle.records.specs.Image.{four_bytes, bytes_of_four, device_of, image_of}
use Rattle.records.specs.Fits.{fits}
use Rattle.requests.specs.Table.{refusal}
use Rattle.events.specs.Requests.{get_status, clear_feature, set_feature, set_address, locate, get_descriptor, get_configuration, set_configuration, get_interface, set_interface}
use Rattle.events.specs.Step.{request, answer_setup, status_end, halt, packet_passed, step, event, opened}
use Rattle.events.specs.Concerns.{concerns}
use Rattle.packets.specs.Packets.{packet}
use Rattle.listing.specs.Listing.{digits, fields, listing}

-- the last n bytes of a number, the highest first
abbrev pub bytes_before : ℕ → ℕ → List ℕ → List ℕ
bytes_before zero x rest = rest
bytes_before (suc n) x rest = bytes_before n (x / 256) (x % 256 ∷ rest)

abbrev pub bytes : ℕ → ℕ → List ℕ
bytes n x = bytes_before n x []

-- ---- a board of a set from its pieces
abbrev pub piece : ℕ → ℕ → ℕ → List ℕ → Piece
piece k i l b = record { kind = k; index = i; language = l; body = b }

abbrev pub board : List Piece → List ℕ → Board
board ps serial = lent (laid ps) serial

-- the two bytes of a number
abbrev pub two : ℕ → List ℕ
two x = x % 256 ∷ x / 256 ∷ []

-- a configuration body: value, interfaces, its string, attributes, bMaxPower, and the descriptors after the first
abbrev pub configuration : ℕ → ℕ → ℕ → ℕ → ℕ → List (List ℕ) → List ℕ
configuration value interfaces string attributes power ds =
    let rest = flat_map (λ d. d) ds in
    9 ∷ 2 ∷ two (9 + length rest) ++ interfaces ∷ value ∷ string ∷ attributes ∷ power ∷ rest

-- number, alternate, endpoints, string
abbrev pub interface : ℕ → ℕ → ℕ → ℕ → List ℕ
interface number alternate endpoints string = 9 ∷ 4 ∷ number ∷ alternate ∷ endpoints ∷ 255 ∷ 0 ∷ 0 ∷ string ∷ []

-- address, attributes, packet size, interval
abbrev pub endpoint : ℕ → ℕ → ℕ → ℕ → List ℕ
endpoint address attributes size interval = 7 ∷ 5 ∷ address ∷ attributes ∷ two size ++ interval ∷ []

-- the device descriptor: class, subclass, bMaxPacketSize0, iManufacturer, iProduct, iSerialNumber, bNumConfigurations
abbrev pub device : ℕ → ℕ → ℕ → ℕ → ℕ → ℕ → ℕ → List ℕ
device class subclass size maker product serial configurations =
    18 ∷ 1 ∷ 0 ∷ 2 ∷ class ∷ subclass ∷ 0 ∷ size ∷ 0x34 ∷ 0x12 ∷ 0x78 ∷ 0x56 ∷ 0 ∷ 1 ∷ maker ∷ product ∷ serial ∷ configurations ∷ []

-- a string body of these bytes
abbrev pub string : List ℕ → List ℕ
string text = (2 + length text) ∷ 3 ∷ text

-- a statement that says `unfolding computed` computes with all the definitions
unfoldable pub computed : ℕ
unfolding every any only first pairs neighbours below from cut_after descriptors_of well_cut grouped endpoints_of ends_at ends_with_endpoint good_descriptors good_configuration groups_of configuration_of configuration_references cleared entries_from good_frame end_to_end good_contents words languages references good_strings good_devices numbered_from good_configurations good_block opening same qualifies mirrors_all mirrors opening_two view_of four_bytes bytes_of_four device_of image_of fits refusal get_status clear_feature set_feature set_address locate get_descriptor get_configuration set_configuration get_interface set_interface request answer_setup status_end halt packet_passed step event opened concerns packet digits fields listing flat_map contents body_bytes laid
computed = 0

-- ---- the bench set S, byte for byte as document 01 prints it
abbrev pub S : Board
S = lent (bytes 63 0x3F000200_0100000014001200_0200000026001900_12010002FF00000834127856000100000001_090219000101008032_0904000001FF000000_0705810308000A) []

-- ---- the titrator T: one configuration that can wake the host, interface 0 with two settings (bulk; bulk and interrupt), interface 1 with a
-- class descriptor and two settings (nothing; isochronous and interrupt), strings 1 and 2 in German and English, string 5 in English alone, serial index 3
abbrev pub titrator_descriptors : List (List ℕ)
titrator_descriptors =
    interface 0 0 2 2 ∷ endpoint 0x81 2 64 0 ∷ endpoint 0x02 2 64 0 ∷
    interface 0 1 3 2 ∷ endpoint 0x81 2 64 0 ∷ endpoint 0x02 2 64 0 ∷ endpoint 0x83 3 8 10 ∷
    interface 1 0 0 0 ∷ (5 ∷ 0x24 ∷ 1 ∷ 0 ∷ 1 ∷ []) ∷
    interface 1 1 2 0 ∷ endpoint 0x84 0x05 192 1 ∷ endpoint 0x85 3 8 10 ∷ []

abbrev pub titrator_device : Piece
titrator_device = piece 1 0 0 (device 0 0 64 1 2 3 1)

abbrev pub titrator_configuration : Piece
titrator_configuration = piece 2 0 0 (configuration 1 2 1 0xE0 50 titrator_descriptors)

abbrev pub titrator_strings : List Piece
titrator_strings =
    piece 3 0 0 (string (0x07 ∷ 0x04 ∷ 0x09 ∷ 0x04 ∷ [])) ∷
    piece 3 1 0x0407 (string (72 ∷ 0 ∷ [])) ∷ piece 3 2 0x0407 (string (84 ∷ 0 ∷ [])) ∷
    piece 3 1 0x0409 (string (72 ∷ 0 ∷ [])) ∷ piece 3 2 0x0409 (string (84 ∷ 0 ∷ [])) ∷ piece 3 5 0x0409 (string []) ∷ []

abbrev pub titrator_serial : List ℕ
titrator_serial = string (55 ∷ 0 ∷ [])

abbrev pub T : Board
T = board (titrator_device ∷ titrator_configuration ∷ titrator_strings) titrator_serial
