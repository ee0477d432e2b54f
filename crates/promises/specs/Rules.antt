-- For each rule of the six groups a set that is accepted (0) and one that is refused under the group's number: one computed test over a list.
use Rattle.std.specs.Prelude.{ℕ, suc, ◌+◌, ◌-◌, ◌≡◌, refl, List, [], ◌∷◌, ◌++◌, map, set, take, replicate}
use Rattle.octets.specs.Sentences.{up_to}
use Rattle.descriptors.specs.Limits.{full_speed}
use Rattle.sets.specs.Opening.{Board, lent, opening}
use Rattle.sets.specs.Pieces.{Piece}
use Rattle.promises.specs.Examples.{computed, piece, board, configuration, interface, endpoint, device, string, S, titrator_device, titrator_configuration, titrator_strings, titrator_serial, T}

-- a board, and the number under which it opens
pub record Example : Type 0 where
  pub board : Board
  pub number : ℕ

infix 90 ◌opens◌
abbrev pub ◌opens◌ : Board → ℕ → Example
b opens n = record { board = b; number = n }

-- ---- S and T with a change
-- S with one byte changed
abbrev S-at : ℕ → ℕ → Board
S-at k x = lent (set S.set k x) []

-- S with another device descriptor, with another configuration body, with other descriptors, with another endpoint
abbrev S-device : List ℕ → Board
S-device d = board (piece 1 0 0 d ∷ piece 2 0 0 (configuration 1 1 0 0x80 50 (interface 0 0 0 0 ∷ [])) ∷ []) []

abbrev S-body : List ℕ → Board
S-body body = board (piece 1 0 0 (device 0xFF 0 8 0 0 0 1) ∷ piece 2 0 0 body ∷ []) []

abbrev S-with : ℕ → List (List ℕ) → Board
S-with interfaces ds = S-body (configuration 1 interfaces 0 0x80 50 ds)

abbrev S-endpoint : List ℕ → Board
S-endpoint e = S-with 1 (interface 0 0 1 0 ∷ e ∷ [])

-- a plain set of two configurations, by their bodies
abbrev plain : ℕ → List ℕ
plain value = configuration value 1 0 0x80 50 (interface 0 0 0 0 ∷ [])

abbrev S-two : Piece → Piece → Board
S-two c d = board (piece 1 0 0 (device 0xFF 0 8 0 0 0 2) ∷ c ∷ d ∷ []) []

-- T with another serial block
abbrev T-serial : List ℕ → Board
T-serial block = board (titrator_device ∷ titrator_configuration ∷ titrator_strings) block

-- strings alone, with no reference to them
abbrev S-strings : List Piece → Board
S-strings ps = board (piece 1 0 0 (device 0xFF 0 8 0 0 0 1) ∷ piece 2 0 0 (plain 1) ∷ ps) []

abbrev english : Piece
english = piece 3 0 0 (string (0x09 ∷ 0x04 ∷ []))

abbrev listing-of : List ℕ → Piece
listing-of ls = piece 3 0 0 (string ls)

-- one interface with the settings 0 to n, and n interfaces
abbrev settings : ℕ → List (List ℕ)
settings n = map (λ a. interface 0 a 0 0) (up_to (suc n))

abbrev interfaces : ℕ → List (List ℕ)
interfaces n = map (λ j. interface j 0 0 0) (up_to n)

-- n entries in all: a device, a configuration, string 0 and strings 1 up
abbrev entries : ℕ → Board
entries n = S-strings (english ∷ map (λ i. piece 3 (i + 1) 0x0409 (string [])) (up_to (n - 3)))

-- ---- the examples, rule by rule
frame : List Example
frame =
    S opens 0 ∷
    -- "at least 4 bytes"
    lent [] [] opens 1 ∷ lent (3 ∷ 0 ∷ 0 ∷ []) [] opens 1 ∷
    -- "total equals the slice's length"
    S-at 0 62 opens 1 ∷ S-at 0 64 opens 1 ∷ S-at 1 1 opens 1 ∷ lent (take 62 S.set) [] opens 1 ∷
    -- "n in 1–64"
    S-at 2 0 opens 1 ∷ entries 64 opens 0 ∷ entries 65 opens 1 ∷
    -- "byte 3 zero"
    S-at 3 1 opens 1 ∷
    -- "4 + 8 × n within the total"
    S-at 2 8 opens 1 ∷ []

contents : List Example
contents =
    -- "types 1 (device), 2 (configuration) or 3 (string)"
    S-at 4 0 opens 2 ∷ S-at 12 4 opens 2 ∷ S-at 12 255 opens 2 ∷
    -- "entries strictly ascending by type, then language, then index"
    T opens 0 ∷
    board (piece 2 0 0 (plain 1) ∷ piece 1 0 0 (device 0xFF 0 8 0 0 0 1) ∷ []) [] opens 2 ∷
    S-two (piece 2 0 0 (plain 1)) (piece 2 0 0 (plain 2)) opens 2 ∷
    S-two (piece 2 1 0 (plain 1)) (piece 2 0 0 (plain 2)) opens 2 ∷
    S-strings (english ∷ piece 3 2 0x0409 (string []) ∷ piece 3 1 0x0409 (string []) ∷ []) opens 2 ∷
    S-strings (listing-of (7 ∷ 4 ∷ 9 ∷ 4 ∷ []) ∷ piece 3 1 0x0409 (string []) ∷ piece 3 2 0x0407 (string []) ∷ []) opens 2 ∷
    S-strings (listing-of (7 ∷ 4 ∷ 9 ∷ 4 ∷ []) ∷ piece 3 2 0x0407 (string []) ∷ piece 3 1 0x0409 (string []) ∷ []) opens 0 ∷
    -- "lengths at least 2"
    S-strings (english ∷ piece 3 1 0x0409 (3 ∷ []) ∷ []) opens 2 ∷ S-strings (english ∷ piece 3 1 0x0409 (2 ∷ 3 ∷ []) ∷ []) opens 0 ∷
    -- "the first body at 4 + 8 × n, each next where the last ended, the last ending at the total"
    S-at 8 21 opens 2 ∷ S-at 16 39 opens 2 ∷ S-at 18 24 opens 2 ∷ S-at 18 26 opens 2 ∷ []

devices : List Example
devices =
    S-device (device 0xFF 0 8 0 0 0 1) opens 0 ∷
    -- "one type 1 entry, index 0, language 0"
    board (piece 2 0 0 (plain 1) ∷ []) [] opens 3 ∷
    board (piece 1 0 0 (device 0xFF 0 8 0 0 0 1) ∷ piece 1 1 0 (device 0xFF 0 8 0 0 0 1) ∷ piece 2 0 0 (plain 1) ∷ []) [] opens 3 ∷
    S-at 5 1 opens 3 ∷ S-at 6 1 opens 3 ∷ S-at 7 1 opens 3 ∷
    -- "18 bytes; bLength 18, type 1"
    S-device (device 0xFF 0 8 0 0 0 1 ++ 0 ∷ []) opens 3 ∷ S-at 20 17 opens 3 ∷ S-at 21 2 opens 3 ∷
    -- "bMaxPacketSize0 is 8, 16, 32 or 64"
    S-device (device 0xFF 0 16 0 0 0 1) opens 0 ∷ S-device (device 0xFF 0 32 0 0 0 1) opens 0 ∷ S-device (device 0xFF 0 64 0 0 0 1) opens 0 ∷
    S-device (device 0xFF 0 4 0 0 0 1) opens 3 ∷ S-device (device 0xFF 0 24 0 0 0 1) opens 3 ∷ S-device (device 0xFF 0 128 0 0 0 1) opens 3 ∷
    -- "class 0 only with subclass 0"
    S-device (device 0 0 8 0 0 0 1) opens 0 ∷ S-device (device 0 1 8 0 0 0 1) opens 3 ∷ S-device (device 1 1 8 0 0 0 1) opens 0 ∷
    -- "bNumConfigurations 1–8 and equal to the number of type 2 entries"
    S-device (device 0xFF 0 8 0 0 0 0) opens 3 ∷ S-device (device 0xFF 0 8 0 0 0 2) opens 3 ∷ board (piece 1 0 0 (device 0xFF 0 8 0 0 0 0) ∷ []) [] opens 3 ∷
    board (piece 1 0 0 (device 0xFF 0 8 0 0 0 8) ∷ map (λ i. piece 2 i 0 (plain (i + 1))) (up_to 8)) [] opens 0 ∷
    board (piece 1 0 0 (device 0xFF 0 8 0 0 0 9) ∷ map (λ i. piece 2 i 0 (plain (i + 1))) (up_to 9)) [] opens 3 ∷ []

configurations : List Example
configurations =
    -- "indices 0 up by one, language 0"
    S-two (piece 2 0 0 (plain 1)) (piece 2 1 0 (plain 2)) opens 0 ∷ S-two (piece 2 0 0 (plain 1)) (piece 2 2 0 (plain 2)) opens 4 ∷
    S-at 13 1 opens 4 ∷ S-at 14 1 opens 4 ∷ S-at 15 1 opens 4 ∷
    -- "bConfigurationValue nonzero and distinct between them"
    S-at 43 0 opens 4 ∷ S-two (piece 2 0 0 (plain 7)) (piece 2 1 0 (plain 7)) opens 4 ∷
    -- "cut by bLength, every bLength at least 2 and inside the body, the last ending exactly at the body's end"
    S-at 47 0 opens 4 ∷ S-at 47 1 opens 4 ∷ S-at 56 0 opens 4 ∷ S-at 56 8 opens 4 ∷ S-at 38 0 opens 4 ∷
    S-with 1 (interface 0 0 0 0 ∷ (3 ∷ 33 ∷ []) ∷ []) opens 4 ∷ S-with 1 (interface 0 0 0 0 ∷ (2 ∷ 33 ∷ []) ∷ []) opens 0 ∷
    S-with 1 (interface 0 0 0 0 ∷ (1 ∷ []) ∷ []) opens 4 ∷
    -- "The first descriptor is type 2, at least 9 long; wTotalLength equals the body's length"
    S-at 39 4 opens 4 ∷ S-body (8 ∷ 2 ∷ 17 ∷ 0 ∷ 1 ∷ 1 ∷ 0 ∷ 0x80 ∷ interface 0 0 0 0) opens 4 ∷
    S-body (10 ∷ 2 ∷ 19 ∷ 0 ∷ 1 ∷ 1 ∷ 0 ∷ 0x80 ∷ 50 ∷ 77 ∷ interface 0 0 0 0) opens 0 ∷ S-at 40 24 opens 4 ∷ S-at 41 1 opens 4 ∷
    -- "bmAttributes has bit 7 one and bits 4–0 zero; bMaxPower at most 250"
    S-at 45 0x00 opens 4 ∷ S-at 45 0x40 opens 4 ∷ S-at 45 0x81 opens 4 ∷ S-at 45 0x90 opens 4 ∷ S-at 45 0xE0 opens 0 ∷ S-at 46 250 opens 0 ∷ S-at 46 251 opens 4 ∷
    -- "After it, types 1, 2, 3, 6 and 7 are refused"
    S-with 1 (interface 0 0 0 0 ∷ (2 ∷ 1 ∷ []) ∷ []) opens 4 ∷ S-with 1 (interface 0 0 0 0 ∷ (2 ∷ 2 ∷ []) ∷ []) opens 4 ∷ S-with 1 (interface 0 0 0 0 ∷ (2 ∷ 3 ∷ []) ∷ []) opens 4 ∷
    S-with 1 (interface 0 0 0 0 ∷ (2 ∷ 6 ∷ []) ∷ []) opens 4 ∷ S-with 1 (interface 0 0 0 0 ∷ (2 ∷ 7 ∷ []) ∷ []) opens 4 ∷
    -- "4 needs at least 9 bytes, 5 at least 7; any other type is stepped over. Extra bytes of a longer descriptor are ignored."
    S-with 1 ((8 ∷ 4 ∷ 0 ∷ 0 ∷ 0 ∷ 255 ∷ 0 ∷ 0 ∷ []) ∷ []) opens 4 ∷ S-with 1 ((10 ∷ 4 ∷ 0 ∷ 0 ∷ 0 ∷ 255 ∷ 0 ∷ 0 ∷ 0 ∷ 99 ∷ []) ∷ []) opens 0 ∷
    S-endpoint (6 ∷ 5 ∷ 0x81 ∷ 3 ∷ 8 ∷ 0 ∷ []) opens 4 ∷ S-endpoint (9 ∷ 5 ∷ 0x81 ∷ 3 ∷ 8 ∷ 0 ∷ 10 ∷ 0 ∷ 0 ∷ []) opens 0 ∷
    S-with 1 ((2 ∷ 33 ∷ []) ∷ interface 0 0 1 0 ∷ (2 ∷ 0 ∷ []) ∷ endpoint 0x81 3 8 10 ∷ (2 ∷ 8 ∷ []) ∷ []) opens 0 ∷ []

interface_rules : List Example
interface_rules =
    -- "bNumInterfaces 1–16"
    S-with 0 [] opens 4 ∷ S-with 1 [] opens 4 ∷ S-with 16 (interfaces 16) opens 0 ∷ S-with 17 (interfaces 17) opens 4 ∷
    -- "The first is number 0, alternate 0"
    S-with 1 (interface 1 0 0 0 ∷ []) opens 4 ∷ S-with 1 (interface 0 1 0 0 ∷ []) opens 4 ∷
    -- "each later one has either the same number and the alternate one higher, or the number one higher and alternate 0"
    S-with 2 (interface 0 0 0 0 ∷ interface 0 1 0 0 ∷ interface 1 0 0 0 ∷ []) opens 0 ∷ S-with 1 (interface 0 0 0 0 ∷ interface 0 2 0 0 ∷ []) opens 4 ∷
    S-with 1 (interface 0 0 0 0 ∷ interface 0 0 0 0 ∷ []) opens 4 ∷ S-with 3 (interface 0 0 0 0 ∷ interface 2 0 0 0 ∷ []) opens 4 ∷
    S-with 2 (interface 0 0 0 0 ∷ interface 1 1 0 0 ∷ []) opens 4 ∷ S-with 2 (interface 0 0 0 0 ∷ interface 1 0 0 0 ∷ interface 0 1 0 0 ∷ []) opens 4 ∷
    -- "the last number is bNumInterfaces − 1; alternates end at 15"
    S-with 1 (interfaces 2) opens 4 ∷ S-with 3 (interfaces 2) opens 4 ∷ S-with 1 (settings 15) opens 0 ∷ S-with 1 (settings 16) opens 4 ∷
    -- "The endpoints after an interface, before the next, number its bNumEndpoints; none stands before the first."
    S-with 1 (interface 0 0 0 0 ∷ endpoint 0x81 3 8 10 ∷ []) opens 4 ∷ S-with 1 (interface 0 0 2 0 ∷ endpoint 0x81 3 8 10 ∷ []) opens 4 ∷
    S-with 2 (interface 0 0 0 0 ∷ interface 1 0 1 0 ∷ endpoint 0x81 3 8 10 ∷ []) opens 0 ∷ S-with 2 (interface 0 0 1 0 ∷ interface 1 0 0 0 ∷ endpoint 0x81 3 8 10 ∷ []) opens 4 ∷
    S-with 1 (endpoint 0x81 3 8 10 ∷ interface 0 0 0 0 ∷ []) opens 4 ∷ []

endpoint_rules : List Example
endpoint_rules =
    -- "address bits 6–4 zero, number 1–15"
    S-endpoint (endpoint 0x0F 3 8 10) opens 0 ∷ S-endpoint (endpoint 0x8F 3 8 10) opens 0 ∷ S-endpoint (endpoint 0x80 3 8 10) opens 4 ∷ S-endpoint (endpoint 0x00 3 8 10) opens 4 ∷
    S-endpoint (endpoint 0x91 3 8 10) opens 4 ∷ S-endpoint (endpoint 0xC1 3 8 10) opens 4 ∷
    -- "Attributes bits 7–6 zero; transfer type 1 .., 2 .. or 3 ..; bits 5–2 zero unless isochronous."
    S-endpoint (endpoint 0x81 0x43 8 10) opens 4 ∷ S-endpoint (endpoint 0x81 0x81 8 10) opens 4 ∷ S-endpoint (endpoint 0x81 0 8 10) opens 4 ∷
    S-endpoint (endpoint 0x81 0x07 8 10) opens 4 ∷ S-endpoint (endpoint 0x81 0x22 8 10) opens 4 ∷ S-endpoint (endpoint 0x81 0x3D 8 10) opens 0 ∷
    -- "wMaxPacketSize: bulk 8, 16, 32 or 64; interrupt 0–64; isochronous 0–1,023"
    S-endpoint (endpoint 0x81 2 8 0) opens 0 ∷ S-endpoint (endpoint 0x81 2 16 0) opens 0 ∷ S-endpoint (endpoint 0x81 2 32 0) opens 0 ∷ S-endpoint (endpoint 0x81 2 64 0) opens 0 ∷
    S-endpoint (endpoint 0x81 2 0 0) opens 4 ∷ S-endpoint (endpoint 0x81 2 48 0) opens 4 ∷ S-endpoint (endpoint 0x81 2 512 0) opens 4 ∷ S-endpoint (endpoint 0x81 2 0x0840 0) opens 4 ∷
    S-endpoint (endpoint 0x81 3 0 1) opens 0 ∷ S-endpoint (endpoint 0x81 3 64 1) opens 0 ∷ S-endpoint (endpoint 0x81 3 65 1) opens 4 ∷ S-endpoint (endpoint 0x81 3 0x0808 1) opens 4 ∷
    S-endpoint (endpoint 0x81 1 0 1) opens 0 ∷ S-endpoint (endpoint 0x81 1 1023 1) opens 0 ∷ S-endpoint (endpoint 0x81 1 1024 1) opens 4 ∷ S-endpoint (endpoint 0x81 1 0x0800 1) opens 4 ∷
    -- "bInterval: interrupt 1–255, isochronous 1–16, bulk free"
    S-endpoint (endpoint 0x81 3 8 0) opens 4 ∷ S-endpoint (endpoint 0x81 3 8 255) opens 0 ∷ S-endpoint (endpoint 0x81 1 8 0) opens 4 ∷ S-endpoint (endpoint 0x81 1 8 16) opens 0 ∷
    S-endpoint (endpoint 0x81 1 8 17) opens 4 ∷ S-endpoint (endpoint 0x81 2 8 255) opens 0 ∷
    -- "An address occurs once in a setting and in no second interface of the same configuration."
    S-with 1 (interface 0 0 2 0 ∷ endpoint 0x81 3 8 10 ∷ endpoint 0x01 3 8 10 ∷ []) opens 0 ∷ S-with 1 (interface 0 0 2 0 ∷ endpoint 0x81 3 8 10 ∷ endpoint 0x81 2 8 10 ∷ []) opens 4 ∷
    S-with 1 (interface 0 0 1 0 ∷ endpoint 0x81 3 8 10 ∷ interface 0 1 1 0 ∷ endpoint 0x81 2 8 10 ∷ []) opens 0 ∷
    S-with 2 (interface 0 0 1 0 ∷ endpoint 0x81 3 8 10 ∷ interface 1 0 1 0 ∷ endpoint 0x81 3 8 10 ∷ []) opens 4 ∷
    S-with 2 (interface 0 0 1 0 ∷ endpoint 0x81 3 8 10 ∷ interface 0 1 0 0 ∷ interface 1 0 0 0 ∷ interface 1 1 1 0 ∷ endpoint 0x81 3 8 10 ∷ []) opens 4 ∷
    S-two (piece 2 0 0 (configuration 1 1 0 0x80 50 (interface 0 0 1 0 ∷ endpoint 0x81 3 8 10 ∷ []))) (piece 2 1 0 (configuration 2 1 0 0x80 50 (interface 0 0 1 0 ∷ endpoint 0x81 3 8 10 ∷ []))) opens 0 ∷ []

strings : List Example
strings =
    -- "every string body has bLength equal to its length, type byte 3 and even length up to 254"
    S-strings (english ∷ piece 3 1 0x0409 (6 ∷ 3 ∷ 65 ∷ 0 ∷ []) ∷ []) opens 5 ∷ S-strings (english ∷ piece 3 1 0x0409 (4 ∷ 2 ∷ 65 ∷ 0 ∷ []) ∷ []) opens 5 ∷
    S-strings (english ∷ piece 3 1 0x0409 (3 ∷ 3 ∷ 65 ∷ []) ∷ []) opens 5 ∷ S-strings (english ∷ piece 3 1 0x0409 (4 ∷ 3 ∷ 65 ∷ 0 ∷ []) ∷ []) opens 0 ∷
    S-strings (english ∷ piece 3 1 0x0409 (string (replicate 252 0)) ∷ []) opens 0 ∷ S-strings (english ∷ piece 3 1 0x0409 (string (replicate 254 0)) ∷ []) opens 5 ∷
    -- "Language 0 goes with index 0 and no other."
    S-strings (english ∷ piece 3 1 0 (string []) ∷ []) opens 5 ∷ S-strings (english ∷ piece 3 0 0x0409 (string []) ∷ []) opens 5 ∷
    -- "Index 0 lists one to four languages, nonzero, strictly ascending."
    S-strings (listing-of [] ∷ []) opens 5 ∷ S-strings (english ∷ []) opens 0 ∷ S-strings (listing-of (1 ∷ 0 ∷ 2 ∷ 0 ∷ 3 ∷ 0 ∷ 4 ∷ 0 ∷ []) ∷ []) opens 0 ∷
    S-strings (listing-of (1 ∷ 0 ∷ 2 ∷ 0 ∷ 3 ∷ 0 ∷ 4 ∷ 0 ∷ 5 ∷ 0 ∷ []) ∷ []) opens 5 ∷ S-strings (listing-of (0 ∷ 0 ∷ []) ∷ []) opens 5 ∷
    S-strings (listing-of (9 ∷ 4 ∷ 9 ∷ 4 ∷ []) ∷ []) opens 5 ∷ S-strings (listing-of (9 ∷ 4 ∷ 7 ∷ 4 ∷ []) ∷ []) opens 5 ∷
    -- "Other entries use listed languages."
    S-strings (english ∷ piece 3 1 0x0407 (string []) ∷ []) opens 5 ∷
    -- "If there is any string entry or nonzero reference, index 0 is there."
    S-strings (piece 3 1 0x0409 (string []) ∷ []) opens 5 ∷ S-device (device 0xFF 0 8 1 0 0 1) opens 5 ∷ S-device (device 0xFF 0 8 0 0 1 1) opens 5 ∷
    -- "No entry has the index iSerialNumber when that is nonzero."
    board (piece 1 0 0 (device 0xFF 0 8 0 0 1 1) ∷ piece 2 0 0 (plain 1) ∷ english ∷ []) titrator_serial opens 0 ∷
    board (piece 1 0 0 (device 0xFF 0 8 0 0 1 1) ∷ piece 2 0 0 (plain 1) ∷ english ∷ piece 3 1 0x0409 (string []) ∷ []) titrator_serial opens 5 ∷
    -- "Each nonzero reference .. is iSerialNumber's value or has an entry in every listed language."
    board (piece 1 0 0 (device 0xFF 0 8 7 7 7 1) ∷ piece 2 0 0 (configuration 1 1 7 0x80 50 (interface 0 0 0 7 ∷ [])) ∷ english ∷ []) titrator_serial opens 0 ∷
    board (piece 1 0 0 (device 0xFF 0 8 0 0 0 1) ∷ piece 2 0 0 (configuration 1 1 0 0x80 50 (interface 0 0 0 0 ∷ interface 0 1 0 7 ∷ [])) ∷ english ∷ []) [] opens 5 ∷
    board (piece 1 0 0 (device 0xFF 0 8 0 0 0 1) ∷ piece 2 0 0 (configuration 1 1 7 0x80 50 (interface 0 0 0 0 ∷ [])) ∷ english ∷ []) [] opens 5 ∷
    board (piece 1 0 0 (device 0xFF 0 8 1 1 0 1) ∷ piece 2 0 0 (plain 1) ∷ listing-of (7 ∷ 4 ∷ 9 ∷ 4 ∷ []) ∷ piece 3 1 0x0407 (string []) ∷ piece 3 1 0x0409 (string []) ∷ []) [] opens 0 ∷
    board (piece 1 0 0 (device 0xFF 0 8 1 1 0 1) ∷ piece 2 0 0 (plain 1) ∷ listing-of (7 ∷ 4 ∷ 9 ∷ 4 ∷ []) ∷ piece 3 1 0x0407 (string []) ∷ []) [] opens 5 ∷ []

serials : List Example
serials =
    -- "empty when iSerialNumber is 0"
    lent S.set (string (49 ∷ 0 ∷ [])) opens 6 ∷
    -- "else of even length 4–254, first byte its length, second byte 3"
    T-serial [] opens 6 ∷ T-serial (2 ∷ 3 ∷ []) opens 6 ∷ T-serial (5 ∷ 3 ∷ 49 ∷ 0 ∷ 50 ∷ []) opens 6 ∷ T-serial (string (replicate 252 0)) opens 0 ∷ T-serial (string (replicate 254 0)) opens 6 ∷
    T-serial (6 ∷ 3 ∷ 49 ∷ 0 ∷ []) opens 6 ∷ T-serial (4 ∷ 2 ∷ 49 ∷ 0 ∷ []) opens 6 ∷ []

pub examples : List Example
unfolding frame contents devices configurations interface_rules endpoint_rules strings serials
examples = frame ++ contents ++ devices ++ configurations ++ interface_rules ++ endpoint_rules ++ strings ++ serials

pub rules : map (λ e. opening full_speed e.board) examples ≡ map (λ e. e.number) examples
unfolding computed examples
rules = refl
