-- SuperSpeed sets by example (document 02, L13): for each rule a set that is accepted (0) and one that is refused under its number, by computing; that
-- older kinds step over what is new; and the lister's lines.
use Rattle.std.specs.Prelude.{ℕ, ◌≡◌, refl, List, [], ◌∷◌, ◌++◌, map}
use Rattle.descriptors.specs.Limits.{full_speed, super_speed}
use Rattle.sets.specs.Opening.{Board, opening}
use Rattle.events.specs.Answer.{Refused}
use Rattle.events.specs.declared.Event.TheVariants.{BusReset}
use Rattle.events.specs.Step.{event}
use Rattle.listing.specs.Listing.{listing, line, accepted_word}
use Rattle.sets.specs.Pieces.{Piece}
use Rattle.promises.specs.Examples.{computed, piece, board, configuration, interface, endpoint, device, S}
use Rattle.promises.specs.Rules.{Example, ◌opens◌}
use Rattle.promises.specs.Refusal.{fresh_image}
use Rattle.promises.specs.Kinds.{alone, refused_events}

abbrev companion : List ℕ
companion = 6 ∷ 48 ∷ 0 ∷ 0 ∷ 0 ∷ 0 ∷ []

abbrev store : Piece
store = piece 15 0 0 (5 ∷ 15 ∷ 5 ∷ 0 ∷ 0 ∷ [])

-- a set by bMaxPacketSize0, the descriptors behind the configuration's first, and what stands after the configuration
abbrev made : ℕ → List (List ℕ) → List Piece → Board
made size ds more = board (piece 1 0 0 (device 0xFF 0 size 0 0 0 1) ∷ piece 2 0 0 (configuration 1 1 0 0x80 50 ds) ∷ more) []

-- the bench set S as a SuperSpeed device, and with another size, other descriptors, other entries, another endpoint
abbrev pub S3 : Board
S3 = made 9 (interface 0 0 1 0 ∷ endpoint 0x81 3 8 10 ∷ companion ∷ []) (store ∷ [])

abbrev S3-size : ℕ → Board
S3-size size = made size (interface 0 0 1 0 ∷ endpoint 0x81 3 8 10 ∷ companion ∷ []) (store ∷ [])

abbrev S3-with : List (List ℕ) → Board
S3-with ds = made 9 ds (store ∷ [])

abbrev S3-entries : List Piece → Board
S3-entries more = made 9 (interface 0 0 0 0 ∷ []) more

abbrev S3-endpoint : List ℕ → Board
S3-endpoint e = S3-with (interface 0 0 1 0 ∷ e ∷ companion ∷ [])

abbrev class : List ℕ
class = 5 ∷ 0x24 ∷ 1 ∷ 0 ∷ 1 ∷ []

-- "bMaxPacketSize0 is 9"
unfoldable control : List Example
control = S3 opens 0 ∷ S3-size 8 opens 3 ∷ S3-size 18 opens 3 ∷ S3-size 64 opens 3 ∷ []

-- "there is one BOS entry (type 15, index 0, language 0, at least 5 bytes, bytes 2–3 its length)"; a body of one byte is group 2's, and so are
-- types 6 and 7
unfoldable stores : List Example
stores =
    S3-entries (store ∷ []) opens 0 ∷ S3-entries (piece 15 0 0 (0 ∷ 0 ∷ 6 ∷ 0 ∷ 0 ∷ 0 ∷ []) ∷ []) opens 0 ∷ S3-entries [] opens 3 ∷
    S3-entries (store ∷ piece 15 1 0 (5 ∷ 15 ∷ 5 ∷ 0 ∷ 0 ∷ []) ∷ []) opens 3 ∷ S3-entries (piece 15 1 0 (5 ∷ 15 ∷ 5 ∷ 0 ∷ 0 ∷ []) ∷ []) opens 3 ∷
    S3-entries (piece 15 0 0x0409 (5 ∷ 15 ∷ 5 ∷ 0 ∷ 0 ∷ []) ∷ []) opens 3 ∷ S3-entries (piece 15 0 0 (5 ∷ 15 ∷ 4 ∷ 0 ∷ []) ∷ []) opens 3 ∷
    S3-entries (piece 15 0 0 (5 ∷ 15 ∷ 6 ∷ 0 ∷ 0 ∷ []) ∷ []) opens 3 ∷ S3-entries (piece 15 0 0 (5 ∷ []) ∷ []) opens 2 ∷
    S3-entries (piece 6 0 0 (0x0A ∷ 6 ∷ []) ∷ store ∷ []) opens 2 ∷ S3-entries (piece 7 0 0 (9 ∷ 7 ∷ []) ∷ store ∷ []) opens 2 ∷ []

-- "a companion (type 48, at least 6 bytes) stands directly after every endpoint and nowhere else"
unfoldable companions : List Example
companions =
    S3-with (interface 0 0 1 0 ∷ endpoint 0x81 3 8 10 ∷ []) opens 4 ∷
    S3-with (interface 0 0 1 0 ∷ endpoint 0x81 3 8 10 ∷ (5 ∷ 48 ∷ 0 ∷ 0 ∷ 0 ∷ []) ∷ []) opens 4 ∷
    S3-with (interface 0 0 1 0 ∷ endpoint 0x81 3 8 10 ∷ (7 ∷ 48 ∷ 0 ∷ 0 ∷ 0 ∷ 0 ∷ 0 ∷ []) ∷ []) opens 0 ∷
    S3-with (interface 0 0 1 0 ∷ endpoint 0x81 3 8 10 ∷ class ∷ companion ∷ []) opens 4 ∷
    S3-with (interface 0 0 1 0 ∷ class ∷ endpoint 0x81 3 8 10 ∷ companion ∷ class ∷ []) opens 0 ∷
    S3-with (interface 0 0 1 0 ∷ endpoint 0x81 3 8 10 ∷ companion ∷ companion ∷ []) opens 4 ∷
    S3-with (interface 0 0 1 0 ∷ companion ∷ endpoint 0x81 3 8 10 ∷ []) opens 4 ∷
    S3-with (companion ∷ interface 0 0 1 0 ∷ endpoint 0x81 3 8 10 ∷ companion ∷ []) opens 4 ∷
    S3-with (interface 0 0 0 0 ∷ companion ∷ []) opens 4 ∷ S3-with (interface 0 0 0 0 ∷ []) opens 0 ∷
    S3-with (interface 0 0 2 0 ∷ endpoint 0x81 3 8 10 ∷ companion ∷ endpoint 0x02 3 8 10 ∷ companion ∷ []) opens 0 ∷
    S3-with (interface 0 0 2 0 ∷ endpoint 0x81 3 8 10 ∷ endpoint 0x02 3 8 10 ∷ companion ∷ companion ∷ []) opens 4 ∷ []

-- "bulk size is 1,024, interrupt 1–1,024, isochronous 0–1,024, both with bInterval 1–16"
unfoldable endpoints : List Example
endpoints =
    S3-endpoint (endpoint 0x81 2 1024 0) opens 0 ∷ S3-endpoint (endpoint 0x81 2 512 0) opens 4 ∷ S3-endpoint (endpoint 0x81 2 2048 0) opens 4 ∷
    S3-endpoint (endpoint 0x81 3 0 1) opens 4 ∷ S3-endpoint (endpoint 0x81 3 1 1) opens 0 ∷ S3-endpoint (endpoint 0x81 3 1024 16) opens 0 ∷
    S3-endpoint (endpoint 0x81 3 1025 1) opens 4 ∷ S3-endpoint (endpoint 0x81 3 2049 1) opens 4 ∷ S3-endpoint (endpoint 0x81 3 8 0) opens 4 ∷ S3-endpoint (endpoint 0x81 3 8 17) opens 4 ∷
    S3-endpoint (endpoint 0x81 5 0 1) opens 0 ∷ S3-endpoint (endpoint 0x81 5 1024 16) opens 0 ∷ S3-endpoint (endpoint 0x81 5 1025 1) opens 4 ∷ S3-endpoint (endpoint 0x81 5 8 17) opens 4 ∷
    S3-endpoint (endpoint 0x81 7 8 1) opens 4 ∷ []

pub examples : List Example
unfolding control stores companions endpoints
examples = control ++ stores ++ companions ++ endpoints

pub rules : map (λ e. opening super_speed e.board) examples ≡ map (λ e. e.number) examples
unfolding computed examples control stores companions endpoints
rules = refl

-- at full speed a type 48 is stepped over wherever it stands, and a type 15 entry is none
pub stepped_over : opening full_speed (made 8 (companion ∷ interface 0 0 1 0 ∷ companion ∷ endpoint 0x81 3 8 10 ∷ []) []) ≡ 0
unfolding computed
stepped_over = refl

pub no_entry : opening full_speed (made 8 (interface 0 0 0 0 ∷ []) (store ∷ [])) ≡ 2
unfolding computed
no_entry = refl

-- S itself is no SuperSpeed set, and S3 no other; so its events are refused
pub others : (opening super_speed S ≡ 3) × (opening full_speed S3 ≡ 2)
unfolding computed
others = (refl, refl)

pub accepted_s3 : opening super_speed S3 ≡ 0
unfolding computed
accepted_s3 = refl

pub refused_s3 : (event S3 fresh_image (BusReset 0)).answer ≡ Refused 7
refused_s3 = refused_events accepted_s3 alone fresh_image (BusReset 0)

pub lists : listing super_speed S3 ≡ line accepted_word (1 ∷ []) ++ line (67 ∷ []) (1 ∷ 1 ∷ []) ++ line (73 ∷ []) (0 ∷ 0 ∷ 1 ∷ []) ++ line (69 ∷ []) (129 ∷ 3 ∷ 8 ∷ [])
unfolding computed
lists = refl
