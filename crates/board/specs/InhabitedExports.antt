-- The premises of the theorems over hk_open, hk_packet, hk_record_event and hk_endpoint hold of something: S and its device descriptor, and the
-- titrator T, opened and configured as a record.
use Rattle.std.specs.Prelude.{ℕ, zero, suc, ◌^◌, ◌<◌, ◌≡◌, refl, ◌⊎◌, true, replicate, set}
use Rattle.std.proofs.Common.{arith, inl, inr, ne_eqb}
use mathlib.Core.List.{List, [], ◌∷◌, flat_map}
use Rattle.octets.specs.Sentences.{only, up_to}
use Rattle.descriptors.specs.Limits.{full_speed}
use Rattle.descriptors.specs.Endpoints.{current_from}
use Rattle.records.specs.declared.Device.{Device}
use Rattle.records.specs.Device.{zeros, fresh, with_waiting, with_endpoints, Sized}
use Rattle.records.specs.Image.{image_of}
use Rattle.steps.specs.Endpoint.{endpoint_descriptors, endpoint, endpoint_on}
use Rattle.promises.specs.Examples.{bytes, computed, S, T}
use Rattle.promises.specs.Bench.{stands, addressed}
use Rattle.promises.specs.Opening.{groups, AllHold, FirstBroken}
use Rattle.promises.specs.Refusal.{fresh_image, opens}
use Rattle.promises.specs.Keeps.{FitImage, image_fits}
use Rattle.promises.specs.Inhabited.{bytes_s, accepted_s, bytes_t, accepted_t, waiting, configured, configured_fits, configured_sized}
use Rattle.promises.specs.InhabitedOrder.{configured_fits_t}
use Rattle.board.specs.Exports.{Opens, Spot, AnswersSetup, CutsPacket, numbered, AnswersRecordEvent, GivesEndpoint}
use Rattle.board.specs.Opening.{opening_number, opening_accepts, opening_refuses}
use Rattle.board.specs.Runs.{Call, record_event, Given, Runs, Throughout, NotEight}
use Rattle.board.specs.Transfers.{packet_number, transfer}
use Rattle.board.specs.Endpoints.{EndpointIn, pair, described, endpoint_given, endpoints_there, endpoints_end, endpoints_all}
use Rattle.board.specs.Order.{concerns_this, Reordered}
use Rattle.board.specs.Lent.{OpensBytes, opened_fits}
use Rattle.board.specs.Records.{refusal, RecordRuns, ended, called, answers_by_rules, as_images, decided_record, never_eight_record, order_record}
use Rattle.board.specs.InhabitedRuns
use Rattle.board.specs.InhabitedRuns.{start, set_spot, lie, done_alone}

-- ---- hk_open: T has all six groups; S with its interface's bLength 0 breaks the fourth first; 31 bytes get 8
pub titrator_holds : AllHold (groups full_speed T)
titrator_holds = (opening_accepts {image = start} refl InhabitedRuns.opens).0 refl

pub opens_broken : Opens stands start 4 fresh_image
unfolding computed
opens_broken = record { number = refl; leaves = refl }

pub fourth_broken : FirstBroken 3 (groups full_speed stands)
fourth_broken = (opening_refuses {image = start} refl opens_broken 3).0 refl

pub opens_short : Opens S (replicate 31 170) 8 (replicate 31 170)
unfolding computed
opens_short = record { number = refl; leaves = refl }

pub eight_allowed : opens S (replicate 31 170) 8 ≡ true
eight_allowed = opening_number opens_short

-- ---- hk_packet: GET_DESCRIPTOR(device) on S, asked with 64
abbrev pub get_device : List ℕ
get_device = bytes 8 0x8006000100004000

abbrev pub device_descriptor : List ℕ
device_descriptor = bytes 18 0x12010002FF00000834127856000100000001

pub device_replies : AnswersSetup S lie fresh_image get_device 0 fresh_image (0 ∷ 0 ∷ []) 0 device_descriptor (record { block = 1; offset = 20 })
unfolding computed
device_replies = record { leaves = refl; answers = record { number = refl; hands = refl; counts = refl; shows = refl; lies = refl } }

-- whatever cutter meets its statement: packets 0 to 2 are given and put together are the descriptor, and packet 3 is refused
pub device_packets : (at : Spot) (number : ℕ → ℕ) (packets : ℕ → List ℕ) (place : ℕ → Spot)
    → ((k : ℕ) → k < 4294967296 → CutsPacket device_descriptor at 64 8 k (number k) (packets k) (place k))
    → (flat_map packets (up_to 3) ≡ device_descriptor) × (number 2 ≡ 0) × (number 3 ≡ 15)
unfolding computed
device_packets at number packets place cuts =
    let (whole, given, past) = transfer device_replies at number packets place cuts in
    (whole, given 2 (omega arith), past 3 (omega arith) (omega arith))

-- and a refused one shows the descriptor's first 0 bytes
pub past_the_last : (at : Spot) {n : ℕ} {shown : List ℕ} {spot : Spot} → CutsPacket device_descriptor at 64 8 3 n shown spot → (shown ≡ []) × (spot ≡ at)
unfolding computed
past_the_last at {n} {shown} {spot} c = go (packet_number c)
  where
    go : (n ≡ 0) ⊎ ((n ≡ 15) × (shown ≡ []) × (spot ≡ at)) → (shown ≡ []) × (spot ≡ at)
    go (inl z) = let p : n ≡ 15 = c.number in absurd (omega arith)
    go (inr (p, q, r)) = (q, r)

-- ---- hk_record_event: T opened, then SET_ADDRESS 5, its status end, SET_CONFIGURATION 1
abbrev pub configuring : List Call
configuring = record_event 0 0 (bytes 8 0x0005050000000000) ∷ record_event 1 0 [] ∷ record_event 0 0 (bytes 8 0x0009010000000000) ∷ []

pub fresh_sized : Sized fresh
fresh_sized = record { sixteen = refl; halts-fit = omega arith; toggles-fit = omega arith }

pub opens_record : Opens T start 0 (image_of fresh)
unfolding computed
opens_record = record { number = refl; leaves = refl }

-- and T is bytes, so of what follows nothing is asked
pub opens_bytes : OpensBytes T start 0 (image_of fresh)
opens_bytes = record { opens = opens_record; octets = bytes_t }

pub fits_after : {cs : List Call} {gs : List Given} {now : List ℕ} → Runs T lie (image_of fresh) cs gs now → FitImage T now
fits_after = opened_fits refl opens_bytes

pub configures : RecordRuns T lie fresh configuring (done_alone ∷ done_alone ∷ done_alone ∷ []) configured
unfolding computed
configures =
    let by = answers_by_rules T lie in
    called (by fresh _) (called (by (with_waiting 5 fresh) _) (called (by addressed _) ended))

pub configures_decided : {gs : List Given} {last : Device} → RecordRuns T lie fresh configuring gs last → last ≡ configured
configures_decided r = (decided_record T lie bytes_t fresh_sized r configures).1

pub configures_not_eight : Throughout NotEight (as_images T lie bytes_t fresh_sized configures).0
configures_not_eight = never_eight_record T lie bytes_t {start = start} refl opens_record fresh_sized configures

-- interface 0's packet at 81 and interface 1's SET_INTERFACE 1, in either order
abbrev pub one_order : List Call
one_order = record_event 4 0x81 [] ∷ record_event 0 0 (bytes 8 0x010B010001000000) ∷ []

abbrev pub other_order : List Call
other_order = record_event 0 0 (bytes 8 0x010B010001000000) ∷ record_event 4 0x81 [] ∷ []

same : (k : ℕ) → only (concerns_this T (image_of configured) k) one_order ≡ only (concerns_this T (image_of configured) k) other_order
unfolding computed
same zero = refl
same (suc zero) = refl
same (suc (suc k)) = rw (ne_eqb 0 (suc (suc k)) (λ p. omega arith), ne_eqb 1 (suc (suc k)) (λ p. omega arith)) refl

pub reordered : Reordered T (image_of configured) one_order other_order
unfolding computed
reordered = record { one = refl; other = refl; same = same }

-- interface 1 in setting 1, 81's toggle up
abbrev pub last_record : Device
last_record = with_endpoints (set zeros 1 1) 0 (2 ^ 17) configured

pub one_ends : RecordRuns T lie configured one_order (done_alone ∷ done_alone ∷ []) last_record
unfolding computed
one_ends =
    let by = answers_by_rules T lie in
    called (by configured _) (called (by (with_endpoints zeros 0 (2 ^ 17) configured) _) ended)

-- whatever the other run gives and leaves, it leaves that
pub other_ends : {gs : List Given} {last : Device} → RecordRuns T lie configured other_order gs last → last_record ≡ last
other_ends r = (order_record T lie bytes_t accepted_t configured_sized configured_fits_t one_ends r reordered).0

-- ---- a refusal where the record stands: GET_DESCRIPTOR of type 6 on S with address 5 waiting drops it, whatever else it gives
pub drops_where_it_stands : {left : Device} {handed_back : List ℕ} {count : ℕ} {shown : List ℕ} {spot : Spot}
    → AnswersRecordEvent S lie waiting (numbered 0 0 (bytes 8 0x8006000600000A00)) 13 left handed_back count shown spot → left ≡ fresh
unfolding computed
drops_where_it_stands a = (refusal a).keeps (λ z. omega arith)

-- ---- hk_endpoint: S configured has one endpoint, and its descriptor is the set's last 7 bytes; the second one is refused, and so is the first in Default
pub endpoint_of_s : GivesEndpoint S lie (image_of configured) 0 0 (bytes 7 0x0705810308000A) (record { block = 1; offset = 56 })
unfolding computed current_from endpoint_descriptors endpoint endpoint_on
endpoint_of_s = record { number = refl; shows = refl; lies = refl }

pub no_second : GivesEndpoint S lie (image_of configured) 1 16 [] set_spot
unfolding computed current_from endpoint_descriptors endpoint endpoint_on
no_second = record { number = refl; shows = refl; lies = refl }

pub none_in_default : GivesEndpoint S lie fresh_image 0 16 [] set_spot
unfolding computed current_from endpoint_descriptors endpoint endpoint_on
none_in_default = record { number = refl; shows = refl; lies = refl }

pub is_descriptor : EndpointIn S 0 lie (bytes 7 0x0705810308000A) (record { block = 1; offset = 56 })
unfolding computed
is_descriptor = endpoint_given endpoint_of_s refl

-- counted by whatever meets the statement: 0, then 16, and the one part lists endpoint 81, interrupt
pub counts_s : (number : ℕ → ℕ) (shown : ℕ → List ℕ) (spot : ℕ → Spot) → ((k : ℕ) → k < 256 → GivesEndpoint S lie (image_of configured) k (number k) (shown k) (spot k))
    → (number 0 ≡ 0) × (number 1 ≡ 16) × (described (shown 0) ∷ [] ≡ pair 0x81 3 ∷ [])
unfolding computed
counts_s number shown spot gives =
    let fit = image_fits S bytes_s accepted_s configured (configured_fits, configured_sized) in (
      endpoints_there S bytes_s accepted_s fit lie number shown spot gives 0 (omega arith),
      endpoints_end S bytes_s accepted_s fit lie number shown spot gives 1 (omega arith) (omega arith),
      endpoints_all S bytes_s accepted_s fit lie number shown spot gives,
    )
