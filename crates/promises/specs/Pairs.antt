-- What L7 brings, on a pair and on S: openings, and runs of events, each with its answers and the record that it leaves, as one computed test over a list.
use Rattle.std.specs.Prelude.{ℕ, ◌+◌, ◌*◌, ◌≡◌, refl, List, [], ◌∷◌, ◌++◌, map, true, false, set}
use Rattle.descriptors.specs.Limits.{full_speed}
use Rattle.sets.specs.Opening.{Board, lent, lent_two, BytesOf, opening}
use Rattle.sets.specs.View.{opening_of, accepted}
use Rattle.records.specs.declared.Device.{Device}
use Rattle.records.specs.Device.{in_address, at_high_speed, test_waiting, test_entered, fresh, with_waiting, with_power, with_suspended, with_speed, with_address}
use Rattle.records.specs.Fits.{fits_on}
use Rattle.events.specs.declared.Event.{Event}
use Rattle.events.specs.declared.Event.TheVariants.{StatusEnd, BusReset, Halt, Power, Suspend, Wake}
use Rattle.events.specs.Step.{setup_event}
use Rattle.promises.specs.Examples.{computed, bytes, S}
use Rattle.promises.specs.Bench.{done, given, refused, addressed, configured, setup}
use Rattle.promises.specs.Inhabited.{octets}
use Rattle.promises.specs.Later.{Later, on, ending}

-- ---- two sets of one instrument, and the board that lends them
-- device, configuration (string 1, a bulk endpoint of 64), strings 0 and 1, types 6 and 7
abbrev pub full : List ℕ
full = bytes 138 0x8A000600_0100000034001200_0200000046001900_030000005F000400_0301090463000400_0600000067000A00_0700000071001900_120100020000004034127856000100000001_0902190001010180320904000001FF00000007058102400000_04030904_04034100_0A060002000000400100_0907190001010080320904000001FF00000007058102000200

-- device, configuration (no string, a bulk endpoint of 512), types 6 and 7
abbrev pub high : List ℕ
high = bytes 114 0x72000400_0100000024001200_0200000036001900_060000004F000A00_0700000059001900_120100020000004034127856000100000001_0902190001010080320904000001FF00000007058102000200_0A060002000000400100_0907190001010180320904000001FF00000007058102400000

abbrev pub pair : Board
pair = lent_two full high []

pub accepted_pair : accepted pair ≡ true
unfolding computed
accepted_pair = refl

pub bytes_pair : BytesOf pair
unfolding computed
bytes_pair = (octets full refl, octets high refl)

-- ---- "the full-speed set's 1–6, the other's, then 24": lent the other way round; a set of the pair alone; another byte in a type 7 body, in the
-- qualifier; the high-speed set's frame, with that
pub openings : List (ℕ × ℕ)
openings =
    (opening_of (lent_two high full []), 4) ∷ (opening full_speed (lent full []), 2) ∷ (opening_of (lent_two full (set high 113 1) []), 24) ∷
    (opening_of (lent_two full (set high 88 1) []), 24) ∷ (opening_of (lent_two (set full 137 1) high []), 24) ∷
    (opening_of (lent_two full (set (set high 113 1) 3 1) []), 1) ∷ (opening_of (lent_two (set full 3 1) (set high 2 0) []), 1) ∷ (opening_of (lent_two full high (4 ∷ 3 ∷ 65 ∷ 0 ∷ [])), 6) ∷ []

pub numbers : map (λ (p : ℕ × ℕ). p.0) openings ≡ map (λ (p : ℕ × ℕ). p.1) openings
unfolding computed openings
numbers = refl

-- ---- runs
abbrev at_high : Device → Device
at_high d = with_speed at_high_speed d

-- GET_DESCRIPTOR of the device, its qualifier, the other-speed configuration; SET_FEATURE(TEST_MODE)
abbrev device : Event
device = setup 0x8006000100004000

abbrev qualifier : Event
qualifier = setup 0x8006000600004000

abbrev other_speed : Event
other_speed = setup 0x8006000700004000

abbrev test_mode : ℕ → Event
test_mode selector = setup (0x0003020000000000 + selector * 65536)

abbrev vendor : Event
vendor = setup 0xC001000000000000

speeds : List Later
speeds =
    -- the set in use answers; "given by the bus reset event", from either to either; byte 5 stays
    on pair fresh (device ∷ qualifier ∷ other_speed ∷ []) (given 52 18 ∷ given 103 10 ∷ given 113 25 ∷ []) fresh ∷
    on pair fresh (BusReset 1 ∷ device ∷ qualifier ∷ other_speed ∷ []) (done [] ∷ given 36 18 ∷ given 79 10 ∷ given 89 25 ∷ []) (at_high fresh) ∷
    on pair (at_high (with_power 1 configured)) (BusReset 0 ∷ device ∷ []) (done [] ∷ given 52 18 ∷ []) (with_power 1 fresh) ∷
    -- "a reset to a speed above 1, or to 1 with one set lent, gets 16"
    on pair (with_waiting 5 fresh) (BusReset 2 ∷ BusReset 17 ∷ []) (refused 16 ∷ refused 16 ∷ []) (with_waiting 5 fresh) ∷
    on S configured (BusReset 1 ∷ BusReset 0 ∷ []) (refused 16 ∷ done [] ∷ []) fresh ∷
    -- types 6 and 7 by index, wIndex 0; none where one set is lent
    on pair fresh (setup 0x8006010600004000 ∷ setup 0x8006000709044000 ∷ setup 0x8006000800004000 ∷ []) (refused 13 ∷ refused 12 ∷ refused 13 ∷ []) fresh ∷
    on S fresh (qualifier ∷ other_speed ∷ []) (refused 13 ∷ refused 13 ∷ []) fresh ∷ []

tests : List Later
tests =
    -- it waits "as 128 plus the selector in byte 2, Configured included", and is entered at the status end
    on pair (at_high fresh) (test_mode 1 ∷ []) (done [] ∷ []) (with_waiting 129 (at_high fresh)) ∷
    on pair (at_high configured) (test_mode 5 ∷ []) (done [] ∷ []) (with_waiting 133 (at_high configured)) ∷
    on pair (at_high configured) (test_mode 5 ∷ StatusEnd ∷ StatusEnd ∷ []) (done [] ∷ done [] ∷ done [] ∷ []) (with_speed 81 configured) ∷
    -- "is dropped as a waiting address is": by a setup, refused or not, and by a bus reset; not by a setup of another length
    on pair (at_high addressed) (test_mode 4 ∷ vendor ∷ StatusEnd ∷ []) (done [] ∷ refused 10 ∷ done [] ∷ []) (at_high addressed) ∷
    on pair (at_high addressed) (test_mode 4 ∷ setup 0x0005070000000000 ∷ StatusEnd ∷ []) (done [] ∷ done [] ∷ done [] ∷ []) (with_address in_address 7 (at_high fresh)) ∷
    on pair (at_high addressed) (test_mode 4 ∷ BusReset 1 ∷ StatusEnd ∷ []) (done [] ∷ done [] ∷ done [] ∷ []) (at_high fresh) ∷
    on pair (at_high addressed) (test_mode 4 ∷ setup_event [] ∷ Suspend ∷ StatusEnd ∷ []) (done [] ∷ refused 9 ∷ done [] ∷ done [] ∷ []) (with_suspended 1 (with_speed 65 addressed)) ∷
    -- 11 in Default at full speed; 12 for wIndex's low byte; "an invalid selector, or a test mode at full speed outside Default, gets 14"
    on pair fresh (test_mode 1 ∷ []) (refused 11 ∷ []) fresh ∷
    on pair addressed (test_mode 1 ∷ test_mode 9 ∷ setup 0x0003020001010000 ∷ []) (refused 14 ∷ refused 14 ∷ refused 12 ∷ []) addressed ∷
    on pair (at_high fresh) (test_mode 0 ∷ test_mode 6 ∷ setup 0x0003020001010000 ∷ setup 0x0003020000010100 ∷ []) (refused 14 ∷ refused 14 ∷ refused 12 ∷ refused 12 ∷ []) (at_high fresh) ∷
    -- the whole wValue; CLEAR_FEATURE; one set
    on pair (at_high addressed) (setup 0x0003020100010000 ∷ setup 0x0001020000000000 ∷ []) (refused 12 ∷ refused 14 ∷ []) (at_high addressed) ∷
    on S addressed (test_mode 0 ∷ test_mode 1 ∷ []) (refused 14 ∷ refused 12 ∷ []) addressed ∷
    -- once entered: 17, also asleep; "a valid bus reset then gives 0 and changes nothing"; the other events go on
    on pair (with_speed 33 configured) (device ∷ test_mode 1 ∷ vendor ∷ setup_event [] ∷ []) (refused 17 ∷ refused 17 ∷ refused 17 ∷ refused 9 ∷ []) (with_speed 33 configured) ∷
    on pair (with_suspended 1 (with_speed 33 configured)) (BusReset 0 ∷ BusReset 1 ∷ BusReset 2 ∷ []) (done [] ∷ done [] ∷ refused 16 ∷ []) (with_suspended 1 (with_speed 33 configured)) ∷
    on pair (with_suspended 1 (with_speed 33 configured)) (Power 1 ∷ Halt 0x01 ∷ Wake ∷ device ∷ []) (done [] ∷ refused 16 ∷ refused 19 ∷ refused 17 ∷ []) (with_power 1 (with_speed 33 configured)) ∷ []

-- ---- which values of bytes 2 and 7 go together
pub fitting : List (Device × Board)
fitting =
    (with_waiting (test_waiting 1) (at_high configured), pair) ∷ (with_waiting 127 (at_high addressed), pair) ∷ (with_speed (test_entered 5) configured, pair) ∷
    (with_speed (test_entered 1) fresh, pair) ∷ []

pub unfitting : List (Device × Board)
unfitting =
    (with_waiting (test_waiting 1) configured, pair) ∷ (with_waiting (test_waiting 0) (at_high fresh), pair) ∷ (with_waiting (test_waiting 6) (at_high fresh), pair) ∷
    (with_waiting 127 (at_high configured), pair) ∷ (with_waiting 5 (with_speed 17 fresh), pair) ∷ (with_waiting (test_waiting 1) (with_speed 17 fresh), pair) ∷
    (with_speed 2 fresh, pair) ∷ (with_speed 16 fresh, pair) ∷ (with_speed 97 fresh, pair) ∷ (with_speed 1 fresh, S) ∷ (with_speed 17 fresh, S) ∷ (with_waiting 129 addressed, S) ∷ []

pub bytes_together : (map (λ (p : Device × Board). fits_on p.1 p.0) fitting ≡ true ∷ true ∷ true ∷ true ∷ [])
    × (map (λ (p : Device × Board). fits_on p.1 p.0) unfitting ≡ false ∷ false ∷ false ∷ false ∷ false ∷ false ∷ false ∷ false ∷ false ∷ false ∷ false ∷ false ∷ [])
unfolding computed fitting unfitting
bytes_together = (refl, refl)

pub examples : List Later
unfolding speeds tests
examples = speeds ++ tests

pub pairs : map (λ l. ending l.run) examples ≡ map (λ l. l.ends) examples
unfolding computed examples
pairs = refl
