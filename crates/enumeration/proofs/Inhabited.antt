-- The theorems at work: the bench set S, the titrator T with its strings, and a pair at both speeds; the scripts written out, by computing.
use Rattle.octets.proofs.Vocabulary.{◌≡◌, refl, subst, ℕ, ◌^◌, List, [], ◌∷◌, ◌++◌, map, List-as-Memᴰ, List·Memᴰ·head, List·Memᴰ·tail, true, false, replicate, arith, eqb-true}
use Rattle.descriptors.specs.Limits.{full_speed}
use Rattle.descriptors.specs.Configuration.{configuration_of, bConfigurationValue, bit_of}
use Rattle.descriptors.specs.declared.Setting.{Setting}
use Rattle.descriptors.specs.declared.Endpoint.{Endpoint}
use Rattle.sets.specs.Device.{device_body, bNumConfigurations}
use Rattle.sets.specs.Pieces.{Piece, pieces_in}
use Rattle.sets.specs.Opening.{lent, opening}
use Rattle.sets.specs.Pair.{opening_two}
use Rattle.set_writer.proofs.ReadBack.{read_back}
use Rattle.records.specs.declared.Device.{Device}
use Rattle.records.specs.Device.{zeros, fresh, in_test_mode, with_power, with_suspended, with_speed, with_endpoints}
use Rattle.records.specs.Current.{set_for, view_at, selected, current_endpoints}
use Rattle.enumeration.specs.Bodies.{configuration_body}
use Rattle.events.specs.declared.Event.{Event}
use Rattle.events.specs.declared.Event.TheVariants.{StatusEnd, BusReset, PacketPassed}
use Rattle.promises.specs.Rearranged.{after}
use Rattle.promises.specs.Examples.{computed, bytes, piece, string, titrator_device, titrator_configuration, titrator_strings, S, T}
use Rattle.promises.specs.Bench.{setup}
use Rattle.promises.specs.Inhabited.{accepted_s, bytes_s, accepted_t, bytes_t, configured, busy, busy_fits}
use Rattle.promises.specs.Pairs.{full, high, pair, accepted_pair, bytes_pair}
use Rattle.enumeration.specs.Script.{Line, line, reading, done, Plays, get_descriptor, Ready}
use Rattle.enumeration.specs.Enumeration.{other_lines, zero_lines, string_lines, enumeration, enumeration_by_transfers, enumerated}
use Rattle.enumeration.specs.Works.{halting, visiting, after_halting, after_visiting, Chosen, Mended}
use Rattle.enumeration.proofs.Enumerates.{enumerates, enumerates_by_transfers}
use Rattle.enumeration.proofs.Boards.{enumerates_one, enumerates_two}
use Rattle.enumeration.specs.Toggles.{Book, new_book, Agrees, book_after}
use Rattle.enumeration.specs.Checklist.{Passes}
use Rattle.enumeration.proofs.Toggles.{never_drift_from_opening, never_drift_from_reset}
use Rattle.enumeration.proofs.Checklist.{checklist}
use Rattle.enumeration.proofs.Settings.{every_setting, every_endpoint}
use Rattle.enumeration.proofs.Tour.{tours}
use Rattle.enumeration.proofs.EveryPiece.{every_piece}
use Rattle.enumeration.proofs.Reading.{Reads}

-- ---- the bench set S: the script, in the bytes of document 01
pub script_s : enumeration S 0 5 0 ≡
    line (BusReset 0) done ∷
    line (setup 0x8006000100000800) (reading (bytes 8 0x12010002FF000008)) ∷
    line (setup 0x8006000100004000) (reading (bytes 18 0x12010002FF00000834127856000100000001)) ∷
    line (setup 0x8006000100001200) (reading (bytes 18 0x12010002FF00000834127856000100000001)) ∷
    line (setup 0x0005050000000000) done ∷
    line StatusEnd done ∷
    line (setup 0x8006000200000900) (reading (bytes 9 0x090219000101008032)) ∷
    line (setup 0x8006000200001900) (reading (bytes 25 0x090219000101008032_0904000001FF000000_0705810308000A)) ∷
    line (setup 0x0009010000000000) done ∷ []
unfolding computed
script_s = refl

-- a record after much: Configured at address 5, endpoint 81 halted with its toggle up, suspended, on its own supply
abbrev pub used : Device
used = with_suspended 1 (with_power 1 (with_endpoints zeros (2 ^ 17) (2 ^ 17) configured))

used_ready : Ready S used
unfolding computed
used_ready = record { fit = refl; sized = record { sixteen = refl; halts-fit = omega arith; toggles-fit = omega arith }; calm = refl }

one_s : bNumConfigurations (device_body (set_for S 0)) ≡ 1
unfolding computed
one_s = refl

value_s : bConfigurationValue (configuration_body (set_for S 0) 0) ≡ 1
unfolding computed
value_s = refl

pub enumerates_s : Plays S used (enumeration S 0 9 0) (enumerated 0 9 1 used)
enumerates_s = subst (λ (value : ℕ). Plays S used (enumeration S 0 9 0) (enumerated 0 9 value used)) value_s
    (enumerates S bytes_s accepted_s used used_ready 0 refl 9 (omega arith) (omega arith) 0 (omega (arith, one_s)))

pub transfers_s : Plays S used (enumeration_by_transfers S 0 9 0) (enumerated 0 9 1 used)
transfers_s = subst (λ (value : ℕ). Plays S used (enumeration_by_transfers S 0 9 0) (enumerated 0 9 value used)) value_s
    (enumerates_by_transfers S bytes_s accepted_s used used_ready 0 refl 9 (omega arith) (omega arith) 0 (omega (arith, one_s)))

-- its end
pub end_s : enumerated 0 9 1 used ≡ record { state = 2; address = 9; waiting = 255; configuration = 1; wakeup = 0; power = 1; suspended = 0; speed = 0; alternates = replicate 16 0; halts = 0; toggles = 0 }
end_s = refl

-- endpoint 81, its only one, is halted and cleared
abbrev endpoint81 : Endpoint
endpoint81 = record { interface = 0; alternate = 0; address = 0x81; attributes = 3 }

endpoints_s : current_endpoints (view_at S used) used ≡ endpoint81 ∷ []
unfolding computed
endpoints_s = refl

pub halts_s : Plays S used (halting 0x81) (after_halting used 0x81)
halts_s = (every_endpoint S bytes_s accepted_s used used_ready refl endpoint81 (rw endpoints_s (List·Memᴰ·head refl)) refl).plays

pub halts_end : after_halting used 0x81 ≡ with_power 1 configured
halts_end = refl

-- its only setting, chosen anew, and the whole tour
abbrev first : Setting
first = record { interface = 0; alternate = 0 }

settings_s : (selected (view_at S used) used).settings ≡ first ∷ []
unfolding computed
settings_s = refl

pub selects_s : Chosen S used first
selects_s = every_setting S bytes_s accepted_s used used_ready refl first (rw settings_s (List·Memᴰ·head refl))

pub tours_s : (let settings = (configuration_of (configuration_body (set_for S 0) 0)).settings in
    Plays S used (enumeration S 0 9 0 ++ visiting settings) (after_visiting S (enumerated 0 9 (bConfigurationValue (configuration_body (set_for S 0) 0)) used) settings))
tours_s = tours S bytes_s accepted_s used used_ready 0 refl 9 (omega arith) (omega arith) 0 (omega (arith, one_s))

-- written out for one set, of its bytes alone
opens_s : opening full_speed (lent S.set []) ≡ 0
opens_s = eqb-true (opening full_speed S) 0 accepted_s

count_s : bNumConfigurations (device_body S.set) ≡ 1
unfolding computed
count_s = refl

pub enumerates_one_s : Plays S used (enumeration S 0 9 0) (enumerated 0 9 (bConfigurationValue (configuration_body S.set 0)) used)
enumerates_one_s = enumerates_one S.set [] bytes_s.0 opens_s used used_ready.sized used_ready.fit 9 (omega arith) (omega arith) 0 (omega (arith, count_s))

-- ---- the titrator T: its strings, in German and in English; string 3 is the serial number's
pub strings_t : map (λ (l : Line). l.1.reads) (zero_lines T.set ++ string_lines T 0) ≡
    bytes 6 0x060307040904 ∷
    bytes 4 0x04034800 ∷ bytes 4 0x04035400 ∷ bytes 4 0x04033700 ∷ bytes 4 0x04034800 ∷ bytes 4 0x04035400 ∷ bytes 4 0x04035400 ∷
    bytes 4 0x04034800 ∷ bytes 4 0x04035400 ∷ bytes 4 0x04033700 ∷ bytes 4 0x04034800 ∷ bytes 4 0x04035400 ∷ bytes 4 0x04035400 ∷ []
unfolding computed
strings_t = refl

busy_ready : Ready T busy
busy_ready = record { fit = busy_fits; sized = record { sixteen = refl; halts-fit = omega arith; toggles-fit = omega arith }; calm = refl }

one_t : bNumConfigurations (device_body (set_for T 0)) ≡ 1
unfolding computed
one_t = refl

pub enumerates_t : Plays T busy (enumeration T 0 127 0) (enumerated 0 127 (bConfigurationValue (configuration_body (set_for T 0) 0)) busy)
enumerates_t = enumerates T bytes_t accepted_t busy busy_ready 0 refl 127 (omega arith) (omega arith) 0 (omega (arith, one_t))

-- its four settings; from setting 1 of both interfaces, with halts, back to setting 0 of the first
settings_t : (selected (view_at T busy) busy).settings ≡
    record { interface = 0; alternate = 0 } ∷ record { interface = 0; alternate = 1 } ∷ record { interface = 1; alternate = 0 } ∷ record { interface = 1; alternate = 1 } ∷ []
unfolding computed
settings_t = refl

pub selects_t : Chosen T busy first
selects_t = every_setting T bytes_t accepted_t busy busy_ready refl first (rw settings_t (List·Memᴰ·head refl))

-- endpoint 85, of its interface 1's setting 1, is halted and mended
abbrev endpoint85 : Endpoint
endpoint85 = record { interface = 1; alternate = 1; address = 0x85; attributes = 3 }

endpoints_t : List-as-Memᴰ endpoint85 (current_endpoints (view_at T busy) busy)
unfolding computed
endpoints_t = List·Memᴰ·tail (List·Memᴰ·tail (List·Memᴰ·tail (List·Memᴰ·tail (List·Memᴰ·head refl))))

pub halts_t : Mended T busy endpoint85
halts_t = every_endpoint T bytes_t accepted_t busy busy_ready refl endpoint85 endpoints_t refl

pub transfers_t : Plays T busy (enumeration_by_transfers T 0 127 0) (enumerated 0 127 (bConfigurationValue (configuration_body (set_for T 0) 0)) busy)
transfers_t = enumerates_by_transfers T bytes_t accepted_t busy busy_ready 0 refl 127 (omega arith) (omega arith) 0 (omega (arith, one_t))

-- the whole tour of T: enumerated at address 9, then each of its settings in turn
pub tours_t : Plays T busy (enumeration T 0 9 0 ++ visiting (configuration_of (configuration_body (set_for T 0) 0)).settings)
    (after_visiting T (enumerated 0 9 (bConfigurationValue (configuration_body (set_for T 0) 0)) busy) (configuration_of (configuration_body (set_for T 0) 0)).settings)
tours_t = tours T bytes_t accepted_t busy busy_ready 0 refl 9 (omega arith) (omega arith) 0 (omega (arith, one_t))

-- string 5, which no descriptor of T names: it is there in English, and read
abbrev five : Piece
five = piece 3 5 0x0409 (string [])

among : List-as-Memᴰ five (pieces_in (set_for T 0))
among = rw (read_back (titrator_device ∷ titrator_configuration ∷ titrator_strings)) (List·Memᴰ·tail (List·Memᴰ·tail (List·Memᴰ·tail (List·Memᴰ·tail (List·Memᴰ·tail (List·Memᴰ·tail (List·Memᴰ·tail (List·Memᴰ·head refl))))))))

pub reads_five : Reads T busy (get_descriptor 3 5 0x0409 255) (bytes 2 0x0203)
reads_five = every_piece T bytes_t accepted_t busy_ready five among 255 (omega arith)

-- ---- a pair, at both speeds
on_pair : Ready pair (with_speed 1 configured)
unfolding computed
on_pair = record { fit = refl; sized = record { sixteen = refl; halts-fit = omega arith; toggles-fit = omega arith }; calm = refl }

one_pair : (bNumConfigurations (device_body (set_for pair 0)) ≡ 1) × (bNumConfigurations (device_body (set_for pair 1)) ≡ 1)
unfolding computed
one_pair = (refl, refl)

pub enumerates_high : Plays pair (with_speed 1 configured) (enumeration pair 1 7 0) (enumerated 1 7 (bConfigurationValue (configuration_body (set_for pair 1) 0)) (with_speed 1 configured))
enumerates_high = enumerates pair bytes_pair accepted_pair (with_speed 1 configured) on_pair 1 refl 7 (omega arith) (omega arith) 0 (omega (arith, one_pair.1))

pub enumerates_full : Plays pair (with_speed 1 configured) (enumeration pair 0 7 0) (enumerated 0 7 (bConfigurationValue (configuration_body (set_for pair 0) 0)) (with_speed 1 configured))
enumerates_full = enumerates pair bytes_pair accepted_pair (with_speed 1 configured) on_pair 0 refl 7 (omega arith) (omega arith) 0 (omega (arith, one_pair.0))

pub transfers_high : Plays pair (with_speed 1 configured) (enumeration_by_transfers pair 1 7 0) (enumerated 1 7 (bConfigurationValue (configuration_body (set_for pair 1) 0)) (with_speed 1 configured))
transfers_high = enumerates_by_transfers pair bytes_pair accepted_pair (with_speed 1 configured) on_pair 1 refl 7 (omega arith) (omega arith) 0 (omega (arith, one_pair.1))

-- written out for two sets, of their bytes alone
opens_pair : opening_two full high [] ≡ 0
opens_pair = eqb-true (opening_two full high []) 0 accepted_pair

count_high : bNumConfigurations (device_body high) ≡ 1
unfolding computed
count_high = refl

pub enumerates_two_pair : Plays pair (with_speed 1 configured) (enumeration pair 1 7 0) (enumerated 1 7 (bConfigurationValue (configuration_body high 0)) (with_speed 1 configured))
enumerates_two_pair = enumerates_two full high [] bytes_pair.0 bytes_pair.1 opens_pair (with_speed 1 configured) on_pair.sized on_pair.fit refl 1 (omega arith) 7 (omega arith) (omega arith) 0 (omega (arith, count_high))

-- at high speed its setting is chosen, and its bulk endpoint 81 is halted and mended
settings_pair : (selected (view_at pair (with_speed 1 configured)) (with_speed 1 configured)).settings ≡ first ∷ []
unfolding computed
settings_pair = refl

pub selects_pair : Chosen pair (with_speed 1 configured) first
selects_pair = every_setting pair bytes_pair accepted_pair (with_speed 1 configured) on_pair refl first (rw settings_pair (List·Memᴰ·head refl))

abbrev bulk81 : Endpoint
bulk81 = record { interface = 0; alternate = 0; address = 0x81; attributes = 2 }

endpoints_pair : current_endpoints (view_at pair (with_speed 1 configured)) (with_speed 1 configured) ≡ bulk81 ∷ []
unfolding computed
endpoints_pair = refl

pub halts_pair : Mended pair (with_speed 1 configured) bulk81
halts_pair = every_endpoint pair bytes_pair accepted_pair (with_speed 1 configured) on_pair refl bulk81 (rw endpoints_pair (List·Memᴰ·head refl)) refl

-- and each of its settings in turn
pub tours_high : (let settings = (configuration_of (configuration_body (set_for pair 1) 0)).settings in
    Plays pair (with_speed 1 configured) (enumeration pair 1 7 0 ++ visiting settings)
    (after_visiting pair (enumerated 1 7 (bConfigurationValue (configuration_body (set_for pair 1) 0)) (with_speed 1 configured)) settings))
tours_high = tours pair bytes_pair accepted_pair (with_speed 1 configured) on_pair 1 refl 7 (omega arith) (omega arith) 0 (omega (arith, one_pair.1))

-- at high speed, what it reads of the other speed: the qualifier, and the configuration with its type 7
pub other_pair : other_lines (set_for pair 0) ≡
    line (setup 0x8006000600000A00) (reading (bytes 10 0x0A060002000000400100)) ∷
    line (setup 0x8006000700000900) (reading (bytes 9 0x090719000101018032)) ∷
    line (setup 0x8006000700001900) (reading (bytes 25 0x090719000101018032_0904000001FF000000_07058102400000)) ∷ []
unfolding computed
other_pair = refl

-- ---- toggles: S from its opening, addressed, configured, and a packet that passes at 81; then the host's toggle is up, and so is the record's
abbrev passes_s : List Event
passes_s = setup 0x0005050000000000 ∷ StatusEnd ∷ setup 0x0009010000000000 ∷ PacketPassed 0x81 ∷ []

calm_s : in_test_mode (after S fresh passes_s) ≡ false
unfolding computed
calm_s = refl

pub agrees_s : Agrees S (book_after S (new_book 0) fresh passes_s) (after S fresh passes_s)
agrees_s = never_drift_from_opening S bytes_s accepted_s passes_s calm_s

pub up_s : (book_after S (new_book 0) fresh passes_s).toggles (bit_of 0x81) ≡ true
unfolding computed
up_s = refl

-- T from a reset, whatever the host had in its book: 81 and 02 pass, interface 0 is set anew, 81 passes again: 81 is up and 02 down
abbrev passes_t : List Event
passes_t = passes_s ++ PacketPassed 0x02 ∷ setup 0x010B010000000000 ∷ PacketPassed 0x81 ∷ []

calm_t : in_test_mode (after T busy (BusReset 0 ∷ passes_t)) ≡ false
unfolding computed
calm_t = refl

pub agrees_t : (h : Book) → Agrees T (book_after T h busy (BusReset 0 ∷ passes_t)) (after T busy (BusReset 0 ∷ passes_t))
agrees_t h = never_drift_from_reset T bytes_t accepted_t busy busy_ready h 0 refl passes_t calm_t

pub up_t : (h : Book) → ((book_after T h busy (BusReset 0 ∷ passes_t)).toggles (bit_of 0x81) ≡ true) × ((book_after T h busy (BusReset 0 ∷ passes_t)).toggles (bit_of 0x02) ≡ false)
unfolding computed
up_t h = (refl, refl)

-- the pair, reset to high speed
calm_pair : in_test_mode (after pair (with_speed 1 configured) (BusReset 1 ∷ passes_s)) ≡ false
unfolding computed
calm_pair = refl

pub agrees_pair : (h : Book) → Agrees pair (book_after pair h (with_speed 1 configured) (BusReset 1 ∷ passes_s)) (after pair (with_speed 1 configured) (BusReset 1 ∷ passes_s))
agrees_pair h = never_drift_from_reset pair bytes_pair accepted_pair (with_speed 1 configured) on_pair h 1 refl passes_s calm_pair

-- ---- chapter 9's checklist
pub pass_s : Passes S used
pass_s = checklist S bytes_s accepted_s used used_ready

pub pass_t : Passes T busy
pass_t = checklist T bytes_t accepted_t busy busy_ready

pub pass_pair : Passes pair (with_speed 1 configured)
pass_pair = checklist pair bytes_pair accepted_pair (with_speed 1 configured) on_pair
