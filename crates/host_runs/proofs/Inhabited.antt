-- The theorems over runs at work: the titrator T, opened, addressed and configured, enumerates again at another address; S, written and exported; a pair at high speed; a driver of T replaced.
use Rattle.octets.proofs.Vocabulary.{◌≡◌, refl, subst, ℕ, List, [], ◌∷◌, ◌++◌, map, List-as-Memᴰ, List·Memᴰ·head, List·Memᴰ·tail, false, length, take, replicate, eqb, arith}
use Rattle.octets.specs.Octets.{Bytes}
use Rattle.octets.specs.Sentences.{pick, any, is_some}
use Rattle.descriptors.specs.Configuration.{bConfigurationValue}
use Rattle.descriptors.specs.Limits.{full_speed}
use Rattle.descriptors.specs.declared.Setting.{Setting}
use Rattle.descriptors.specs.declared.Endpoint.{Endpoint}
use Rattle.sets.specs.Device.{device_body, bNumConfigurations}
use Rattle.sets.specs.Pieces.{Piece, pieces_in}
use Rattle.sets.specs.Opening.{Board, BytesOf, lent, lent_two}
use Rattle.set_writer.specs.Stream.{stream_of}
use Rattle.set_writer.specs.Writer.{set_of}
use Rattle.set_writer.specs.Writer as stream
use Rattle.maker_promises.specs.WrittenExample.{assembled, pieces}
use Rattle.maker_promises.specs.WrittenRuns.{titrator_stream}
use Rattle.records.specs.declared.Device.{Device}
use Rattle.records.specs.Device.{in_configured, in_test_mode, fresh}
use Rattle.records.specs.Image.{device_of, image_of}
use Rattle.records.specs.Current.{set_for, view_at, selected, current_endpoints}
use Rattle.order.specs.Run.{run}
use Rattle.promises.specs.Examples.{computed, bytes, piece, string, S, T}
use Rattle.promises.specs.Inhabited.{octets, bytes_t}
use Rattle.promises.specs.InhabitedOrder.{configured_image}
use Rattle.promises.specs.Pairs.{full, high, pair, bytes_pair}
use Rattle.promises.specs.Refusal.{fresh_image}
use Rattle.promises.specs.Struck.{PageRun}
use Rattle.enumeration.specs.Script.{does, reading, get_descriptor}
use Rattle.enumeration.specs.Bodies.{configuration_body}
use Rattle.enumeration.specs.Enumeration.{enumeration, enumeration_by_transfers, enumerated}
use Rattle.enumeration.specs.Works.{selecting, halting, after_selecting, after_halting}
use Rattle.enumeration.specs.Unasked.{asks_for_test}
use Rattle.board.specs.Exports.{Opens, Spot, Spots, numbered, AnswersPortEvent}
use Rattle.board.specs.Makers.{Writes}
use Rattle.board.specs.Runs.{Call, Given, setup, tell, record_event, event_of, number, handed, Runs, gives, leaves, meets, runs, ends, halt}
use Rattle.board.specs.Unnoticed.{kept, kept_of, Alike}
use Rattle.board.specs.InhabitedRuns.{start, opens, configuring, set_spot, lie, done_alone, configures, whole_run}
use Rattle.board.specs.InhabitedTwo.{opens_two, lie_two}
use Rattle.board.specs.InhabitedPorts.{opened, fresh_sized}
use Rattle.board.specs.InhabitedPorts as ports
use Rattle.board.specs.Records.{as_images}
use Rattle.board.specs.Ports.{PortCall, RowRuns, ended, calls_at}
use Rattle.board.proofs.PortRuns.{port_run}
use Rattle.host_runs.specs.Calls.{seen_given, Played, PlayedFrom, CalledSince, call_of, calls_of}
use Rattle.host_runs.specs.NeverLockedOut.{EnumeratesFrom}
use Rattle.host_runs.specs.Given.{ReadFrom, Collects}
use Rattle.host_runs.proofs.Calls.{are_called}
use Rattle.host_runs.specs.AtPorts.{OwnDevice}
use Rattle.host_runs.proofs.NeverLockedOut.{never_locked_out, never_locked_out_transfers, never_locked_out_one, never_locked_out_unasked, setting_after, endpoint_after}
use Rattle.host_runs.proofs.AtPorts.{ports_are_devices, never_locked_out_at_ports, reads_given_at_ports}
use Rattle.host_runs.proofs.Given.{reads_given, reads_given_two, collects_what_is_exported}
use Rattle.host_runs.proofs.Replaced.{replaced_by_page}

-- ---- computed facts, each by itself
one : bNumConfigurations (device_body (set_for T 0)) ≡ 1
unfolding computed
one = refl

calm : in_test_mode (device_of configured_image) ≡ false
unfolding computed
calm = refl

abbrev again : List Call
again = calls_of (does (enumeration T 0 9 0))

since : CalledSince T lie configured_image
since = record { start = start; image = fresh_image; before = configuring; gave = done_alone ∷ number 0 ∷ done_alone ∷ []; long = refl; opens = opens; run = configures }

abbrev last : List ℕ
last = run (leaves T lie) configured_image again

pub enumerates_again : PlayedFrom (runs T lie configured_image again) (enumeration T 0 9 0) (enumerated 0 9 (bConfigurationValue (configuration_body (set_for T 0) 0)) (device_of configured_image))
enumerates_again = never_locked_out T lie bytes_t configured_image since calm 0 refl 9 (omega arith) (omega arith) 0 (omega (arith, one)) again _ last (are_called (does (enumeration T 0 9 0))) (runs T lie configured_image again)

-- Configured, at address 9, with configuration 1
pub the_end : image_of (enumerated 0 9 (bConfigurationValue (configuration_body (set_for T 0) 0)) (device_of configured_image)) ≡ 2 ∷ 9 ∷ 255 ∷ 1 ∷ replicate 28 0
unfolding computed
the_end = refl

pub transfers_t : EnumeratesFrom enumeration_by_transfers T lie configured_image
transfers_t = never_locked_out_transfers T lie bytes_t configured_image since calm

-- ---- after that run interface 1's setting 1 is chosen, and endpoint 81 is halted and mended
in_state : (device_of configured_image).state ≡ in_configured
unfolding computed
in_state = refl

abbrev setting_one : Setting
setting_one = record { interface = 1; alternate = 1 }

among_settings : List-as-Memᴰ setting_one (selected (view_at T (device_of configured_image)) (device_of configured_image)).settings
unfolding computed
among_settings = List·Memᴰ·tail (List·Memᴰ·tail (List·Memᴰ·tail (List·Memᴰ·head refl)))

pub selects_after : Played T lie configured_image (selecting setting_one) (after_selecting T (device_of configured_image) setting_one)
selects_after = setting_after T lie bytes_t configured_image since calm in_state setting_one among_settings

abbrev bulk81 : Endpoint
bulk81 = record { interface = 0; alternate = 0; address = 0x81; attributes = 2 }

among_endpoints : List-as-Memᴰ bulk81 (current_endpoints (view_at T (device_of configured_image)) (device_of configured_image))
unfolding computed
among_endpoints = List·Memᴰ·head refl

pub halts_after : Played T lie configured_image (halting 0x81) (after_halting (device_of configured_image) 0x81)
halts_after = endpoint_after T lie bytes_t configured_image since calm in_state bulk81 among_endpoints refl

-- ---- T, written from its pieces, the last first, into a buffer of its own length: after that run the host reads string 2 in English as the maker gave it
abbrev the_t : Board
the_t = lent (take (length T.set) T.set) T.serial

wrote_t : Writes full_speed titrator_stream T.serial T.set 0 T.set (length T.set)
unfolding assembled stream_of
wrote_t = record { fills = record { number = refl; bytes = refl }; counts = refl; octets = octets titrator_stream refl }

same_t : T ≡ the_t
unfolding assembled
same_t = refl

abbrev string_two : Piece
string_two = piece 3 2 0x0409 (string (84 ∷ 0 ∷ []))

given_two : List-as-Memᴰ string_two (stream.pieces titrator_stream)
unfolding assembled stream_of
given_two = List·Memᴰ·tail (List·Memᴰ·head refl)

pub reads_string_two : ReadFrom the_t lie configured_image 3 2 0x0409 255 (bytes 4 0x04035400)
reads_string_two = reads_given titrator_stream T.serial T.set T.set (length T.set) wrote_t lie configured_image (subst (λ (b : Board). CalledSince b lie configured_image) same_t since)
    string_two given_two 255 (omega arith)

pub collects_t : Collects T.set T.serial lie configured_image
collects_t = collects_what_is_exported T.set T.serial lie bytes_t.0 configured_image since

-- ---- the bench set S, written from its two pieces, configuration first, into a buffer of 63 bytes; then opened: the host reads the device descriptor that the maker gave
bytes_given : Bytes pieces
unfolding assembled
bytes_given = octets pieces refl

wrote_s : Writes full_speed pieces [] (replicate 63 0) 0 S.set 63
unfolding assembled
wrote_s = record { fills = record { number = refl; bytes = refl }; counts = refl; octets = bytes_given }

abbrev device : Piece
device = record { kind = 1; index = 0; language = 0; body = bytes 18 0x12010002FF00000834127856000100000001 }

given : List-as-Memᴰ device (stream.pieces pieces)
unfolding assembled
given = List·Memᴰ·tail (List·Memᴰ·head refl)

abbrev written : Board
written = lent (take 63 S.set) []

opens_s : Opens written start 0 fresh_image
unfolding computed
opens_s = record { number = refl; leaves = refl }

abbrev asks : Call
asks = call_of (get_descriptor 1 0 0 64)

since_s : CalledSince written lie fresh_image
since_s = record { start = start; image = fresh_image; before = []; gave = []; long = refl; opens = opens_s; run = ends }

pub reads_device : seen_given (gives written lie fresh_image asks) ≡ reading (bytes 18 0x12010002FF00000834127856000100000001)
reads_device = reads_given pieces [] (replicate 63 0) S.set 63 wrote_s lie fresh_image since_s device given 64 (omega arith) asks _ _ refl (meets written lie fresh_image asks)

bytes_set : Bytes (take 63 S.set)
unfolding computed
bytes_set = octets (take 63 S.set) refl

-- ---- what a host collects of S is what hk_export writes of it
pub collects_s : Collects (take 63 S.set) [] lie fresh_image
collects_s = collects_what_is_exported (take 63 S.set) [] lie bytes_set fresh_image since_s

-- ---- S, written and opened, enumerates
pub enumerates_s : EnumeratesFrom enumeration written lie fresh_image
enumerates_s = never_locked_out_one (take 63 S.set) [] lie bytes_set fresh_image since_s

calm_fresh : in_test_mode (device_of fresh_image) ≡ false
unfolding computed
calm_fresh = refl

pub transfers_s : EnumeratesFrom enumeration_by_transfers written lie fresh_image
transfers_s = never_locked_out_transfers written lie (bytes_set, tt) fresh_image since_s calm_fresh

-- ---- S at the second of two ports: there too the host reads what was written
abbrev spots : ℕ → Spots
spots k = lie

opens_port_s : Opens written start 0 (image_of fresh)
unfolding computed
opens_port_s = record { number = refl; leaves = refl }

pub reads_at_port : (n : ℕ) (next : List Device) (handed_back : List ℕ) (count : ℕ) (shown : List ℕ) (spot : Spot)
    → AnswersPortEvent written lie opened 1 (numbered 0 0 (bytes 8 0x8006000100004000)) n next handed_back count shown spot
    → seen_given (handed n handed_back count shown spot) ≡ reading (bytes 18 0x12010002FF00000834127856000100000001)
reads_at_port = reads_given_at_ports pieces (replicate 63 0) S.set 63 (λ (k : ℕ). []) spots 1 wrote_s opened
    (record { start = start; row = opened; before = []; gave = []; long = refl; opens = opens_port_s; sized = fresh_sized; within = omega arith; run = ended })
    device given 64 (omega arith) 0 0 (bytes 8 0x8006000100004000) refl

-- ---- the second of two titrators at ports, after a run at both: a device of its own
abbrev titrators : ℕ → Board
titrators k = T

pub titrator_at_port : {last : List Device} {gs : List Given} → RowRuns titrators spots opened ports.whole_run gs last → OwnDevice titrators spots 1 last
unfolding computed
titrator_at_port {last} {gs} r = ports_are_devices titrators spots 1 bytes_t last
    (record { start = start; row = opened; before = ports.whole_run; gave = gs; long = refl; opens = ports.opens; sized = fresh_sized; within = omega arith; run = r })

-- and it enumerates, by any calls at both ports whose events at this one are the script's
pub enumerates_at_port : (cs : List PortCall) (gs : List Given) (final : List Device) → map event_of (calls_at 1 cs) ≡ does (enumeration T 0 9 0)
    → (r : RowRuns titrators spots opened cs gs final)
    → PlayedFrom (as_images T lie bytes_t fresh_sized (port_run titrators spots 1 (omega arith) r)).0 (enumeration T 0 9 0)
    (enumerated 0 9 (bConfigurationValue (configuration_body (set_for T 0) 0)) fresh)
enumerates_at_port = never_locked_out_at_ports titrators spots 1 bytes_t opened
    (record { start = start; row = opened; before = []; gave = []; long = refl; opens = ports.opens; sized = fresh_sized; within = omega arith; run = ended })
    refl 0 refl 9 (omega arith) (omega arith) 0 (omega (arith, one)) fresh_sized (omega arith)

-- ---- a pair was reset to high speed, and enumerates at either
abbrev high_image : List ℕ
high_image = 0 ∷ 0 ∷ 255 ∷ 0 ∷ 0 ∷ 0 ∷ 0 ∷ 1 ∷ replicate 24 0

to_high : Runs pair lie_two fresh_image (record_event 2 1 [] ∷ []) (handed 0 (0 ∷ 0 ∷ []) 0 [] set_spot ∷ []) high_image
unfolding computed
to_high = runs pair lie_two fresh_image (record_event 2 1 [] ∷ [])

unasked : any (λ c. asks_for_test (is_some pair.high) (event_of c)) (record_event 2 1 [] ∷ []) ≡ false
unfolding computed
unasked = refl

abbrev since_pair : CalledSince pair lie_two high_image
since_pair = record { start = start; image = fresh_image; before = record_event 2 1 [] ∷ []; gave = handed 0 (0 ∷ 0 ∷ []) 0 [] set_spot ∷ []; long = refl; opens = opens_two; run = to_high }

calm_high : in_test_mode (device_of high_image) ≡ false
unfolding computed
calm_high = refl

pub transfers_pair : EnumeratesFrom enumeration_by_transfers pair lie_two high_image
transfers_pair = never_locked_out_transfers pair lie_two bytes_pair high_image since_pair calm_high

pub enumerates_pair : EnumeratesFrom enumeration pair lie_two high_image
enumerates_pair = never_locked_out_unasked pair lie_two bytes_pair high_image since_pair unasked

-- ---- the same pair, each set written from its pieces: at high speed the host reads the device_qualifier that the maker gave
abbrev slow : List ℕ
slow = stream_of (pieces_in full)

abbrev fast : List ℕ
fast = stream_of (pieces_in high)

written_pair : pair ≡ lent_two (set_of slow) (set_of fast) []
unfolding assembled stream_of
written_pair = refl

abbrev qualifier : Piece
qualifier = record { kind = 6; index = 0; language = 0; body = bytes 10 0x0A060002000000400100 }

qualifier_given : List-as-Memᴰ qualifier (stream.pieces fast)
unfolding assembled stream_of
qualifier_given = List·Memᴰ·tail (List·Memᴰ·tail (List·Memᴰ·head refl))

in_use : (device_of high_image).speed ≡ 1
unfolding computed
in_use = refl

of_the_set_in_use : List-as-Memᴰ qualifier (stream.pieces (pick (eqb (device_of high_image).speed 0) slow fast))
of_the_set_in_use = rw in_use qualifier_given

pub reads_qualifier : ReadFrom (lent_two (set_of slow) (set_of fast) []) lie_two high_image 6 0 0 64 (bytes 10 0x0A060002000000400100)
reads_qualifier = reads_given_two slow fast [] (subst BytesOf written_pair bytes_pair) lie_two high_image (subst (λ (b : Board). CalledSince b lie_two high_image) written_pair since_pair) calm_high
    qualifier of_the_set_in_use 64 (omega arith)

-- ---- replacement: interface 0's driver lets a packet pass at 81, or halts 02 twice instead: interface 1's SET_INTERFACE and halt are given the same
abbrev instead : List Call
instead = configuring ++ tell (halt 0x02) ∷ setup (bytes 8 0x010B010001000000) ∷ tell (halt 0x02) ∷ tell (halt 0x85) ∷ []

same_left : kept T lie 1 fresh_image whole_run ≡ kept T lie 1 fresh_image instead
unfolding computed
same_left = refl

abbrev Page : List Call → Type 0
Page cs = PageRun T 1 device_of event_of (leaves T lie) false fresh_image cs

page_one : Page whole_run
unfolding computed
page_one = (λ p. (refl, λ q. refl), (λ p. (refl, λ q. refl), (λ p. (refl, λ q. refl), (λ p. (refl, λ q. refl), (λ p. (refl, λ q. refl), (λ p. (refl, λ q. refl), tt))))))

page_two : Page instead
unfolding computed
page_two = (λ p. (refl, λ q. refl), (λ p. (refl, λ q. refl), (λ p. (refl, λ q. refl), (λ p. (refl, λ q. refl), (λ p. (refl, λ q. refl), (λ p. (refl, λ q. refl), (λ p. (refl, λ q. refl), tt)))))))

pub replaced_t : (kept_of T lie 1 (runs T lie fresh_image whole_run) ≡ kept_of T lie 1 (runs T lie fresh_image instead))
    × Alike T lie 1 (run (leaves T lie) fresh_image whole_run) (run (leaves T lie) fresh_image instead)
replaced_t = replaced_by_page T lie 1 bytes_t start fresh_image refl opens whole_run instead _ _ _ _ (runs T lie fresh_image whole_run) page_one (runs T lie fresh_image instead) page_two same_left
