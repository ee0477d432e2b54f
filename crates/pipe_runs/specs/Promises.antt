-- THE PROMISES of the pipe (docs/PIPE.md, 50 to 57), for every run by any host and any application, the board's other events between the pipe's. The first, PIPE 50, is the
-- exports' contract; the other seven stand here, proved in proofs/Promises and applied in proofs/Inhabited.
use Rattle.std.specs.Prelude.{ℕ, ◌+◌, ◌≤◌, ◌<◌, ◌≡◌, ◌⊎◌, true, false, not, List, [], ◌∷◌, ◌++◌, length, take}
use Rattle.octets.specs.Octets.{Bytes}
use Rattle.octets.specs.Sentences.{pick, only, is_some}
use Rattle.descriptors.specs.Configuration.{bConfigurationValue}
use Rattle.sets.specs.Device.{device_body, bNumConfigurations}
use Rattle.sets.specs.Opening.{Board, BytesOf}
use Rattle.sets.specs.View.{accepted}
use Rattle.records.specs.Device.{nothing, in_test_mode}
use Rattle.records.specs.Image.{device_of}
use Rattle.records.specs.Current.{set_for}
use Rattle.requests.specs.Table.{setup_of}
use Rattle.events.specs.declared.Event.{Event}
use Rattle.events.specs.declared.Event.TheVariants.{StatusEnd}
use Rattle.events.specs.Step.{good_reset}
use Rattle.order.specs.Run.{All}
use Rattle.promises.specs.Keeps.{FitImage}
use Rattle.promises.specs.Rearranged.{Rearranged, image_heard}
use Rattle.pipes.specs.declared.Transfer.{Transfer}
use Rattle.pipes.specs.declared.Wire.{Wire}
use Rattle.pipes.specs.declared.Wire.TheVariants.{Taken, Received, Reply}
use Rattle.pipes.specs.Transfer as pipe
use Rattle.pipes.specs.Transfer.{idle, data_in, status_out, status_in, in_reply, send, await, receive, stall}
use Rattle.pipes.specs.Image.{transfer_of, image_of, fits_in}
use Rattle.pipes.specs.Turns.{may_reply}
use Rattle.pipes.specs.Pipe.{Told, Records, Heard, lengths_of, packet_size, heard}
use Rattle.enumeration.specs.Bodies.{configuration_body}
use Rattle.enumeration.specs.Enumeration.{device_lines, enumerated}
use Rattle.pipe_runs.specs.Runs.{Happening, on_wire, beside, leaves, leaves_by, after, heard_in, power_on, Resting, a_setup, answered_with, is_setup_packet, is_quiet, ends_at, events_at, events_in, device_after, number_after, tells_end, no_end}
use Rattle.pipe_runs.specs.Packets.{reply_to, Within, Begins}
use Rattle.pipe_runs.specs.Addresses.{Readdresses}
use Rattle.pipe_runs.specs.Host.{keeps_to, PlaysOnWire, ReadsWhole, read_lines, size_for, enumeration_on_wire, at_rest}

-- ---- PIPE 51: "Nothing else moves the device. The device record after a run is that of the library's own events: a setup at each SETUP, a status end at each transfer that has ended,
-- a reset at each reset, and no other"; and the board's other events, told beside the pipe
abbrev pub NothingElseMoves : Type 0
NothingElseMoves = (b : Board) (r : Records) (es : List Happening) → (after b r es).image ≡ device_after b r.image (events_in b r es)

-- and the number of an event is that of its library event, 0 where it has none
abbrev pub NumbersAreTheLibrarys : Type 0
NumbersAreTheLibrarys =
    (b : Board) (r : Records) (e : Told) → fits_in (lengths_of b r.image e.reply) r.pipe ≡ true → (heard b r e).number ≡ number_after b r.image (events_at b r e)

-- "So demands 1 to 3 hold from packet to packet." Demand 3: in Configured, with nothing waiting, two runs whose setups concern interfaces, the same ones in the same order for each
-- interface, leave the same device record, and each interface's setups are answered the same
abbrev pub requests_in : Board → Records → List Happening → List Event
requests_in b r es = only (λ (e : Event). not (tells_end e)) (events_in b r es)

abbrev pub OrderDoesNotCount : Type 0
OrderDoesNotCount =
    (b : Board) → BytesOf b → accepted b ≡ true
    → (r : Records) → FitImage b r.image → (device_of r.image).waiting ≡ nothing
    → (es fs : List Happening) → Rearranged b (device_of r.image) (requests_in b r es) (requests_in b r fs)
    → ((after b r es).image ≡ (after b r fs).image)
    × ((k : ℕ) → image_heard b r.image k (requests_in b r es) ≡ image_heard b r.image k (requests_in b r fs))

-- ---- PIPE 52: "What the host reads is the reply, where 44 and 45 are kept. The k-th packet that is handed over is the cutter's packet k, each once, in order, none after the last;
-- what the host has taken is the beginning of the reply, and all of it when await was ordered." Of a SETUP that is answered 0 and asks for bytes, whatever follows but a SETUP and a
-- reset
abbrev pub ReadsTheReply : Type 0
ReadsTheReply =
    (b : Board) (r : Records) (setup reply : List ℕ) → length r.pipe ≡ 16 → length setup ≡ 8 → Bytes setup
    → answered_with b r.image setup ≡ 0 → ((setup_of setup).wLength ≡ 0 → ⊥)
    → (es : List Happening) → All (Within reply) es
    → Begins b r (on_wire (a_setup setup reply) ∷ es) (reply_to b r.image setup) (setup_of setup).wLength (packet_size b r.image)

-- the same of the application's reply, asked about a setup that reads: its first wLength bytes
abbrev pub ReadsTheApplications : Type 0
ReadsTheApplications =
    (b : Board) (r : Records) (reply : List ℕ) → Bytes r.pipe → fits_in (lengths_of b r.image reply) r.pipe ≡ true → may_reply (transfer_of r.pipe) ≡ true
    → (es : List Happening) → All (Within reply) es
    → (let t = transfer_of r.pipe in Begins b r (on_wire (record { wire = Reply; setup = []; reply = reply }) ∷ es) (take t.asked reply) t.asked t.size)

-- ---- PIPE 53: "An address is taken at the end of its own status stage, and never otherwise, in runs from idle or stalled: the address byte changes only at a taken in status in
-- after a SET_ADDRESS that was answered with 0, with no SETUP of 8 bytes and no reset answered with 0 since; or at a reset"
abbrev pub OwnAddress : Type 0
OwnAddress = (b : Board) (r : Records) → Resting r.pipe → (es : List Happening) (h : Happening) → Readdresses b (after b r es) h

-- ---- PIPE 54: "A status end is told once for each transfer that ended, and never for one that was dropped."
-- a transfer ends at a packet taken in status in, or at an empty packet in data in and status out
pub data EndsBy (t : Transfer) : Wire → Type 0 where
  by_taken : t.stage ≡ status_in → EndsBy t Taken
  by_empty : (t.stage ≡ data_in) ⊎ (t.stage ≡ status_out) → EndsBy t (Received 0)

-- then one status end is told, the pipe is idle, and until the next SETUP or reset no other is told
pub record ToldOnce (b : Board) (r : Records) (e : Told) : Type 0 where
  pub how : EndsBy (transfer_of r.pipe) e.wire
  pub told : events_at b r e ≡ StatusEnd ∷ []
  pub rests : (leaves b r e).pipe ≡ image_of idle
  pub once : (es : List Happening) → All is_quiet es → All no_end (events_in b (leaves b r e) es)

abbrev pub OncePerTransfer : Type 0
OncePerTransfer = (b : Board) (r : Records) (e : Told) → ends_at b r e ≡ true → ToldOnce b r e

-- none is told at any other event: so not at the SETUP and the reset by which a transfer is dropped
abbrev pub NeverForADropped : Type 0
NeverForADropped = (b : Board) (r : Records) (e : Told) → ends_at b r e ≡ false → All no_end (events_at b r e)

-- so from power-on there are never more status ends than SETUPs
abbrev pub ends_in : List Event → ℕ
ends_in [] = 0
ends_in (e ∷ es) = pick (tells_end e) 1 0 + ends_in es

abbrev pub setups_in : List Happening → ℕ
setups_in [] = 0
setups_in (on_wire e ∷ es) = pick (is_setup_packet e.wire) 1 0 + setups_in es
setups_in (beside x ∷ es) = setups_in es

abbrev pub AtMostOnePerSetup : Type 0
AtMostOnePerSetup = (b : Board) (r : Records) → Resting r.pipe → (es : List Happening) → ends_in (events_in b r es) ≤ setups_in es

-- ---- PIPE 55: "No pipe record locks the device out: whatever the sixteen bytes, the next SETUP is answered as from idle."
abbrev pub NoLockOut : Type 0
NoLockOut =
    (b : Board) (image pipe setup reply : List ℕ) → length pipe ≡ 16 → length setup ≡ 8
    → heard b (record { image = image; pipe = pipe }) (a_setup setup reply) ≡ heard b (record { image = image; pipe = image_of idle }) (a_setup setup reply)

-- ---- PIPE 56: "A refused setup sends nothing: from stalled on, no packet until the next SETUP or reset." None goes out, none may come in, none is awaited
pub record SendsNothing (h : Heard) : Type 0 where
  pub sends : h.order ≡ send → ⊥
  pub receives : h.order ≡ receive → ⊥
  pub awaits : h.order ≡ await → ⊥

abbrev pub RefusedSendsNothing : Type 0
RefusedSendsNothing =
    (b : Board) (r : Records) (setup reply : List ℕ) → length r.pipe ≡ 16 → length setup ≡ 8
    → (answered_with b r.image setup ≡ 0 → ⊥) → (answered_with b r.image setup ≡ 10 → ⊥)
    → ((heard b r (a_setup setup reply)).order ≡ stall)
    × ((es : List Happening) → All is_quiet es → All SendsNothing (heard_in b (leaves b r (a_setup setup reply)) es))

-- the same of every pipe at rest, by whatever it stalled
abbrev pub RestSendsNothing : Type 0
RestSendsNothing = (b : Board) (r : Records) → Resting r.pipe → (es : List Happening) → All is_quiet es → All SendsNothing (heard_in b r es)

-- ---- PIPE 57: "Enumeration, packet by packet: a host that resets, reads the device descriptor, sets an address, reads every configuration and string whole, and sets a configuration,
-- taking each packet that is handed over, reads exactly the set's bytes and ends with a Configured device, for every accepted set, speed and address." From power-on, after any run
-- that ends in no test mode
abbrev pub EnumeratesFrom : (Board → Records → Type 0) → Type 0
EnumeratesFrom Start =
    (b : Board) → BytesOf b → accepted b ≡ true
    → (r : Records) → Start b r → in_test_mode (device_of r.image) ≡ false
    → (speed : ℕ) → good_reset (is_some b.high) speed ≡ true
    → (address : ℕ) → 1 ≤ address → address ≤ 127
    → (i : ℕ) → i < bNumConfigurations (device_body (set_for b speed))
    → PlaysOnWire b r (enumeration_on_wire b speed address i) (at_rest (enumerated speed address (bConfigurationValue (configuration_body (set_for b speed) i)) (device_of r.image)))
    × All (ReadsWhole (size_for b speed)) (device_lines (device_body (set_for b speed)) ++ read_lines b speed)

-- "taking each packet that is handed over": the script is of a host that keeps to what it is ordered
abbrev pub TakesEachPacket : Type 0
TakesEachPacket = (b : Board) (speed address i : ℕ) → keeps_to pipe.nothing (enumeration_on_wire b speed address i) ≡ true

-- what a run from power-on leaves
pub data SincePowerOn (b : Board) : Records → Type 0 where
  ran : (es : List Happening) → SincePowerOn b (after b power_on es)

abbrev pub EnumeratesByPackets : Type 0
EnumeratesByPackets = EnumeratesFrom SincePowerOn

-- and from every device record that fits, with whatever sixteen bytes as pipe record
abbrev pub EnumeratesAnyhow : Type 0
EnumeratesAnyhow = EnumeratesFrom (λ b r. FitImage b r.image × (length r.pipe ≡ 16))

-- ---- PIPE 44: where "the application's reply is lent at each event while it goes out", no event of a run from power-on gets 8
-- the reply that is lent is not shorter than the pipe record says
abbrev pub Lent : Records → Told → Type 0
Lent r e = (transfer_of r.pipe).block ≡ in_reply → (transfer_of r.pipe).length ≤ length e.reply

-- at each event of a run; what is lent as setup is bytes, as every slice is
abbrev pub AllLent : Board → Records → List Happening → Type 0
AllLent b r [] = Unit {0}
AllLent b r (on_wire e ∷ es) = Lent r e × Bytes e.setup × AllLent b (leaves b r e) es
AllLent b r (beside x ∷ es) = AllLent b (leaves_by b r (beside x)) es

abbrev pub AlwaysFits : Type 0
AlwaysFits =
    (b : Board) (r : Records) → Resting r.pipe → (es : List Happening) → AllLent b r es
    → (e : Told) → Lent (after b r es) e → fits_in (lengths_of b (after b r es).image e.reply) (after b r es).pipe ≡ true

abbrev pub NeverEight : Type 0
NeverEight =
    (b : Board) → BytesOf b → (es : List Happening) → AllLent b power_on es → (e : Told) → Lent (after b power_on es) e
    → (heard b (after b power_on es) e).number ≡ 8 → ⊥
