-- A host's script over the exported calls: what the host sees of a call, the packets in which it goes out, and when calls play a script.
use Rattle.std.specs.Prelude.{ℕ, zero, suc, ◌/◌, ◌%◌, ◌<◌, ◌≤◌, ◌≡◌, length}
use mathlib.Core.List.{List, [], ◌∷◌, map, flat_map}
use Rattle.octets.specs.Sentences.{up_to}
use Rattle.sets.specs.Opening.{Board}
use Rattle.records.specs.declared.Device.{Device}
use Rattle.records.specs.Image.{image_of}
use Rattle.requests.specs.declared.Setup.{Setup}
use Rattle.requests.specs.Table.{setup_of}
use Rattle.events.specs.declared.Event.{Event}
use Rattle.events.specs.declared.Event.TheVariants.{Request, Malformed, StatusEnd, BusReset, Halt, PacketPassed, Power, Suspend, Resume, Wake}
use Rattle.packets.specs.Packets.{packet_count}
use Rattle.enumeration.specs.Script.{Seen, Line, does}
use Rattle.board.specs.Exports.{Opens, Spot, Spots, CutsPacket}
use Rattle.board.specs.Runs.{Call, setup, tell, record_event, event_of, Given, number, handed, Runs, ends, calls, status_end as end_of_status, suspend, resume, wake as wake_up, bus_reset_to, halt as halt_of, packet_passed as passed_at, power as supply}
use Rattle.board.specs.Transfers.{reply, packet_size}

-- ---- what a host sees of what a call gave: its number, and the reply: the bytes that count, or the part
abbrev pub seen_given : Given → Seen
seen_given (number n) = record { number = n; reads = [] }
seen_given (handed n bytes count shown spot) = record { number = n; reads = reply bytes count shown }

-- ---- the packets of a reply to a setup, by some cutter that meets hk_packet's statement for every packet number that C can pass: the numbers that it gave, the bytes and their places
pub record Cut (b : Board) (image asked bytes : List ℕ) : Type 0 where
  pub at : Spot
  pub numbers : ℕ → ℕ
  pub packets : ℕ → List ℕ
  pub places : ℕ → Spot
  pub meets : (k : ℕ) → k < 4294967296 → CutsPacket bytes at (setup_of asked).wLength (packet_size b image) k (numbers k) (packets k) (places k)

-- how many there are; they are the reply: those below the count put together, each given, every later one refused with 15
abbrev pub many : {b : Board} {image asked bytes : List ℕ} → Cut b image asked bytes → ℕ
many {b} {image} {asked} {bytes} c = packet_count (length bytes) (setup_of asked).wLength (packet_size b image)

pub record Arrives {b : Board} {image asked bytes : List ℕ} (c : Cut b image asked bytes) : Type 0 where
  pub together : flat_map c.packets (up_to (many c)) ≡ bytes
  pub given : (k : ℕ) → k < many c → c.numbers k ≡ 0
  pub past : (k : ℕ) → k < 4294967296 → many c ≤ k → c.numbers k ≡ 15

-- what a call that tells a setup, hk_setup, or hk_two_event or hk_record_event as event 0, answered, arrives as these bytes, whatever the cutter
abbrev pub ArriveAs : Board → List ℕ → Call → List ℕ → Type 0
ArriveAs b image (setup asked) bytes = (c : Cut b image asked bytes) → Arrives c
ArriveAs b image (record_event zero value asked) bytes = (c : Cut b image asked bytes) → Arrives c
ArriveAs b image (record_event (suc kind) value asked) bytes = Unit {0}
ArriveAs b image (tell h) bytes = Unit {0}

-- of every call of a run: what the script says that the host reads arrives in packets
abbrev pub InPackets : {b : Board} {lie : Spots} {image : List ℕ} {cs : List Call} {gs : List Given} {last : List ℕ} → Runs b lie image cs gs last → List Line → Type 0
InPackets ends ls = Unit {0}
InPackets (calls m r) [] = Unit {0}
InPackets {b} (calls {image} {c} m r) (l ∷ ls) = (l.1.number ≡ 0 → ArriveAs b image c l.1.reads) × InPackets r ls

-- ---- a script is played from an image: any calls whose events are the script's, of whatever exports, give the host what the script says, in packets, and leave the image of the
-- record in which it ends
pub record PlayedFrom {b : Board} {lie : Spots} {image : List ℕ} {cs : List Call} {gs : List Given} {last : List ℕ} (r : Runs b lie image cs gs last) (script : List Line) (end : Device) : Type 0 where
  pub seen : map seen_given gs ≡ map (λ (l : Line). l.1) script
  pub arrives : InPackets r script
  pub leaves : last ≡ image_of end

abbrev pub Played : Board → Spots → List ℕ → List Line → Device → Type 0
Played b lie image script end =
    (cs : List Call) (gs : List Given) (last : List ℕ) → map event_of cs ≡ does script → (r : Runs b lie image cs gs last) → PlayedFrom r script end

-- ---- from where: hk_open or hk_two_open gave 0 on any 32 bytes, and any calls followed
pub record CalledSince (b : Board) (lie : Spots) (last : List ℕ) : Type 0 where
  pub start : List ℕ
  pub image : List ℕ
  pub before : List Call
  pub gave : List Given
  pub long : length start ≡ 32
  pub opens : Opens b start 0 image
  pub run : Runs b lie image before gave last

-- ---- such calls can be had: hk_setup, hk_status_end, hk_bus_reset_to, .. . (Others whose events are the same would do: hk_two_event, hk_record_event.)
abbrev pub setup_bytes : Setup → List ℕ
setup_bytes s =
    s.bmRequestType ∷ s.bRequest ∷ s.wValue % 256 ∷ s.wValue / 256 ∷ s.wIndex % 256 ∷ s.wIndex / 256 ∷ s.wLength % 256 ∷ s.wLength / 256 ∷ []

abbrev pub call_of : Event → Call
call_of (Request s) = setup (setup_bytes s)
call_of Malformed = setup []
call_of StatusEnd = tell end_of_status
call_of (BusReset speed) = tell (bus_reset_to speed)
call_of (Halt a) = tell (halt_of a)
call_of (PacketPassed a) = tell (passed_at a)
call_of (Power source) = tell (supply source)
call_of Suspend = tell suspend
call_of Resume = tell resume
call_of Wake = tell wake_up

abbrev pub calls_of : List Event → List Call
calls_of es = map call_of es
