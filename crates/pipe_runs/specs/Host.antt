-- A host on the wire: a script of wire events, each with the number, the order and the packet that must follow. It sends a SETUP, takes each packet that is handed over, sends its
-- empty packet when that is awaited, and takes the empty packet of a transfer without data.
use Rattle.std.specs.Prelude.{ℕ, ◌-◌, ◌/◌, ◌%◌, ◌≡◌, Bool, false, ◌&&◌, eqb}
use mathlib.Core.List.{List, [], ◌∷◌, ◌++◌, map, flat_map}
use Rattle.octets.specs.Sentences.{pick, from, up_to, is_some}
use Rattle.descriptors.specs.Configuration.{wTotalLength, bConfigurationValue}
use Rattle.sets.specs.Device.{device_body, bMaxPacketSize0, bNumConfigurations}
use Rattle.sets.specs.Opening.{Board}
use Rattle.records.specs.declared.Device.{Device}
use Rattle.records.specs.Image as records
use Rattle.records.specs.Current.{set_for}
use Rattle.requests.specs.declared.Setup.{Setup as SetupBytes}
use Rattle.events.specs.declared.Event.{Event}
use Rattle.events.specs.declared.Event.TheVariants.{Request, Malformed, StatusEnd, BusReset, Halt, PacketPassed, Power, Suspend, Resume, Wake}
use Rattle.order.specs.Run.{run, log}
use Rattle.pipes.specs.declared.Wire.{Wire}
use Rattle.pipes.specs.declared.Wire.TheVariants.{Setup, Taken, Received, Reset, Reply, Room, Accept, Refuse, Unknown}
use Rattle.pipes.specs.Transfer.{idle, nothing, send, await}
use Rattle.pipes.specs.Image.{image_of}
use Rattle.pipes.specs.Pipe.{Told, Records, heard}
use Rattle.enumeration.specs.Script.{Line, line, done, set_address, set_configuration}
use Rattle.enumeration.specs.Bodies.{configuration_body}
use Rattle.enumeration.specs.Enumeration.{device_lines, configuration_lines, other_speed, other_lines, zero_lines, string_lines}
use Rattle.pipe_runs.specs.Runs.{leaves}
use Rattle.pipe_runs.specs.Packets.{packet_at, packet_of, packets_of}

-- ---- what a wire event gets: its number, its order, and the packet that is handed over
pub record Shown : Type 0 where
  pub number : ℕ
  pub order : ℕ
  pub packet : List ℕ

abbrev pub shows : Board → Records → Told → Shown
shows b r e = record { number = (heard b r e).number; order = (heard b r e).order; packet = pick (eqb (heard b r e).order send) (packet_at b r e) [] }

abbrev pub WireLine : Type 0
WireLine = Told × Shown

abbrev pub tells : List WireLine → List Told
tells = map (λ (l : WireLine). l.0)

-- ---- a script is played: what its events get is the script itself, line for line, and it ends in the records `last`
pub record PlaysOnWire (b : Board) (r : Records) (script : List WireLine) (last : Records) : Type 0 where
  pub shown : log (shows b) (leaves b) r (tells script) ≡ script
  pub ends : run (leaves b) r (tells script) ≡ last

-- ---- a host that keeps to what it is ordered: it takes each packet that is handed over, sends its empty packet where that is awaited, and begins anew where nothing is ordered
abbrev pub may_follow : ℕ → Wire → Bool
may_follow order Setup = eqb order nothing
may_follow order (Reset speed) = eqb order nothing
may_follow order Taken = eqb order send
may_follow order (Received n) = eqb order await && eqb n 0
may_follow order Reply = false
may_follow order (Room n) = false
may_follow order Accept = false
may_follow order Refuse = false
may_follow order Unknown = false

-- a script of such a host, after an order; in the end nothing is ordered
abbrev pub keeps_to : ℕ → List WireLine → Bool
keeps_to order [] = eqb order nothing
keeps_to order (l ∷ ls) = may_follow order l.0.wire && keeps_to l.1.order ls

-- ---- the lines: number 0, with an order
abbrev pub wire : Wire → Told
wire w = record { wire = w; setup = []; reply = [] }

abbrev pub setup_bytes : SetupBytes → List ℕ
setup_bytes s =
    s.bmRequestType ∷ s.bRequest ∷ s.wValue % 256 ∷ s.wValue / 256 ∷ s.wIndex % 256 ∷ s.wIndex / 256 ∷ s.wLength % 256 ∷ s.wLength / 256 ∷ []

abbrev pub a_setup_of : SetupBytes → Told
a_setup_of s = record { wire = Setup; setup = setup_bytes s; reply = [] }

abbrev pub sends : List ℕ → Shown
sends packet = record { number = 0; order = send; packet = packet }

abbrev pub awaits : Shown
awaits = record { number = 0; order = await; packet = [] }

abbrev pub is_over : Shown
is_over = record { number = 0; order = nothing; packet = [] }

-- ---- a transfer without data: SETUP, and the empty packet of its status stage is taken
abbrev pub without_data : SetupBytes → List WireLine
without_data s = (a_setup_of s, sends []) ∷ (wire Taken, is_over) ∷ []

-- ---- a transfer that reads these bytes in packets of p: SETUP and packet 0, each further packet once the one before is taken, then the host's empty packet
abbrev pub takes_next : List ℕ → ℕ → ℕ → ℕ → WireLine
takes_next bytes w p k = (wire Taken, sends (packet_of bytes w p k))

abbrev pub takes_last : List WireLine
takes_last = (wire Taken, awaits) ∷ (wire (Received 0), is_over) ∷ []

abbrev pub in_packets : ℕ → SetupBytes → List ℕ → List WireLine
in_packets p s bytes =
    let w = s.wLength in
    (a_setup_of s, sends (packet_of bytes w p 0)) ∷ (map (takes_next bytes w p) (from 1 (packets_of bytes w p - 1)) ++ takes_last)

-- ---- a request of a host's script (enumeration/Script), and what it reads, as its transfer
abbrev pub transfer_for : ℕ → Event → List ℕ → List WireLine
transfer_for p (Request s) bytes = pick (eqb s.wLength 0) (without_data s) (in_packets p s bytes)
transfer_for p Malformed bytes = []
transfer_for p StatusEnd bytes = []
transfer_for p (BusReset speed) bytes = []
transfer_for p (Halt a) bytes = []
transfer_for p (PacketPassed a) bytes = []
transfer_for p (Power source) bytes = []
transfer_for p Suspend bytes = []
transfer_for p Resume bytes = []
transfer_for p Wake bytes = []

abbrev pub transfer_on : ℕ → Line → List WireLine
transfer_on p l = transfer_for p l.0 l.1.reads

-- what the host reads of it, its packets put together, is what the request's line says
abbrev pub ReadsWhole : ℕ → Line → Type 0
ReadsWhole p l = flat_map (λ (x : WireLine). x.1.packet) (transfer_on p l) ≡ l.1.reads

abbrev pub transfers_on : ℕ → List Line → List WireLine
transfers_on p ls = flat_map (transfer_on p) ls

-- ---- "resets, reads the device descriptor, sets an address, reads every configuration and string whole, and sets a configuration"
-- each configuration, its first 9 bytes and the whole that they tell
abbrev pub configurations_lines : List ℕ → List Line
configurations_lines set = flat_map (λ j. configuration_lines 2 j (wTotalLength (configuration_body set j)) (configuration_body set j)) (up_to (bNumConfigurations (device_body set)))

-- and on a board of two sets what the other speed has
abbrev pub read_lines : Board → ℕ → List Line
read_lines b speed =
    configurations_lines (set_for b speed) ++
    (pick (is_some b.high) (other_lines (set_for b (other_speed speed))) [] ++
    (zero_lines (set_for b speed) ++ string_lines b speed))

abbrev pub size_for : Board → ℕ → ℕ
size_for b speed = bMaxPacketSize0 (device_body (set_for b speed))

abbrev pub enumeration_on_wire : Board → ℕ → ℕ → ℕ → List WireLine
enumeration_on_wire b speed address i =
    let set = set_for b speed in
    let p = size_for b speed in
    (wire (Reset speed), is_over) ∷
    (transfers_on p (device_lines (device_body set)) ++
    (transfer_on p (line (set_address address) done) ++
    (transfers_on p (read_lines b speed) ++
    transfer_on p (line (set_configuration (bConfigurationValue (configuration_body set i))) done))))

-- the records of a device that is at rest
abbrev pub at_rest : Device → Records
at_rest d = record { image = records.image_of d; pipe = image_of idle }
