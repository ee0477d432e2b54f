-- Runs of pipe events by any host and any application, between which the board tells its other events, and the library's own events that they are.
use Rattle.std.specs.Prelude.{ℕ, ◌≡◌, Bool, true, false, List, [], ◌∷◌, ◌++◌, length, eqb}
use Rattle.octets.specs.Sentences.{pick}
use Rattle.sets.specs.Opening.{Board}
use Rattle.records.specs.Device.{fresh}
use Rattle.records.specs.Image.{device_of}
use Rattle.records.specs.Image as records
use Rattle.events.specs.declared.Event.{Event}
use Rattle.events.specs.declared.Event.TheVariants.{Request, Malformed, StatusEnd, BusReset, Halt, PacketPassed, Power, Suspend, Resume, Wake}
use Rattle.events.specs.Answer.{number_of}
use Rattle.events.specs.Step.{setup_event, event}
use Rattle.order.specs.Run.{run}
use Rattle.pipes.specs.declared.Wire.{Wire}
use Rattle.pipes.specs.declared.Wire.TheVariants.{Setup, Taken, Received, Reset, Reply, Room, Accept, Refuse, Unknown}
use Rattle.pipes.specs.Transfer.{idle, stalled}
use Rattle.pipes.specs.Image.{transfer_of, image_of, fits_in}
use Rattle.pipes.specs.Turns.{turned}
use Rattle.pipes.specs.Pipe.{Told, Records, Heard, lengths_of, heard}

-- ---- what happens in a run: an event of the pipe; or, PIPE 45, "the other events (power, halt, packets passed, suspend, resume, wake) are free at any time"
pub data Other : Type 0 where
  halt packet_passed power : ℕ → Other
  suspend resume wake : Other

abbrev pub other_event : Other → Event
other_event (halt a) = Halt a
other_event (packet_passed a) = PacketPassed a
other_event (power source) = Power source
other_event suspend = Suspend
other_event resume = Resume
other_event wake = Wake

pub data Happening : Type 0 where
  on_wire : Told → Happening
  beside : Other → Happening

-- the records that an event leaves; those after a run; what the pipe's events of a run get
abbrev pub leaves : Board → Records → Told → Records
leaves b r e = (heard b r e).left

abbrev pub leaves_by : Board → Records → Happening → Records
leaves_by b r (on_wire e) = leaves b r e
leaves_by b r (beside x) = record { image = (event b r.image (other_event x)).image; pipe = r.pipe }

abbrev pub after : Board → Records → List Happening → Records
after b = run (leaves_by b)

abbrev pub heard_in : Board → Records → List Happening → List Heard
heard_in b r [] = []
heard_in b r (on_wire e ∷ es) = heard b r e ∷ heard_in b (leaves b r e) es
heard_in b r (beside x ∷ es) = heard_in b (leaves_by b r (beside x)) es

-- ---- power-on: the fresh record that opening leaves, and a pipe record of zeros
abbrev pub power_on : Records
power_on = record { image = records.image_of fresh; pipe = image_of idle }

-- a pipe at rest: idle or stalled, as at power-on
pub data Resting : List ℕ → Type 0 where
  is_idle : Resting (image_of idle)
  is_stalled : Resting (image_of stalled)

-- ---- the events
-- a SETUP packet, with whatever reply is lent
abbrev pub a_setup : List ℕ → List ℕ → Told
a_setup setup reply = record { wire = Setup; setup = setup; reply = reply }

-- the number that the library answers it with
abbrev pub answered_with : Board → List ℕ → List ℕ → ℕ
answered_with b image setup = number_of (event b image (setup_event setup)).answer

abbrev pub is_setup_packet : Wire → Bool
is_setup_packet Setup = true
is_setup_packet (Reset speed) = false
is_setup_packet Unknown = false
is_setup_packet Taken = false
is_setup_packet (Received n) = false
is_setup_packet Reply = false
is_setup_packet (Room n) = false
is_setup_packet Accept = false
is_setup_packet Refuse = false

-- neither a SETUP nor a reset
abbrev pub quiet : Wire → Bool
quiet Setup = false
quiet (Reset speed) = false
quiet Unknown = true
quiet Taken = true
quiet (Received n) = true
quiet Reply = true
quiet (Room n) = true
quiet Accept = true
quiet Refuse = true

abbrev pub is_quiet : Happening → Type 0
is_quiet (on_wire e) = quiet e.wire ≡ true
is_quiet (beside x) = Unit {0}

-- ---- a transfer ends at an event: the pipe record fits, and by the rules it has ended
abbrev pub ends_at : Board → Records → Told → Bool
ends_at b r e = pick (fits_in (lengths_of b r.image e.reply) r.pipe) (turned (length e.reply) e.wire (transfer_of r.pipe)).ended false

-- ---- PIPE 51, the library's own events at an event: "a setup at each SETUP, a status end at each transfer that has ended, a reset at each reset, and no other"
abbrev pub if_ended : Bool → List Event
if_ended ended = pick ended (StatusEnd ∷ []) []

abbrev pub events_by : Board → Records → Told → Wire → List Event
events_by b r e Setup = setup_event e.setup ∷ []
events_by b r e Unknown = Malformed ∷ []
events_by b r e (Reset speed) = BusReset speed ∷ []
events_by b r e Taken = if_ended (ends_at b r e)
events_by b r e (Received n) = if_ended (ends_at b r e)
events_by b r e Reply = if_ended (ends_at b r e)
events_by b r e (Room n) = if_ended (ends_at b r e)
events_by b r e Accept = if_ended (ends_at b r e)
events_by b r e Refuse = if_ended (ends_at b r e)

abbrev pub events_at : Board → Records → Told → List Event
events_at b r e = pick (eqb (length r.pipe) 16) (events_by b r e e.wire) []

abbrev pub events_in : Board → Records → List Happening → List Event
events_in b r [] = []
events_in b r (on_wire e ∷ es) = events_at b r e ++ events_in b (leaves b r e) es
events_in b r (beside x ∷ es) = other_event x ∷ events_in b (leaves_by b r (beside x)) es

-- the device record after library events
abbrev pub device_after : Board → List ℕ → List Event → List ℕ
device_after b = run (λ image e. (event b image e).image)

-- the number that the library gave, 0 where it was told nothing
abbrev pub number_after : Board → List ℕ → List Event → ℕ
number_after b image [] = 0
number_after b image (e ∷ es) = number_of (event b image e).answer

-- ---- an event that is a status end
abbrev pub tells_end : Event → Bool
tells_end (Request s) = false
tells_end Malformed = false
tells_end StatusEnd = true
tells_end (BusReset speed) = false
tells_end (Halt a) = false
tells_end (PacketPassed a) = false
tells_end (Power source) = false
tells_end Suspend = false
tells_end Resume = false
tells_end Wake = false

abbrev pub no_end : Event → Type 0
no_end e = tells_end e ≡ false

-- ---- the address byte, and what waits
abbrev pub address_in : List ℕ → ℕ
address_in image = (device_of image).address

abbrev pub waiting_in : List ℕ → ℕ
waiting_in image = (device_of image).waiting
