-- The pipe event: the library's own events, composed with the stages of the transfer (docs/PIPE.md, "The rules"),
-- and what it hands over ("What is handed over", "For C").
use Rattle.std.specs.Prelude.{ℕ, ◌/◌, ◌%◌, min, Bool, true, false, List, [], ◌∷◌, length, eqb}
use Rattle.octets.specs.Octets.{byte}
use Rattle.octets.specs.Sentences.{pick}
use Rattle.sets.specs.Opening.{Board}
use Rattle.sets.specs.Device.{bMaxPacketSize0, device_body}
use Rattle.records.specs.Image.{device_of}
use Rattle.records.specs.Current.{set_for}
use Rattle.requests.specs.declared.Setup.{Setup as SetupBytes}
use Rattle.requests.specs.Table.{setup_of}
use Rattle.events.specs.declared.Event.{Event}
use Rattle.events.specs.declared.Event.TheVariants.{Malformed, StatusEnd, BusReset}
use Rattle.events.specs.Answer.{Answer, number_of, bytes_of}
use Rattle.events.specs.Step.{Reply, setup_event, event}
use Rattle.pipes.specs.declared.Lengths.{Lengths}
use Rattle.pipes.specs.declared.Piece.{Piece}
use Rattle.pipes.specs.declared.Wire.{Wire}
use Rattle.pipes.specs.declared.Wire.TheVariants.{Setup, Taken, Received, Reset, Reply as Replies, Room, Accept, Refuse, Unknown}
use Rattle.pipes.specs.Transfer.{idle, nothing}
use Rattle.pipes.specs.Image.{transfer_of, image_of, fits_in}
use Rattle.pipes.specs.Turns.{Turn, reply_at, started, begun, turned}
use Rattle.pipes.specs.Sending.{room_for, sent}

-- PIPE 1, 44: what is told at an event; a setup's bytes and the application's reply are lent with each
pub record Told : Type 0 where
  pub wire : Wire
  pub setup : List ℕ
  pub reply : List ℕ

-- PIPE 7: "kept by the firmware beside the device record"
pub record Records : Type 0 where
  pub image : List ℕ
  pub pipe : List ℕ

-- PIPE 5, 40: "Each event gets a number and one order to the peripheral", the bytes handed back, and the records that it leaves
pub record Heard : Type 0 where
  pub number : ℕ
  pub order : ℕ
  pub bytes : List ℕ
  pub left : Records

-- PIPE 11, 17: "changes nothing and orders nothing"
abbrev pub unheard : ℕ → Records → Heard
unheard number r = record { number = number; order = nothing; bytes = []; left = r }

-- PIPE 8: "The set in use is that of byte 7 of the device record as the event found it"
abbrev pub packet_size : Board → List ℕ → ℕ
packet_size b image = bMaxPacketSize0 (device_body (set_for b (device_of image).speed))

-- PIPE 7: the blocks that a reply may lie in
abbrev pub lengths_in : List ℕ → List ℕ → List ℕ → Lengths
lengths_in set serial reply = record { set = length set; serial = length serial; reply = length reply }

abbrev pub lengths_of : Board → List ℕ → List ℕ → Lengths
lengths_of b image reply = lengths_in (set_for b (device_of image).speed) b.serial reply

-- PIPE 18, 19: "The device record goes through the setup event. The transfer under way is dropped, whatever its stage"; "Number 9: nothing changes, nothing
-- is ordered; the transfer under way stays"
abbrev pub order_begun : ℕ → Turn → ℕ
order_begun number turn = pick (eqb number 9) nothing turn.order

abbrev pub pipe_begun : ℕ → List ℕ → Turn → List ℕ
pipe_begun number pipe turn = pick (eqb number 9) pipe (image_of turn.transfer)

abbrev pub turn_begun : Answer → SetupBytes → ℕ → Turn
turn_begun a s size = begun (number_of a) (started (reply_at a) s size)

abbrev pub begins : ℕ → List ℕ → List ℕ → Reply → Heard
begins size setup pipe r =
    let n = number_of r.answer in
    let turn = turn_begun r.answer (setup_of setup) size in
    record { number = n; order = order_begun n turn; bytes = bytes_of r.answer; left = record { image = r.image; pipe = pipe_begun n pipe turn } }

-- PIPE 32: "the device record goes through the bus reset event to that speed; .. Where that is 0 the pipe is idle; else nothing changes"
abbrev pub pipe_reset : ℕ → List ℕ → List ℕ
pipe_reset number pipe = pick (eqb number 0) (image_of idle) pipe

abbrev pub restarts : List ℕ → Reply → Heard
restarts pipe r =
    let n = number_of r.answer in
    record { number = n; order = nothing; bytes = []; left = record { image = r.image; pipe = pipe_reset n pipe } }

-- PIPE 31: "A transfer that has ended: the device record goes through the status end event, the pipe is idle, nothing is ordered, and the number is the
-- status end's"; PIPE 38: those "that end no transfer .. leave the device record"
abbrev pub moves : Board → List ℕ → Turn → Heard
moves b image turn =
    let r = event b image StatusEnd in
    pick turn.ended (record { number = number_of r.answer; order = nothing; bytes = []; left = record { image = r.image; pipe = image_of turn.transfer } })
    (record { number = 0; order = turn.order; bytes = []; left = record { image = image; pipe = image_of turn.transfer } })

-- PIPE 17: "Every other event gives 8 for one that does not fit, changes nothing and orders nothing"
abbrev pub on_transfer : Board → Records → Told → Heard
on_transfer b r e =
    pick (fits_in (lengths_of b r.image e.reply) r.pipe) (moves b r.image (turned (length e.reply) e.wire (transfer_of r.pipe))) (unheard 8 r)

-- by what is told. PIPE 4: "Any other event number counts as a setup that is not 8 bytes"
abbrev pub heard_as : Board → Records → Told → Wire → Heard
heard_as b r e Setup = begins (packet_size b r.image) e.setup r.pipe (event b r.image (setup_event e.setup))
heard_as b r e Unknown = begins (packet_size b r.image) e.setup r.pipe (event b r.image Malformed)
heard_as b r e (Reset speed) = restarts r.pipe (event b r.image (BusReset speed))
heard_as b r e Taken = on_transfer b r e
heard_as b r e (Received n) = on_transfer b r e
heard_as b r e Replies = on_transfer b r e
heard_as b r e (Room n) = on_transfer b r e
heard_as b r e Accept = on_transfer b r e
heard_as b r e Refuse = on_transfer b r e

-- PIPE 11: "A pipe record that has not 16 bytes gets 8 at every event, before all else"
unfoldable pub heard : Board → Records → Told → Heard
heard b r e = pick (eqb (length r.pipe) 16) (heard_as b r e e.wire) (unheard 8 r)

-- ---- what an event hands over besides: the room, and the part that is sent (PIPE 39 to 43)
abbrev pub room : Heard → ℕ
room h = room_for h.order (transfer_of h.left.pipe)

abbrev pub hands_over : Board → Records → Told → Piece
hands_over b r e = sent (lengths_of b r.image e.reply) (heard b r e).order (transfer_of (heard b r e).left.pipe)

-- PIPE 46: "the order, how many bytes count, the two bytes (0 where they do not count), the room, low byte first"
abbrev pub out_of : Heard → List ℕ
out_of h = h.order ∷ length h.bytes ∷ byte h.bytes 0 ∷ byte h.bytes 1 ∷ room h % 256 ∷ room h / 256 % 256 ∷ []

-- ---- PIPE 1 to 4, the numbers of the events: 0 setup, 1 taken, 2 received, 3 reset, 4 reply, 5 room, 6 accept, 7 refuse. "A reset's value above 255
-- counts as 255"
unfoldable pub wire_of : ℕ → ℕ → Wire
wire_of kind value =
    pick (eqb kind 0) Setup
    (pick (eqb kind 1) Taken
    (pick (eqb kind 2) (Received value)
    (pick (eqb kind 3) (Reset (min value 255))
    (pick (eqb kind 4) Replies
    (pick (eqb kind 5) (Room value)
    (pick (eqb kind 6) Accept
    (pick (eqb kind 7) Refuse Unknown)))))))

-- ---- PIPE 51: which events the library hears of, whatever the transfer, and as which of its own; any that looks at the transfer ends it with a status end
abbrev pub tells : Wire → Bool
tells Setup = true
tells Unknown = true
tells (Reset speed) = true
tells Taken = false
tells (Received n) = false
tells Replies = false
tells (Room n) = false
tells Accept = false
tells Refuse = false

abbrev pub library_event : Wire → List ℕ → Event
library_event Setup setup = setup_event setup
library_event Unknown setup = Malformed
library_event (Reset speed) setup = BusReset speed
library_event Taken setup = StatusEnd
library_event (Received n) setup = StatusEnd
library_event Replies setup = StatusEnd
library_event (Room n) setup = StatusEnd
library_event Accept setup = StatusEnd
library_event Refuse setup = StatusEnd
