-- What each event makes of a transfer (docs/PIPE.md, "The rules").
use Rattle.std.specs.Prelude.{ℕ, ◌+◌, ◌-◌, ◌/◌, min, Bool, true, false, ◌&&◌, ◌||◌, not, eqb, leb, ltb}
use Rattle.octets.specs.Sentences.{pick}
use Rattle.requests.specs.declared.Setup.{Setup}
use Rattle.events.specs.Answer.{Answer, Done, OneByte, TwoBytes, SetPart, SerialPart, Refused}
use Rattle.packets.specs.Packets.{packet}
use Rattle.pipes.specs.declared.Transfer.{Transfer}
use Rattle.pipes.specs.declared.Piece.{Piece}
use Rattle.pipes.specs.declared.Wire.{Wire}
use Rattle.pipes.specs.declared.Wire.TheVariants.{Taken, Received, Reply, Room, Accept, Refuse, Setup as ASetup, Reset, Unknown}
use Rattle.pipes.specs.Transfer.{asking_setup, data_in, status_out, data_out, asking_bytes, status_in, nothing, send, await, receive, stall, ask, in_bytes, in_set, in_serial, in_reply, idle, stalled, with_stage, with_moved, with_reply}

-- what an event makes of a transfer: the transfer after it, the order to the peripheral, and whether it has ended
pub record Turn : Type 0 where
  pub transfer : Transfer
  pub order : ℕ
  pub ended : Bool

abbrev pub goes_on : Transfer → ℕ → Turn
goes_on t order = record { transfer = t; order = order; ended = false }

-- PIPE 26, 30, 33: "nothing"
abbrev pub stays : Transfer → Turn
stays t = goes_on t nothing

-- PIPE 23, 37: "stalled, stall"
abbrev pub stalls : Turn
stalls = goes_on stalled stall

-- PIPE 31: "A transfer that has ended: .. the pipe is idle, nothing is ordered"
abbrev pub ends : Turn
ends = record { transfer = idle; order = nothing; ended = true }

-- PIPE 20, 36: "status in, send an empty packet"
abbrev pub sends_status : Transfer → Turn
sends_status t = goes_on (with_stage status_in t) send

-- ---- setup
-- PIPE 24: "block, place and length of the answer (0, 0, 0 where it has no data; 0, 0 and the count for bytes handed back)"
abbrev pub reply_at : Answer → Piece
reply_at Done = record { block = in_bytes; offset = 0; length = 0 }
reply_at (OneByte a) = record { block = in_bytes; offset = 0; length = 1 }
reply_at (TwoBytes a b) = record { block = in_bytes; offset = 0; length = 2 }
reply_at (SetPart offset size) = record { block = in_set; offset = offset; length = size }
reply_at (SerialPart size) = record { block = in_serial; offset = 0; length = size }
reply_at (Refused n) = record { block = in_bytes; offset = 0; length = 0 }

-- PIPE 24: ".. wLength, 0 in bytes 8–9, bMaxPacketSize0 of the set in use, bit 7 of bmRequestType"; the stage is data in until `begun` says otherwise
abbrev pub started : Piece → Setup → ℕ → Transfer
started p s size = record { stage = data_in; block = p.block; place = p.offset; length = p.length; asked = s.wLength; moved = 0; size = size; reads = s.bmRequestType / 128 }

-- PIPE 20 to 23: "Number 0 and wLength 0: status in, send an empty packet. Number 0 and wLength not 0: data in, send packet 0 of the reply. Number 10:
-- asking (a setup), ask. Any other number, 7 and 8 too: stalled, stall."
abbrev pub begun : ℕ → Transfer → Turn
begun number t =
    pick (eqb number 0) (pick (eqb t.asked 0) (sends_status t) (goes_on t send))
    (pick (eqb number 10) (goes_on (with_stage asking_setup t) ask) stalls)

-- ---- taken
-- PIPE 25: "In data in: the next packet is under way, send it; where there is none, status out, await"
abbrev pub sends_next : Transfer → Turn
sends_next t =
    pick (eqb (packet t.length t.asked t.size (t.moved + 1)).number 0) (goes_on (with_moved (t.moved + 1) t) send)
    (goes_on (with_stage status_out t) await)

-- PIPE 25, 26: "In status in: the transfer has ended. In any other stage: nothing"
unfoldable pub taken : Transfer → Turn
taken t = pick (eqb t.stage data_in) (sends_next t) (pick (eqb t.stage status_in) ends (stays t))

-- ---- received
-- PIPE 28, 43: "as many bytes as are still to come, at most bMaxPacketSize0"
abbrev pub due : Transfer → ℕ
due t = min t.size (t.asked - t.moved)

-- PIPE 29: "If more are to come then: receive; if all are there: asking (its bytes), ask"
abbrev pub gathers : Transfer → Turn
gathers t = pick (ltb t.moved t.asked) (goes_on t receive) (goes_on (with_stage asking_bytes t) ask)

-- PIPE 28: "In data out: it has as many bytes as are still to come, at most bMaxPacketSize0; else stalled, stall"
abbrev pub gets : ℕ → Transfer → Turn
gets n t = pick (eqb n (due t)) (gathers (with_moved (t.moved + n) t)) stalls

-- PIPE 27 to 30: "In data in and status out: an empty packet ends the transfer; another is the host's error: stalled, stall. .. In any other stage: nothing"
unfoldable pub received : ℕ → Transfer → Turn
received n t =
    pick (eqb t.stage data_in || eqb t.stage status_out) (pick (eqb n 0) ends stalls)
    (pick (eqb t.stage data_out) (gets n t) (stays t))

-- ---- the application
-- PIPE 33: "Its events count in asking alone. In any other stage they give 0, change nothing and order nothing"
abbrev pub is_asking : Transfer → Bool
is_asking t = eqb t.stage asking_setup || eqb t.stage asking_bytes

-- a turn if the application may answer so, "Else as refuse"
abbrev pub asked : Transfer → Bool → Turn → Turn
asked t may turn = pick (is_asking t) (pick may turn stalls) (stays t)

-- PIPE 34: "asked about a setup that reads with wLength not 0: data in with the first wLength bytes of reply, or all of it where it is shorter, .. send
-- packet 0"
abbrev pub may_reply : Transfer → Bool
may_reply t = eqb t.stage asking_setup && eqb t.reads 1 && not (eqb t.asked 0)

abbrev pub sends_reply : ℕ → Transfer → Turn
sends_reply n t = goes_on (with_stage data_in (with_reply in_reply 0 (min n t.asked) (with_moved 0 t))) send

unfoldable pub replied : ℕ → Transfer → Turn
replied n t = asked t (may_reply t) (sends_reply n t)

-- PIPE 35: "asked about a setup that writes with wLength not 0, where that is at most n: data out, 0 in bytes 8–9, receive"
abbrev pub may_write : ℕ → Transfer → Bool
may_write n t = eqb t.stage asking_setup && eqb t.reads 0 && not (eqb t.asked 0) && leb t.asked n

abbrev pub receives : Transfer → Turn
receives t = goes_on (with_stage data_out (with_moved 0 t)) receive

unfoldable pub roomed : ℕ → Transfer → Turn
roomed n t = asked t (may_write n t) (receives t)

-- PIPE 36: "asked about a setup with wLength 0, or about its bytes: status in, send an empty packet"
abbrev pub may_accept : Transfer → Bool
may_accept t = eqb t.stage asking_bytes || eqb t.asked 0

unfoldable pub accepted : Transfer → Turn
accepted t = asked t (may_accept t) (sends_status t)

-- PIPE 37: "Refuse: stalled, stall"
unfoldable pub refused : Transfer → Turn
refused t = asked t false stalls

-- ---- every event but a setup and a reset, which do not look at the transfer (PIPE 16); n is the length of the reply that is lent
unfoldable pub turned : ℕ → Wire → Transfer → Turn
turned n Taken t = taken t
turned n (Received size) t = received size t
turned n Reply t = replied n t
turned n (Room size) t = roomed size t
turned n Accept t = accepted t
turned n Refuse t = refused t
turned n ASetup t = stays t
turned n (Reset speed) t = stays t
turned n Unknown t = stays t
