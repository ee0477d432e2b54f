-- Working definitions for the contracts of what is made of the pipe record before the library hears of an event, and after; no promise cites them.
use Rattle.std.specs.Prelude.{ℕ, ◌+◌, ◌/◌, ◌%◌, ◌≡◌, Bool, true, false, List, [], ◌∷◌, length, eqb}
use Rattle.octets.specs.Octets.{byte}
use Rattle.octets.specs.Sentences.{pick}
use Rattle.requests.specs.declared.Setup.{Setup as SetupBytes}
use Rattle.events.specs.Answer.{Answer, number_of, bytes_of}
use Rattle.pipes.specs.declared.Lengths.{Lengths}
use Rattle.pipes.specs.declared.Piece.{Piece}
use Rattle.pipes.specs.declared.Wire.{Wire}
use Rattle.pipes.specs.declared.Wire.TheVariants.{Setup, Taken, Received, Reset, Reply as Replies, Room, Accept, Refuse, Unknown}
use Rattle.pipes.specs.Transfer.{nothing}
use Rattle.pipes.specs.Image.{transfer_of, image_of, fits_in}
use Rattle.pipes.specs.Turns.{turned}
use Rattle.pipes.specs.Sending.{in_block, bytes_in}
use Rattle.pipes.specs.Pipe.{Heard, tells, order_begun, pipe_begun, turn_begun, pipe_reset}

-- ---- working definitions: the same in the code's order, what is made of the pipe record before the library hears of an event, which it hears, and after
-- a setup, of 8 bytes or not
abbrev pub is_setup : Wire → Bool
is_setup Setup = true
is_setup Unknown = true
is_setup (Reset speed) = false
is_setup Taken = false
is_setup (Received n) = false
is_setup Replies = false
is_setup (Room n) = false
is_setup Accept = false
is_setup Refuse = false

-- its number and order, and whether the library has to hear of it: of a setup, a reset, and a transfer that has ended
pub record Moved : Type 0 where
  pub number : ℕ
  pub order : ℕ
  pub ended : Bool

abbrev pub unheard_moved : Moved
unheard_moved = record { number = 8; order = nothing; ended = false }

-- an event that looks at the transfer
abbrev pub moved_by : Lengths → Wire → List ℕ → Moved
moved_by l w pipe =
    let turn = turned l.reply w (transfer_of pipe) in
    pick (fits_in l pipe) (record { number = 0; order = turn.order; ended = turn.ended }) unheard_moved

abbrev pub pipe_moved : Lengths → Wire → List ℕ → List ℕ
pipe_moved l w pipe = pick (fits_in l pipe) (image_of (turned l.reply w (transfer_of pipe)).transfer) pipe

-- any event
abbrev pub looked : Lengths → Wire → List ℕ → Moved
looked l w pipe = pick (eqb (length pipe) 16) (pick (tells w) (record { number = 0; order = nothing; ended = true }) (moved_by l w pipe)) unheard_moved

abbrev pub pipe_looked : Lengths → Wire → List ℕ → List ℕ
pipe_looked l w pipe = pick (eqb (length pipe) 16) (pick (tells w) pipe (pipe_moved l w pipe)) pipe

-- ---- what an event gets: its number, the order, and the bytes handed back: how many, and the first and the second, or 0
pub record Response : Type 0 where
  pub number : ℕ
  pub order : ℕ
  pub count : ℕ
  pub first : ℕ
  pub second : ℕ

abbrev pub bare : ℕ → ℕ → Response
bare number order = record { number = number; order = order; count = 0; first = 0; second = 0 }

abbrev pub with_bytes : Answer → ℕ → Response
with_bytes a order = record { number = number_of a; order = order; count = length (bytes_of a); first = byte (bytes_of a) 0; second = byte (bytes_of a) 1 }

-- what the library's answer makes of an event and of the pipe record; at the end of a transfer that is idle already
abbrev pub responds : ℕ → Wire → SetupBytes → Answer → Response
responds size w s a = pick (is_setup w) (with_bytes a (order_begun (number_of a) (turn_begun a s size))) (bare (number_of a) 0)

abbrev pub settles : ℕ → Wire → SetupBytes → Answer → List ℕ → List ℕ
settles size w s a pipe = pick (is_setup w) (pipe_begun (number_of a) pipe (turn_begun a s size)) (pipe_reset (number_of a) pipe)

abbrev pub out_bytes : Response → ℕ → List ℕ
out_bytes r n = r.order ∷ r.count ∷ r.first ∷ r.second ∷ n % 256 ∷ n / 256 % 256 ∷ []

-- what a function of the code gives and leaves is what an event gets
pub record Gets (h : Heard) (r : Response) (image pipe : List ℕ) : Type 0 where
  pub number : r.number ≡ h.number
  pub order : r.order ≡ h.order
  pub count : r.count ≡ length h.bytes
  pub first : r.first ≡ byte h.bytes 0
  pub second : r.second ≡ byte h.bytes 1
  pub image_left : image ≡ h.left.image
  pub pipe_left : pipe ≡ h.left.pipe

-- ---- a part is handed over, by its bytes and by where it lies
pub record HandsPiece (first used serial reply : List ℕ) (first_at used_at serial_at reply_at : ℕ × ℕ) (p : Piece) (shown : List ℕ) (at : ℕ × ℕ) : Type 0 where
  pub shows : shown ≡ bytes_in first used serial reply p
  pub block : at.0 ≡ in_block first_at.0 used_at.0 serial_at.0 reply_at.0 p.block
  pub offset : at.1 ≡ in_block first_at.1 used_at.1 serial_at.1 reply_at.1 p.block + p.offset
