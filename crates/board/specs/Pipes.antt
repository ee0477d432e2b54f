-- What hk_pipe_event and hk_two_pipe_event promise, whole: number, block, part, and both records left, for everything that may be lent (docs/PIPE.md).
use Rattle.std.specs.Prelude.{ℕ, ◌+◌, ◌≡◌, List}
use Rattle.sets.specs.Opening.{Board}
use Rattle.records.specs.Image.{device_of}
use Rattle.records.specs.Current.{set_for, in_use}
use Rattle.pipes.specs.declared.Piece.{Piece}
use Rattle.pipes.specs.Sending.{in_block, bytes_in}
use Rattle.pipes.specs.Pipe.{Told, Records, heard, hands_over, out_of}
use Rattle.board.specs.Exports.{Spot, Spots}

-- PIPE 41, 42: the bytes of the part, and where it lies: in the set in use, by byte 7 of the record that the event found, the serial block or the
-- application's reply; a part that is not handed back in the first set
abbrev pub piece_bytes : Board → ℕ → List ℕ → Piece → List ℕ
piece_bytes b speed reply p = bytes_in b.set (set_for b speed) b.serial reply p

abbrev pub spot_of_block : Board → ℕ → Spots → Spot → Piece → Spot
spot_of_block b speed s reply p = in_block s.set (in_use b.high speed s.set s.high) s.serial reply p.block

abbrev pub spot_of_piece : Board → ℕ → Spots → Spot → Piece → Spot
spot_of_piece b speed s reply p = record { block = (spot_of_block b speed s reply p).block; offset = (spot_of_block b speed s reply p).offset + p.offset }

-- ---- hk_pipe_event, of a board that lends one set, and hk_two_pipe_event, of one that lends two: any event of the pipe, by its number. The number, the
-- device record and the pipe record left, the block of six bytes, the part and where it lies
pub record AnswersPipe (b : Board) (lie : Spots) (reply_spot : Spot) (r : Records) (e : Told) (answer : ℕ) (left : Records) (out shown : List ℕ) (spot : Spot) : Type 0 where
  pub number : answer ≡ (heard b r e).number
  pub leaves : left ≡ (heard b r e).left
  pub writes : out ≡ out_of (heard b r e)
  pub shows : shown ≡ piece_bytes b (device_of r.image).speed e.reply (hands_over b r e)
  pub lies : spot ≡ spot_of_piece b (device_of r.image).speed lie reply_spot (hands_over b r e)
