-- Working definitions for the contract of an answer that is handed out, with the set in use by itself; no promise cites them.
use Rattle.std.specs.Prelude.{ℕ, ◌+◌, ◌≡◌, List, length}
use Rattle.events.specs.Answer.{Answer, Part, number_of, bytes_of, part_of, in_block, bytes_in}
use Rattle.board.specs.Exports.{Spot, padded}

-- a part's place, given where the first set, the set in use and the serial block lie
abbrev pub spot_in : Spot → Spot → Spot → Part → Spot
spot_in first used serial p = record { block = (in_block first used serial p.block).block; offset = (in_block first used serial p.block).offset + p.offset }

pub record HandsIn (first used serial : List ℕ) (first_spot used_spot serial_spot : Spot) (a : Answer) (answer : ℕ) (bytes : List ℕ) (count : ℕ) (shown : List ℕ) (spot : Spot) : Type 0 where
  pub number : answer ≡ number_of a
  pub hands : bytes ≡ padded (bytes_of a)
  pub counts : count ≡ length (bytes_of a)
  pub shows : shown ≡ bytes_in first used serial (part_of a)
  pub lies : spot ≡ spot_in first_spot used_spot serial_spot (part_of a)
