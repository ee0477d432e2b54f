-- What listing leaves in the buffer that it is lent, and how long that has to be. The contract of `list` cites these.
use Rattle.std.specs.Prelude.{ℕ, ◌≤◌, ◌≡◌, List, ◌++◌, length, take, drop}
use Rattle.descriptors.specs.declared.limits.Limits.{Limits}
use Rattle.sets.specs.Opening.{Board}
use Rattle.listing.specs.Listing.{listing}

-- the room that the text of any set needs: three bytes for each of the longest set's 16,384
abbrev pub room : ℕ
room = 49152

-- what listing leaves: the text at the buffer's start, the rest of the buffer as it was, and the text's length
pub record Listed (limits : Limits) (b : Board) (out after : List ℕ) (size : ℕ) : Type 0 where
  pub text : after ≡ listing limits b ++ drop (length (listing limits b)) out
  pub end : size ≡ length (listing limits b)
  -- so the text can be lent on as a part of the buffer
  pub inside : size ≤ length after
  pub whole : size ≡ length (take size after)
