-- A working definition for the references, as the code judges them; no promise cites it.
use Rattle.std.specs.Prelude.{ℕ, ◌<◌, ◌≡◌, List, Bool}
use Rattle.octets.specs.Sentences.{is_some}
use Rattle.octets.specs.Table.{has}
use Rattle.sets.specs.Pieces.{pieces_in, pieces_of}
use Rattle.sets.specs.Device.{device_body, iSerialNumber}
use Rattle.sets.specs.Strings.{string_zero, languages, in_every}

-- whether string 0 is there, iSerialNumber, and a table of what has a string in every listed language
pub record Judges (set : List ℕ) (there : Bool) (serial : ℕ) (table : List ℕ) : Type 0 where
  pub found : there ≡ is_some (string_zero set)
  pub index : serial ≡ iSerialNumber (device_body set)
  pub named : (j : ℕ) → j < 256 → has table j ≡ in_every (languages set) (pieces_of 3 (pieces_in set)) j
