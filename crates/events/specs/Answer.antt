-- Document 01's number and values for every case of an answer, and where the part that it hands back lies.
use Rattle.std.specs.Prelude.{ℕ, ◌+◌, ◌≤◌, List, [], ◌∷◌, length}
use Rattle.octets.specs.Octets.{part}
use Rattle.sets.specs.Opening.{Board}
use Rattle.records.specs.Current.{set_for}
use Rattle.records.specs.declared.Device.{Device}

-- an answer: done, with no, one or two bytes; a part of the set in use, by its offset and length; the serial block's first bytes; a refusal by its number
pub data Answer : Type 0 where
  Done : Answer
  OneByte : ℕ → Answer
  TwoBytes : ℕ → ℕ → Answer
  SetPart : ℕ → ℕ → Answer
  SerialPart : ℕ → Answer
  Refused : ℕ → Answer

-- an event's answer, and the record that it leaves
pub record Outcome : Type 0 where
  pub answer : Answer
  pub device : Device

abbrev pub number_of : Answer → ℕ
number_of Done = 0
number_of (OneByte a) = 0
number_of (TwoBytes a b) = 0
number_of (SetPart offset size) = 0
number_of (SerialPart size) = 0
number_of (Refused n) = n

-- "done, with 0, 1 or 2 bytes"; "Refusals hand back no bytes"
abbrev pub bytes_of : Answer → List ℕ
bytes_of Done = []
bytes_of (OneByte a) = a ∷ []
bytes_of (TwoBytes a b) = a ∷ b ∷ []
bytes_of (SetPart offset size) = []
bytes_of (SerialPart size) = []
bytes_of (Refused n) = []

-- the slice that a part lies in: the first set lent (the one set, or the full-speed one), the set in use (L7), the serial block
pub data Block : Type 0 where
  of_first of_set of_serial : Block

pub record Part : Type 0 where
  pub block : Block
  pub offset : ℕ
  pub length : ℕ

-- "or a descriptor part", of the set in use; "an empty part": the first set's first 0 bytes
abbrev pub part_of : Answer → Part
part_of Done = record { block = of_first; offset = 0; length = 0 }
part_of (OneByte a) = record { block = of_first; offset = 0; length = 0 }
part_of (TwoBytes a b) = record { block = of_first; offset = 0; length = 0 }
part_of (SetPart offset size) = record { block = of_set; offset = offset; length = size }
part_of (SerialPart size) = record { block = of_serial; offset = 0; length = size }
part_of (Refused n) = record { block = of_first; offset = 0; length = 0 }

-- the first set's, that of the set in use, or the serial block's
abbrev pub in_block : {A : Type 0} → A → A → A → Block → A
in_block first used serial of_first = first
in_block first used serial of_set = used
in_block first used serial of_serial = serial

-- a part lies inside its slice; and its bytes
abbrev pub Inside : List ℕ → List ℕ → List ℕ → Part → Type 0
Inside first used serial p = p.offset + p.length ≤ length (in_block first used serial p.block)

abbrev pub bytes_in : List ℕ → List ℕ → List ℕ → Part → List ℕ
bytes_in first used serial p = part (in_block first used serial p.block) p.offset p.length

-- the same on a board, where byte 7 of the record that the event found is `speed`
abbrev pub InsideAt : Board → ℕ → Part → Type 0
InsideAt b speed = Inside b.set (set_for b speed) b.serial

abbrev pub bytes_at : Board → ℕ → Part → List ℕ
bytes_at b speed = bytes_in b.set (set_for b speed) b.serial

-- ---- outcomes
abbrev pub gives : Answer → Device → Outcome
gives a d = record { answer = a; device = d }

abbrev pub done : Device → Outcome
done = gives Done

abbrev pub refused : ℕ → Device → Outcome
refused n = gives (Refused n)
