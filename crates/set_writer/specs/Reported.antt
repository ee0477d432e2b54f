-- What the writer's functions answer, whole: besides the number and the buffer why 21 was given, for the program that tells a maker.
use Rattle.std.specs.Prelude.{ℕ, ◌≡◌, ◌||◌, not, List, length, eqb}
use Rattle.octets.specs.Octets.{word}
use Rattle.octets.specs.Sentences.{pick}
use Rattle.descriptors.specs.declared.limits.Limits.{Limits}
use Rattle.sets.specs.Opening.{lent, opening}
use Rattle.set_writer.specs.Writer.{ends, set_of, too_large, handing, writing, Filled}

-- what the writer answers: its number, and the opening number of the set that the pieces make, which says why 21; 0 where no set was made
pub record Report : Type 0 where
  pub number : ℕ
  pub opening : ℕ

-- a set that is laid out, handed over
pub record Handed (limits : Limits) (set serial buffer after : List ℕ) (r : Report) : Type 0 where
  pub fills : Filled set buffer after (handing limits set serial (length buffer)) r.number
  pub why : r.opening ≡ opening limits (lent set serial)

-- the opening number of the set that the pieces make; 0 where no set is made
abbrev pub opening_made : Limits → List ℕ → List ℕ → ℕ
opening_made limits stream serial = pick (not (ends stream) || too_large stream) 0 (opening limits (lent (set_of stream) serial))

pub record Reported (limits : Limits) (stream serial buffer after : List ℕ) (r : Report) : Type 0 where
  pub fills : Filled (set_of stream) buffer after (writing limits stream serial (length buffer)) r.number
  pub why : r.opening ≡ opening_made limits stream serial

-- the length of a set that was written, as its first two bytes say it
abbrev pub length_written : ℕ → List ℕ → ℕ
length_written answer after = pick (eqb answer 0) (word after 0) 0
