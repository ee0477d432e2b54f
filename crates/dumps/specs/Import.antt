-- What import's functions answer, whole, and when import accepts, as a promise says it.
use Rattle.std.specs.Prelude.{ℕ, ◌/◌, ◌%◌, ◌≤◌, ◌≡◌, true, ◌||◌, not, Option, Some, None, List, [], ◌∷◌, length}
use Rattle.octets.specs.Sentences.{pick}
use Rattle.descriptors.specs.Limits.{full_speed}
use Rattle.sets.specs.Opening.{lent, opening}
use Rattle.set_writer.specs.Reported.{Report}
use Rattle.set_writer.specs.Writer.{opens_as, Filled}
use Rattle.dumps.specs.Dump.{splits, configurations_in, imported, too_large, importing}

-- what splitting answers
abbrev pub split_of : List ℕ → Option ℕ
split_of dump = pick (splits dump) (Some (length (configurations_in dump))) None

-- what stands before a body in the stream of these pieces, whose language is 0
abbrev pub headed : ℕ → ℕ → ℕ → List ℕ
headed kind index size = kind ∷ index ∷ 0 ∷ 0 ∷ size % 256 ∷ size / 256 ∷ []

-- why 21, the opening number of the resulting set; 0 where no set is made
abbrev pub opening_imported : List ℕ → ℕ
opening_imported dump = pick (not (splits dump) || too_large dump) 0 (opening full_speed (lent (imported dump) []))

-- "the dump splits, the resulting set opens with an empty serial block and the buffer holds it"
pub record Accepted (dump : List ℕ) (room : ℕ) : Type 0 where
  pub whole : splits dump ≡ true
  pub opens : opens_as full_speed (imported dump) [] ≡ true
  pub fits : length (imported dump) ≤ room

-- what import answers, whole
pub record Imports (dump buffer after : List ℕ) (r : Report) : Type 0 where
  pub fills : Filled (imported dump) buffer after (importing dump (length buffer)) r.number
  pub why : r.opening ≡ opening_imported dump
