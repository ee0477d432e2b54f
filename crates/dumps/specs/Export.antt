-- What export's functions answer, whole.
use Rattle.std.specs.Prelude.{ℕ, ◌+◌, ◌≡◌, List, [], ◌∷◌, ◌++◌, length, eqb, leb}
use Rattle.octets.specs.Sentences.{pick}
use Rattle.sets.specs.declared.Entry.{Entry}
use Rattle.sets.specs.Pieces.{Piece, pieces_in, pieces_of}
use Rattle.set_writer.specs.Writer.{Filled}
use Rattle.dumps.specs.Dump.{exported, exporting}

-- the device and the configurations of a set, as pieces
abbrev pub own : List ℕ → List Piece
own set = pieces_of 1 (pieces_in set) ++ pieces_of 2 (pieces_in set)

-- what export answers: its number, and the dump's length, 0 after a refusal
pub record Dumped : Type 0 where
  pub number : ℕ
  pub written : ℕ

-- the same, whole: its number, the buffer left, and the dump's length, 0 after a refusal
pub record Exports (set serial buffer after : List ℕ) (r : Dumped) : Type 0 where
  pub fills : Filled (exported set) buffer after (exporting set serial (length buffer)) r.number
  pub counts : r.written ≡ pick (eqb r.number 0) (length (exported set)) 0

-- how many bytes the entries of types up to 2 have
abbrev pub share : Entry → ℕ
share e = pick (leb e.kind 2) e.length 0

unfoldable pub shares : List Entry → ℕ
shares [] = 0
shares (e ∷ es) = share e + shares es
