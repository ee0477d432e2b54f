-- Working definitions for the contracts: contents by the entries' own lengths, and the bodies that entries name; no promise cites them.
use Rattle.std.specs.Prelude.{ℕ, ◌+◌, List, [], ◌∷◌, ◌++◌, map}
use Rattle.sets.specs.declared.Entry.{Entry}
use Rattle.set_writer.specs.Writer.{body_bytes}
use Rattle.set_writer.specs.Places.{bytes_of}
use Rattle.sets.specs.Pieces.{piece_for}

abbrev pub entry_with : Entry → ℕ → List ℕ
entry_with e offset = bytes_of (record e { offset = offset })

unfoldable pub contents_with : ℕ → List Entry → List ℕ
contents_with start [] = []
contents_with start (e ∷ es) = entry_with e start ++ contents_with (start + e.length) es

unfoldable pub lengths : List Entry → ℕ
lengths [] = 0
lengths (e ∷ es) = e.length + lengths es

abbrev pub bodies_with : List ℕ → List Entry → List ℕ
bodies_with set es = body_bytes (map (piece_for set) es)
