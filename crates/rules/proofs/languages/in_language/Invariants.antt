-- `rules::languages::in_language` meets its contract: those in the new table, and those that the entries left still add, are all. No axiom.
use Rattle.octets.proofs.Vocabulary.{◌≡◌, ℕ, ◌<◌, map, ◌&&◌, ◌||◌, length}
use Rattle.octets.specs.Sentences.{any}
use Rattle.octets.specs.Table.{has}
use Rattle.sets.specs.Pieces.{piece_for, pieces_in, pieces_of}
use Rattle.sets.specs.Strings.{is_string}
use Rattle.sets.proofs.Entries.{rest}
use Rattle.rules.proofs.languages.in_language.Given as goal

abbrev pub invariant-loop-i : goal.invariant-loop-i
invariant-loop-i l = (length l.next ≡ 8) × ((j : ℕ) → j < 256 → (has l.table j && any (is_string j l.language) (pieces_of 3 (pieces_in l.set))) ≡ (has l.next j || (has l.table j && any (is_string j l.language) (pieces_of 3 (map (piece_for l.set) (rest l.set l.i))))))
