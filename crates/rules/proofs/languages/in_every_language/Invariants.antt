-- `rules::languages::in_every_language` meets its contract: the table is right for the languages passed. No axiom.
use Rattle.octets.proofs.Vocabulary.{◌≡◌, ℕ, ◌*◌, ◌<◌, ◌&&◌, drop}
use Rattle.octets.specs.Table.{has}
use Rattle.sets.specs.Pieces.{pieces_in, pieces_of}
use Rattle.sets.specs.Strings.{words, in_every}
use Rattle.rules.proofs.languages.in_every_language.Given as goal

abbrev pub invariant-loop-i : goal.invariant-loop-i
invariant-loop-i l =
    (j : ℕ) → j < 256
    → in_every (words (drop 2 l.languages)) (pieces_of 3 (pieces_in l.set)) j ≡ (has l.table j && in_every (words (drop (2 * l.i) l.languages)) (pieces_of 3 (pieces_in l.set)) j)
