-- `set_writer::pieces::count_pieces` meets its contract: the stream ends as what is left of it does, and has as many pieces more. No axiom.
use Rattle.octets.proofs.Vocabulary.{◌≡◌, ◌+◌, ◌-◌, ◌≤◌, length, drop}
use Rattle.set_writer.specs.Writer.{ends, pieces}
use Rattle.set_writer.proofs.pieces.count_pieces.Given as goal

abbrev pub invariant-loop-at : goal.invariant-loop-at
invariant-loop-at l =
    (l.at ≤ length l.stream) ×
    (l.n ≤ l.at) ×
    (ends l.stream ≡ ends (drop l.at l.stream)) ×
    (length (pieces l.stream) ≡ l.n + length (pieces (drop l.at l.stream)))

abbrev pub decreases-loop-at : goal.decreases-loop-at
decreases-loop-at l = length l.stream - l.at
