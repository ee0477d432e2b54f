-- `sets::contents::count_of` meets its contract: those counted and those left are all. No axiom.
use Rattle.octets.proofs.Vocabulary.{◌≡◌, ◌+◌, ◌≤◌, length}
use Rattle.sets.specs.Contents.{entries_of}
use Rattle.sets.proofs.Entries.{rest_of}
use Rattle.sets.proofs.contents.count_of.Given as goal

abbrev pub invariant-loop-i : goal.invariant-loop-i
invariant-loop-i l = (l.n ≤ l.i) × (length (entries_of l.kind l.set) ≡ l.n + length (rest_of l.kind l.set l.i))
