-- `trimming::count_kept` meets its contract. No axiom.
use Rattle.octets.proofs.Vocabulary.{◌≡◌, ◌+◌, ◌≤◌, length}
use Rattle.octets.specs.Sentences.{only}
use Rattle.sets.specs.Contents.{entries}
use Rattle.sets.proofs.Entries.{rest}
use Rattle.trimming.specs.Keeping.{keeps_by}
use Rattle.trimming.proofs.count_kept.Given as goal

abbrev pub invariant-loop-i : goal.invariant-loop-i
invariant-loop-i l = (l.n ≤ l.i) × (length (only (keeps_by l.keeping.names l.keeping.zero) (entries l.contents)) ≡ l.n + length (only (keeps_by l.keeping.names l.keeping.zero) (rest l.contents l.i)))
