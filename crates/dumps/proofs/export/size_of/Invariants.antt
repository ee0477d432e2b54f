-- `dumps::export::size_of` meets its contract: what is counted and what is left is all. No axiom.
use Rattle.octets.proofs.Vocabulary.{◌≡◌, ◌+◌, ◌*◌, ◌≤◌}
use Rattle.sets.specs.Contents.{entries}
use Rattle.sets.proofs.Entries.{rest}
use Rattle.dumps.specs.Export.{shares}
use Rattle.dumps.proofs.export.size_of.Given as goal

abbrev pub invariant-loop-i : goal.invariant-loop-i
invariant-loop-i l = (l.size ≤ 65536 * l.i) × (shares (entries l.set) ≡ l.size + shares (rest l.set l.i))
