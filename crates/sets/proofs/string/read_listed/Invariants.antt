-- `sets::string::read_listed` meets its contract: one step of the pass after another. No axiom.
use Rattle.octets.proofs.Vocabulary.{◌+◌, ◌-◌, length}
use Rattle.sets.proofs.Passing.{Passing}
use Rattle.sets.proofs.string.read_listed.Given as goal

abbrev pub invariant-loop-i : goal.invariant-loop-i
invariant-loop-i l = Passing l.set l.languages l.serial l.table l.names l.at l.language l.i

abbrev pub decreases-loop-i : goal.decreases-loop-i
decreases-loop-i l = (l.count - l.i) + (length l.languages - l.at)
