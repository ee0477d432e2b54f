-- `pairs::agreement::mirrors` meets its contract: those compared, and those left on both sides. No axiom.
use Rattle.octets.proofs.Vocabulary.{◌≡◌, ◌≤◌, ◌&&◌, drop}
use Rattle.sets.specs.Contents.{entries_of}
use Rattle.sets.proofs.Entries.{rest_of}
use Rattle.sets.specs.Pair.{mirrors_all, mirrors}
use Rattle.pairs.proofs.agreement.mirrors.Given as goal

abbrev pub invariant-loop-i : goal.invariant-loop-i
invariant-loop-i l = (l.k ≤ l.i) × (mirrors l.set l.other ≡ (l.good && mirrors_all l.set l.other (rest_of 7 l.set l.i) (drop l.k (entries_of 2 l.other))))
