-- `pair_rules::beside::mirrors_fault` meets its contract. No axiom.
use Rattle.octets.proofs.Vocabulary.{◌≡◌, ◌+◌, ◌*◌, ◌≤◌, drop}
use Rattle.sets.specs.Contents.{entries, entries_of}
use Rattle.sets.proofs.Entries.{rest}
use Rattle.rules.specs.After.{after, first_of}
use Rattle.pair_rules.specs.Pair.{mirrors_from}
use Rattle.pair_rules.proofs.beside.mirrors_fault.Given as goal

abbrev pub invariant-loop-i : goal.invariant-loop-i
invariant-loop-i l =
    (l.k ≤ l.i)
    × (first_of (mirrors_from l.set l.other 4 (entries_of 2 l.other) (entries l.set)) ≡ after l.found (mirrors_from l.set l.other (4 + 8 * l.i) (drop l.k (entries_of 2 l.other)) (rest l.set l.i)))
