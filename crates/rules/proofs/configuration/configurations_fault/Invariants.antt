-- `rules::configuration::configurations_fault` meets its contract. No axiom.
use Rattle.octets.proofs.Vocabulary.{◌≡◌, ◌+◌, ◌*◌, ◌≤◌, List, [], length}
use Rattle.sets.proofs.Entries.{rest}
use Rattle.rules.specs.After.{after, first_of}
use Rattle.sets.specs.Contents.{entries}
use Rattle.rules.specs.Configuration.{configurations_from}
use Rattle.rules.proofs.Entries.{Seen}
use Rattle.rules.proofs.configuration.configurations_fault.Given as goal

abbrev pub invariant-loop-i : goal.invariant-loop-i
invariant-loop-i l =
    (l.index ≤ l.i) × (length l.seen ≡ 8) × (earlier : List (List _)) × Seen l.seen earlier
    × (first_of (configurations_from l.limits l.set 4 0 [] (entries l.set)) ≡ after l.found (configurations_from l.limits l.set (4 + 8 * l.i) l.index earlier (rest l.set l.i)))
