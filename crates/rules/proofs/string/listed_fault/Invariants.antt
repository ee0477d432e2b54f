-- `rules::string::listed_fault` meets its contract. No axiom.
use Rattle.octets.proofs.Vocabulary.{◌≡◌, ◌+◌, ◌*◌, drop}
use Rattle.sets.proofs.Entries.{rest}
use Rattle.rules.specs.After.{after, first_of}
use Rattle.sets.specs.Contents.{entries}
use Rattle.sets.specs.Strings.{words}
use Rattle.rules.specs.Strings.{listed_from}
use Rattle.rules.proofs.string.listed_fault.Given as goal

abbrev pub invariant-loop-i : goal.invariant-loop-i
invariant-loop-i l =
    first_of (listed_from l.set (words (drop 2 l.zero)) 4 (entries l.set)) ≡ after l.found (listed_from l.set (words (drop 2 l.zero)) (4 + 8 * l.i) (rest l.set l.i))
