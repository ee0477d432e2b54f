-- `rules::string::references_fault` meets its contract. No axiom.
use Rattle.octets.proofs.Vocabulary.{◌≡◌}
use Rattle.sets.proofs.Entries.{rest}
use Rattle.rules.specs.After.{after, first_of}
use Rattle.sets.specs.Contents.{entries}
use Rattle.rules.specs.Strings.{references_from}
use Rattle.rules.proofs.string.references_fault.Given as goal

abbrev pub invariant-loop-i : goal.invariant-loop-i
invariant-loop-i l = first_of (references_from l.set (entries l.set)) ≡ after l.found (references_from l.set (rest l.set l.i))
