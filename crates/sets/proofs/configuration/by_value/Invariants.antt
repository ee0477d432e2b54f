-- `sets::configuration::by_value` meets its contract. Before the i-th entry there is none such. No axiom.
use Rattle.octets.proofs.Vocabulary.{◌≡◌}
use Rattle.octets.specs.Sentences.{first}
use Rattle.sets.specs.Contents.{entries_of}
use Rattle.sets.specs.Found.{valued}
use Rattle.sets.proofs.Entries.{rest_of}
use Rattle.sets.proofs.configuration.by_value.Given as goal

abbrev pub invariant-loop-i : goal.invariant-loop-i
invariant-loop-i l = first (valued l.set l.value.0) (entries_of 2 l.set) ≡ first (valued l.set l.value.0) (rest_of 2 l.set l.i)
