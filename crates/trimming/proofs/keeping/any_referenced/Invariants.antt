-- `trimming::keeping::any_referenced` meets its contract: before the i-th entry there is none. No axiom.
use Rattle.octets.proofs.Vocabulary.{◌≡◌}
use Rattle.octets.specs.Sentences.{any}
use Rattle.sets.specs.Contents.{entries}
use Rattle.sets.proofs.Entries.{rest}
use Rattle.trimming.specs.Keeping.{table_names}
use Rattle.trimming.proofs.keeping.any_referenced.Given as goal

abbrev pub invariant-loop-i : goal.invariant-loop-i
invariant-loop-i l = any (table_names l.names) (entries l.set) ≡ any (table_names l.names) (rest l.set l.i)
