-- `sets::contents::find_entry` meets its contract. Before the i-th entry there is none such. No axiom.
use Rattle.octets.proofs.Vocabulary.{◌≡◌}
use Rattle.octets.specs.Sentences.{first}
use Rattle.sets.specs.Contents.{entries}
use Rattle.sets.specs.Found.{is_at}
use Rattle.sets.proofs.Entries.{rest}
use Rattle.sets.proofs.contents.find_entry.Given as goal

abbrev pub invariant-loop-i : goal.invariant-loop-i
invariant-loop-i l = first (is_at l.kind l.index l.language) (entries l.set) ≡ first (is_at l.kind l.index l.language) (rest l.set l.i)
