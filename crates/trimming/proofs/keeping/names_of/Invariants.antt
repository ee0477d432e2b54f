-- `trimming::keeping::names_of` meets its contract: what is in the table or named by the entries that are left. No axiom.
use Rattle.octets.proofs.Vocabulary.{◌≡◌, ℕ, ◌<◌, true, ◌||◌, length}
use Rattle.octets.specs.Sentences.{any, every}
use Rattle.octets.specs.Table.{has}
use Rattle.descriptors.specs.Cut.{cut, well_cut}
use Rattle.sets.specs.Contents.{bodies}
use Rattle.trimming.specs.Keeping.{named_in}
use Rattle.trimming.proofs.Naming.{bodies_from}
use Rattle.trimming.proofs.keeping.names_of.Given as goal

abbrev pub invariant-loop-i : goal.invariant-loop-i
invariant-loop-i l =
    (length l.table ≡ 8) × (every (λ b. well_cut (cut b)) (bodies_from l.set l.i) ≡ true)
    × ((j : ℕ) → j < 256 → (has l.initial.table j || any (named_in j) (bodies 2 l.set)) ≡ (has l.table j || any (named_in j) (bodies_from l.set l.i)))
