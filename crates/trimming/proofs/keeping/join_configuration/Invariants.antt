-- `trimming::keeping::join_configuration` meets its contract: what is in the table or still to be collected by the walk. No axiom.
use Rattle.octets.proofs.Vocabulary.{◌≡◌, ℕ, ◌-◌, ◌<◌, ◌||◌, length}
use Rattle.octets.specs.Sentences.{member}
use Rattle.octets.specs.Table.{has}
use Rattle.descriptors.specs.Walk.{before, stand_in, collected}
use Rattle.descriptors.specs.Check.{referring}
use Rattle.descriptors.proofs.Ahead.{Place}
use Rattle.trimming.proofs.keeping.join_configuration.Given as goal

abbrev pub invariant-loop-at : goal.invariant-loop-at
invariant-loop-at l =
    Place l.body l.at × (length l.table ≡ 8) × ((j : ℕ) → j < 256 → (has l.initial.table j || member j (collected referring l.body before l.initial.at)) ≡ (has l.table j || member j (collected referring l.body (stand_in l.last) l.at)))

abbrev pub decreases-loop-at : goal.decreases-loop-at
decreases-loop-at l = length l.body - l.at
