-- `dumps::zero_configuration` meets its contract: the places that the walk has still to collect have still to be blanked. No axiom.
use Rattle.octets.proofs.Vocabulary.{◌≡◌, ◌-◌, length}
use Rattle.descriptors.specs.Walk.{stand_in, collected}
use Rattle.dumps.specs.Dump.{blanked, zeroed_configuration}
use Rattle.dumps.proofs.Naming.{name_at}
use Rattle.dumps.proofs.zero_configuration.Given as goal

abbrev pub invariant-loop-at : goal.invariant-loop-at
invariant-loop-at l = blanked (collected name_at l.body (stand_in l.last) l.at) l.copy ≡ zeroed_configuration l.body

abbrev pub decreases-loop-at : goal.decreases-loop-at
decreases-loop-at l = length l.body - l.at
