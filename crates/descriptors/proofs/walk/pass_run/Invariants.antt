-- `descriptors::walk::pass_run` meets its contract: a run, as far as it goes. No axiom.
use Rattle.octets.proofs.Vocabulary.{◌-◌, length}
use Rattle.descriptors.specs.Walk.{Plains}
use Rattle.descriptors.proofs.walk.pass_run.Given as goal

abbrev pub invariant-loop-place : goal.invariant-loop-place
invariant-loop-place l = Plains l.body l.from l.place

abbrev pub decreases-loop-place : goal.decreases-loop-place
decreases-loop-place l = length l.body - l.place
