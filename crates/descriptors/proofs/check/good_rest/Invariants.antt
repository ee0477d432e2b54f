-- `descriptors::check::good_rest` meets its contract: what the whole walk says, the walk from each place says. No axiom.
use Rattle.octets.proofs.Vocabulary.{◌+◌, ◌-◌, length}
use Rattle.descriptors.specs.Sequence.{unaccompanied}
use Rattle.descriptors.proofs.Reaching.{Stood}
use Rattle.descriptors.proofs.check.good_rest.Given as goal

abbrev pub invariant-loop-at : goal.invariant-loop-at
invariant-loop-at l = Stood (unaccompanied l.limits) l.interfaces l.names l.body l.from l.order l.refers l.at

abbrev pub decreases-loop-at : goal.decreases-loop-at
decreases-loop-at l = length l.body + 256 - l.at
