-- `descriptors::check::good_companions` meets its contract: what is asked of all is asked of the descriptors ahead. No axiom.
use Rattle.octets.proofs.Vocabulary.{◌-◌, false, length, drop}
use Rattle.descriptors.specs.Cut.{cut}
use Rattle.descriptors.specs.Walk.{before, stand_in, walked}
use Rattle.descriptors.specs.Check.{accompanying}
use Rattle.descriptors.proofs.Walks.{Walking}
use Rattle.descriptors.proofs.check.good_companions.Given as goal

abbrev pub invariant-loop-at : goal.invariant-loop-at
invariant-loop-at l = Walking accompanying l.body (walked accompanying false before (cut (drop l.from l.body))) l.due (stand_in l.last) l.at

abbrev pub decreases-loop-at : goal.decreases-loop-at
decreases-loop-at l = length l.body - l.at
