-- `descriptors::survey::walk` meets its contract: what was seen and what is ahead tell of the whole. No axiom.
use Rattle.octets.proofs.Vocabulary.{◌-◌, length, drop}
use Rattle.descriptors.specs.Cut.{cut}
use Rattle.descriptors.specs.Walk.{before, stand_in, walked}
use Rattle.descriptors.specs.Survey.{nothing_seen, surveying}
use Rattle.descriptors.proofs.Walks.{Walking}
use Rattle.descriptors.proofs.Ahead.{Place}
use Rattle.descriptors.proofs.survey.walk.Given as goal

abbrev pub invariant-loop-at : goal.invariant-loop-at
invariant-loop-at l =
    Place l.body l.at × Walking (surveying l.alternates l.asked) l.body (walked (surveying l.alternates l.asked) nothing_seen before (cut (drop l.initial.at l.body))) l.seen (stand_in l.last) l.at

abbrev pub decreases-loop-at : goal.decreases-loop-at
decreases-loop-at l = length l.body - l.at
