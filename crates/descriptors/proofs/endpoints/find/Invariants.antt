-- `descriptors::endpoints::find` meets its contract: the walk from each descriptor finds what the whole walk finds. No axiom.
use Rattle.octets.proofs.Vocabulary.{◌-◌, length, drop}
use Rattle.descriptors.specs.Cut.{cut}
use Rattle.descriptors.specs.Walk.{before, stand_in, walked}
use Rattle.descriptors.specs.Seek.{seeking}
use Rattle.descriptors.proofs.Walks.{Walking}
use Rattle.descriptors.proofs.Ahead.{Place}
use Rattle.descriptors.proofs.endpoints.find.Given as goal

abbrev pub invariant-loop-at : goal.invariant-loop-at
invariant-loop-at l =
    Place l.body l.at × Walking (seeking l.alternates) l.body (walked (seeking l.alternates) (record { left = l.number; offset = l.initial.at }) before (cut (drop l.initial.at l.body))) (record { left = l.left; offset = l.at }) (stand_in l.last) l.at

abbrev pub decreases-loop-at : goal.decreases-loop-at
decreases-loop-at l = length l.body - l.at
