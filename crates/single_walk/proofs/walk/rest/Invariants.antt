-- `single_walk::walk::rest` meets its contract: what the whole walk says, the walk from each place says, and what was found beside it. No axiom.
use Rattle.octets.proofs.Vocabulary.{◌≡◌, ◌+◌, ◌-◌, Bool, length}
use Rattle.descriptors.specs.declared.survey.Asked.{Asked}
use Rattle.single_walk.specs.Course.{limits_at, wanted_of}
use Rattle.single_walk.proofs.Reaching.{Gathered}
use Rattle.single_walk.proofs.walk.rest.Given as goal

abbrev pub invariant-loop-at : goal.invariant-loop-at
invariant-loop-at l =
    (high : Bool) (asked : Asked) → l.wanted ≡ wanted_of high asked → Gathered (limits_at high) l.interfaces l.names.table.now l.alternates asked l.body l.from l.course l.at

abbrev pub decreases-loop-at : goal.decreases-loop-at
decreases-loop-at l = length l.body + 256 - l.at
