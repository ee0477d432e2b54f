-- `rules::configuration::rest_fault` meets its contract. No axiom.
use Rattle.octets.proofs.Vocabulary.{◌≡◌, ◌-◌, length, drop}
use Rattle.descriptors.specs.Cut.{cut}
use Rattle.descriptors.specs.Walk.{before, stand_in}
use Rattle.descriptors.specs.Check.{beginning}
use Rattle.rules.specs.Configuration.{progress_in, rest_findings}
use Rattle.rules.specs.After.{after, first_of}
use Rattle.rules.proofs.configuration.rest_fault.Given as goal

abbrev pub invariant-loop-at : goal.invariant-loop-at
invariant-loop-at l =
    first_of (rest_findings l.limits l.body.start l.interfaces l.from 0 beginning before (cut (drop l.from l.bytes))) ≡ after l.found (rest_findings l.limits l.body.start l.interfaces l.at l.progress.head (progress_in l.progress) (stand_in l.last) (cut (drop l.at l.bytes)))

abbrev pub decreases-loop-at : goal.decreases-loop-at
decreases-loop-at l = length l.bytes - l.at
