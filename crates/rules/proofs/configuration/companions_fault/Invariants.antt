-- `rules::configuration::companions_fault` meets its contract. No axiom.
use Rattle.octets.proofs.Vocabulary.{◌≡◌, ◌-◌, false, length, drop}
use Rattle.descriptors.specs.Cut.{cut}
use Rattle.rules.specs.Configurations.{companions_from}
use Rattle.rules.specs.After.{after, first_of}
use Rattle.rules.proofs.configuration.companions_fault.Given as goal

abbrev pub invariant-loop-at : goal.invariant-loop-at
invariant-loop-at l =
    first_of (companions_from l.body.start 0 0 false (cut l.bytes)) ≡ after l.found (companions_from l.body.start l.at l.behind l.due (cut (drop l.at l.bytes)))

abbrev pub decreases-loop-at : goal.decreases-loop-at
decreases-loop-at l = length l.bytes - l.at
