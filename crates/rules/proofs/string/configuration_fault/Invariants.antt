-- `rules::string::configuration_fault` meets its contract. No axiom.
use Rattle.octets.proofs.Vocabulary.{◌≡◌, ◌-◌, length, drop}
use Rattle.descriptors.specs.Cut.{cut}
use Rattle.rules.specs.Strings.{interfaces_from}
use Rattle.rules.specs.After.{after}
use Rattle.rules.proofs.string.configuration_fault.Given as goal

abbrev pub invariant-loop-at : goal.invariant-loop-at
invariant-loop-at l =
    after l.initial.found (interfaces_from l.judge.set.now l.body.start 0 (cut l.bytes)) ≡ after l.found (interfaces_from l.judge.set.now l.body.start l.at (cut (drop l.at l.bytes)))

abbrev pub decreases-loop-at : goal.decreases-loop-at
decreases-loop-at l = length l.bytes - l.at
