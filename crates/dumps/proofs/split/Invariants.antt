-- `dumps::split` meets its contract: the dump splits as what is left of it does, and has as many bodies more. No axiom.
use Rattle.octets.proofs.Vocabulary.{◌≡◌, ◌+◌, ◌-◌, ◌≤◌, ◌<◌, length, drop}
use Rattle.dumps.specs.Dump.{configurations_in}
use Rattle.dumps.proofs.Splitting.{splitting, bodies}
use Rattle.dumps.proofs.split.Given as goal

abbrev pub invariant-loop-at : goal.invariant-loop-at
invariant-loop-at l =
    (l.at ≤ length l.dump) ×
    (l.n ≤ l.at) ×
    (18 < length l.dump) ×
    (splitting (drop 18 l.dump) ≡ splitting (drop l.at l.dump)) ×
    (length (configurations_in l.dump) ≡ l.n + length (bodies (drop l.at l.dump)))

abbrev pub decreases-loop-at : goal.decreases-loop-at
decreases-loop-at l = length l.dump - l.at
