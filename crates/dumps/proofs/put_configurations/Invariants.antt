-- `dumps::put_configurations` meets its contract: the pieces of the bodies that are left. No axiom.
use Rattle.octets.proofs.Vocabulary.{◌≡◌, ◌+◌, ◌-◌, ◌≤◌, ◌<◌, true, length, drop}
use Rattle.buffers.proofs.Written.{Going}
use Rattle.dumps.specs.Dump.{configurations_in}
use Rattle.dumps.proofs.Splitting.{splitting, bodies}
use Rattle.dumps.proofs.Streaming.{streamed}
use Rattle.dumps.proofs.put_configurations.Given as goal

abbrev pub invariant-loop-from : goal.invariant-loop-from
invariant-loop-from l =
    (l.from ≤ length l.dump) ×
    (splitting (drop l.from l.dump) ≡ true) ×
    (l.index + length (bodies (drop l.from l.dump)) < 256) ×
    Going l.initial.w (streamed 0 (configurations_in l.dump)) l.w (streamed l.index (bodies (drop l.from l.dump)))

abbrev pub decreases-loop-from : goal.decreases-loop-from
decreases-loop-from l = length l.dump - l.from
