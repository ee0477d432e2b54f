-- Each transfer has a size.
use Rattle.std.proofs.Common.{length, ◌-◌, ◌≤◌}
use Rattle.bench_answers.proofs.replay.replay_all.Given as goal

abbrev pub invariant-loop-at : goal.invariant-loop-at
invariant-loop-at g l = l.at ≤ length l.transfers

abbrev pub decreases-loop-at : goal.decreases-loop-at
decreases-loop-at g l = length l.transfers - l.at
