-- Each event has a size.
use Rattle.std.proofs.Common.{length, ◌-◌, ◌≤◌}
use Rattle.bench_answers.proofs.runs.answer_all.Given as goal

abbrev pub invariant-loop-at : goal.invariant-loop-at
invariant-loop-at g l = l.at ≤ length l.events

abbrev pub decreases-loop-at : goal.decreases-loop-at
decreases-loop-at g l = length l.events - l.at
