-- A descriptor never starts past the byte that is compared.
use Rattle.std.proofs.Common.{◌≤◌}
use Rattle.bench_answers.proofs.explain.differ_in_sizes.Given as goal

abbrev pub invariant-loop-k : goal.invariant-loop-k
invariant-loop-k l = l.start ≤ l.k
