-- `pairs::agreement::same` meets its contract: what is compared, and the rest still to be. No axiom.
use Rattle.octets.proofs.Vocabulary.{◌≡◌, ◌≤◌, ◌&&◌, length, drop}
use Rattle.sets.specs.Pair.{same}
use Rattle.pairs.proofs.agreement.same.Given as goal

abbrev pub invariant-loop-i : goal.invariant-loop-i
invariant-loop-i l = (length l.a ≡ length l.b) × (l.i ≤ length l.a) × (same l.a l.b ≡ (l.good && same (drop l.i l.a) (drop l.i l.b)))
