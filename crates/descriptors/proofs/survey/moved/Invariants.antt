-- `descriptors::survey::moved` meets its contract: the bits of the interfaces passed are told. No axiom.
use Rattle.octets.proofs.Vocabulary.{◌≡◌, ℕ, ◌&&◌, ltb}
use Rattle.octets.specs.Bit.{bit}
use Rattle.descriptors.proofs.Alternates.{not_zero}
use Rattle.descriptors.proofs.survey.moved.Given as goal

abbrev pub invariant-loop-j : goal.invariant-loop-j
invariant-loop-j l = (k : ℕ) → bit l.word k ≡ (ltb k l.j && not_zero l.alternates k)
