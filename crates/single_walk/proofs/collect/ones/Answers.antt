-- `single_walk::collect::ones` meets its contract: a power of two less one. No axiom.
use Rattle.octets.proofs.Vocabulary.{arith}
use lib.Pow.{pow_pos}
use Rattle.octets.proofs.Bits.{shifted_one}
use Rattle.single_walk.proofs.Rules.{lowest-bits}
use Rattle.single_walk.proofs.collect.ones.Goals as goal

pub overflow_sub-result : goal.overflow_sub-result
overflow_sub-result c = rw (shifted_one c.args.n (omega arith)) (omega (arith, pow_pos c.args.n))

pub returns : goal.returns
returns c = λ k. rw (shifted_one c.args.n (omega arith)) (lowest-bits c.args.n k)
