-- `pairs::agreement::same` meets its contract: what is compared, and the rest still to be. No axiom.
use Rattle.octets.proofs.Vocabulary.{sym, ◌∙◌, arith}
use Rattle.pairs.proofs.Same.{same_turn, same_end, same-lengths}
use Rattle.pairs.proofs.agreement.same.Goals as goal

pub returns-then-a-b : goal.returns-then-a-b
returns-then-a-b c = let a = c.args in same-lengths a.a.now a.b.now c.if-a-b.true

pub loop-i-preserved : goal.loop-i-preserved
loop-i-preserved c =
    let a = c.args in (
      c.loop-i.invariant.0,
      omega arith,
      c.loop-i.invariant.2 ∙ same_turn a.a.now a.b.now c.loop-i.i c.loop-i.good c.loop-i-test.true c.loop-i.invariant.0,
    )

pub returns : goal.returns
returns c =
    let a = c.args in
    sym (c.loop-i.invariant.2 ∙ same_end a.a.now a.b.now c.loop-i.i c.loop-i.good c.loop-i-test.false c.loop-i.invariant.0)
