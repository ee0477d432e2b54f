-- `pair_rules::beside::mirror_fault` meets its contract. No axiom.
use Rattle.octets.proofs.Vocabulary.{arith}
use Rattle.sets.specs.Contents.{body_of}
use Rattle.sets.specs.Pair.{retyped}
use Rattle.rules.proofs.Entries.{short}
use Rattle.rules.proofs.After.{first-rule, then-rule, last-rule}
use Rattle.pair_rules.proofs.Agreeing.{agreeing-short, same-agreeing}
use Rattle.pair_rules.proofs.beside.mirror_fault.Goals as goal

pub overflow_cast-differs : goal.overflow_cast-differs
overflow_cast-differs c =
    let a = c.args in
    let s = agreeing-short (body_of a.set.now a.e) (retyped a.theirs.now) in
    let l = short a.set.now a.e in
    omega (arith, s, l, rw c.body_of-body.ensures at c.agreeing_retyped-same.ensures)

pub returns : goal.returns
returns c =
    let a = c.args in
    let mine = body_of a.set.now a.e in
    let b = c.body_of-body.ensures in
    let n = rw b at c.agreeing_retyped-same.ensures in
    let l = c.retyped_length.ensures in
    first-rule _ _ c.ask.ensures
    (then-rule _ c.or.ensures _ _ c.ask-2.ensures
    (then-rule _ c.or-2.ensures _ _ (rw (b, l) at c.ask-3.ensures) (last-rule _ c.or-3.ensures _ (rw (n, b, l, same-agreeing mine (retyped a.theirs.now)) at c.ask-4.ensures))))
