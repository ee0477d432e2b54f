-- `pair_rules::beside::qualifier_fault` meets its contract. No axiom.
use Rattle.octets.proofs.Vocabulary.{arith}
use Rattle.sets.specs.Contents.{body_of}
use Rattle.sets.specs.Pair.{qualifier_of}
use Rattle.rules.proofs.Entries.{short}
use Rattle.rules.proofs.After.{first-rule, then-rule, last-rule}
use Rattle.pair_rules.proofs.Agreeing.{agreeing-short, same-agreeing}
use Rattle.pair_rules.proofs.beside.qualifier_fault.Goals as goal

pub overflow_cast-differs : goal.overflow_cast-differs
overflow_cast-differs c =
    let a = c.args in
    let s = agreeing-short (body_of a.set.now a.e) (qualifier_of a.device.now) in
    let l = short a.set.now a.e in
    omega (arith, s, l, rw c.body_of-body.ensures at c.agreeing_qualifier-same.ensures)

pub returns : goal.returns
returns c =
    let a = c.args in
    let mine = body_of a.set.now a.e in
    let b = c.body_of-body.ensures in
    let n = rw b at c.agreeing_qualifier-same.ensures in
    first-rule _ _ c.ask.ensures
    (then-rule _ c.or.ensures _ _ c.ask-2.ensures
    (then-rule _ c.or-2.ensures _ _ (rw b at c.ask-3.ensures) (last-rule _ c.or-3.ensures _ (rw (n, b, same-agreeing mine (qualifier_of a.device.now)) at c.ask-4.ensures))))
