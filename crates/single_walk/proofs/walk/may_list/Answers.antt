-- `single_walk::walk::may_list` meets its contract: each rule that fails. No axiom.
use Rattle.octets.proofs.Vocabulary.{sym, ◌∙◌}
use Rattle.descriptors.proofs.SequenceRules.{by_kind}
use Rattle.single_walk.specs.Course.{limits_at}
use Rattle.single_walk.proofs.walk.may_list.Goals as goal

pub returns-then-may_come : goal.returns-then-may_come
returns-then-may_come c =
    let a = c.args in
    let kind = rw (c.peek.ensures, c.word.ensures, c.peek-then-may_come.ensures) at c.good_kind.ensures in
    kind ∙ sym (by_kind (limits_at a.high) a.order a.d.now ∙ rw (sym c.may_come.ensures ∙ c.if-may_come.true))

pub returns : goal.returns
returns c =
    let a = c.args in
    sym (by_kind (limits_at a.high) a.order a.d.now ∙ rw (sym c.may_come.ensures ∙ c.if-may_come.false))
