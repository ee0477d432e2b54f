-- `descriptors::sequence::may_come` meets its contract: each rule that fails. No axiom.
use Rattle.octets.proofs.Vocabulary.{sym, ap, ◌∙◌, not, arith, le-leb}
use Rattle.descriptors.proofs.SequenceRules.{or-digit}
use Rattle.descriptors.proofs.sequence.may_come.Goals as goal

pub returns-then-good_address : goal.returns-then-good_address
returns-then-good_address c =
    let a = c.args in
    let address = c.peek-address.ensures in
    let l = le-leb 7 _ c.if-d-lt7.false in
    let some = le-leb 1 a.order.coming (omega (arith, c.if-order-eq0.false)) in
    let good = sym (rw address at c.good_address.ensures) ∙ c.if-good_address.true in
    ap not ((rw (c.bit_of.ensures.0, address) at c.test_bit.ensures) ∙ or-digit a.order.others a.order.setting _) ∙ rw (l, good, some)
