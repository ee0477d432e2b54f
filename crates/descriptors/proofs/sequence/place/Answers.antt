-- `descriptors::sequence::place` meets its contract: by its number. No axiom.
use Rattle.octets.proofs.Vocabulary.{◌∙◌, ◌+◌, eq-eqb, ne_eqb, lt-ltb}
use Rattle.descriptors.specs.Sequence.{next_of}
use Rattle.descriptors.proofs.SequenceRules.{or-digit}
use Rattle.descriptors.proofs.sequence.place.Goals as goal

pub returns-then-setting-lt16 : goal.returns-then-setting-lt16
returns-then-setting-lt16 c =
    let a = c.args in
    let q = ne_eqb a.setting (a.order.last + 256) c.if-setting-order.false in
    let u = eq-eqb a.setting (next_of a.order.last) (c.if-setting-next_of.true ∙ c.next_of.ensures) in
    record { may = rw (q, u, lt-ltb a.setting 16 c.if-setting-lt16.true); on = record { owns = rw q; takes = λ e l. rw q (or-digit a.order.others a.order.own e) } }
