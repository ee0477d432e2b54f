-- `pairs::agreement::qualifies` meets its contract. No axiom.
use Rattle.octets.proofs.Vocabulary.{sym, ap, ◌∙◌}
use Rattle.sets.specs.Contents.{entries_of}
use Rattle.sets.specs.Pieces.{sole}
use Rattle.sets.specs.Device.{device_body}
use Rattle.sets.specs.Pair.{is_qualifier_of, qualifies}
use Rattle.sets.proofs.Pieces.{of-kind}
use Rattle.sets.proofs.Devices.{sole-one, sole-other, sole-missing}
use Rattle.pairs.proofs.agreement.qualifies.Goals as goal

pub returns-then-count_of-ne1 : goal.returns-then-count_of-ne1
unfolding qualifies
returns-then-count_of-ne1 c =
    let a = c.args in
    sole-other a.set.now (is_qualifier_of (device_body a.other.now)) (entries_of 6 a.set.now) (λ p. c.if-count_of-ne1.true (c.count_of.ensures ∙ p)) ∙ ap (sole (is_qualifier_of (device_body a.other.now))) (of-kind a.set.now 6)

pub returns-in-Some : goal.returns-in-Some
unfolding qualifies
returns-in-Some c =
    let a = c.args in
    rw (c.is_qualifier.ensures, c.device_body.ensures, c.body_of.ensures)
    (sole-one a.set.now (is_qualifier_of (device_body a.other.now)) (entries_of 6 a.set.now) (sym c.count_of.ensures ∙ c.if-count_of-ne1.false)
    (sym c.entry_of.ensures ∙ c.in-Some.is) ∙ ap (sole (is_qualifier_of (device_body a.other.now))) (of-kind a.set.now 6))

pub returns-in-None : goal.returns-in-None
unfolding qualifies
returns-in-None c =
    let a = c.args in
    sole-missing a.set.now (is_qualifier_of (device_body a.other.now)) (entries_of 6 a.set.now) (sym c.entry_of.ensures ∙ c.in-None.is) ∙ ap (sole (is_qualifier_of (device_body a.other.now))) (of-kind a.set.now 6)
