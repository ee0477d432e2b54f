-- `steps::current::endpoint` meets its contract: by the order of refusals. No axiom.
use Rattle.octets.proofs.Vocabulary.{sym, ◌∙◌, arith}
use Rattle.sets.specs.Opening.{lent}
use Rattle.steps.specs.Gathering.{view_in}
use Rattle.steps.proofs.EndpointParts.{record-refused, none_elsewhere, answers, ends-inside, selected-body, whole, fitting}
use Rattle.steps.proofs.current.endpoint.Goals as goal

pub walk-survey-requires : goal.walk-survey-requires
walk-survey-requires c =
    let a = c.args in
    whole a.paired a.set.now a.serial.now a.device c.by_value-selected.ensures c.body_found-body.ensures (c.requires c.if-not-accepted.false) (λ i. omega (arith, c.type_inv.set i))

pub returns-then-not-fits : goal.returns-then-not-fits
returns-then-not-fits c =
    let a = c.args in
    let v = view_in a.paired a.set.now a.serial.now in
    let entry = c.by_value-selected.ensures in
    let body = c.body_found-body.ensures in
    let opens = c.if-not-accepted.false in
    let fit = fitting a.paired a.set.now a.serial.now a.device entry body (c.requires opens) c.walk-survey.ensures c.is_some.ensures c.wakes.ensures c.fits.ensures in
    sym (record-refused a.accepted v a.set.now a.device a.nth opens (sym fit ∙ c.if-not-fits.true))

pub returns-then-device-ne-CONFIGURED : goal.returns-then-device-ne-CONFIGURED
returns-then-device-ne-CONFIGURED c =
    let a = c.args in
    let v = view_in a.paired a.set.now a.serial.now in
    let entry = c.by_value-selected.ensures in
    let body = c.body_found-body.ensures in
    let opens = c.if-not-accepted.false in
    let fit = fitting a.paired a.set.now a.serial.now a.device entry body (c.requires opens) c.walk-survey.ensures c.is_some.ensures c.wakes.ensures c.fits.ensures in
    sym (none_elsewhere a.accepted v a.set.now a.device a.nth opens (sym fit ∙ c.if-not-fits.false) c.if-device-ne-CONFIGURED.true)

pub find-requires : goal.find-requires
find-requires c =
    let a = c.args in
    whole a.paired a.set.now a.serial.now a.device c.by_value-selected.ensures c.body_found-body.ensures (c.requires c.if-not-accepted.false) (λ i. omega (arith, c.type_inv.set i))

pub part_of-requires : goal.part_of-requires
part_of-requires c =
    let a = c.args in
    let opens = c.requires c.if-not-accepted.false in
    let entry = c.by_value-selected.ensures in
    let same = selected-body a.paired a.set.now a.serial.now a.device entry c.body_found-body.ensures in
    rw (c.find.ensures, same, entry) (ends-inside opens.0 (lent a.set.now a.serial.now) opens.1 a.device a.nth)

pub returns : goal.returns
returns c =
    let a = c.args in
    let v = view_in a.paired a.set.now a.serial.now in
    let entry = c.by_value-selected.ensures in
    let body = c.body_found-body.ensures in
    let opens = c.if-not-accepted.false in
    let fit = fitting a.paired a.set.now a.serial.now a.device entry body (c.requires opens) c.walk-survey.ensures c.is_some.ensures c.wakes.ensures c.fits.ensures in
    let same = selected-body a.paired a.set.now a.serial.now a.device entry body in
    c.part_of.ensures ∙ rw (c.find.ensures, same, entry) (sym (answers a.accepted v a.set.now a.device a.nth opens (sym fit ∙ c.if-not-fits.false) c.if-device-ne-CONFIGURED.false))
