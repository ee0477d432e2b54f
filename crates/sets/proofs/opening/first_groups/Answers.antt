-- `sets::opening::first_groups` meets its contract: group after group. No axiom.
use Rattle.octets.proofs.Vocabulary.{sym, ◌∙◌, rules, eqb-true}
use Rattle.sets.proofs.Devices.{device-told, device-gone, device-one, device-long, device-whole, device-part}
use Rattle.sets.proofs.Entries.{few-entries, none-besides}
use Rattle.sets.proofs.Passing.{frame-whole, frame-few}
use Rattle.sets.proofs.Opened.{first-broken, second-broken, third-broken, device-inside}
use Rattle.sets.proofs.opening.first_groups.Goals as goal

pub returns-then-not-good_frame-clause-err : goal.returns-then-not-good_frame-clause-err
returns-then-not-good_frame-clause-err c = λ serial. first-broken c.args.limits c.args.set.now serial (sym c.good_frame.ensures ∙ c.if-not-good_frame.true)

pub good_contents-requires : goal.good_contents-requires
good_contents-requires c = frame-whole c.args.set.now (sym c.good_frame.ensures ∙ c.if-not-good_frame.false)

pub returns-in_default-clause-err : goal.returns-in_default-clause-err
returns-in_default-clause-err c = λ serial. second-broken c.args.limits c.args.set.now serial (sym c.good_frame.ensures ∙ c.if-not-good_frame.false) c.in_default.ensures.none

pub returns-in_default-sole_entry-clause-err : goal.returns-in_default-sole_entry-clause-err
returns-in_default-sole_entry-clause-err c =
    let o = c.in-Some.ensures.some in
    λ serial. third-broken c.args.limits c.args.set.now serial (sym c.good_frame.ensures ∙ c.if-not-good_frame.false) o.good
    (device-gone c.args.set.now _ o.devices c.args.limits c.in_default-sole_entry.ensures)

pub good_devices-requires : goal.good_devices-requires
good_devices-requires c =
    let o = c.in-Some.ensures.some in
    device-inside c.args.limits c.args.set.now (sym c.good_frame.ensures ∙ c.if-not-good_frame.false) o.good
    (device-told c.args.set.now _ o.devices c.in-Some-sole_entry.ensures).1

pub returns-then-not-good_devices-clause-err : goal.returns-then-not-good_devices-clause-err
returns-then-not-good_devices-clause-err c =
    let o = c.in-Some.ensures.some in
    let alone = device-told c.args.set.now c.in-Some.outline.devices o.devices c.in-Some-sole_entry.ensures in
    λ serial. third-broken c.args.limits c.args.set.now serial (sym c.good_frame.ensures ∙ c.if-not-good_frame.false) o.good
    (device-one c.args.limits c.args.set.now c.in-Some-sole_entry.e _ o.configurations alone.0 alone.1 ∙ sym c.good_devices.ensures ∙ c.if-not-good_devices.true)

pub overflow_add-result : goal.overflow_add-result
overflow_add-result c =
    let o = c.in-Some.ensures.some in
    let set = c.args.set.now in
    let few = few-entries set c.in-Some.outline.configurations o.configurations (device-told set c.in-Some.outline.devices o.devices c.in-Some-sole_entry.ensures).0 in
    let fewer = frame-few set (sym c.good_frame.ensures ∙ c.if-not-good_frame.false) in
    search rules

pub returns-clause-ok : goal.returns-clause-ok
returns-clause-ok c =
    let limits = c.args.limits in
    let set = c.args.set.now in
    let e = c.in-Some-sole_entry.e in
    let o = c.in-Some.ensures.some in
    let n = c.in-Some.outline.configurations in
    let frame = sym c.good_frame.ensures ∙ c.if-not-good_frame.false in
    let alone = device-told set c.in-Some.outline.devices o.devices c.in-Some-sole_entry.ensures in
    let inside = device-inside limits set frame o.good alone.1 in
    let good = sym c.good_devices.ensures ∙ c.if-not-good_devices.false in
    let long = device-long limits set e n good in
    record {
      met = record { frame = frame; contents = o.good; devices = device-one limits set e n o.configurations alone.0 alone.1 ∙ good };
      configurations = o.configurations;
      whole = device-whole set e inside long;
      device = device-part set e inside long alone.1;
      bare = λ t. none-besides set n o.configurations alone.0 (sym c.peek.ensures ∙ eqb-true _ _ t);
    }
