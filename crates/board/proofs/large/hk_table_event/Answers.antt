-- `board::large::hk_table_event` meets its contract: the event's answer, handed out. No axiom.
use Rattle.octets.proofs.Vocabulary.{sym, ap, ◌∙◌}
use Rattle.sets.specs.Opening.{lent}
use Rattle.records.specs.Image.{device_of}
use Rattle.events.specs.Step.{Reply, event}
use Rattle.steps.proofs.Steps.{event-in}
use Rattle.promises.specs.Refusals.{event_inside}
use Rattle.board.specs.Exports.{numbered}
use Rattle.board.proofs.large.hk_table_event.Goals as goal

pub hand_out-requires : goal.hand_out-requires
hand_out-requires c =
    let a = c.args in
    let b = lent a.set.now a.serial.now in
    let q = sym (event-in b a.image.now c.event_of-what.result) ∙ ap (event b a.image.now) c.event_of-what.ensures in
    rw (c.react-answer.ensures.answer ∙ ap (λ (r : Reply). r.answer) q) (event_inside b a.image.now (numbered a.kind a.value a.setup.now))

pub returns : goal.returns
returns c =
    let a = c.args in
    let b = lent a.set.now a.serial.now in
    let q = sym (event-in b a.image.now c.event_of-what.result) ∙ ap (event b a.image.now) c.event_of-what.ensures in
    let e = c.react-answer.ensures in
    record {
      leaves = e.image ∙ ap (λ (r : Reply). r.image) q;
      answers = rw (e.answer ∙ ap (λ (r : Reply). r.answer) q) at (c.hand_out.ensures (device_of a.image.now).speed);
    }
