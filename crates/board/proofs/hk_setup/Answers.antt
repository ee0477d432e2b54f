-- `board::hk_setup` meets its contract: the event's answer, handed out. No axiom.
use Rattle.octets.proofs.Vocabulary.{◌≡◌, ap, ◌∙◌}
use Rattle.records.specs.Image.{device_of}
use Rattle.events.specs.declared.Event.{Event}
use Rattle.events.specs.Coded.{answer_in}
use Rattle.events.specs.Step.{event, setup_event}
use Rattle.promises.specs.Refusals.{event_inside}
use Rattle.sets.specs.Opening.{lent}
use Rattle.board.proofs.hk_setup.Goals as goal

pub hand_out-requires : goal.hand_out-requires
hand_out-requires c =
    let a = c.args in
    let b = lent a.set.now a.serial.now in
    rw c.event-answer.ensures.answer (event_inside b a.image.now c.setup_event.result)

pub returns : goal.returns
returns c =
    let a = c.args in
    let b = lent a.set.now a.serial.now in
    let w = c.setup_event.ensures in
    let e : answer_in c.event-answer.result ≡ (event b a.image.now (setup_event a.setup.now)).answer = c.event-answer.ensures.answer ∙ ap (λ (x : Event). (event b a.image.now x).answer) w in
    record {
      leaves = c.event-answer.ensures.image ∙ ap (λ (x : Event). (event b a.image.now x).image) w;
      answers = rw e at (c.hand_out.ensures (device_of a.image.now).speed);
    }
