-- `board::hk_record_event` meets its contract: the answer at the record, handed out. No axiom.
use Rattle.octets.proofs.Vocabulary.{ap, ◌∙◌}
use Rattle.sets.specs.Opening.{lent}
use Rattle.events.specs.Answer.{Outcome}
use Rattle.events.specs.Step.{step}
use Rattle.promises.specs.Refusals.{step_inside}
use Rattle.board.specs.Exports.{numbered}
use Rattle.board.proofs.hk_record_event.Goals as goal

pub hand_out-requires : goal.hand_out-requires
hand_out-requires c =
    let a = c.args in
    let b = lent a.set.now a.serial.now in
    let answered = c.step_lent-answer.ensures ∙ ap (step b a.device.now) c.event_of-event.ensures in
    rw (ap (λ (o : Outcome). o.answer) answered) (step_inside b a.device.now (numbered a.kind a.value a.setup.now))

pub returns : goal.returns
returns c =
    let a = c.args in
    let b = lent a.set.now a.serial.now in
    let answered = c.step_lent-answer.ensures ∙ ap (step b a.device.now) c.event_of-event.ensures in
    record {
      leaves = ap (λ (o : Outcome). o.device) answered;
      answers = rw (ap (λ (o : Outcome). o.answer) answered) at (c.hand_out.ensures a.device.now.speed);
    }
