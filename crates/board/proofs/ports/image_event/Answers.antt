-- `board::ports::image_event` meets its contract: the answer at the record of the image, handed out. No axiom.
use Rattle.octets.proofs.Vocabulary.{◌≡◌, sym, ap, ◌∙◌, Bool, false, eqb-true}
use Rattle.descriptors.specs.Limits.{full_speed}
use Rattle.sets.specs.Opening.{lent}
use Rattle.records.specs.Image.{device_of}
use Rattle.events.specs.Answer.{Outcome, gives}
use Rattle.events.specs.Coded.{answer_in}
use Rattle.events.specs.Step.{step}
use Rattle.steps.specs.Gathering.{view_in, step_in}
use Rattle.steps.proofs.Steps.{step_in_lem}
use Rattle.promises.specs.Refusals.{step_inside}
use Rattle.board.proofs.ports.image_event.Goals as goal

pub reply_in-answer-requires : goal.reply_in-answer-requires
reply_in-answer-requires c = λ z. (full_speed, eqb-true _ 0 (sym c.opened-accepted.ensures ∙ z))

pub hand_out-requires : goal.hand_out-requires
hand_out-requires c =
    let a = c.args in
    let b = lent a.set.now a.serial.now in
    let d = device_of a.image.now in
    let answered : gives (answer_in c.reply_in-answer.result) (device_of c.reply_in-answer.new.image) ≡ step b d a.what =
    c.reply_in-answer.ensures ∙ ap (λ (t : Bool). step_in t (view_in false a.set.now a.serial.now) d a.what) c.opened-accepted.ensures ∙ sym (step_in_lem b d a.what) in
    rw (ap (λ (o : Outcome). o.answer) answered) (step_inside b d a.what)

pub returns : goal.returns
returns c =
    let a = c.args in
    let b = lent a.set.now a.serial.now in
    let d = device_of a.image.now in
    let answered : gives (answer_in c.reply_in-answer.result) (device_of c.reply_in-answer.new.image) ≡ step b d a.what =
    c.reply_in-answer.ensures ∙ ap (λ (t : Bool). step_in t (view_in false a.set.now a.serial.now) d a.what) c.opened-accepted.ensures ∙ sym (step_in_lem b d a.what) in
    record {
      leaves = ap (λ (o : Outcome). o.device) answered;
      answers = rw (ap (λ (o : Outcome). o.answer) answered) at (c.hand_out.ensures d.speed);
    }
