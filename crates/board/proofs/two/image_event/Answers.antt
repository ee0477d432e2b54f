-- `board::two::image_event` meets its contract: the answer of the set in use at the record of the image, handed out. No axiom.
use Rattle.octets.proofs.Vocabulary.{◌≡◌, ap, ◌∙◌}
use Rattle.sets.specs.Opening.{lent_two}
use Rattle.records.specs.Image.{device_of}
use Rattle.events.specs.Answer.{Outcome, gives}
use Rattle.events.specs.Coded.{answer_in}
use Rattle.events.specs.Step.{step}
use Rattle.promises.specs.Refusals.{step_inside}
use Rattle.board.specs.Exports.{spot_of}
use Rattle.board.proofs.TwoSets.{opens-two, chosen, place, openable, step-two, hands-two}
use Rattle.board.proofs.two.image_event.Goals as goal

pub reply_in-answer-requires : goal.reply_in-answer-requires
reply_in-answer-requires c =
    let a = c.args in
    let opens = opens-two a.full.now a.high.now a.serial.now c.opened.result c.opened.ensures c.is_ok-accepted.ensures.value in
    openable a.full.now a.high.now a.serial.now a.image.now (chosen a.full.now a.high.now a.serial.now a.image.now c.peek.ensures c.in_use-set.ensures.bytes) opens

pub hand_out_of-requires : goal.hand_out_of-requires
hand_out_of-requires c =
    let a = c.args in
    let opens = opens-two a.full.now a.high.now a.serial.now c.opened.result c.opened.ensures c.is_ok-accepted.ensures.value in
    let b = lent_two a.full.now a.high.now a.serial.now in
    let used = chosen a.full.now a.high.now a.serial.now a.image.now c.peek.ensures c.in_use-set.ensures.bytes in
    let answered : gives (answer_in c.reply_in-answer.result) (device_of c.reply_in-answer.new.image) ≡ step b (device_of a.image.now) a.what =
    c.reply_in-answer.ensures ∙ step-two a.full.now a.high.now a.serial.now a.image.now used opens a.what in
    rw (used, ap (λ (o : Outcome). o.answer) answered) (step_inside b (device_of a.image.now) a.what)

pub returns : goal.returns
returns c =
    let a = c.args in
    let opens = opens-two a.full.now a.high.now a.serial.now c.opened.result c.opened.ensures c.is_ok-accepted.ensures.value in
    let b = lent_two a.full.now a.high.now a.serial.now in
    let used = chosen a.full.now a.high.now a.serial.now a.image.now c.peek.ensures c.in_use-set.ensures.bytes in
    let there = place a.full.now a.high.now a.serial.now a.image.now c.peek.ensures c.in_use-set.result.ref_ptr a.full.ref_ptr a.high.ref_ptr c.in_use-set.ensures.block c.in_use-set.ensures.offset in
    let answered : gives (answer_in c.reply_in-answer.result) (device_of c.reply_in-answer.new.image) ≡ step b (device_of a.image.now) a.what =
    c.reply_in-answer.ensures ∙ step-two a.full.now a.high.now a.serial.now a.image.now used opens a.what in
    record {
      leaves = ap (λ (o : Outcome). o.device) answered;
      answers = hands-two a.full.now a.high.now a.serial.now a.image.now used (spot_of a.full.ref_ptr) (spot_of a.high.ref_ptr) (spot_of a.serial.ref_ptr) there (ap (λ (o : Outcome). o.answer) answered) c.hand_out_of.ensures;
    }
