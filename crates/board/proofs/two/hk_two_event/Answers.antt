-- `board::two::hk_two_event` meets its contract: the answer of the set in use, handed out. No axiom.
use Rattle.octets.proofs.Vocabulary.{ap, ◌∙◌}
use Rattle.sets.specs.Opening.{lent_two}
use Rattle.events.specs.Step.{Reply, event}
use Rattle.promises.specs.Refusals.{event_inside}
use Rattle.board.specs.Exports.{spot_of, numbered}
use Rattle.board.proofs.TwoSets.{opens-two, chosen, place, openable, event-two, hands-two}
use Rattle.board.proofs.two.hk_two_event.Goals as goal

pub happen-answer-requires : goal.happen-answer-requires
happen-answer-requires c =
    let a = c.args in
    let opens = opens-two a.full.now a.high.now a.serial.now c.opened.result c.opened.ensures c.is_ok-accepted.ensures.value in
    openable a.full.now a.high.now a.serial.now a.image.now (chosen a.full.now a.high.now a.serial.now a.image.now c.peek.ensures c.in_use-set.ensures.bytes) opens

pub hand_out_of-requires : goal.hand_out_of-requires
hand_out_of-requires c =
    let a = c.args in
    let opens = opens-two a.full.now a.high.now a.serial.now c.opened.result c.opened.ensures c.is_ok-accepted.ensures.value in
    let b = lent_two a.full.now a.high.now a.serial.now in
    let used = chosen a.full.now a.high.now a.serial.now a.image.now c.peek.ensures c.in_use-set.ensures.bytes in
    let q = event-two a.full.now a.high.now a.serial.now a.image.now used opens c.event_of-what.result ∙ ap (event b a.image.now) c.event_of-what.ensures in
    rw (used, c.happen-answer.ensures.answer ∙ ap (λ (r : Reply). r.answer) q) (event_inside b a.image.now (numbered a.kind a.value a.setup.now))

pub returns : goal.returns
returns c =
    let a = c.args in
    let opens = opens-two a.full.now a.high.now a.serial.now c.opened.result c.opened.ensures c.is_ok-accepted.ensures.value in
    let b = lent_two a.full.now a.high.now a.serial.now in
    let used = chosen a.full.now a.high.now a.serial.now a.image.now c.peek.ensures c.in_use-set.ensures.bytes in
    let there = place a.full.now a.high.now a.serial.now a.image.now c.peek.ensures c.in_use-set.result.ref_ptr a.full.ref_ptr a.high.ref_ptr c.in_use-set.ensures.block c.in_use-set.ensures.offset in
    let q = event-two a.full.now a.high.now a.serial.now a.image.now used opens c.event_of-what.result ∙ ap (event b a.image.now) c.event_of-what.ensures in
    let e = c.happen-answer.ensures in
    record {
      leaves = e.image ∙ ap (λ (r : Reply). r.image) q;
      answers = hands-two a.full.now a.high.now a.serial.now a.image.now used (spot_of a.full.ref_ptr) (spot_of a.high.ref_ptr) (spot_of a.serial.ref_ptr) there (e.answer ∙ ap (λ (r : Reply). r.answer) q) c.hand_out_of.ensures;
    }
