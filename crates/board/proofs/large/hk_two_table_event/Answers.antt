-- `board::large::hk_two_table_event` meets its contract: the answer of the set in use, handed out. No axiom.
use Rattle.octets.proofs.Vocabulary.{refl, ap, ◌∙◌}
use Rattle.sets.specs.Opening.{lent_two}
use Rattle.events.specs.Step.{Reply, event}
use Rattle.promises.specs.Refusals.{event_inside}
use Rattle.board.specs.Exports.{spot_of, numbered}
use Rattle.board.proofs.TwoSets.{chosen, place, event-two, hands-two}
use Rattle.board.proofs.large.hk_two_table_event.Goals as goal

pub hand_out_of-requires : goal.hand_out_of-requires
hand_out_of-requires c =
    let a = c.args in
    let b = lent_two a.full.now a.high.now a.serial.now in
    let used = chosen a.full.now a.high.now a.serial.now a.image.now c.peek-speed.ensures c.in_use-set.ensures.bytes in
    let picked = chosen a.full.now a.high.now a.serial.now a.image.now c.peek-speed.ensures refl in
    let q = event-two a.full.now a.high.now a.serial.now a.image.now picked refl c.event_of-what.result ∙ ap (event b a.image.now) c.event_of-what.ensures in
    rw (used, c.react_two-answer.ensures.answer ∙ ap (λ (r : Reply). r.answer) q) (event_inside b a.image.now (numbered a.kind a.value a.setup.now))

pub returns : goal.returns
returns c =
    let a = c.args in
    let b = lent_two a.full.now a.high.now a.serial.now in
    let used = chosen a.full.now a.high.now a.serial.now a.image.now c.peek-speed.ensures c.in_use-set.ensures.bytes in
    let picked = chosen a.full.now a.high.now a.serial.now a.image.now c.peek-speed.ensures refl in
    let there = place a.full.now a.high.now a.serial.now a.image.now c.peek-speed.ensures c.in_use-set.result.ref_ptr a.full.ref_ptr a.high.ref_ptr c.in_use-set.ensures.block c.in_use-set.ensures.offset in
    let q = event-two a.full.now a.high.now a.serial.now a.image.now picked refl c.event_of-what.result ∙ ap (event b a.image.now) c.event_of-what.ensures in
    let e = c.react_two-answer.ensures in
    record {
      leaves = e.image ∙ ap (λ (r : Reply). r.image) q;
      answers = hands-two a.full.now a.high.now a.serial.now a.image.now used (spot_of a.full.ref_ptr) (spot_of a.high.ref_ptr) (spot_of a.serial.ref_ptr) there (e.answer ∙ ap (λ (r : Reply). r.answer) q) c.hand_out_of.ensures;
    }
