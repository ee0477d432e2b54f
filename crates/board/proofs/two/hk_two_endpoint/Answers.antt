-- `board::two::hk_two_endpoint` meets its contract: the answer's number, and its part of the set in use. No axiom.
use Rattle.octets.proofs.Vocabulary.{◌≡◌, ap, ◌∙◌}
use Rattle.sets.specs.Opening.{lent_two}
use Rattle.events.specs.Answer.{number_of, part_of}
use Rattle.events.specs.Coded.{answer_in}
use Rattle.steps.specs.Endpoint.{endpoint_on}
use Rattle.board.specs.Exports.{spot_of}
use Rattle.board.proofs.EndpointImages.{inside}
use Rattle.board.proofs.Spots.{lies_in}
use Rattle.board.proofs.TwoSets.{opens-two, chosen, place, openable, endpoint-two, shows-two, lies-two}
use Rattle.board.proofs.two.hk_two_endpoint.Goals as goal

pub answer_on-answer-requires : goal.answer_on-answer-requires
answer_on-answer-requires c =
    let a = c.args in
    let opens = opens-two a.full.now a.high.now a.serial.now c.opened.result c.opened.ensures c.is_ok-accepted.ensures.value in
    openable a.full.now a.high.now a.serial.now a.image.now (chosen a.full.now a.high.now a.serial.now a.image.now c.peek.ensures c.in_use-set.ensures.bytes) opens

pub part-requires : goal.part-requires
part-requires c =
    let a = c.args in
    let opens = opens-two a.full.now a.high.now a.serial.now c.opened.result c.opened.ensures c.is_ok-accepted.ensures.value in
    let b = lent_two a.full.now a.high.now a.serial.now in
    let used = chosen a.full.now a.high.now a.serial.now a.image.now c.peek.ensures c.in_use-set.ensures.bytes in
    let e : answer_in c.answer_on-answer.result ≡ endpoint_on b a.image.now a.number = c.answer_on-answer.ensures ∙ endpoint-two a.full.now a.high.now a.serial.now a.image.now used opens a.number in
    rw (used, e) (inside b a.image.now a.number)

pub returns : goal.returns
returns c =
    let a = c.args in
    let opens = opens-two a.full.now a.high.now a.serial.now c.opened.result c.opened.ensures c.is_ok-accepted.ensures.value in
    let f = spot_of a.full.ref_ptr in
    let h = spot_of a.high.ref_ptr in
    let b = spot_of a.serial.ref_ptr in
    let used = chosen a.full.now a.high.now a.serial.now a.image.now c.peek.ensures c.in_use-set.ensures.bytes in
    let there = place a.full.now a.high.now a.serial.now a.image.now c.peek.ensures c.in_use-set.result.ref_ptr a.full.ref_ptr a.high.ref_ptr c.in_use-set.ensures.block c.in_use-set.ensures.offset in
    let e : answer_in c.answer_on-answer.result ≡ endpoint_on (lent_two a.full.now a.high.now a.serial.now) a.image.now a.number =
    c.answer_on-answer.ensures ∙ endpoint-two a.full.now a.high.now a.serial.now a.image.now used opens a.number in
    let part = c.part.ensures in
    record {
      number = c.number.ensures ∙ ap number_of e;
      shows = part.bytes ∙ shows-two a.full.now a.high.now a.serial.now a.image.now used f h b there e;
      lies = lies_in a.full.ref_ptr c.in_use-set.result.ref_ptr a.serial.ref_ptr c.part.result.ref_ptr (part_of (answer_in c.answer_on-answer.result)) part.block part.offset
          ∙ lies-two a.full.now a.high.now a.serial.now a.image.now used f h b there e;
    }
