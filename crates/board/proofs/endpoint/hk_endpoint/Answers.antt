-- `board::endpoint::hk_endpoint` meets its contract: the answer's number and part. No axiom.
use Rattle.octets.proofs.Vocabulary.{◌≡◌, sym, ap, ◌∙◌, Bool, false, eqb-true}
use Rattle.descriptors.specs.Limits.{full_speed}
use Rattle.sets.specs.Opening.{lent}
use Rattle.events.specs.Answer.{number_of, part_of}
use Rattle.events.specs.Coded.{answer_in}
use Rattle.steps.specs.Endpoint.{endpoint_on}
use Rattle.steps.specs.Gathering.{view_in, endpoint_on_in}
use Rattle.steps.proofs.EndpointParts.{endpoint-on-in}
use Rattle.board.proofs.EndpointImages.{inside}
use Rattle.board.proofs.Spots.{lies_in}
use Rattle.board.proofs.endpoint.hk_endpoint.Goals as goal

pub answer_on-answer-requires : goal.answer_on-answer-requires
answer_on-answer-requires c = λ z. (full_speed, eqb-true _ 0 (sym c.opened-accepted.ensures ∙ z))

pub part-requires : goal.part-requires
part-requires c =
    let a = c.args in
    let e : answer_in c.answer_on-answer.result ≡ endpoint_on (lent a.set.now a.serial.now) a.image.now a.number =
    c.answer_on-answer.ensures
    ∙ ap (λ (t : Bool). endpoint_on_in t (view_in false a.set.now a.serial.now) a.set.now a.image.now a.number) c.opened-accepted.ensures
    ∙ sym (endpoint-on-in (lent a.set.now a.serial.now) a.image.now a.number) in
    rw e (inside (lent a.set.now a.serial.now) a.image.now a.number)

pub returns : goal.returns
returns c =
    let a = c.args in
    let e : answer_in c.answer_on-answer.result ≡ endpoint_on (lent a.set.now a.serial.now) a.image.now a.number =
    c.answer_on-answer.ensures
    ∙ ap (λ (t : Bool). endpoint_on_in t (view_in false a.set.now a.serial.now) a.set.now a.image.now a.number) c.opened-accepted.ensures
    ∙ sym (endpoint-on-in (lent a.set.now a.serial.now) a.image.now a.number) in
    let here = c.part.ensures in
    record {
      number = c.number.ensures ∙ ap number_of e;
      shows = rw e at here.bytes;
      lies = lies_in a.set.ref_ptr a.set.ref_ptr a.serial.ref_ptr c.part.result.ref_ptr (part_of (endpoint_on (lent a.set.now a.serial.now) a.image.now a.number)) (rw e at here.block) (rw e at here.offset);
    }
