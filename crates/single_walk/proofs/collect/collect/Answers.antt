-- `single_walk::collect::collect` meets its contract: the head, and the walk behind it. No axiom.
use Rattle.octets.proofs.Vocabulary.{◌≡◌, refl, sym, ◌∙◌, false, length, take, length-take-le, arith}
use Rattle.octets.specs.Table.{has}
use Rattle.descriptors.specs.Configuration.{good_head}
use Rattle.descriptors.proofs.Ahead.{at_first}
use Rattle.descriptors.proofs.GoodBody.{good-cut}
use Rattle.descriptors.proofs.CheckWhole.{check-none, head-inside, check-head, head-short}
use Rattle.descriptors.proofs.CheckReferences.{references-behind}
use Rattle.descriptors.proofs.Surveying.{surveys}
use Rattle.descriptors.proofs.SequenceRules.{part_bytes}
use Rattle.single_walk.specs.Course.{limits_at}
use Rattle.single_walk.proofs.Whole.{first_ends, surveys-found, behind-head, both-refer}
use Rattle.single_walk.proofs.collect.collect.Goals as goal

pub returns-in_default : goal.returns-in_default
returns-in_default c = record { good = check-none (limits_at c.args.high) c.args.body.now _ c.in_default.ensures.steps refl; on = tt }

pub slice_bounds-head-end : goal.slice_bounds-head-end
slice_bounds-head-end c = sym (length-take-le _ _ (head-inside c.args.body.now _ c.in-Some.ensures.steps.steps c.in-Some.ensures.onward))

pub returns-then-not-good_head : goal.returns-then-not-good_head
returns-then-not-good_head c =
    let a = c.args in
    let bad : good_head (length a.body.now) (take c.in-Some.step.end a.body.now) ≡ false = sym c.good_head.ensures ∙ c.if-not-good_head.true in
    record {
      good = sym (check-head (limits_at a.high) a.body.now _ c.in-Some.ensures.steps.steps c.in-Some.ensures.onward ∙ rw bad);
      on = tt;
    }

pub rest-requires : goal.rest-requires
rest-requires c =
    let body = c.args.body.now in
    let end = c.in-Some.step.end in
    let went = c.in-Some.ensures.onward in
    let inside = head-inside body _ c.in-Some.ensures.steps.steps went in
    let small = head-short (length body) (take end body) (sym c.good_head.ensures ∙ c.if-not-good_head.false) (part_bytes body (λ k. omega (arith, c.type_inv.body k)) 0 end) in
    record {
      short = small.0;
      some_bytes = omega (arith, inside, went);
      inside = inside;
      one = rw c.peek-interfaces.ensures small.1;
      few = rw c.peek-interfaces.ensures small.2;
    }

pub survey_of-requires : goal.survey_of-requires
survey_of-requires c =
    let body = c.args.body.now in
    let small = head-short (length body) (take c.in-Some.step.end body) (sym c.good_head.ensures ∙ c.if-not-good_head.false) (part_bytes body (λ k. omega (arith, c.type_inv.body k)) 0 c.in-Some.step.end) in
    rw c.peek-interfaces.ensures small.2

pub returns-in_err-walked : goal.returns-in_err-walked
returns-in_err-walked c =
    let a = c.args in
    let whole = behind-head (limits_at a.high) a.body.now _ c.in-Some.ensures.steps.steps c.in-Some.ensures.onward (sym c.good_head.ensures ∙ c.if-not-good_head.false) in
    let rests = c.in_err-walked.ensures a.high a.asked c.wanted_of-wanted.ensures in
    rw c.from_residual.ensures (record { good = (rw c.peek-interfaces.ensures at rests.good) ∙ sym whole; on = tt })

pub returns : goal.returns
returns c =
    let a = c.args in
    let body = a.body.now in
    let steps = c.in-Some.ensures.steps.steps in
    let went = c.in-Some.ensures.onward in
    let whole = behind-head (limits_at a.high) body _ steps went (sym c.good_head.ensures ∙ c.if-not-good_head.false) in
    let rests = c.in_ok-walked.ensures a.high a.asked c.wanted_of-wanted.ensures in
    let good = (rw c.peek-interfaces.ensures at rests.good) ∙ sym whole in
    record {
      good = good;
      on = record {
        refers = both-refer _ _ rests.on.refers (rw c.peek.ensures at c.holds.ensures) (references-behind (has a.names.table.now) body _ steps went);
        surveyed = surveys-found
            (surveys a.alternates.now a.asked (at_first body _ (good-cut (limits_at a.high) body (sym good)) (first_ends body _ steps went)) refl)
            rests.on.tells
            (rw c.peek-interfaces.ensures at rests.on.exists)
            (rw c.peek-interfaces.ensures at c.survey_of.ensures);
      };
    }
