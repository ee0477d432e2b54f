-- `descriptors::check::good_configuration` meets its contract. No axiom.
use Rattle.octets.proofs.Vocabulary.{◌≡◌, refl, ℕ, List, sym, ◌∙◌, ◌<◌, Bool, false, ◌&&◌, length, take, drop, arith}
use Rattle.octets.specs.Sentences.{◌⇒◌, every}
use Rattle.octets.specs.Table.{has}
use Rattle.descriptors.specs.Cut.{cut}
use Rattle.descriptors.specs.Walk.{before, Pace, step_of, walked, collected}
use Rattle.descriptors.specs.Check.{starting, checking, accompanying, referring}
use Rattle.descriptors.specs.Sequence.{unaccompanied}
use Rattle.descriptors.specs.Configuration.{good_head, bNumInterfaces, iConfiguration, good_configuration}
use Rattle.descriptors.proofs.CheckWhole.{check-none, head-inside, check-head, head-short, companions-apart}
use Rattle.descriptors.proofs.CheckReferences.{references-behind, refused, with-more}
use Rattle.descriptors.proofs.SequenceRules.{part_bytes}
use Rattle.descriptors.specs.declared.limits.Limits.{Limits}
use Rattle.descriptors.proofs.check.good_configuration.Goals as goal

-- what is asked of the body, once it is known what the first descriptor says
checked : (limits : Limits) (body : List ℕ) (p : Pace) → p ≡ step_of body 0 before → 0 < p.end → {b : Bool} → good_head (length body) (take p.end body) ≡ b
    → good_configuration limits body ≡ (b && walked (checking limits (bNumInterfaces (take p.end body))) starting before (cut (drop p.end body)))
checked limits body p stepped went e = check-head limits body p stepped went ∙ rw e

pub returns-in_default : goal.returns-in_default
returns-in_default c = c.refuse.ensures ∙ refused _ (check-none c.args.limits c.args.body.now _ c.in_default.ensures.steps refl)

pub returns-then-not-good_head : goal.returns-then-not-good_head
returns-then-not-good_head c =
    c.refuse-then-not-good_head.ensures
    ∙ refused _ (sym (checked c.args.limits c.args.body.now _ c.in-Some.ensures.steps.steps c.in-Some.ensures.onward (sym c.good_head.ensures ∙ c.if-not-good_head.true)))

pub good_rest-rest-requires : goal.good_rest-rest-requires
good_rest-rest-requires c =
    let body = c.args.body.now in
    let end = c.in-Some.step.end in
    let inside = head-inside body _ c.in-Some.ensures.steps.steps c.in-Some.ensures.onward in
    let small = head-short (length body) (take end body) (sym c.good_head.ensures ∙ c.if-not-good_head.false) (part_bytes body (λ k. omega (arith, c.type_inv.body k)) 0 end) in
    record {
      short = small.0;
      some_bytes = omega (arith, inside, c.in-Some.ensures.onward);
      inside = inside;
      one = rw c.peek.ensures small.1;
      few = rw c.peek.ensures small.2;
    }

pub returns : goal.returns
returns c =
    let a = c.args in
    let body = a.body.now in
    let end = c.in-Some.step.end in
    let cs = cut (drop end body) in
    let n = bNumInterfaces (take end body) in
    let stepped = c.in-Some.ensures.steps.steps in
    let went = c.in-Some.ensures.onward in
    rw (
      c.holds.ensures,
      c.peek-2.ensures,
      c.good_companions.ensures,
      checked a.limits body _ stepped went (sym c.good_head.ensures ∙ c.if-not-good_head.false),
      companions-apart a.limits n cs,
      references-behind (has a.names.now) body _ stepped went,
    )
    (with-more c.good_rest-rest.result (walked (checking (unaccompanied a.limits) n) starting before cs) (every (has a.names.now) (collected referring body before end))
    (a.limits.companions ⇒ walked accompanying false before cs) (has a.names.now (iConfiguration body)) (rw c.peek.ensures at c.good_rest-rest.ensures))
