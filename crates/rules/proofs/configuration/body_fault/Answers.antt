-- `rules::configuration::body_fault` meets its contract. No axiom.
use Rattle.octets.proofs.Vocabulary.{sym, ap, ◌∙◌, length, take, drop, length-take-le, eqb-true, eqb-false, le_refl, arith}
use Rattle.std.specs.Prelude.{None}
use Rattle.descriptors.specs.Cut.{cut}
use Rattle.descriptors.specs.Configuration.{bNumInterfaces}
use Rattle.descriptors.specs.Check.{beginning}
use Rattle.descriptors.specs.Walk.{before}
use Rattle.descriptors.proofs.CheckWhole.{head-inside, check-first}
use Rattle.rules.specs.Configuration.{head_findings, head_numbers, rest_findings}
use Rattle.rules.specs.After.{after, first_of}
use Rattle.rules.proofs.Steps.{body-none, body-stuck}
use Rattle.rules.proofs.After.{joins, then-list, ends}
use Rattle.rules.proofs.configuration.body_fault.Goals as goal

pub returns-then-is_empty : goal.returns-then-is_empty
unfolding after
returns-then-is_empty c =
    let body = c.args.body.now in
    rw (body-none c.args.limits body.start body.bytes.now (eqb-true _ 0 (sym c.is_empty.ensures ∙ c.if-is_empty.true))) c.ask.ensures

pub returns-in_default : goal.returns-in_default
returns-in_default c =
    let a = c.args in
    let body = a.body.now in
    let some = eqb-false (length body.bytes.now) 0 (sym c.is_empty.ensures ∙ c.if-is_empty.false) in
    (rw c.peek.ensures at c.stuck_fault.ensures)
    ∙ sym (body-stuck a.limits body.start body.bytes.now None _ c.in_default.ensures.steps (omega (arith, some)) (le_refl 0))

pub returns : goal.returns
returns c =
    let a = c.args in
    let start = a.body.now.start in
    let body = a.body.now.bytes.now in
    let e = c.in-Some.step.end in
    let m = c.in-Some.ensures.onward in
    let long = length-take-le e body (head-inside body _ c.in-Some.ensures.steps.steps m) in
    rw (check-first body _ c.in-Some.ensures.steps.steps m)
    (joins None (head_findings (length body) start (take e body)) _ c.head_fault.ensures
    (then-list _ c.or.ensures (head_numbers start (take e body)) _ c.head_numbers_fault.ensures
    (ends _ c.or-2.ensures (rest_findings a.limits start (bNumInterfaces (take e body)) (length (take e body)) 0 beginning before (cut (drop e body)))
    ((rw c.peek-2.ensures at c.rest_fault.ensures) ∙ ap (λ k. first_of (rest_findings a.limits start (bNumInterfaces (take e body)) k 0 beginning before (cut (drop e body)))) (sym long)))))
