-- `rules::configuration::rest_fault` meets its contract. No axiom.
use Rattle.std.specs.Option.{option_or}
use Rattle.octets.proofs.Vocabulary.{sym, ap, ◌∙◌, le_refl}
use Rattle.descriptors.specs.Walk.{stand_in}
use Rattle.rules.specs.Configuration.{progress_in}
use Rattle.rules.proofs.After.{ends}
use Rattle.rules.proofs.Steps.{rest-stuck, rest-on, rest_end}
use Rattle.rules.proofs.configuration.rest_fault.Goals as goal

pub returns-in_default : goal.returns-in_default
returns-in_default c =
    let l = c.loop-at in
    let a = c.args in
    let body = a.body.now in
    c.or.ensures
    ∙ ap (option_or l.found) (rw c.peek.ensures at c.stuck_fault.ensures)
    ∙ sym (l.invariant ∙ rest-stuck a.limits body.start a.interfaces body.bytes.now l.at l.progress.head (progress_in l.progress) (stand_in l.last) l.found _ c.in_default.ensures.steps c.loop-at-test.true (le_refl c.loop-at.at))

pub loop-at-preserved : goal.loop-at-preserved
loop-at-preserved c =
    let l = c.loop-at in
    let a = c.args in
    let body = a.body.now in
    let s = c.in-Some.ensures in
    let last = c.stand_in.ensures in
    rw (← s.steps.apart)
    (l.invariant
    ∙ rest-on a.limits body.start a.interfaces body.bytes.now l.at l.progress.head (progress_in l.progress) (stand_in l.last) l.found _ s.steps.steps c.loop-at-test.true s.onward
    (ends _ c.or-found.ensures _ (rw last at c.descriptor_fault.ensures)) (rw last at c.move_on-progress.ensures.goes) c.move_on-progress.ensures.head)

pub returns : goal.returns
returns c =
    let l = c.loop-at in
    let a = c.args in
    let body = a.body.now in
    ends _ c.or-2.ensures _ (rw c.stand_in-2.ensures at c.end_fault.ensures)
    ∙ sym (l.invariant ∙ rest_end a.limits body.start a.interfaces body.bytes.now l.at l.progress.head (progress_in l.progress) (stand_in l.last) l.found c.loop-at-test.false)
