-- `rules::configuration::companions_fault` meets its contract. No axiom.
use Rattle.octets.proofs.Vocabulary.{sym, ap, ◌∙◌, eqb, le_refl}
use Rattle.std.specs.Option.{option_or}
use Rattle.descriptors.specs.Walk.{stand_in}
use Rattle.rules.proofs.After.{ends}
use Rattle.rules.proofs.Steps.{companions-stuck, companions-on, companions-end}
use Rattle.rules.proofs.configuration.companions_fault.Goals as goal

pub returns-in_default : goal.returns-in_default
returns-in_default c =
    let l = c.loop-at in
    let body = c.args.body.now in
    sym (l.invariant ∙ companions-stuck body.start body.bytes.now l.at l.behind l.due l.found (stand_in l.last) _ c.in_default.ensures.steps c.loop-at-test.true (le_refl c.loop-at.at))

pub loop-at-preserved : goal.loop-at-preserved
loop-at-preserved c =
    let l = c.loop-at in
    let body = c.args.body.now in
    let s = c.in-Some.ensures in
    l.invariant
    ∙ companions-on body.start body.bytes.now l.at l.behind l.due l.found (stand_in l.last) _ s.steps.steps c.loop-at-test.true s.onward (ends _ c.or-found.ensures _ c.companion_fault.ensures) (ap (λ t. eqb t 5) c.peek-due.ensures)

pub returns : goal.returns
returns c =
    let l = c.loop-at in
    let body = c.args.body.now in
    c.or.ensures ∙ ap (option_or l.found) c.ask.ensures ∙ sym (l.invariant ∙ companions-end body.start body.bytes.now l.at l.behind l.due l.found c.loop-at-test.false)
