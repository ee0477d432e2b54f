-- `rules::string::configuration_fault` meets its contract. No axiom.
use Rattle.std.specs.Prelude.{ℕ, List, Option, None}
use Rattle.octets.proofs.Vocabulary.{◌≡◌, sym, ◌∙◌, le_refl}
use Rattle.descriptors.specs.Cut.{cut}
use Rattle.descriptors.specs.Walk.{stand_in}
use Rattle.descriptors.specs.Configuration.{iConfiguration}
use Rattle.sets.specs.declared.Entry.{Entry}
use Rattle.sets.specs.Contents.{body_of}
use Rattle.rules.specs.declared.Fault.{Fault}
use Rattle.rules.specs.Strings.{interfaces_from, reference_findings, body_references}
use Rattle.rules.specs.After.{after, first_of}
use Rattle.rules.proofs.Steps.{interfaces-stuck, interfaces-on, interfaces-end}
use Rattle.rules.proofs.After.{joins, ends}
use Rattle.rules.proofs.string.configuration_fault.Goals as goal

-- its own reference, and then those of its interface descriptors
both-found : (set : List ℕ) (e : Entry) {body : List ℕ} {start reference : ℕ} {g h : Option Fault} → body ≡ body_of set e → start ≡ e.offset → reference ≡ iConfiguration body
    → g ≡ first_of (reference_findings set start 0 6 reference) → after g (interfaces_from set start 0 (cut body)) ≡ h → h ≡ first_of (body_references set e.offset (body_of set e))
both-found set e b s r p q = joins None (reference_findings set e.offset 0 6 (iConfiguration (body_of set e))) _ (rw (s, r, b) at p) (sym (rw (s, b) at q))

pub returns-in_default : goal.returns-in_default
returns-in_default c =
    let l = c.loop-at in
    let set = c.args.judge.now.set.now in
    let body = c.of-body in
    both-found set c.args.e body.ensures.bytes body.ensures.start c.peek.ensures c.ask-found.ensures
    (l.invariant ∙ interfaces-stuck set body.result.start body.result.bytes.now l.at l.found (stand_in l.last) _ c.in_default.ensures.steps c.loop-at-test.true (le_refl c.loop-at.at))

pub loop-at-preserved : goal.loop-at-preserved
loop-at-preserved c =
    let l = c.loop-at in
    let body = c.of-body.result in
    l.invariant
    ∙ interfaces-on c.args.judge.now.set.now body.start body.bytes.now l.at l.found (stand_in l.last) _ c.in-Some.ensures.steps.steps c.loop-at-test.true c.in-Some.ensures.onward (ends _ c.or-found.ensures _ c.interface_fault.ensures)

pub returns : goal.returns
returns c =
    let l = c.loop-at in
    let set = c.args.judge.now.set.now in
    let body = c.of-body in
    both-found set c.args.e body.ensures.bytes body.ensures.start c.peek.ensures c.ask-found.ensures
    (l.invariant ∙ interfaces-end set body.result.start body.result.bytes.now l.at l.found c.loop-at-test.false)
