-- `descriptors::endpoints::find` meets its contract: the walk from each descriptor finds what the whole walk finds. No axiom.
use Rattle.octets.proofs.Vocabulary.{◌≡◌, refl, ◌∙◌, ◌+◌, length, arith}
use Rattle.descriptors.specs.Walk.{stand_in}
use Rattle.descriptors.specs.Seek.{Seek}
use Rattle.descriptors.proofs.Walks.{spanned, span-length, walk-stop, walk-on, walk_at, walk_end}
use Rattle.descriptors.proofs.Ahead.{at_first, steps, turned_by}
use Rattle.descriptors.proofs.CurrentEndpoints.{stops, passes, goes_on, finds}
use Rattle.descriptors.proofs.endpoints.find.Goals as goal

pub loop-at-init : goal.loop-at-init
loop-at-init c =
    let b = at_first c.args.body.now _ c.requires c.peek-at.ensures in
    (b.place, record { rest = refl })

pub step_over-step-requires : goal.step_over-step-requires
step_over-step-requires c = steps _ _ c.loop-at.invariant.0 c.loop-at-test.true

pub returns-then-counts-left : goal.returns-then-counts-left
returns-then-counts-left c =
    let a = c.args in
    let body = a.body.now in
    let l = c.loop-at in
    let s = c.step_over-step in
    let t = turned_by c.loop-at.invariant.0 c.loop-at-test.true c.step_over-step.ensures in
    let long = span-length body t.on t.place.inside in
    let stop = stops a.alternates (record { left = l.left; offset = l.at }) (stand_in l.last) s.result.stand (spanned body l.at s.result.end) c.lists_current-counts.ensures c.if-counts-left.true long in
    walk-stop l.invariant.1 s.ensures.steps c.loop-at-test.true t.on _ stop
    ∙ finds _ body c.requires a.number c.peek-at.ensures

pub loop-at-smaller : goal.loop-at-smaller
loop-at-smaller c = let t = turned_by c.loop-at.invariant.0 c.loop-at-test.true c.step_over-step.ensures in omega (arith, t.on, t.place.inside)

pub loop-at-preserved : goal.loop-at-preserved
loop-at-preserved c =
    let args = c.args in
    let body = args.body.now in
    let l = c.loop-at in
    let s = c.step_over-step in
    let t = turned_by c.loop-at.invariant.0 c.loop-at-test.true c.step_over-step.ensures in
    let w : Seek = record { left = l.left; offset = l.at } in
    let long = span-length body t.on t.place.inside in
    let d = spanned body l.at s.result.end in
    let end : s.result.end ≡ l.at + length d = omega (arith, long, t.on) in
    let counts = c.lists_current-counts.ensures in
    let last = stand_in l.last in
    let pass = passes args.alternates w last s.result.stand d counts c.if-counts-left.false in
    let on = goes_on args.alternates w last s.result.stand d counts c.pass-left.ensures end in
    (t.place, walk_at (walk-on l.invariant.1 s.ensures.steps c.loop-at-test.true t.on pass on) s.ensures.apart)

pub returns : goal.returns
returns c = walk_end c.loop-at.invariant.1 c.loop-at-test.false ∙ finds _ c.args.body.now c.requires c.args.number c.peek-at.ensures
