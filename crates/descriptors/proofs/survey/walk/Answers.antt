-- `descriptors::survey::walk` meets its contract: what was seen and what is ahead tell of the whole. No axiom.
use Rattle.octets.proofs.Vocabulary.{refl, arith}
use Rattle.descriptors.proofs.Walks.{walk-on, walk_at, walk_end}
use Rattle.descriptors.proofs.Ahead.{at_first, steps, turned_by}
use Rattle.descriptors.proofs.Plains.{plains-on}
use Rattle.descriptors.proofs.Surveying.{nothing-yet, surveys, survey-behind}
use Rattle.descriptors.proofs.survey.walk.Goals as goal

pub loop-at-init : goal.loop-at-init
loop-at-init c =
    let b = at_first c.args.body.now _ c.requires c.peek-at.ensures in
    (b.place, record { rest = rw (nothing-yet c.default-seen.ensures) })

pub step_over-step-requires : goal.step_over-step-requires
step_over-step-requires c = steps _ _ c.loop-at.invariant.0 c.loop-at-test.true

pub loop-at-smaller : goal.loop-at-smaller
loop-at-smaller c = let t = turned_by c.loop-at.invariant.0 c.loop-at-test.true c.step_over-step.ensures in omega (arith, t.on, c.loop-at-test.true, plains-on c.behind-at.ensures)

pub loop-at-preserved : goal.loop-at-preserved
loop-at-preserved c =
    let a = c.args in
    let l = c.loop-at in
    let s = c.step_over-step in
    let t = turned_by c.loop-at.invariant.0 c.loop-at-test.true c.step_over-step.ensures in
    survey-behind a.alternates a.asked _ _ _ _ c.behind-at.ensures (t.place, walk_at (walk-on l.invariant.1 s.ensures.steps c.loop-at-test.true t.on refl c.move_on-seen.ensures) s.ensures.apart)

pub returns : goal.returns
returns c = surveys _ _ (at_first c.args.body.now _ c.requires c.peek-at.ensures) (walk_end c.loop-at.invariant.1 c.loop-at-test.false)
