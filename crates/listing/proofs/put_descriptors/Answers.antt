-- `listing::put_descriptors` meets its contract: the lines of the descriptors ahead are left. No axiom.
use Rattle.octets.proofs.Vocabulary.{◌≡◌, ap, ◌∙◌, ℕ, ◌<◌, List, ◌++◌, length, arith}
use Rattle.descriptors.specs.declared.walk.Step.{Step}
use Rattle.descriptors.specs.Walk.{Steps, stand_in, pace_of, collected}
use Rattle.descriptors.proofs.Walks.{spanned, collect-end, collect-on}
use Rattle.descriptors.proofs.Ahead.{Place, Turn, at_first, steps, turn}
use Rattle.listing.specs.Written.{telling}
use Rattle.buffers.proofs.Written.{begun, room_for, next, done}
use Rattle.listing.proofs.put_descriptors.Goals as goal

module _ (body : List ℕ) (at last : ℕ) (step : Step) where
  -- the line of the descriptor that is stepped over, and the lines behind it
  abbrev here : List ℕ
  here = telling at step.stand (spanned body at step.end)

  abbrev behind : List ℕ
  behind = collected telling body (stand_in step.setting) step.end

  module _ (place : Place body at) (inside : at < length body) (s : Steps body at last step) where
    -- one descriptor on
    turned : Turn body at (stand_in last) (pace_of step)
    turned = turn _ _ _ place inside _ s.steps

    lines : collected telling body (stand_in last) at ≡ here ++ behind
    lines = collect-on telling _ _ _ s.steps inside turned.on ∙ ap (λ stand. here ++ collected telling body stand step.end) s.apart

pub loop-from-init : goal.loop-from-init
loop-from-init c =
    let b = at_first c.args.body.now _ c.requires.body_value c.peek-from.ensures in
    (b.place, rw c.peek-from.ensures (begun _ _ c.requires.room))

pub step_over-step-requires : goal.step_over-step-requires
step_over-step-requires c = steps _ _ c.loop-from.invariant.0 c.loop-from-test.true

pub put_descriptor-requires : goal.put_descriptor-requires
put_descriptor-requires c =
    let body = c.args.body.now in
    let at = c.loop-from.from in
    let last = c.loop-from.last in
    let step = c.step_over-step.result in
    room_for c.loop-from.invariant.1 (here body at last step) (behind body at last step) (lines body at last step c.loop-from.invariant.0 c.loop-from-test.true c.step_over-step.ensures)

pub loop-from-smaller : goal.loop-from-smaller
loop-from-smaller c = let t = turned _ _ _ _ c.loop-from.invariant.0 c.loop-from-test.true c.step_over-step.ensures in omega (arith, t.on, t.place.inside)

pub loop-from-preserved : goal.loop-from-preserved
loop-from-preserved c =
    let body = c.args.body.now in
    let at = c.loop-from.from in
    let last = c.loop-from.last in
    let step = c.step_over-step.result in
    let place = c.loop-from.invariant.0 in
    let e = c.step_over-step.ensures in (
      (turned body at last step place c.loop-from-test.true e).place,
      next c.loop-from.invariant.1 (here body at last step) (behind body at last step) (lines body at last step place c.loop-from-test.true e) c.put_descriptor.ensures,
    )

pub returns : goal.returns
returns c = done c.loop-from.invariant.1 (collect-end telling c.args.body.now _ _ c.loop-from-test.false)
