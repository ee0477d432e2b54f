-- `single_walk::walk::rest` meets its contract: what the whole walk says, the walk from each place says, and what was found beside it. No axiom.
use Rattle.octets.proofs.Vocabulary.{not-false, ◌≡◌, sym, ◌∙◌, ℕ, ◌+◌, ◌-◌, ◌<◌, List, true, length, arith, not-true}
use Rattle.octets.specs.Octets.{byte}
use Rattle.descriptors.specs.Walk.{steps_on, Plain}
use Rattle.descriptors.proofs.Walks.{whole-steps, step-ends, step-sets}
use Rattle.descriptors.proofs.Plains.{plains-on}
use Rattle.descriptors.proofs.SequenceRules.{part_bytes}
use Rattle.descriptors.proofs.Reaching.{reached-small, reached-long, reached-refused}
use Rattle.single_walk.proofs.Rules.{no-companions}
use Rattle.single_walk.proofs.Reaching.{gathered-begin, gathered-behind, gathered-turn, rests-stopped, rests-end}
use Rattle.single_walk.proofs.walk.rest.Goals as goal
use Rattle.single_walk.proofs.walk.rest.Goals.{else-loop-at-test, then-loop-at-test+then-size-lt2, then-loop-at-test+else-size-lt2+else-t-ge-CLASS+then-body-end, then-loop-at-test+else-size-lt2+else-t-ge-CLASS+else-body-end+then-not-turned}

-- two bytes are left where a descriptor is looked at
before-end : (body : List ℕ) {at : ℕ} → at < length body - 1 → at < length body
before-end body l = omega arith

pub overflow_sub-last : goal.overflow_sub-last
overflow_sub-last c = omega (arith, c.requires.some_bytes)

pub loop-at-init : goal.loop-at-init
loop-at-init c = λ high asked e. rw c.set_out-course.ensures (gathered-begin c.args.alternates.now asked c.requires.inside)

pub bounds-body-at : goal.bounds-body-at
bounds-body-at c = omega (arith, c.loop-at-test.true)

pub overflow_cast-size : goal.overflow_cast-size
overflow_cast-size c = omega (arith, c.type_inv.body c.loop-at.at)

pub overflow_add-t : goal.overflow_add-t
overflow_add-t c = omega (arith, c.loop-at-test.true, c.requires.short)

pub bounds-body-at-in-loop-at : goal.bounds-body-at-in-loop-at
bounds-body-at-in-loop-at c = omega (arith, c.loop-at-test.true, c.requires.some_bytes)

pub overflow_add-end : goal.overflow_add-end
overflow_add-end c = let m : c.loop-at.at + 1 < length c.args.body.now = omega (arith, c.loop-at-test.true, c.requires.some_bytes) in omega (arith, c.type_inv.body c.loop-at.at, c.requires.short)

pub behind-at-requires : goal.behind-at-requires
behind-at-requires c = c.requires.some_bytes

pub loop-at-smaller-then-t-ge-CLASS : goal.loop-at-smaller-then-t-ge-CLASS
loop-at-smaller-then-t-ge-CLASS c = let m : c.loop-at.at + 1 < length c.args.body.now = omega (arith, c.loop-at-test.true, c.requires.some_bytes) in omega (arith, plains-on c.behind-at.ensures, c.if-size-lt2.false)

pub loop-at-preserved-then-t-ge-CLASS : goal.loop-at-preserved-then-t-ge-CLASS
loop-at-preserved-then-t-ge-CLASS c =
    let l = c.loop-at in
    λ high asked e. gathered-behind (no-companions high) (λ k. omega (arith, c.type_inv.body k)) (l.invariant high asked e) ((let plain : Plain c.args.body.now c.loop-at.at = record { inside = (let more : c.loop-at.at + 1 < length c.args.body.now = omega (arith, c.loop-at-test.true, c.requires.some_bytes) in more); two = c.if-size-lt2.false; plain = c.if-t-ge-CLASS.true } in plain)) c.behind-at.ensures

pub step_over-step-requires : goal.step_over-step-requires
step_over-step-requires c = (let on : steps_on c.args.body.now c.loop-at.at ≡ true = whole-steps c.args.body.now c.loop-at.at 0 (before-end c.args.body.now c.loop-at-test.true) c.if-size-lt2.false c.if-body-end.false in on)

pub slice_bounds-turn-count : goal.slice_bounds-turn-count
slice_bounds-turn-count c = omega (arith, (let ends : c.step_over-step.result.end ≡ c.loop-at.at + byte c.args.body.now c.loop-at.at = step-ends _ _ _ ((let on : steps_on c.args.body.now c.loop-at.at ≡ true = whole-steps c.args.body.now c.loop-at.at 0 (before-end c.args.body.now c.loop-at-test.true) c.if-size-lt2.false c.if-body-end.false in on)) c.step_over-step.ensures in ends), c.if-size-lt2.false)

pub slice_bounds-turn-start : goal.slice_bounds-turn-start
slice_bounds-turn-start c = omega (arith, (let ends : c.step_over-step.result.end ≡ c.loop-at.at + byte c.args.body.now c.loop-at.at = step-ends _ _ _ ((let on : steps_on c.args.body.now c.loop-at.at ≡ true = whole-steps c.args.body.now c.loop-at.at 0 (before-end c.args.body.now c.loop-at-test.true) c.if-size-lt2.false c.if-body-end.false in on)) c.step_over-step.ensures in ends), c.if-size-lt2.false)

pub slice_bounds-turn-end : goal.slice_bounds-turn-end
slice_bounds-turn-end c = omega (arith, (let ends : c.step_over-step.result.end ≡ c.loop-at.at + byte c.args.body.now c.loop-at.at = step-ends _ _ _ ((let on : steps_on c.args.body.now c.loop-at.at ≡ true = whole-steps c.args.body.now c.loop-at.at 0 (before-end c.args.body.now c.loop-at-test.true) c.if-size-lt2.false c.if-body-end.false in on)) c.step_over-step.ensures in ends), c.if-body-end.false)

pub loop-at-smaller : goal.loop-at-smaller
loop-at-smaller c = let m : c.loop-at.at + 1 < length c.args.body.now = omega (arith, c.loop-at-test.true, c.requires.some_bytes) in omega (arith, (let ends : c.step_over-step.result.end ≡ c.loop-at.at + byte c.args.body.now c.loop-at.at = step-ends _ _ _ ((let on : steps_on c.args.body.now c.loop-at.at ≡ true = whole-steps c.args.body.now c.loop-at.at 0 (before-end c.args.body.now c.loop-at-test.true) c.if-size-lt2.false c.if-body-end.false in on)) c.step_over-step.ensures in ends), c.if-size-lt2.false)

pub loop-at-preserved : goal.loop-at-preserved
loop-at-preserved c =
    let a = c.args in
    let l = c.loop-at in
    let s = c.step_over-step in
    let h = before-end a.body.now c.loop-at-test.true in
    let bytes = part_bytes a.body.now (λ k. omega (arith, c.type_inv.body k)) l.at (s.result.end - l.at) in
    λ high asked e. gathered-turn (no-companions high) (l.invariant high asked e) h c.if-size-lt2.false s.result.end ((let ends : c.step_over-step.result.end ≡ c.loop-at.at + byte c.args.body.now c.loop-at.at = step-ends _ _ _ ((let on : steps_on c.args.body.now c.loop-at.at ≡ true = whole-steps c.args.body.now c.loop-at.at 0 (before-end c.args.body.now c.loop-at-test.true) c.if-size-lt2.false c.if-body-end.false in on)) c.step_over-step.ensures in ends)) (omega (arith, (let ends : c.step_over-step.result.end ≡ c.loop-at.at + byte c.args.body.now c.loop-at.at = step-ends _ _ _ ((let on : steps_on c.args.body.now c.loop-at.at ≡ true = whole-steps c.args.body.now c.loop-at.at 0 (before-end c.args.body.now c.loop-at-test.true) c.if-size-lt2.false c.if-body-end.false in on)) c.step_over-step.ensures in ends), c.if-body-end.false)) high (bytes 2) (bytes 3) (step-sets _ _ _ ((let on : steps_on c.args.body.now c.loop-at.at ≡ true = whole-steps c.args.body.now c.loop-at.at 0 (before-end c.args.body.now c.loop-at-test.true) c.if-size-lt2.false c.if-body-end.false in on)) s.ensures) (rw e at c.turn-turned.ensures) (not-false _ c.if-not-turned.false)

pub returns : goal.returns
returns c =
    let a = c.args in
    let pre = c.requires in
    let l = c.loop-at in
    let body = a.body.now in
    let ends = c.told.ensures in
    λ high asked e.
    let alone = no-companions high in
    let r = l.invariant high asked e in
    elim c.loop-at-test.branch [
      | else-loop-at-test w ↦ rests-end alone r _ pre.one (omega (arith, w.loop-at-test.false)) (rw w.at-is at ends)
      | then-loop-at-test+then-size-lt2 w ↦ rests-stopped _ _ pre.some_bytes w.at-is ends (reached-small alone r.reached (before-end body w.loop-at-test.true) w.if-size-lt2.true)
      | then-loop-at-test+else-size-lt2+else-t-ge-CLASS+then-body-end w ↦ rests-stopped _ _ pre.some_bytes w.at-is ends (reached-long alone r.reached (before-end body w.loop-at-test.true) w.if-body-end.true)
      | then-loop-at-test+else-size-lt2+else-t-ge-CLASS+else-body-end+then-not-turned w ↦
          let h = before-end body w.loop-at-test.true in
          let whole = whole-steps body l.at 0 h w.if-size-lt2.false w.if-body-end.false in
          let ended = step-ends _ _ _ whole w.step_over-step.ensures in
          let bytes = part_bytes body (λ k. omega (arith, c.type_inv.body k)) l.at (w.step_over-step.result.end - l.at) in
          let turned = rw e at w.turn-turned.ensures in
          rests-stopped _ _ pre.some_bytes w.at-is ends
          (reached-refused alone r.reached h w.if-size-lt2.false w.step_over-step.result.end ended (omega (arith, ended, w.if-body-end.false)) (bytes 2) (bytes 3) pre.few (step-sets _ _ _ whole w.step_over-step.ensures) (sym turned.may ∙ not-true _ w.if-not-turned.true))
    ]
