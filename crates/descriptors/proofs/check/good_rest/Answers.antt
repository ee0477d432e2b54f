-- `descriptors::check::good_rest` meets its contract: what the whole walk says, the walk from each place says. No axiom.
use Rattle.octets.proofs.Vocabulary.{◌≡◌, refl, sym, ◌+◌, ◌-◌, ◌≤◌, ◌<◌, ℕ, List, length, arith}
use Rattle.octets.specs.Octets.{byte}
use Rattle.descriptors.specs.declared.walk.Step.{Step}
use Rattle.descriptors.specs.Walk.{before, setting_after, Steps}
use Rattle.descriptors.specs.Check.{beginning}
use Rattle.descriptors.proofs.Walks.{spanned, whole-steps, step-ends, step-sets}
use Rattle.descriptors.proofs.Plains.{plains-on}
use Rattle.descriptors.proofs.SequenceRules.{part_bytes}
use Rattle.descriptors.proofs.Models.{models-low}
use Rattle.descriptors.proofs.Reaching.{reached-begin, reached-small, reached-long, reached-behind, reached-turn, reached-refused, turns_alone, verdict-stopped, verdict-end}
use Rattle.descriptors.proofs.check.good_rest.Goals as goal
use Rattle.descriptors.proofs.check.good_rest.Goals.{else-loop-at-test, then-loop-at-test+then-size-lt2, then-loop-at-test+else-size-lt2+else-t-ge-CLASS+then-body-end, then-loop-at-test+else-size-lt2+else-t-ge-CLASS+else-body-end+in_default}

-- two bytes are left where a descriptor is looked at
before-end : (body : List ℕ) {at : ℕ} → at < length body - 1 → at < length body
before-end body l = omega arith

two-left : (body : List ℕ) {at : ℕ} → at < length body - 1 → at + 1 < length body
two-left body l = omega arith

-- the step goes over a whole descriptor, to its end
module _ (body : List ℕ) {at last : ℕ} {step : Step} (l : at < length body - 1) (two : 2 ≤ byte body at) (inside : at + byte body at ≤ length body)
    (s : Steps body at last step) where
  ends : step.end ≡ at + byte body at
  ends = step-ends _ _ _ (whole-steps body at last (before-end body l) two inside) s

  sets : step.setting ≡ setting_after last (spanned body at step.end)
  sets = step-sets _ _ _ (whole-steps body at last (before-end body l) two inside) s

pub loop-at-init : goal.loop-at-init
loop-at-init c = record { w = beginning; last = before; reached = rw c.set_out-start.ensures (reached-begin c.requires.inside) }

pub loop-at-smaller-then-t-ge-CLASS : goal.loop-at-smaller-then-t-ge-CLASS
loop-at-smaller-then-t-ge-CLASS c = omega (arith, two-left c.args.body.now c.loop-at-test.true, plains-on c.behind-at.ensures, c.if-size-lt2.false)

pub loop-at-preserved-then-t-ge-CLASS : goal.loop-at-preserved-then-t-ge-CLASS
loop-at-preserved-then-t-ge-CLASS c =
    let l = c.loop-at in
    record {
      w = l.invariant.w;
      last = l.invariant.last;
      reached = reached-behind refl (λ k. omega (arith, c.type_inv.body k)) l.invariant.reached
          (record { inside = two-left c.args.body.now c.loop-at-test.true; two = c.if-size-lt2.false; plain = c.if-t-ge-CLASS.true }) c.behind-at.ensures;
    }

pub step_over-step-requires : goal.step_over-step-requires
step_over-step-requires c = whole-steps c.args.body.now c.loop-at.at 0 (before-end c.args.body.now c.loop-at-test.true) c.if-size-lt2.false c.if-body-end.false

pub invariant_of-checked : goal.invariant_of-checked
invariant_of-checked c = record { low = models-low c.loop-at.invariant.reached.models }

pub loop-at-preserved : goal.loop-at-preserved
loop-at-preserved c =
    let body = c.args.body.now in
    let l = c.loop-at in
    let s = c.step_over-step in
    let h = before-end body c.loop-at-test.true in
    let e = ends body c.loop-at-test.true c.if-size-lt2.false c.if-body-end.false s.ensures in
    let bytes = part_bytes body (λ k. omega (arith, c.type_inv.body k)) l.at (s.result.end - l.at) in
    reached-turn refl l.invariant.reached h c.if-size-lt2.false s.result.end e (omega (arith, e, c.if-body-end.false)) (bytes 2) (bytes 3)
    (sets body c.loop-at-test.true c.if-size-lt2.false c.if-body-end.false s.ensures) (turns_alone c.in-Some.ensures)

pub returns : goal.returns
returns c =
    let body = c.args.body.now in
    let pre = c.requires in
    let l = c.loop-at in
    let r = l.invariant.reached in
    rw c.next_of.ensures (elim c.loop-at-test.branch [
      | else-loop-at-test w ↦ rw w.at-is (verdict-end refl r pre.one (omega (arith, w.loop-at-test.false)))
      | then-loop-at-test+then-size-lt2 w ↦ verdict-stopped body _ _ _ _ _ pre.some_bytes w.at-is (reached-small refl r (before-end body w.loop-at-test.true) w.if-size-lt2.true)
      | then-loop-at-test+else-size-lt2+else-t-ge-CLASS+then-body-end w ↦ verdict-stopped body _ _ _ _ _ pre.some_bytes w.at-is (reached-long refl r (before-end body w.loop-at-test.true) w.if-body-end.true)
      | then-loop-at-test+else-size-lt2+else-t-ge-CLASS+else-body-end+in_default w ↦
          let s = w.step_over-step in
          let e = ends body w.loop-at-test.true w.if-size-lt2.false w.if-body-end.false s.ensures in
          let bytes = part_bytes body (λ k. omega (arith, c.type_inv.body k)) l.at (s.result.end - l.at) in
          verdict-stopped body _ _ _ _ _ pre.some_bytes w.at-is
          (reached-refused refl r (before-end body w.loop-at-test.true) w.if-size-lt2.false s.result.end e (omega (arith, e, w.if-body-end.false)) (bytes 2) (bytes 3) pre.few
          (sets body w.loop-at-test.true w.if-size-lt2.false w.if-body-end.false s.ensures) (sym w.in_default.ensures.may))
    ])
