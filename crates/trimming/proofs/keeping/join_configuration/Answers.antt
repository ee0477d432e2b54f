-- `trimming::keeping::join_configuration` meets its contract: what is in the table or still to be collected by the walk. No axiom.
use Rattle.octets.proofs.Vocabulary.{refl, sym, ap, ◌∙◌, ◌-◌, ◌||◌, arith, rules}
use Rattle.octets.specs.Sentences.{member}
use Rattle.octets.specs.Table.{has}
use Rattle.octets.proofs.Tables.{with-long}
use Rattle.descriptors.specs.Walk.{stand_in, pace_of, collected}
use Rattle.descriptors.specs.Check.{referring}
use Rattle.descriptors.proofs.Walks.{spanned}
use Rattle.descriptors.proofs.Ahead.{Turn, at_first, steps, turn}
use Rattle.sets.proofs.Bodies.{bytes-part}
use Rattle.trimming.proofs.Naming.{first-in, walked-in, long-pick, none_in}
use Rattle.trimming.proofs.keeping.join_configuration.Goals as goal

pub loop-at-init : goal.loop-at-init
loop-at-init c =
    ((at_first c.args.body.now _ c.requires c.peek-at.ensures).place, rw c.join.ensures (with-long c.args.table.now _ (search rules)), λ j h. refl)

pub step_over-step-requires : goal.step_over-step-requires
step_over-step-requires c = steps _ _ c.loop-at.invariant.0 c.loop-at-test.true

pub loop-at-smaller : goal.loop-at-smaller
loop-at-smaller c = let t : Turn c.args.body.now c.loop-at.at (stand_in c.loop-at.last) (pace_of c.step_over-step.result) = turn _ _ _ c.loop-at.invariant.0 c.loop-at-test.true _ c.step_over-step.ensures.steps in omega (arith, t.on, t.place.inside)

pub loop-at-preserved : goal.loop-at-preserved
loop-at-preserved c =
    let t : Turn c.args.body.now c.loop-at.at (stand_in c.loop-at.last) (pace_of c.step_over-step.result) = turn _ _ _ c.loop-at.invariant.0 c.loop-at-test.true _ c.step_over-step.ensures.steps in
    let l = c.loop-at in
    let body = c.args.body.now in
    let s = c.step_over-step in
    let small = bytes-part body l.at (s.result.end - l.at) (λ k. (c.type_inv.body k).fits) 8 in (
      t.place,
      long-pick (spanned body l.at s.result.end) l.table c.join_interface.ensures l.invariant.1,
      λ j h. l.invariant.2 j h ∙ walked-in l.table body (stand_in l.last) l.at j s.ensures.steps c.loop-at-test.true t.on c.join_interface.ensures small l.invariant.1
          ∙ ap (λ stand. has c.join_interface.new.table j || member j (collected referring body stand s.result.end)) s.ensures.apart,
    )

pub returns : goal.returns
returns c =
    let body = c.args.body.now in
    let l = c.loop-at in
    let b = at_first body _ c.requires c.peek-at.ensures in
    let p = c.peek in
    λ j h. sym (none_in l.table body (stand_in l.last) l.at j c.loop-at-test.false) ∙ sym (l.invariant.2 j h)
    ∙ rw (c.join.ensures, p.ensures) (sym (first-in body c.args.table.now _ j b (rw (← p.ensures) (search rules)) (search rules)))
