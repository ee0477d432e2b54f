-- `trimming::put_bodies` meets its contract: what is still to be read has not been written over. No axiom.
use Rattle.octets.proofs.Vocabulary.{refl, sym, ◌∙◌, ◌+◌, ◌≤◌, length, add-sub_cancel_left, arith}
use Rattle.octets.specs.Octets.{part}
use Rattle.sets.proofs.Entries.{rest-start, next-entry, no-entry}
use Rattle.buffers.proofs.Written.{begun, next, done, same-length}
use Rattle.trimming.specs.Keeping.{keeps_by}
use Rattle.trimming.proofs.Moving.{goes, none_left, bodies-here, bodies-end, next-body, still, moved-text, room-bodies, moved-behind}
use Rattle.trimming.proofs.put_bodies.Goals as goal
use Rattle.trimming.proofs.put_bodies.Goals.{then-keeps, else-keeps}

pub loop-i-init : goal.loop-i-init
loop-i-init c =
    let a = c.args in
    let e = rest-start a.contents.now in
    let p = c.peek-count.ensures in
    (rw p c.requires.at_bound, rw (p, ← e) c.requires.contents_value, refl, rw (← e) (begun a.w.now _ (room-bodies a.w.now.out.now (keeps_by a.keeping.now.names a.keeping.now.zero) _ c.requires.at_bound c.requires.contents_value)))

pub overflow_add-end : goal.overflow_add-end
overflow_add-end c =
    let n = next-body (next-entry c.args.contents.now _ c.peek-count.ensures _ c.loop-i-test.true _ c.entry_at-e.ensures) c.loop-i.invariant.1 in
    omega (arith, n.inside)

pub copy_within-requires : goal.copy_within-requires
copy_within-requires c =
    let l = c.loop-i in
    let n = next-body (next-entry c.args.contents.now _ c.peek-count.ensures _ c.loop-i-test.true _ c.entry_at-e.ensures) l.invariant.1 in
    let long = same-length l.invariant.3 in
    record { start_le_end = omega arith; in_bounds = omega (arith, n.inside, long); dest_in_bounds = rw add-sub_cancel_left (omega (arith, l.invariant.0, n.inside, long)); not_exhausted = tt }

pub loop-i-preserved : goal.loop-i-preserved
loop-i-preserved c =
    let a = c.args in
    let l = c.loop-i in
    let start = a.w.now.out.now in
    let keeps = keeps_by a.keeping.now.names a.keeping.now.zero in
    let size = c.entry_at-e.result.length in
    let at = next-entry a.contents.now _ c.peek-count.ensures _ c.loop-i-test.true _ c.entry_at-e.ensures in
    let n = next-body at l.invariant.1 in
    let h : l.from + size ≤ length l.w.out.now = omega (arith, n.inside, same-length l.invariant.3) in
    elim c.if-keeps.branch [
      | then-keeps w ↦
          let m = rw add-sub_cancel_left at w.copy_within.ensures.after in
          let q = bodies-here start keeps at (sym c.keeps.ensures ∙ w.if-keeps.true) n in
          rw w.w-is (
            omega (arith, l.invariant.0),
            n.later,
            moved-behind start l.w l.from size l.invariant.2 l.invariant.0 h m,
            next l.invariant.3 (part start l.from size) _ q (moved-text start l.w l.from size l.invariant.2 l.invariant.0 h m refl refl),
          )
      | else-keeps w ↦
          let q = goes keeps at (sym c.keeps.ensures ∙ w.if-keeps.false) in
          rw w.w-is (omega (arith, l.invariant.0), n.later, still start l.w.out.now l.from size l.invariant.2, rw q at l.invariant.3)
    ]

pub returns : goal.returns
returns c =
    let a = c.args in
    let l = c.loop-i in
    done l.invariant.3 (bodies-end a.w.now.out.now (none_left (keeps_by a.keeping.now.names a.keeping.now.zero) (no-entry a.contents.now _ c.peek-count.ensures _ c.loop-i-test.false)))
