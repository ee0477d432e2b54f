-- `trimming::put_contents` meets its contract: the entries that are left. No axiom.
use Rattle.octets.proofs.Vocabulary.{sym, ◌∙◌, arith}
use Rattle.sets.proofs.Entries.{next-entry, no-entry}
use Rattle.buffers.proofs.Written.{room_for, next, done}
use Rattle.trimming.specs.Keeping.{keeps_by}
use Rattle.trimming.specs.Entries.{entry_with}
use Rattle.trimming.proofs.Moving.{stays, goes, none_left, contents-more, contents-none, lengths-more}
use Rattle.trimming.proofs.put_contents.Goals as goal
use Rattle.trimming.proofs.put_contents.Goals.{then-keeps, else-keeps}

pub put_entry-requires : goal.put_entry-requires
put_entry-requires c =
    let a = c.args in
    let l = c.loop-i in
    let at = next-entry a.contents.now _ c.peek-count.ensures _ c.loop-i-test.true _ c.entry_at-e.ensures in
    let q = stays (keeps_by a.keeping.now.names a.keeping.now.zero) at (sym c.keeps.ensures ∙ c.if-keeps.true) in
    room_for l.invariant.1 (entry_with c.entry_at-e.result l.offset) _ (contents-more l.offset q)

pub loop-i-preserved : goal.loop-i-preserved
loop-i-preserved c =
    let a = c.args in
    let l = c.loop-i in
    let at = next-entry a.contents.now _ c.peek-count.ensures _ c.loop-i-test.true _ c.entry_at-e.ensures in
    elim c.if-keeps.branch [
      | then-keeps w ↦
          let q = stays (keeps_by a.keeping.now.names a.keeping.now.zero) at (sym c.keeps.ensures ∙ w.if-keeps.true) in
          rw (w.offset-is, w.w-is) (omega (arith, l.invariant.0, lengths-more q), next l.invariant.1 (entry_with c.entry_at-e.result l.offset) _ (contents-more l.offset q) w.put_entry.ensures)
      | else-keeps w ↦
          let q = goes (keeps_by a.keeping.now.names a.keeping.now.zero) at (sym c.keeps.ensures ∙ w.if-keeps.false) in
          rw (w.offset-is, w.w-is) (rw q at l.invariant.0, rw q at l.invariant.1)
    ]

pub returns : goal.returns
returns c =
    let a = c.args in
    let l = c.loop-i in
    done l.invariant.1 (contents-none l.offset (none_left (keeps_by a.keeping.now.names a.keeping.now.zero) (no-entry a.contents.now _ c.peek-count.ensures _ c.loop-i-test.false)))
