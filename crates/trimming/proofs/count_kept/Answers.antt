-- `trimming::count_kept` meets its contract. No axiom.
use Rattle.octets.proofs.Vocabulary.{sym, ap, ◌∙◌, ◌+◌, length, arith, add-zero}
use Rattle.sets.proofs.Entries.{next-entry, no-entry}
use Rattle.trimming.specs.Keeping.{keeps_by}
use Rattle.trimming.proofs.Moving.{stays, goes, none_left}
use Rattle.trimming.proofs.count_kept.Goals as goal
use Rattle.trimming.proofs.count_kept.Goals.{then-keeps, else-keeps}

pub loop-i-preserved : goal.loop-i-preserved
loop-i-preserved c =
    let a = c.args in
    let l = c.loop-i in
    let at = next-entry a.contents.now _ c.peek-count.ensures _ c.loop-i-test.true _ c.entry_at-e.ensures in
    elim c.if-keeps.branch [
      | then-keeps w ↦ rw w.n-is (omega (arith, l.invariant.0), l.invariant.1 ∙ rw (stays (keeps_by a.keeping.now.names a.keeping.now.zero) at (sym c.keeps.ensures ∙ w.if-keeps.true)) (omega arith))
      | else-keeps w ↦ rw w.n-is (omega (arith, l.invariant.0), l.invariant.1 ∙ rw (goes (keeps_by a.keeping.now.names a.keeping.now.zero) at (sym c.keeps.ensures ∙ w.if-keeps.false)))
    ]

pub returns : goal.returns
returns c =
    let a = c.args in
    let l = c.loop-i in
    sym (l.invariant.1 ∙ ap (λ es. l.n + length es) (none_left (keeps_by a.keeping.now.names a.keeping.now.zero) (no-entry a.contents.now _ c.peek-count.ensures _ c.loop-i-test.false)) ∙ add-zero l.n)
