-- `sets::contents::entry_of` meets its contract: as many are to be passed as the k-th has before it. No axiom.
use Rattle.octets.proofs.Vocabulary.{sym, ap, ◌∙◌, ◌+◌, List, get_elem?}
use Rattle.sets.specs.declared.Entry.{Entry}
use Rattle.sets.specs.Found.{found}
use Rattle.sets.proofs.Entries.{rest_of, asked_here, asked-other, asked-none, kth-here, kth-passed}
use Rattle.sets.proofs.contents.entry_of.Goals.{then-e-kind+else-left-eq0, else-e-kind}
use Rattle.sets.proofs.contents.entry_of.Goals as goal

pub returns-then-left-eq0 : goal.returns-then-left-eq0
returns-then-left-eq0 c =
    let a = c.args in
    let l = c.loop-i in
    sym (ap found (asked_here a.kind (λ es. get_elem? es l.left) a.set.now _ c.peek-count.ensures l.i l.invariant c.loop-i-test.true _ c.entry_at-e.ensures c.if-e-kind.true ∙ kth-here c.entry_at-e.result (rest_of a.kind a.set.now (l.i + 1)) l.left c.if-left-eq0.true))

pub loop-i-preserved : goal.loop-i-preserved
loop-i-preserved c =
    let a = c.args in
    let l = c.loop-i in
    let asks = λ (es : List Entry). get_elem? es l.left in
    let e = c.entry_at-e in
    elim c.if-e-kind.branch [
      | then-e-kind+else-left-eq0 w ↦ rw w.left-is
          (asked_here a.kind asks a.set.now _ c.peek-count.ensures l.i l.invariant c.loop-i-test.true _ e.ensures w.if-e-kind.true
          ∙ kth-passed e.result (rest_of a.kind a.set.now (l.i + 1)) l.left w.if-left-eq0.false)
      | else-e-kind w ↦ rw w.left-is (asked-other a.kind asks a.set.now _ c.peek-count.ensures l.i l.invariant c.loop-i-test.true _ e.ensures w.if-e-kind.false)
    ]

pub returns : goal.returns
returns c =
    let a = c.args in
    let l = c.loop-i in
    sym (ap found (asked-none a.kind (λ es. get_elem? es l.left) a.set.now _ c.peek-count.ensures l.i l.invariant c.loop-i-test.false))
