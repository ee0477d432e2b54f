-- `sets::configuration::by_value` meets its contract. Before the i-th entry there is none such. No axiom.
use Rattle.octets.proofs.Vocabulary.{sym, ap, ◌∙◌, eq-eqb, ne_eqb}
use Rattle.octets.specs.Sentences.{first}
use Rattle.sets.specs.Found.{found, valued}
use Rattle.sets.proofs.Entries.{asked_here, asked-other, asked-none, first-here, first-later, first-empty}
use Rattle.sets.proofs.configuration.by_value.Goals.{then-e-eq-CONFIGURATION+else-peek-value, else-e-eq-CONFIGURATION}
use Rattle.sets.proofs.configuration.by_value.Goals as goal

pub returns-then-peek-value : goal.returns-then-peek-value
returns-then-peek-value c =
    let a = c.args in
    let l = c.loop-i in
    let f = valued a.set.now a.value.0 in
    sym (ap found (asked_here 2 (first f) a.set.now _ c.peek-count.ensures l.i l.invariant c.loop-i-test.true _ c.entry_at-e.ensures c.if-e-eq-CONFIGURATION.true
    ∙ first-here f _ _ (rw (← c.body_of.ensures, ← c.peek.ensures) (eq-eqb _ _ c.if-peek-value.true))))

pub loop-i-preserved : goal.loop-i-preserved
loop-i-preserved c =
    let a = c.args in
    let l = c.loop-i in
    let f = valued a.set.now a.value.0 in
    elim c.if-e-eq-CONFIGURATION.branch [
      | then-e-eq-CONFIGURATION+else-peek-value w ↦
          asked_here 2 (first f) a.set.now _ c.peek-count.ensures l.i l.invariant c.loop-i-test.true _ c.entry_at-e.ensures w.if-e-eq-CONFIGURATION.true
          ∙ first-later f _ _ (rw (← w.body_of.ensures, ← w.peek.ensures) (ne_eqb _ _ w.if-peek-value.false))
      | else-e-eq-CONFIGURATION w ↦ asked-other 2 (first f) a.set.now _ c.peek-count.ensures l.i l.invariant c.loop-i-test.true _ c.entry_at-e.ensures w.if-e-eq-CONFIGURATION.false
    ]

pub returns : goal.returns
returns c =
    let a = c.args in
    let l = c.loop-i in
    let f = valued a.set.now a.value.0 in
    sym (ap found (asked-none 2 (first f) a.set.now _ c.peek-count.ensures l.i l.invariant c.loop-i-test.false ∙ first-empty f))
