-- `sets::configuration::wakes` meets its contract. Before the i-th entry there is none such. No axiom.
use Rattle.octets.proofs.Vocabulary.{sym, ◌∙◌, map, eq-eqb, ne_eqb}
use Rattle.octets.specs.Sentences.{any}
use Rattle.sets.specs.Contents.{body_of}
use Rattle.sets.specs.Found.{can_wake}
use Rattle.sets.proofs.Entries.{asked_here, asked-other, asked-none, any-cons, any-empty}
use Rattle.sets.proofs.configuration.wakes.Goals.{then-e-eq-CONFIGURATION+else-peek-eq1, else-e-eq-CONFIGURATION}
use Rattle.sets.proofs.configuration.wakes.Goals as goal

pub returns-then-peek-eq1 : goal.returns-then-peek-eq1
returns-then-peek-eq1 c =
    let a = c.args in
    let l = c.loop-i in
    sym (asked_here 2 (λ es. any can_wake (map (body_of a.set.now) es)) a.set.now _ c.peek-count.ensures l.i l.invariant c.loop-i-test.true _ c.entry_at-e.ensures c.if-e-eq-CONFIGURATION.true
    ∙ any-cons can_wake _ _ ∙ rw (← c.body_of.ensures, ← c.peek.ensures, eq-eqb _ _ c.if-peek-eq1.true))

pub loop-i-preserved : goal.loop-i-preserved
loop-i-preserved c =
    let a = c.args in
    let l = c.loop-i in
    elim c.if-e-eq-CONFIGURATION.branch [
      | then-e-eq-CONFIGURATION+else-peek-eq1 w ↦
          asked_here 2 (λ es. any can_wake (map (body_of a.set.now) es)) a.set.now _ c.peek-count.ensures l.i l.invariant c.loop-i-test.true _ c.entry_at-e.ensures w.if-e-eq-CONFIGURATION.true
          ∙ any-cons can_wake _ _ ∙ rw (← w.body_of.ensures, ← w.peek.ensures, ne_eqb _ _ w.if-peek-eq1.false)
      | else-e-eq-CONFIGURATION w ↦
          asked-other 2 (λ es. any can_wake (map (body_of a.set.now) es)) a.set.now _ c.peek-count.ensures l.i l.invariant c.loop-i-test.true _ c.entry_at-e.ensures w.if-e-eq-CONFIGURATION.false
    ]

pub returns : goal.returns
returns c =
    let a = c.args in
    let l = c.loop-i in
    sym (asked-none 2 (λ es. any can_wake (map (body_of a.set.now) es)) a.set.now _ c.peek-count.ensures l.i l.invariant c.loop-i-test.false ∙ any-empty can_wake)
