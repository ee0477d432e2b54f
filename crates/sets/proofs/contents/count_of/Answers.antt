-- `sets::contents::count_of` meets its contract: those counted and those left are all. No axiom.
use Rattle.octets.proofs.Vocabulary.{refl, sym, ◌∙◌, ◌+◌, length, arith, rules}
use Rattle.sets.proofs.Entries.{asked_here, asked-other, asked-none}
use Rattle.sets.proofs.contents.count_of.Goals.{then-kind_at-kind, else-kind_at-kind}
use Rattle.sets.proofs.contents.count_of.Goals as goal

pub loop-i-preserved : goal.loop-i-preserved
loop-i-preserved c =
    let a = c.args in
    let l = c.loop-i in
    elim c.if-kind_at-kind.branch [
      | then-kind_at-kind w ↦ rw w.n-is
          (search rules, let e = asked_here a.kind (λ es. l.n + length es) a.set.now _ c.peek-count.ensures l.i l.invariant.1 c.loop-i-test.true _ refl (sym c.kind_at.ensures ∙ w.if-kind_at-kind.true) in omega arith)
      | else-kind_at-kind w ↦ rw w.n-is
          (search rules, asked-other a.kind (λ es. l.n + length es) a.set.now _ c.peek-count.ensures l.i l.invariant.1 c.loop-i-test.true _ refl (λ p. w.if-kind_at-kind.false (c.kind_at.ensures ∙ p)))
    ]

pub returns : goal.returns
returns c =
    let a = c.args in
    let l = c.loop-i in
    let e = asked-none a.kind (λ es. l.n + length es) a.set.now _ c.peek-count.ensures l.i l.invariant.1 c.loop-i-test.false in
    omega arith
