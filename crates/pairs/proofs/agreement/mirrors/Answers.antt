-- `pairs::agreement::mirrors` meets its contract: those compared, and those left on both sides. No axiom.
use Rattle.octets.proofs.Vocabulary.{sym, ap, ◌∙◌, ◌+◌, ◌&&◌, drop, arith}
use Rattle.sets.specs.Contents.{entries_of}
use Rattle.sets.proofs.Entries.{rest_of, kind-next, kind-other, kind-end}
use Rattle.sets.specs.Pair.{mirrors_all}
use Rattle.pairs.proofs.Agreeing.{mirrors-start, mirrors-turn, mirrors-end}
use Rattle.pairs.proofs.agreement.mirrors.Goals.{then-e-eq-OTHER_SPEED_CONFIGURATION, else-e-eq-OTHER_SPEED_CONFIGURATION}
use Rattle.pairs.proofs.agreement.mirrors.Goals as goal

pub loop-i-init : goal.loop-i-init
loop-i-init c = let a = c.args in (omega arith, mirrors-start a.set.now a.other.now)

pub loop-i-preserved : goal.loop-i-preserved
loop-i-preserved c =
    let a = c.args in
    let l = c.loop-i in
    let set = a.set.now in
    let other = a.other.now in
    let es = entries_of 2 other in
    let e = c.entry_at-e in
    elim c.if-e-eq-OTHER_SPEED_CONFIGURATION.branch [
      | then-e-eq-OTHER_SPEED_CONFIGURATION w ↦ rw (w.k-is, w.good-is) (
        omega arith,
        l.invariant.1
            ∙ ap (λ rs. l.good && mirrors_all set other rs (drop l.k es))
            (kind-next 7 set c.peek-count.result c.peek-count.ensures l.i c.loop-i-test.true e.result e.ensures w.if-e-eq-OTHER_SPEED_CONFIGURATION.true)
            ∙ mirrors-turn set other e.result (rest_of 7 set (l.i + 1)) es l.k l.good
            ∙ rw (← w.mirrors_kth-good.ensures),
      )
      | else-e-eq-OTHER_SPEED_CONFIGURATION w ↦ rw (w.k-is, w.good-is) (
        omega arith,
        l.invariant.1
            ∙ ap (λ rs. l.good && mirrors_all set other rs (drop l.k es))
            (kind-other 7 set c.peek-count.result c.peek-count.ensures l.i c.loop-i-test.true e.result e.ensures w.if-e-eq-OTHER_SPEED_CONFIGURATION.false),
      )
    ]

pub returns : goal.returns
returns c =
    let a = c.args in
    let set = a.set.now in
    let other = a.other.now in
    sym
    (c.loop-i.invariant.1
    ∙ ap (λ rs. c.loop-i.good && mirrors_all set other rs (drop c.loop-i.k (entries_of 2 other)))
    (kind-end 7 set c.peek-count.result c.peek-count.ensures c.loop-i.i c.loop-i-test.false)
    ∙ rw (mirrors-end, ← c.count_of.ensures))
