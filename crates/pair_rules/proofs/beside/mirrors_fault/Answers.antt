-- `pair_rules::beside::mirrors_fault` meets its contract. No axiom.
use Rattle.std.specs.Option.{option_or}
use Rattle.octets.proofs.Vocabulary.{sym, ap, ◌∙◌, ◌+◌, ◌*◌, drop, arith}
use Rattle.sets.specs.Contents.{entries_of}
use Rattle.sets.proofs.Entries.{asked-next, asked-end}
use Rattle.rules.specs.After.{after}
use Rattle.rules.proofs.After.{ends}
use Rattle.pair_rules.specs.Pair.{mirrors_from}
use Rattle.pair_rules.proofs.Entries.{mirrors-in, mirrors-past, mirrors-end}
use Rattle.pair_rules.proofs.beside.mirrors_fault.Goals.{then-e-eq-OTHER_SPEED_CONFIGURATION, else-e-eq-OTHER_SPEED_CONFIGURATION}
use Rattle.pair_rules.proofs.beside.mirrors_fault.Goals as goal

pub loop-i-preserved : goal.loop-i-preserved
loop-i-preserved c =
    let l = c.loop-i in
    let set = c.args.set.now in
    let other = c.args.other.now in
    let fs = entries_of 2 other in
    let e = c.entry_at-e.result in
    let turn = asked-next (λ es. after l.found (mirrors_from set other (4 + 8 * l.i) (drop l.k fs) es)) set _ c.peek-count.ensures l.i l.invariant.1 c.loop-i-test.true e c.entry_at-e.ensures in
    elim c.if-e-eq-OTHER_SPEED_CONFIGURATION.branch [
      | then-e-eq-OTHER_SPEED_CONFIGURATION w ↦
          rw (w.k-is, w.found-is) (omega arith, turn ∙ mirrors-in set other l.i l.k fs l.found e _ w.if-e-eq-OTHER_SPEED_CONFIGURATION.true (ends _ w.or-found.ensures _ w.beside_fault.ensures))
      | else-e-eq-OTHER_SPEED_CONFIGURATION w ↦
          rw (w.k-is, w.found-is) (omega arith, turn ∙ mirrors-past set other l.i l.k fs l.found e _ w.if-e-eq-OTHER_SPEED_CONFIGURATION.false)
    ]

pub returns : goal.returns
returns c =
    let l = c.loop-i in
    let set = c.args.set.now in
    let other = c.args.other.now in
    let fs = entries_of 2 other in
    let n = c.peek-count in
    c.or.ensures
    ∙ ap (option_or l.found) (rw c.count_of.ensures at c.ask.ensures)
    ∙ sym
    (asked-end (λ es. after l.found (mirrors_from set other (4 + 8 * l.i) (drop l.k fs) es)) set _ n.ensures l.i l.invariant.1 c.loop-i-test.false
    ∙ mirrors-end set other l.i l.k fs l.found {n = n.result} (omega (arith, l.auto.i-end, c.loop-i-test.false)))
