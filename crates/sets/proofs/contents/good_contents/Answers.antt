-- `sets::contents::good_contents` meets its contract: the entries passed are good and counted, and what is asked of all is asked of those left. No axiom.
use Rattle.octets.proofs.Vocabulary.{refl, sym, ap, ◌∙◌, true, arith, rules, eq-eqb, ne_eqb}
use Rattle.sets.specs.Contents.{total, good_contents}
use Rattle.sets.proofs.Entries.{rest-start, contents_from, contents-all, counts_start, counts_end, outline-not, outline-on, outline-end}
use Rattle.sets.proofs.contents.good_contents.Goals as goal

pub loop-i-init : goal.loop-i-init
unfolding good_contents
loop-i-init c =
    let a = c.args in
    let set = a.set.now in
    record {
      last = record { kind = 0; index = 0; language = 0; offset = 0; length = 0 };
      language = omega arith;
      index = omega arith;
      ranked = refl;
      bound = omega arith;
      few = omega arith;
      fewer = omega arith;
      good = rw c.peek-count.ensures
          (sym (contents-all a.limits (total set) _ _ _) ∙ ap (contents_from a.limits (total set) true _ _) (rest-start set));
      one = counts_start 1 set;
      two = counts_start 2 set;
    }

pub returns-then-not-good_entry-clause-none : goal.returns-then-not-good_entry-clause-none
returns-then-not-good_entry-clause-none c =
    let a = c.args in
    let l = c.loop-i in
    sym (outline-not a.limits a.set.now l.i l.invariant _ c.peek-count.ensures c.loop-i-test.true c.entry_whole-e.result c.entry_whole-e.ensures (search rules) (search rules)
    (rw (← c.rank-here.ensures) (sym c.good_entry.ensures ∙ c.if-not-good_entry.true)))

pub loop-i-preserved : goal.loop-i-preserved
loop-i-preserved c =
    let a = c.args in
    let l = c.loop-i in
    let g = c.good_entry in
    rw (c.counted-configurations.ensures, c.counted-devices.ensures, c.rank-here.ensures)
    (outline-on a.limits a.set.now l.i l.invariant _ c.peek-count.ensures c.loop-i-test.true c.entry_whole-e.result c.entry_whole-e.ensures (search rules) (search rules)
    (rw (← c.rank-here.ensures) (sym g.ensures ∙ c.if-not-good_entry.false)) (omega arith))

pub returns-then-start-word-clause-none : goal.returns-then-start-word-clause-none
returns-then-start-word-clause-none c =
    let l = c.loop-i in
    outline-end c.args.limits c.args.set.now l.i l.invariant _ c.peek-count.ensures c.loop-i-test.false
    ∙ ne_eqb _ _ (λ p. c.if-start-word.true (p ∙ sym c.word.ensures))

pub returns-clause-some : goal.returns-clause-some
returns-clause-some c =
    let set = c.args.set.now in
    let l = c.loop-i in
    let n = c.peek-count.ensures in
    record {
      good = outline-end c.args.limits set l.i l.invariant _ n c.loop-i-test.false ∙ eq-eqb _ _ (c.if-start-word.false ∙ c.word.ensures);
      devices = counts_end 1 l.devices set _ n l.i l.invariant.one c.loop-i-test.false;
      configurations = counts_end 2 l.configurations set _ n l.i l.invariant.two c.loop-i-test.false;
    }
