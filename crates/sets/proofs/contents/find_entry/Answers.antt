-- `sets::contents::find_entry` meets its contract. Before the i-th entry there is none such. No axiom.
use Rattle.octets.proofs.Vocabulary.{sym, ap, ◌∙◌}
use Rattle.octets.specs.Sentences.{first}
use Rattle.sets.specs.Found.{found, is_at}
use Rattle.sets.proofs.Entries.{asked-next, asked-end, first-here, first-later, first-empty}
use Rattle.sets.proofs.contents.find_entry.Goals as goal

pub returns-then-e-kind : goal.returns-then-e-kind
returns-then-e-kind c =
    let a = c.args in
    let l = c.loop-i in
    let f = is_at a.kind a.index a.language in
    sym (ap found (asked-next (first f) a.set.now _ c.peek-count.ensures l.i l.invariant c.loop-i-test.true _ c.entry_at-e.ensures ∙ first-here f _ _ c.if-e-kind.true))

pub loop-i-preserved : goal.loop-i-preserved
loop-i-preserved c =
    let a = c.args in
    let l = c.loop-i in
    let f = is_at a.kind a.index a.language in
    asked-next (first f) a.set.now _ c.peek-count.ensures l.i l.invariant c.loop-i-test.true _ c.entry_at-e.ensures ∙ first-later f _ _ c.if-e-kind.false

pub returns : goal.returns
returns c =
    let a = c.args in
    let l = c.loop-i in
    let f = is_at a.kind a.index a.language in
    sym (ap found (asked-end (first f) a.set.now _ c.peek-count.ensures l.i l.invariant c.loop-i-test.false ∙ first-empty f))
