-- `trimming::keeping::any_referenced` meets its contract: before the i-th entry there is none. No axiom.
use Rattle.octets.proofs.Vocabulary.{sym, ◌∙◌}
use Rattle.octets.specs.Sentences.{any}
use Rattle.sets.proofs.Entries.{asked-next, asked-end, any-cons, any-empty}
use Rattle.trimming.specs.Keeping.{table_names}
use Rattle.trimming.proofs.keeping.any_referenced.Goals as goal

pub returns-then-table_names : goal.returns-then-table_names
returns-then-table_names c =
    let a = c.args in
    sym (asked-next (any (table_names a.names.now)) a.set.now _ c.peek-count.ensures _ c.loop-i.invariant c.loop-i-test.true _ c.entry_at-e.ensures ∙ any-cons (table_names a.names.now) _ _ ∙ rw (sym c.table_names.ensures ∙ c.if-table_names.true))

pub loop-i-preserved : goal.loop-i-preserved
loop-i-preserved c =
    let a = c.args in
    asked-next (any (table_names a.names.now)) a.set.now _ c.peek-count.ensures _ c.loop-i.invariant c.loop-i-test.true _ c.entry_at-e.ensures ∙ any-cons (table_names a.names.now) _ _ ∙ rw (sym c.table_names.ensures ∙ c.if-table_names.false)

pub returns : goal.returns
returns c =
    let a = c.args in
    sym (asked-end (any (table_names a.names.now)) a.set.now _ c.peek-count.ensures _ c.loop-i.invariant c.loop-i-test.false ∙ any-empty (table_names a.names.now))
