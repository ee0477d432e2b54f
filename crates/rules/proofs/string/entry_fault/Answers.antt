-- `rules::string::entry_fault` meets its contract. No axiom.
use Rattle.std.specs.Prelude.{None}
use Rattle.sets.specs.Contents.{body_of}
use Rattle.rules.specs.Strings.{string_findings}
use Rattle.rules.proofs.After.{joins, then-rule, then-list, last-rule}
use Rattle.rules.proofs.string.entry_fault.Goals as goal

pub returns : goal.returns
returns c =
    let a = c.args in
    joins None (string_findings a.e.offset (body_of a.set.now a.e)) _ (rw c.body_of.ensures at c.body_fault.ensures)
    (then-rule _ c.or.ensures _ _ c.ask.ensures (then-list _ c.or-2.ensures _ _ c.zero_fault.ensures (last-rule _ c.or-3.ensures _ c.ask-2.ensures)))
