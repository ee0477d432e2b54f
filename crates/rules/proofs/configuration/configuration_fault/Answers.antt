-- `rules::configuration::configuration_fault` meets its contract. No axiom.
use Rattle.rules.proofs.After.{first-rule, then-rule, then-list, last-rule}
use Rattle.rules.proofs.configuration.configuration_fault.Goals as goal

pub returns : goal.returns
returns c =
    let bytes = c.of-body.ensures.bytes in
    let start = c.of-body.ensures.start in
    first-rule _ _ c.ask.ensures
    (then-rule _ c.or.ensures _ _ c.ask-2.ensures
    (then-list _ c.or-2.ensures _ _ (rw (bytes, start) at c.body_fault.ensures)
    (then-list _ c.or-3.ensures _ _ (rw (bytes, start) at c.accompanied_fault.ensures)
    (then-rule _ c.or-4.ensures _ _ (rw (c.peek.ensures, bytes, start) at c.ask-3.ensures)
    (last-rule _ c.or-5.ensures _ (rw start at c.ask-4.ensures))))))
