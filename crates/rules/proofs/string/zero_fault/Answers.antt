-- `rules::string::zero_fault` meets its contract. No axiom.
use Rattle.rules.proofs.Entries.{one-at-least, four-at-most}
use Rattle.rules.proofs.After.{first-rule, then-rule, ends}
use Rattle.rules.proofs.string.zero_fault.Goals as goal

pub returns : goal.returns
returns c =
    rw c.if-not-first.false
    (first-rule _ _ (rw (one-at-least _) at c.ask.ensures) (then-rule _ c.or.ensures _ _ (rw (four-at-most _) at c.ask-2.ensures) (ends _ c.or-2.ensures _ c.languages_fault.ensures)))
