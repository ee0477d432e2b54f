-- `requests::refusal` meets its contract: each answer from the row that was found, or none, and the two tests. No axiom.
use Rattle.octets.proofs.Vocabulary.{sym, ◌∙◌}
use Rattle.requests.proofs.Found.{is_some, is_none, without-row, wrong-state, wrong-field, no-refusal}
use Rattle.requests.proofs.refusal.Goals as goal

pub returns-in_default : goal.returns-in_default
returns-in_default c = sym (without-row _ _ (is_none _ (sym c.in_default.ensures)))

pub returns-then-not-in_state : goal.returns-then-not-in_state
returns-then-not-in_state c = sym (wrong-state _ _ (is_some _ (sym c.in-Some.ensures)) (sym c.in_state.ensures ∙ c.if-not-in_state.true))

pub returns-then-not-fields_fit : goal.returns-then-not-fields_fit
returns-then-not-fields_fit c = sym (wrong-field _ _ (is_some _ (sym c.in-Some.ensures)) (sym c.in_state.ensures ∙ c.if-not-in_state.false) (sym c.fields_fit.ensures ∙ c.if-not-fields_fit.true))

pub returns : goal.returns
returns c = sym (no-refusal _ _ (is_some _ (sym c.in-Some.ensures)) (sym c.in_state.ensures ∙ c.if-not-in_state.false) (sym c.fields_fit.ensures ∙ c.if-not-fields_fit.false))
