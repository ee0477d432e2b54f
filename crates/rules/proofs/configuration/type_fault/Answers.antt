-- `rules::configuration::type_fault` meets its contract. No axiom.
use Rattle.octets.proofs.Vocabulary.{sym, ◌∙◌}
use Rattle.rules.proofs.configuration.type_fault.Goals as goal

pub returns-in-5 : goal.returns-in-5
returns-in-5 c = rw (sym c.peek.ensures ∙ c.in-5.is) c.endpoint_fault.ensures
