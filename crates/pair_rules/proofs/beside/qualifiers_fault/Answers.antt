-- `pair_rules::beside::qualifiers_fault` meets its contract. No axiom.
use Rattle.octets.proofs.Vocabulary.{sym, ◌∙◌}
use Rattle.sets.specs.Contents.{entries_of}
use Rattle.rules.proofs.After.{first-rule, ends}
use Rattle.pair_rules.proofs.Entries.{qualifier-found}
use Rattle.pair_rules.proofs.beside.qualifiers_fault.Goals as goal

pub returns-in-Some : goal.returns-in-Some
returns-in-Some c =
    let a = c.args in
    let at = c.behind_strings-at.ensures in
    rw (qualifier-found a.set.now a.device.now (entries_of 6 a.set.now) (sym c.entry_of.ensures ∙ c.in-Some.is))
    (first-rule _ _ (rw (c.count_of.ensures, at) at c.ask.ensures) (ends _ c.or.ensures _ (rw at at c.qualifier_fault.ensures)))
