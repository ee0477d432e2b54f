-- `rules::device::stores_fault` meets its contract. No axiom.
use Rattle.octets.proofs.Vocabulary.{sym, ◌∙◌}
use Rattle.sets.specs.Contents.{entries_of}
use Rattle.rules.proofs.Entries.{store_found}
use Rattle.rules.proofs.After.{first-rule, ends}
use Rattle.rules.proofs.device.stores_fault.Goals as goal

pub returns-in-Some : goal.returns-in-Some
returns-in-Some c =
    let a = c.args in
    rw (store_found a.set.now (entries_of 15 a.set.now) (sym c.entry_of.ensures ∙ c.in-Some.is))
    (first-rule _ _ (rw (c.count_of.ensures, c.behind_strings-at.ensures) at c.ask.ensures) (ends _ c.or.ensures _ (rw c.behind_strings-at.ensures at c.store_fault.ensures)))
