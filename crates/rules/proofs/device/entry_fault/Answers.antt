-- `rules::device::entry_fault` meets its contract. No axiom.
use Rattle.octets.proofs.Vocabulary.{sym, ◌∙◌}
use Rattle.sets.specs.Contents.{entries_of}
use Rattle.rules.proofs.Entries.{device-found}
use Rattle.rules.proofs.After.{first-rule, ends}
use Rattle.rules.proofs.device.entry_fault.Goals as goal

pub returns-in-Some : goal.returns-in-Some
returns-in-Some c =
    let a = c.args in
    rw (device-found a.limits a.set.now (entries_of 1 a.set.now) (sym c.entry_of.ensures ∙ c.in-Some.is))
    (first-rule _ _ (rw c.count_of.ensures at c.ask.ensures) (ends _ c.or.ensures _ c.one_fault.ensures))
