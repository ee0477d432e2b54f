-- `pair_rules::beside::beside_fault` meets its contract. No axiom.
use Rattle.octets.proofs.Vocabulary.{sym, ◌∙◌}
use Rattle.sets.specs.Contents.{entries_of}
use Rattle.rules.specs.After.{after}
use Rattle.pair_rules.proofs.Entries.{beside-found, beside-missing}
use Rattle.pair_rules.proofs.beside.beside_fault.Goals as goal

pub returns-in-Some : goal.returns-in-Some
returns-in-Some c =
    let a = c.args in
    rw (beside-found a.set.now a.other.now a.at a.e (entries_of 2 a.other.now) a.k (sym c.entry_of.ensures ∙ c.in-Some.is)) (rw c.body_of.ensures at c.mirror_fault.ensures)

pub returns-in-None : goal.returns-in-None
unfolding after
returns-in-None c =
    let a = c.args in
    rw (beside-missing a.set.now a.other.now a.at a.e (entries_of 2 a.other.now) a.k (sym c.entry_of.ensures ∙ c.in-None.is)) c.ask.ensures
