-- `sets::capabilities::good_store_entries` meets its contract. No axiom.
use Rattle.octets.proofs.Vocabulary.{sym, ap, ◌∙◌}
use Rattle.sets.specs.Device.{good_store}
use Rattle.sets.specs.Contents.{entries_of}
use Rattle.sets.specs.Pieces.{sole}
use Rattle.sets.proofs.Pieces.{of-kind}
use Rattle.sets.proofs.Devices.{sole-one, sole-other, sole-missing}
use Rattle.sets.proofs.capabilities.good_store_entries.Goals as goal

pub returns-then-count_of-ne1 : goal.returns-then-count_of-ne1
returns-then-count_of-ne1 c =
    let a = c.args in
    sole-other a.set.now good_store (entries_of 15 a.set.now) (λ p. c.if-count_of-ne1.true (c.count_of.ensures ∙ p)) ∙ ap (sole good_store) (of-kind a.set.now 15)

pub returns-in-Some : goal.returns-in-Some
returns-in-Some c =
    let a = c.args in
    rw (c.good_store.ensures, c.body_of.ensures)
    (sole-one a.set.now good_store (entries_of 15 a.set.now) (sym c.count_of.ensures ∙ c.if-count_of-ne1.false)
    (sym c.entry_of.ensures ∙ c.in-Some.is) ∙ ap (sole good_store) (of-kind a.set.now 15))

pub returns-in-None : goal.returns-in-None
returns-in-None c =
    let a = c.args in
    sole-missing a.set.now good_store (entries_of 15 a.set.now) (sym c.entry_of.ensures ∙ c.in-None.is) ∙ ap (sole good_store) (of-kind a.set.now 15)
