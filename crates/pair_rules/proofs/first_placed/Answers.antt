-- `pair_rules::first_placed` meets its contract: list after list. No axiom.
use Rattle.octets.proofs.Vocabulary.{sym, ◌∙◌}
use Rattle.descriptors.specs.Limits.{paired_full, high_speed}
use Rattle.sets.specs.Opening.{lent}
use Rattle.rules.specs.Explained.{findings}
use Rattle.pair_rules.specs.Pair.{pair_findings}
use Rattle.pair_rules.specs.Explained.{findings_two}
use Rattle.pair_rules.proofs.First.{told-here, told-behind, told-last}
use Rattle.pair_rules.proofs.first_placed.Goals as goal

pub returns-then-is_some : goal.returns-then-is_some
unfolding findings_two
returns-then-is_some c =
    let a = c.args in
    told-here 0 (findings paired_full (lent a.full.now a.serial.now)) c.placed-found.result (c.placed-found.ensures ∙ rw (c.first_fault.ensures, c.paired_full.ensures)) _ (sym c.is_some.ensures ∙ c.if-is_some.true)

pub returns-then-is_some-2 : goal.returns-then-is_some-2
unfolding findings_two
returns-then-is_some-2 c =
    let a = c.args in
    told-behind 0 (findings paired_full (lent a.full.now a.serial.now)) c.placed-found.result (c.placed-found.ensures ∙ rw (c.first_fault.ensures, c.paired_full.ensures)) _ (sym c.is_some.ensures ∙ c.if-is_some.false)
    (told-here 1 (findings high_speed (lent a.high.now a.serial.now)) c.placed-found-2.result (c.placed-found-2.ensures ∙ rw (c.first_fault-2.ensures, c.high_speed.ensures)) _ (sym c.is_some-2.ensures ∙ c.if-is_some-2.true))

pub returns-then-is_some-3 : goal.returns-then-is_some-3
unfolding findings_two
returns-then-is_some-3 c =
    let a = c.args in
    told-behind 0 (findings paired_full (lent a.full.now a.serial.now)) c.placed-found.result (c.placed-found.ensures ∙ rw (c.first_fault.ensures, c.paired_full.ensures)) _ (sym c.is_some.ensures ∙ c.if-is_some.false)
    (told-behind 1 (findings high_speed (lent a.high.now a.serial.now)) c.placed-found-2.result (c.placed-found-2.ensures ∙ rw (c.first_fault-2.ensures, c.high_speed.ensures)) _ (sym c.is_some-2.ensures ∙ c.if-is_some-2.false)
    (told-here 0 (pair_findings a.full.now a.high.now) c.placed-found-3.result (c.placed-found-3.ensures ∙ rw c.pair_fault.ensures) _ (sym c.is_some-3.ensures ∙ c.if-is_some-3.true)))

pub returns : goal.returns
unfolding findings_two
returns c =
    let a = c.args in
    told-behind 0 (findings paired_full (lent a.full.now a.serial.now)) c.placed-found.result (c.placed-found.ensures ∙ rw (c.first_fault.ensures, c.paired_full.ensures)) _ (sym c.is_some.ensures ∙ c.if-is_some.false)
    (told-behind 1 (findings high_speed (lent a.high.now a.serial.now)) c.placed-found-2.result (c.placed-found-2.ensures ∙ rw (c.first_fault-2.ensures, c.high_speed.ensures)) _ (sym c.is_some-2.ensures ∙ c.if-is_some-2.false)
    (told-behind 0 (pair_findings a.full.now a.high.now) c.placed-found-3.result (c.placed-found-3.ensures ∙ rw c.pair_fault.ensures) _ (sym c.is_some-3.ensures ∙ c.if-is_some-3.false)
    (told-last 1 (pair_findings a.high.now a.full.now) c.placed.result (c.placed.ensures ∙ rw c.pair_fault-2.ensures))))
