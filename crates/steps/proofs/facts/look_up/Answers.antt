-- `steps::facts::look_up` meets its contract: the selected body is well cut, since the set opens. No axiom.
use Rattle.octets.proofs.Vocabulary.{arith}
use Rattle.sets.specs.Opening.{lent}
use Rattle.steps.proofs.Configurations.{usable}
use Rattle.steps.proofs.facts.look_up.Goals as goal

pub walk-survey-requires : goal.walk-survey-requires
walk-survey-requires c = let a = c.args in
    let o = c.requires in
    rw (c.body_found-body.ensures, c.by_value-selected.ensures) (usable o.0 (lent a.set.now a.serial.now) (λ i. omega (arith, c.type_inv.set i)) o.1 a.device.configuration).whole
