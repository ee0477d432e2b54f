-- `pairs::opening_two` meets its contract, answer by answer. No axiom.
use Rattle.octets.proofs.Vocabulary.{refl}
use Rattle.sets.proofs.Opened.{handed-on, number-nonzero}
use Rattle.pairs.proofs.Opening.{refused-first, refused-second}
use Rattle.pairs.proofs.opening_two.Goals as goal

pub returns-in_err-opening : goal.returns-in_err-opening
returns-in_err-opening c =
    let a = c.args in
    let b = c.in_err-opening.field-0.0 in
    let slow = rw c.paired_full.ensures at c.in_err-opening.ensures in
    handed-on c.from_residual.result b c.from_residual.ensures.1 (refused-first a.full.now a.high.now a.serial.now _ slow (number-nonzero b))

pub returns-in_err-opening-2 : goal.returns-in_err-opening-2
returns-in_err-opening-2 c =
    let a = c.args in
    let b = c.in_err-opening-2.field-0.0 in
    let slow = rw c.paired_full.ensures at c.in_ok-opening.ensures in
    let fast = rw c.high_speed.ensures at c.in_err-opening-2.ensures in
    let stop = c.from_residual-in_err-opening-2 in
    handed-on stop.result b stop.ensures.1 (refused-second a.full.now a.high.now a.serial.now 0 _ slow refl fast (number-nonzero b))
