-- `single_walk::open_two` meets its contract, answer by answer; what is known is that of the set in use. No axiom.
use Rattle.octets.proofs.Vocabulary.{refl, sym}
use Rattle.sets.proofs.Opened.{number-nonzero}
use Rattle.pairs.proofs.Opening.{refused-first, refused-second}
use Rattle.single_walk.proofs.AtSpeed.{paired_at}
use Rattle.single_walk.proofs.Opened.{refusal-told}
use Rattle.single_walk.proofs.open_two.Goals as goal

pub open_set-requires : goal.open_set-requires
open_set-requires c = rw c.paired_full.ensures paired_at

pub returns-in_err-slow : goal.returns-in_err-slow
returns-in_err-slow c =
    let a = c.args in
    let b = c.in_err-slow.field-0.0 in
    let slow = rw c.paired_full.ensures at c.in_err-slow.ensures in
    refusal-told _ _ _ _ _ c.from_residual.result b c.from_residual.ensures.1 (refused-first a.full.now a.high.now a.serial.now _ slow.refuses (number-nonzero b))

pub returns-in_err-fast : goal.returns-in_err-fast
returns-in_err-fast c =
    let a = c.args in
    let b = c.in_err-fast.field-0.0 in
    let slow = rw c.paired_full.ensures at c.in_ok-slow.ensures in
    let fast = rw c.high_speed.ensures at c.in_err-fast.ensures in
    let stop = c.from_residual-in_err-fast in
    refusal-told _ _ _ _ _ stop.result b stop.ensures.1 (refused-second a.full.now a.high.now a.serial.now 0 _ (sym slow.opens.0) refl fast.refuses (number-nonzero b))
