-- `dumps::export::export` meets its contract: refused, too short, or one copy. No axiom.
use Rattle.octets.proofs.Vocabulary.{arith}
use Rattle.dumps.proofs.Together.{fits, small, short, given}
use Rattle.dumps.proofs.export.export.Goals as goal

pub returns-then-out-size : goal.returns-then-out-size
returns-then-out-size c = short c.args.set.now c.args.serial.now c.args.out.now (rw c.full_speed.ensures at c.in_ok-opening.ensures) _ c.peek.ensures _ c.size_of-size.ensures c.if-out-size.true

pub slice_bounds-copy_from_slice-end-3 : goal.slice_bounds-copy_from_slice-end-3
slice_bounds-copy_from_slice-end-3 c = fits c.args.set.now c.args.serial.now c.args.out.now (rw c.full_speed.ensures at c.in_ok-opening.ensures) _ c.peek.ensures _ c.size_of-size.ensures

pub overflow_cast-written : goal.overflow_cast-written
overflow_cast-written c =
    let h = small c.args.set.now c.args.serial.now c.args.out.now (rw c.full_speed.ensures at c.in_ok-opening.ensures) _ c.peek.ensures _ c.size_of-size.ensures in
    omega (arith, h)

pub returns : goal.returns
returns c =
    given c.args.set.now c.args.serial.now c.args.out.now (rw c.full_speed.ensures at c.in_ok-opening.ensures) _ c.peek.ensures _ c.size_of-size.ensures c.if-out-size.false c.copy_from_slice.ensures.after
