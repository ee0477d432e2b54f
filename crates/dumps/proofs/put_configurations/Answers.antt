-- `dumps::put_configurations` meets its contract: the pieces of the bodies that are left. No axiom.
use Rattle.octets.proofs.Vocabulary.{refl, sym, ap, ◌∙◌, length, take, drop, arith}
use Rattle.buffers.proofs.Written.{room_for, next, done}
use Rattle.dumps.specs.Dump.{zeroed_configuration}
use Rattle.dumps.specs.Import.{headed}
use Rattle.dumps.proofs.Splitting.{dump-bodies, dump-least, dump-fits, dump-splits}
use Rattle.dumps.proofs.Streaming.{zeroed-length, stream-here, stream-over}
use Rattle.dumps.proofs.put_configurations.Goals as goal

pub put_head-requires : goal.put_head-requires
put_head-requires c =
    let dump = c.args.dump.now in
    let s = c.loop-from in
    let h = c.loop-from-test.true in
    let e = c.size_at-size.ensures.0 in record {
      room = room_for s.invariant.3 (headed 2 s.index _) _ (stream-here dump s.from h s.invariant.1 _ e s.index);
      size_bound = c.size_at-size.ensures.1;
    }

pub put_configuration-requires : goal.put_configuration-requires
put_configuration-requires c =
    let dump = c.args.dump.now in
    let s = c.loop-from in
    let h = c.loop-from-test.true in
    let e = c.size_at-size.ensures.0 in
    let q = rw c.tail.ensures at c.head.ensures in
    let g = next s.invariant.3 (headed 2 s.index _) _ (stream-here dump s.from h s.invariant.1 _ e s.index) c.put_head.ensures in
    let b = take c.size_at-size.result (drop s.from dump) in
    rw q (omega (arith, room_for g (zeroed_configuration b) _ refl, zeroed-length b))

pub overflow_add-index : goal.overflow_add-index
overflow_add-index c =
    let dump = c.args.dump.now in
    let s = c.loop-from in
    let h = c.loop-from-test.true in
    let e = c.size_at-size.ensures.0 in
    omega (arith, s.invariant.2, ap length (dump-bodies dump s.from h _ e (dump-least dump s.from h _ e s.invariant.1)))

pub loop-from-smaller : goal.loop-from-smaller
loop-from-smaller c =
    let dump = c.args.dump.now in
    let s = c.loop-from in
    let h = c.loop-from-test.true in
    let e = c.size_at-size.ensures.0 in
    omega (arith, dump-fits dump s.from h _ e s.invariant.1, dump-least dump s.from h _ e s.invariant.1)

pub loop-from-preserved : goal.loop-from-preserved
loop-from-preserved c =
    let dump = c.args.dump.now in
    let s = c.loop-from in
    let h = c.loop-from-test.true in
    let e = c.size_at-size.ensures.0 in
    let q = rw c.tail.ensures at c.head.ensures in
    let f = dump-fits dump s.from h _ e s.invariant.1 in
    let l = dump-least dump s.from h _ e s.invariant.1 in
    let g = next s.invariant.3 (headed 2 s.index _) _ (stream-here dump s.from h s.invariant.1 _ e s.index) c.put_head.ensures in (
      omega arith,
      sym (dump-splits dump s.from h _ e l f) ∙ s.invariant.1,
      omega (arith, s.invariant.2, ap length (dump-bodies dump s.from h _ e l)),
      next g (zeroed_configuration (take c.size_at-size.result (drop s.from dump))) _ refl (rw q at c.put_configuration.ensures),
    )

pub returns : goal.returns
returns c =
    let s = c.loop-from in
    done s.invariant.3 (stream-over c.args.dump.now s.from c.loop-from-test.false s.index)
