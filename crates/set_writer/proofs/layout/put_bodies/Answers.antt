-- `set_writer::layout::put_bodies` meets its contract: the bodies of the places that are left. No axiom.
use Rattle.buffers.proofs.Written.{room_for, next, done}
use Rattle.set_writer.specs.Writer.{body_bytes}
use Rattle.set_writer.proofs.Laying.{here, behind, bodies-left, no-bodies}
use Rattle.set_writer.proofs.layout.put_bodies.Goals as goal

pub put_bytes-requires : goal.put_bytes-requires
put_bytes-requires c =
    let stream = c.args.stream.now in
    let places = c.args.places.now in
    let i = c.loop-from.from-index in
    rw c.body_at.ensures (room_for c.loop-from.invariant (here stream places i).body (body_bytes (behind stream places i)) (bodies-left stream places i c.loop-from-test.true))

pub loop-from-preserved : goal.loop-from-preserved
loop-from-preserved c =
    let stream = c.args.stream.now in
    let places = c.args.places.now in
    let i = c.loop-from.from-index in
    next c.loop-from.invariant (here stream places i).body (body_bytes (behind stream places i)) (bodies-left stream places i c.loop-from-test.true) (rw c.body_at.ensures at c.put_bytes.ensures)

pub returns : goal.returns
returns c = done c.loop-from.invariant (no-bodies c.args.stream.now c.args.places.now c.loop-from.from-index c.loop-from-test.false)
