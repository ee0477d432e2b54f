-- `set_writer::pieces::count_pieces` meets its contract: the stream ends as what is left of it does, and has as many pieces more. No axiom.
use Rattle.octets.proofs.Vocabulary.{◌≡◌, sym, ap, ◌∙◌, length, arith}
use Rattle.set_writer.specs.Writer.{pieces}
use Rattle.set_writer.proofs.Stream.{stream-broken, stream-ends, stream-pieces, stream-over, stream-none}
use Rattle.set_writer.proofs.pieces.count_pieces.Goals as goal

pub returns-then-stream-at : goal.returns-then-stream-at
returns-then-stream-at c =
    let stream = c.args.stream.now in
    sym (rw (c.loop-at.invariant.2 ∙ stream-broken stream c.loop-at.at c.loop-at-test.true _ c.size_at-size.ensures c.if-stream-at.true))

pub loop-at-preserved : goal.loop-at-preserved
loop-at-preserved c =
    let stream = c.args.stream.now in
    let h = c.loop-at-test.true in
    let e = c.size_at-size.ensures in (
      omega arith,
      omega (arith, e),
      c.loop-at.invariant.2 ∙ stream-ends stream c.loop-at.at h _ e c.if-stream-at.false,
      omega (arith, c.loop-at.invariant.3, ap length (stream-pieces stream c.loop-at.at h _ e)),
    )

pub returns : goal.returns
returns c =
    let stream = c.args.stream.now in
    let l = c.loop-at-test.false in
    let m : length (pieces stream) ≡ c.loop-at.n = omega (arith, c.loop-at.invariant.3, ap length (stream-none stream c.loop-at.at l)) in
    sym (rw (c.loop-at.invariant.2 ∙ stream-over stream c.loop-at.at l, m))
