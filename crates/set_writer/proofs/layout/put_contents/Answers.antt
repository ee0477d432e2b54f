-- `set_writer::layout::put_contents` meets its contract: the entries of the places that are left. No axiom.
use Rattle.octets.proofs.Vocabulary.{◌≡◌, sym, subst, ap, ◌∙◌, ℕ, List, ◌+◌, ◌<◌, length, length-append, arith}
use Rattle.sets.specs.declared.Entry.{Entry}
use Rattle.buffers.specs.Written.{Room}
use Rattle.set_writer.specs.Places.{bytes_of}
use Rattle.buffers.proofs.Written.{room_for, next, done}
use Rattle.set_writer.specs.Writer.{entry_bytes, body_bytes}
use Rattle.set_writer.proofs.Laying.{left, here, behind, entries-left, bodies-left, no-entries}
use Rattle.set_writer.proofs.layout.put_contents.Goals as goal

module _ (stream places : List ℕ) (i : ℕ) (h : i < length places) where
  size-left : length (body_bytes (left stream places i)) ≡ length (here stream places i).body + length (body_bytes (behind stream places i))
  size-left = ap length (bodies-left stream places i h) ∙ length-append (here stream places i).body (body_bytes (behind stream places i))

pub entry_for-e-requires : goal.entry_for-e-requires
entry_for-e-requires c = omega (arith, c.loop-from.invariant.fits, size-left c.args.stream.now c.args.places.now c.loop-from.from-index c.loop-from-test.true)

pub put_entry-requires : goal.put_entry-requires
put_entry-requires c =
    let stream = c.args.stream.now in
    let places = c.args.places.now in
    let i = c.loop-from.from-index in
    let room = room_for c.loop-from.invariant.going (entry_bytes (here stream places i) c.loop-from.offset) _ (entries-left stream places i c.loop-from-test.true c.loop-from.offset) in
    subst (λ (e : Entry). Room c.loop-from.w (bytes_of e)) (sym c.entry_for-e.ensures) room

pub loop-from-preserved : goal.loop-from-preserved
loop-from-preserved c =
    let stream = c.args.stream.now in
    let places = c.args.places.now in
    let i = c.loop-from.from-index in
    let h = c.loop-from-test.true in
    rw c.entry_for-e.ensures (record {
      fits = omega (arith, c.loop-from.invariant.fits, size-left stream places i h);
      going = next c.loop-from.invariant.going (entry_bytes (here stream places i) c.loop-from.offset) _ (entries-left stream places i h c.loop-from.offset) (rw c.entry_for-e.ensures at c.put_entry.ensures);
    })

pub returns : goal.returns
returns c = done c.loop-from.invariant.going (no-entries c.args.stream.now c.args.places.now c.loop-from.from-index c.loop-from-test.false c.loop-from.offset)
