-- `set_writer::layout::lay` meets its contract: header, contents, bodies. No axiom.
use Rattle.octets.proofs.Vocabulary.{refl, [], ◌∷◌}
use Rattle.buffers.proofs.Written.{begun, room_for, next}
use Rattle.set_writer.specs.Writer.{contents, body_bytes, front}
use Rattle.set_writer.proofs.Laying.{all, header-first}
use Rattle.set_writer.proofs.layout.lay.Goals as goal

pub put_header-requires-clause-room : goal.put_header-requires-clause-room
put_header-requires-clause-room c = room_for (begun c.args.w.now _ c.requires.room) (_ ∷ _ ∷ _ ∷ 0 ∷ []) _ (header-first c.args.stream.now c.args.places.now c.args.size c.requires.size_value)

pub put_contents-requires-clause-room : goal.put_contents-requires-clause-room
put_contents-requires-clause-room c =
    let a = c.args in
    let g = next (begun a.w.now _ c.requires.room) (_ ∷ _ ∷ _ ∷ 0 ∷ []) _ (header-first a.stream.now a.places.now a.size c.requires.size_value) c.put_header.ensures in
    let ps = all a.stream.now a.places.now in
    room_for g (contents (front ps) ps) (body_bytes ps) refl

pub put_bodies-requires : goal.put_bodies-requires
put_bodies-requires c =
    let a = c.args in
    let g = next (begun a.w.now _ c.requires.room) (_ ∷ _ ∷ _ ∷ 0 ∷ []) _ (header-first a.stream.now a.places.now a.size c.requires.size_value) c.put_header.ensures in
    let ps = all a.stream.now a.places.now in
    (next g (contents (front ps) ps) (body_bytes ps) refl c.put_contents.ensures).room

pub returns : goal.returns
returns c =
    let a = c.args in
    let g = next (begun a.w.now _ c.requires.room) (_ ∷ _ ∷ _ ∷ 0 ∷ []) _ (header-first a.stream.now a.places.now a.size c.requires.size_value) c.put_header.ensures in
    let ps = all a.stream.now a.places.now in
    (next g (contents (front ps) ps) (body_bytes ps) refl c.put_contents.ensures).onward _ c.put_bodies.ensures
