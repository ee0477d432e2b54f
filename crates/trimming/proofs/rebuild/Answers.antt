-- `trimming::rebuild` meets its contract: step by step. No axiom.
use Rattle.octets.proofs.Vocabulary.{refl, sym, ap, ◌∙◌, ℕ, ◌+◌, ◌*◌, map, length, length-replicate, length-take-le, arith, rules}
use Rattle.octets.specs.Sentences.{only}
use Rattle.set_writer.specs.Writer.{laid}
use Rattle.sets.specs.Pieces.{piece_for}
use Rattle.trimming.specs.Keeping.{keeps_by}
use Rattle.trimming.specs.Trim.{zero_filled}
use Rattle.trimming.proofs.Rebuilding.{framed, prepared, copied-entries, less, contents-room, contents-small, bodies-at, ends-still, end-in, end-small, header-room, rebuilt}
use Rattle.trimming.proofs.rebuild.Goals as goal

pub slice_bounds-contents-end : goal.slice_bounds-contents-end
slice_bounds-contents-end c =
    let g = framed c.args.set.now c.requires.set_value in
    omega (arith, g.few, c.peek.ensures)

pub slice_bounds-copy_from_slice-end : goal.slice_bounds-copy_from_slice-end
slice_bounds-copy_from_slice-end c =
    let g = framed c.args.set.now c.requires.set_value in
    sym (length-take-le (4 + 8 * c.peek.result) _ (omega (arith, g.few, c.peek.ensures, length-replicate {A = ℕ} 516 0)))

pub slice_bounds-copy_from_slice-end-2 : goal.slice_bounds-copy_from_slice-end-2
slice_bounds-copy_from_slice-end-2 c =
    let g = framed c.args.set.now c.requires.set_value in
    omega (arith, g.inside, c.peek.ensures)

pub slice_bounds-copy_from_slice-end-3 : goal.slice_bounds-copy_from_slice-end-3
slice_bounds-copy_from_slice-end-3 c =
    let g = framed c.args.set.now c.requires.set_value in
    sym (length-take-le (4 + 8 * c.peek.result) c.args.set.now (omega (arith, g.inside, c.peek.ensures)))

pub copy_from_slice-requires : goal.copy_from_slice-requires
copy_from_slice-requires c =
    let g = framed c.args.set.now c.requires.set_value in
    length-take-le (4 + 8 * c.peek.result) _ (omega (arith, g.few, c.peek.ensures, length-replicate {A = ℕ} 516 0))
    ∙ sym (length-take-le (4 + 8 * c.peek.result) c.args.set.now (omega (arith, g.inside, c.peek.ensures)))

pub overflow_mul-count : goal.overflow_mul-count
overflow_mul-count c =
    let r = prepared c.args.set.now (framed c.args.set.now c.requires.set_value) c.peek.result c.peek.ensures c.copy_from_slice.ensures.after _ (keeps_by c.args.keeping.now.names c.args.keeping.now.zero) _ c.requires.set_value_2 c.count_kept-count.ensures in
    omega (arith, less r, r.few)

pub overflow_add-count : goal.overflow_add-count
overflow_add-count c =
    let r = prepared c.args.set.now (framed c.args.set.now c.requires.set_value) c.peek.result c.peek.ensures c.copy_from_slice.ensures.after _ (keeps_by c.args.keeping.now.names c.args.keeping.now.zero) _ c.requires.set_value_2 c.count_kept-count.ensures in
    omega (arith, less r, r.few)

pub put_contents-requires-clause-room : goal.put_contents-requires-clause-room
put_contents-requires-clause-room c =
    let r = prepared c.args.set.now (framed c.args.set.now c.requires.set_value) c.peek.result c.peek.ensures c.copy_from_slice.ensures.after _ (keeps_by c.args.keeping.now.names c.args.keeping.now.zero) _ c.requires.set_value_2 c.count_kept-count.ensures in
    contents-room r

pub put_contents-requires-clause-contents_bound : goal.put_contents-requires-clause-contents_bound
put_contents-requires-clause-contents_bound c =
    let r = prepared c.args.set.now (framed c.args.set.now c.requires.set_value) c.peek.result c.peek.ensures c.copy_from_slice.ensures.after _ (keeps_by c.args.keeping.now.names c.args.keeping.now.zero) _ c.requires.set_value_2 c.count_kept-count.ensures in
    contents-small r

pub put_bodies-requires-clause-at_bound : goal.put_bodies-requires-clause-at_bound
put_bodies-requires-clause-at_bound c =
    let r = prepared c.args.set.now (framed c.args.set.now c.requires.set_value) c.peek.result c.peek.ensures c.copy_from_slice.ensures.after _ (keeps_by c.args.keeping.now.names c.args.keeping.now.zero) _ c.requires.set_value_2 c.count_kept-count.ensures in
    bodies-at r refl refl c.put_contents.ensures

pub put_bodies-requires-clause-contents_value : goal.put_bodies-requires-clause-contents_value
put_bodies-requires-clause-contents_value c =
    let r = prepared c.args.set.now (framed c.args.set.now c.requires.set_value) c.peek.result c.peek.ensures c.copy_from_slice.ensures.after _ (keeps_by c.args.keeping.now.names c.args.keeping.now.zero) _ c.requires.set_value_2 c.count_kept-count.ensures in
    ends-still r refl refl c.put_contents.ensures

pub put_zeros-requires : goal.put_zeros-requires
put_zeros-requires c =
    let r = prepared c.args.set.now (framed c.args.set.now c.requires.set_value) c.peek.result c.peek.ensures c.copy_from_slice.ensures.after _ (keeps_by c.args.keeping.now.names c.args.keeping.now.zero) _ c.requires.set_value_2 c.count_kept-count.ensures in
    end-in r refl refl c.put_contents.ensures c.put_bodies.ensures

pub put_header-requires-clause-room : goal.put_header-requires-clause-room
put_header-requires-clause-room c =
    let r = prepared c.args.set.now (framed c.args.set.now c.requires.set_value) c.peek.result c.peek.ensures c.copy_from_slice.ensures.after _ (keeps_by c.args.keeping.now.names c.args.keeping.now.zero) _ c.requires.set_value_2 c.count_kept-count.ensures in
    header-room r refl refl c.put_contents.ensures c.put_bodies.ensures c.put_zeros.ensures

pub put_header-requires-clause-size_bound : goal.put_header-requires-clause-size_bound
put_header-requires-clause-size_bound c =
    let r = prepared c.args.set.now (framed c.args.set.now c.requires.set_value) c.peek.result c.peek.ensures c.copy_from_slice.ensures.after _ (keeps_by c.args.keeping.now.names c.args.keeping.now.zero) _ c.requires.set_value_2 c.count_kept-count.ensures in
    omega (arith, end-small r refl refl c.put_contents.ensures c.put_bodies.ensures)

pub put_header-requires-clause-count_bound : goal.put_header-requires-clause-count_bound
put_header-requires-clause-count_bound c =
    let r = prepared c.args.set.now (framed c.args.set.now c.requires.set_value) c.peek.result c.peek.ensures c.copy_from_slice.ensures.after _ (keeps_by c.args.keeping.now.names c.args.keeping.now.zero) _ c.requires.set_value_2 c.count_kept-count.ensures in
    omega (arith, less r, r.few)

pub returns : goal.returns
returns c =
    let r = prepared c.args.set.now (framed c.args.set.now c.requires.set_value) c.peek.result c.peek.ensures c.copy_from_slice.ensures.after _ (keeps_by c.args.keeping.now.names c.args.keeping.now.zero) _ c.requires.set_value_2 c.count_kept-count.ensures in
    rebuilt r refl refl c.put_contents.ensures c.put_bodies.ensures c.put_zeros.ensures refl refl c.put_header.ensures (search rules)
    ∙ ap (λ es. zero_filled (laid (map (piece_for c.args.set.now) (only (keeps_by c.args.keeping.now.names c.args.keeping.now.zero) es))) (length c.args.set.now)) (copied-entries c.args.set.now (framed c.args.set.now c.requires.set_value) c.peek.result c.peek.ensures c.copy_from_slice.ensures.after _)
