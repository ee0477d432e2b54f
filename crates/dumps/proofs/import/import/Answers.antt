-- `dumps::import::import` meets its contract, answer by answer. No axiom.
use Rattle.octets.proofs.Vocabulary.{refl, sym, ◌∙◌, length-take-le, arith}
use Rattle.std.proofs.Common.{rules}
use Rattle.octets.proofs.Sentences.{neither}
use Rattle.std.proofs.lemmas.Bool.{ltb-false}
use Rattle.dumps.proofs.Splitting.{is_whole}
use Rattle.dumps.proofs.Importing.{too_much, written_out, room_aside, ends-inside, aside, handed_on}
use Rattle.dumps.proofs.import.import.Goals as goal

pub returns-then-n-dump : goal.returns-then-n-dump
returns-then-n-dump c =
    let w = is_whole c.args.dump.now c.in_ok-n.n (sym c.split.ensures ∙ grind arith) in
    too_much c.args.dump.now c.args.out.now w.0 _ w.1 c.if-n-dump.true

pub put_stream-requires : goal.put_stream-requires
put_stream-requires c =
    let w = is_whole c.args.dump.now c.in_ok-n.n (sym c.split.ensures ∙ grind arith) in
    let few = ltb-false 63 c.in_ok-n.n (neither _ _ c.if-n-dump.false).0 in
    record { dump_value = w.0; dump_len_bound = omega (arith, w.1, few); room = room_aside c.args.dump.now c.in_ok-n.n w.0 w.1 c.if-n-dump.false }

pub slice_bounds-stream-end : goal.slice_bounds-stream-end
slice_bounds-stream-end c =
    let w = is_whole c.args.dump.now c.in_ok-n.n (sym c.split.ensures ∙ grind arith) in
    ends-inside refl (room_aside c.args.dump.now c.in_ok-n.n w.0 w.1 c.if-n-dump.false) c.put_stream.ensures (search rules)

pub slice_bounds-write-end : goal.slice_bounds-write-end
slice_bounds-write-end c =
    let w = is_whole c.args.dump.now c.in_ok-n.n (sym c.split.ensures ∙ grind arith) in
    sym (length-take-le _ _ (ends-inside refl (room_aside c.args.dump.now c.in_ok-n.n w.0 w.1 c.if-n-dump.false) c.put_stream.ensures (search rules)))

pub returns-in_err-write : goal.returns-in_err-write
returns-in_err-write c =
    let w = is_whole c.args.dump.now c.in_ok-n.n (sym c.split.ensures ∙ grind arith) in
    let stream = aside refl (room_aside c.args.dump.now c.in_ok-n.n w.0 w.1 c.if-n-dump.false) c.put_stream.ensures (search rules) in
    handed_on c.from_residual-in_err-write.result c.in_err-write.field-0.0 c.from_residual-in_err-write.ensures.1 (written_out c.args.dump.now c.args.out.now w.0 _ stream (rw c.full_speed.ensures at c.in_err-write.ensures))

pub returns : goal.returns
returns c =
    let w = is_whole c.args.dump.now c.in_ok-n.n (sym c.split.ensures ∙ grind arith) in
    written_out c.args.dump.now c.args.out.now w.0 _ (aside refl (room_aside c.args.dump.now c.in_ok-n.n w.0 w.1 c.if-n-dump.false) c.put_stream.ensures (search rules)) (rw c.full_speed.ensures at c.in_ok-write.ensures)
