-- `set_writer::write` meets its contract, answer by answer. No axiom.
use Rattle.octets.proofs.Vocabulary.{sym, ◌∙◌, arith}
use Rattle.set_writer.proofs.Sizes.{set-size}
use Rattle.set_writer.proofs.Writing.{whole, set-length, many, large, fitting}
use Rattle.set_writer.proofs.write.Goals as goal

pub returns-then-n-gt-MOST_ENTRIES : goal.returns-then-n-gt-MOST_ENTRIES
returns-then-n-gt-MOST_ENTRIES c =
    let a = c.args in
    let w = whole a.stream.now c.in_ok-n.n (sym c.count_pieces.ensures ∙ grind arith) in
    many a.stream.now a.limits a.serial.now a.out.now w.0 (omega (arith, w.1))

pub returns-then-more-stream : goal.returns-then-more-stream
returns-then-more-stream c =
    let a = c.args in
    let w = whole a.stream.now c.in_ok-n.n (sym c.count_pieces.ensures ∙ grind arith) in
    large a.stream.now a.limits a.serial.now a.out.now w.0 (omega (arith, w.1, set-length a.stream.now w.0))

pub assemble-requires-clause-size_value : goal.assemble-requires-clause-size_value
assemble-requires-clause-size_value c =
    let a = c.args in
    let w = whole a.stream.now c.in_ok-n.n (sym c.count_pieces.ensures ∙ grind arith) in
    omega (arith, w.1, set-size a.stream.now w.0)

pub returns : goal.returns
returns c =
    let a = c.args in
    let w = whole a.stream.now c.in_ok-n.n (sym c.count_pieces.ensures ∙ grind arith) in
    fitting a.stream.now a.limits a.serial.now a.out.now w.0 (omega (arith, w.1)) (omega (arith, w.1, set-length a.stream.now w.0)) c.assemble.ensures
