-- `board::makers::write` meets its contract: the writer's own, and the set's length. No axiom.
use Rattle.octets.proofs.Vocabulary.{◌∙◌, arith}
use Rattle.set_writer.specs.Writer.{pieces, sorted}
use Rattle.set_writer.proofs.Writing.{counted}
use Rattle.board.proofs.makers.write.Goals as goal

pub returns : goal.returns
returns c =
    let w = rw (← c.number_written-number.ensures) at c.write.ensures.fills in
    record { fills = w; counts = c.length_written.ensures ∙ counted (sorted (pieces c.args.pieces.now)) w; octets = λ k. omega (arith, c.type_inv.pieces k) }
