-- `board::makers::hk_import` meets its contract: import's own, and the set's length. No axiom.
use Rattle.octets.proofs.Vocabulary.{◌∙◌, arith}
use Rattle.dumps.specs.Dump.{pieces_for}
use Rattle.set_writer.proofs.Writing.{counted}
use Rattle.board.proofs.makers.hk_import.Goals as goal

pub returns : goal.returns
returns c =
    let w = rw (← c.number_imported-number.ensures) at c.import.ensures.fills in
    record { fills = w; counts = c.length_written.ensures ∙ counted (pieces_for c.args.dump.now) w; octets = λ k. omega (arith, c.type_inv.dump k) }
