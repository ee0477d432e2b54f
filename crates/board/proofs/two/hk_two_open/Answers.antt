-- `board::two::hk_two_open` meets its contract: an image of another length, and the rest. No axiom.
use Rattle.octets.proofs.Vocabulary.{◌∙◌, arith, eq-eqb}
use Rattle.records.specs.Change.{renewed}
use Rattle.board.proofs.Lengths.{open-short, open-whole}
use Rattle.board.proofs.two.hk_two_open.Goals as goal

pub returns-then-image-ne-IMAGE_LENGTH : goal.returns-then-image-ne-IMAGE_LENGTH
returns-then-image-ne-IMAGE_LENGTH c = record { opens = open-short _ _ c.if-image-ne-IMAGE_LENGTH.true; octets = (λ k. omega (arith, c.type_inv.full k), λ k. omega (arith, c.type_inv.high k)) }

pub returns : goal.returns
unfolding renewed
returns c =
    let long = c.if-image-ne-IMAGE_LENGTH.false in
    record {
      opens = open-whole _ _ long _ _ (c.number.ensures ∙ c.opening_two.ensures) (c.renew.ensures ∙ rw (eq-eqb _ _ long));
      octets = (λ k. omega (arith, c.type_inv.full k), λ k. omega (arith, c.type_inv.high k));
    }
