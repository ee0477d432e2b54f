-- `board::makers::hk_trim` meets its contract: trim's own, at full speed, and the set's length. No axiom.
use Rattle.octets.proofs.Vocabulary.{◌∙◌, arith}
use Rattle.descriptors.specs.Limits.{full_speed}
use Rattle.trimming.proofs.Total.{totalled}
use Rattle.board.proofs.makers.hk_trim.Goals as goal

pub returns : goal.returns
returns c =
    let t = rw (← c.number-number.ensures) at (rw c.full_speed.ensures at c.trim.ensures) in
    record { trims = t; counts = c.length_written.ensures ∙ totalled full_speed t; octets = λ k. omega (arith, c.slice_known-1.given k) }
