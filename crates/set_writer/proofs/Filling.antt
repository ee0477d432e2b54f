-- The buffer after a call that fills one. No axiom.
use Rattle.octets.proofs.Vocabulary.{◌≡◌, ◌∙◌, ℕ, List, length, take, drop, take-append_seam, drop-append_seam, eq-eqb, ne_eqb}
use Rattle.set_writer.specs.Writer.{Filled}

module _ {text buffer after : List ℕ} {asked n : ℕ} (w : Filled text buffer after asked n) where
  pub untouched : (n ≡ 0 → ⊥) → after ≡ buffer
  untouched h = w.bytes ∙ rw (ne_eqb n 0 h)

  pub there : n ≡ 0 → take (length text) after ≡ text
  there h = rw (w.bytes, eq-eqb n 0 h) (take-append_seam text (drop (length text) buffer))

  pub behind : n ≡ 0 → drop (length text) after ≡ drop (length text) buffer
  behind h = rw (w.bytes, eq-eqb n 0 h) (drop-append_seam text (drop (length text) buffer))
