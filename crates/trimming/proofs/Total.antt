-- The trimmed set's length, as the buffer's first two bytes say it. No axiom.
use Rattle.octets.proofs.Vocabulary.{◌≡◌, refl, ℕ, ◌-◌, List, Bool, true, false, length, replicate, eqb}
use Rattle.octets.specs.Octets.{word}
use Rattle.octets.specs.Sentences.{pick}
use Rattle.descriptors.specs.declared.limits.Limits.{Limits}
use Rattle.set_writer.specs.Reported.{length_written}
use Rattle.set_writer.proofs.Writing.{laid_word}
use Rattle.trimming.specs.Trim.{kept_pieces, trimmed, zero_filled, Trims}

pub totalled : (limits : Limits) {set serial after : List ℕ} {n : ℕ} → Trims limits set serial after n → length_written n after ≡ pick (eqb n 0) (length (trimmed set)) 0
totalled limits {set} {n = n} t = rw t.bytes (go (eqb n 0))
  where
    go : (b : Bool) → pick b (word (pick b (zero_filled (trimmed set) (length set)) set) 0) 0 ≡ pick b (length (trimmed set)) 0
    go true = laid_word (kept_pieces set) (replicate (length set - length (trimmed set)) 0)
    go false = refl
