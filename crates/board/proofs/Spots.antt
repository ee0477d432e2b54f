-- Where a part lies that is handed out, from where its slice lies. No axiom.
use Rattle.octets.proofs.Vocabulary.{◌≡◌, refl, ℕ, ◌+◌, Bool, true, false}
use Rattle.octets.specs.Sentences.{pick}
use Rattle.events.specs.Answer.{Block, of_first, of_set, of_serial, Part, in_block}
use Rattle.board.specs.Exports.{spot_of}
use Rattle.board.specs.Handing.{spot_in}

module _ (first used serial : ℕ × ℕ) where
  slices : (k : Block) (offset : ℕ) → record { block = in_block first.0 used.0 serial.0 k; offset = in_block first.1 used.1 serial.1 k + offset }
      ≡ spot_in (spot_of first) (spot_of used) (spot_of serial) (record { block = k; offset = offset; length = 0 })
  slices of_first offset = refl
  slices of_set offset = refl
  slices of_serial offset = refl

  pub lies_in : (r : ℕ × ℕ) (p : Part) → r.0 ≡ in_block first.0 used.0 serial.0 p.block → r.1 ≡ in_block first.1 used.1 serial.1 p.block + p.offset
      → spot_of r ≡ spot_in (spot_of first) (spot_of used) (spot_of serial) p
  lies_in r p e f = rw (e, f) (slices p.block p.offset)

-- the place of one of two slices
pub one_of : (t : Bool) (r full high : ℕ × ℕ) → r.0 ≡ pick t full.0 high.0 → r.1 ≡ pick t full.1 high.1 → spot_of r ≡ pick t (spot_of full) (spot_of high)
one_of true r full high p q = rw (p, q)
one_of false r full high p q = rw (p, q)
