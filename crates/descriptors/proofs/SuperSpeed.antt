-- The row of limits of SuperSpeed, field by field in document 02's words, for every number. No axiom.
use Rattle.octets.proofs.Vocabulary.{◌≡◌, refl, ℕ, [], ◌∷◌, true, ◌&&◌, and-true, eqb, leb, arith}
use Rattle.octets.specs.Sentences.{every, any, below, member}
use Rattle.descriptors.specs.Limits.{super_speed, doubled, named}
use Rattle.descriptors.specs.Descriptor.{good_size, good_interval}
use Rattle.descriptors.proofs.FullSpeed.{whole-size, up_to, alike, these}
use Rattle.descriptors.proofs.HighSpeed.{one_size}

-- "bMaxPacketSize0 is 9"
pub control-sizes : (x : ℕ) → doubled super_speed.control x ≡ eqb x 9
control-sizes x = one_size 9 x

-- "bulk size is 1,024, interrupt 1–1,024, isochronous 0–1,024": all 16 bits of the size
pub bulk-sizes : (size : ℕ) → good_size super_speed 2 size ≡ eqb size 1024
bulk-sizes size = rw (and-true, and-true) (one_size 1024 size)

pub interrupt-sizes : (size : ℕ) → good_size super_speed 3 size ≡ (leb 1 size && leb size 1024)
interrupt-sizes size = rw and-true (whole-size 1 1024 size (omega arith))

pub isochronous-sizes : (size : ℕ) → good_size super_speed 1 size ≡ leb size 1024
isochronous-sizes size = up_to 1024 size (omega arith)

-- "both with bInterval 1–16"
pub interrupt-intervals : (interval : ℕ) → good_interval super_speed 3 interval ≡ (leb 1 interval && leb interval 16)
interrupt-intervals interval = rw and-true

pub isochronous-intervals : (interval : ℕ) → good_interval super_speed 1 interval ≡ (leb 1 interval && leb interval 16)
isochronous-intervals interval = refl

pub bulk-intervals : (interval : ℕ) → good_interval super_speed 2 interval ≡ true
bulk-intervals interval = refl

-- entries of types 1, 2, 3 and 15
pub entry-types : (t : ℕ) → named super_speed.entries t ≡ member t (1 ∷ 2 ∷ 3 ∷ 15 ∷ [])
unfolding every any below alike
entry-types = these 16 32782 (1 ∷ 2 ∷ 3 ∷ 15 ∷ []) (omega arith) refl refl
