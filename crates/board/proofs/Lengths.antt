-- What opening does by the image's length, and an answer's two bytes. No axiom.
use Rattle.octets.proofs.Vocabulary.{◌≡◌, refl, ℕ, List, [], ◌∷◌, length, eq-eqb, ne_eqb}
use Rattle.sets.specs.Opening.{Board}
use Rattle.sets.specs.View.{opening_of}
use Rattle.records.specs.Device.{fresh}
use Rattle.octets.specs.Octets.{byte}
use Rattle.records.specs.Image.{image_of}
use Rattle.events.specs.Answer.{Answer, Done, OneByte, TwoBytes, SetPart, SerialPart, Refused, bytes_of}
use Rattle.events.specs.Step.{opened}
use Rattle.board.specs.Exports.{Opens, padded}

module _ (b : Board) (image : List ℕ) where
  pub open-short : (length image ≡ 32 → ⊥) → Opens b image 8 image
  unfolding opened
  open-short n = record { number = rw (ne_eqb (length image) 32 n); leaves = rw (ne_eqb (length image) 32 n) }

  pub open-whole : length image ≡ 32 → (n : ℕ) (left : List ℕ) → n ≡ opening_of b → left ≡ image_of fresh → Opens b image n left
  unfolding opened
  open-whole l n left p q = record { number = rw (eq-eqb (length image) 32 l) p; leaves = rw (eq-eqb (length image) 32 l) q }

-- the two bytes of an answer, those not handed back 0
pub two_bytes : (a : Answer) → byte (bytes_of a) 0 ∷ byte (bytes_of a) 1 ∷ [] ≡ padded (bytes_of a)
two_bytes Done = refl
two_bytes (OneByte x) = refl
two_bytes (TwoBytes x y) = refl
two_bytes (SetPart offset size) = refl
two_bytes (SerialPart size) = refl
two_bytes (Refused n) = refl
