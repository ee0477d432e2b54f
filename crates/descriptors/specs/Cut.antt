-- A body cut into descriptors. Document 01: "cut by bLength, every bLength at least 2 and inside the body, the last ending exactly at the body's end".
use Rattle.std.specs.Prelude.{ℕ, zero, suc, ◌-◌, List, [], ◌∷◌, Bool, true, false, take, leb}
use Rattle.octets.specs.Sentences.{pick}

-- descriptors in order, and then: the body ended with the last of them, or a bLength was below 2 or ran past the body's end
pub data Cutting : Type 0 where
  whole broken : Cutting
  descriptor : List ℕ → Cutting → Cutting

-- the first k bytes belong to a descriptor that is taken already
unfoldable pub cut_after : ℕ → List ℕ → Cutting
cut_after zero [] = whole
cut_after (suc k) [] = broken
cut_after (suc k) (b ∷ bs) = cut_after k bs
cut_after zero (b ∷ bs) = pick (leb 2 b) (descriptor (take b (b ∷ bs)) (cut_after (b - 1) bs)) broken

abbrev pub cut : List ℕ → Cutting
cut = cut_after 0

unfoldable pub descriptors_of : Cutting → List (List ℕ)
descriptors_of whole = []
descriptors_of broken = []
descriptors_of (descriptor d ds) = d ∷ descriptors_of ds

unfoldable pub well_cut : Cutting → Bool
well_cut whole = true
well_cut broken = false
well_cut (descriptor d ds) = well_cut ds
