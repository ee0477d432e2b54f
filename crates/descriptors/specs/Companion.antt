-- The companions of endpoints. Document 02, L13: "a companion (type 48, at least 6 bytes) stands directly after every endpoint and nowhere else".
use Rattle.std.specs.Prelude.{ℕ, List, [], ◌∷◌, Bool, false, ◌&&◌, not, length, eqb, leb}
use Rattle.octets.specs.Sentences.{pick, ◌⇒◌, every, neighbours}
use Rattle.descriptors.specs.Descriptor.{bDescriptorType, is_endpoint}

abbrev pub is_companion : List ℕ → Bool
is_companion d = eqb (bDescriptorType d) 48

-- "at least 6 bytes"
abbrev pub long_companion : List ℕ → Bool
long_companion d = is_companion d ⇒ leb 6 (length d)

-- of two descriptors side by side the second is a companion if the first is an endpoint, and else is none
abbrev pub accompanies : List ℕ → List ℕ → Bool
accompanies d e = pick (is_endpoint d) (is_companion e) (not (is_companion e))

unfoldable pub ends_with_endpoint : List (List ℕ) → Bool
ends_with_endpoint [] = false
ends_with_endpoint (d ∷ []) = is_endpoint d
ends_with_endpoint (d ∷ e ∷ ds) = ends_with_endpoint (e ∷ ds)

-- all descriptors of a body, the first among them
abbrev pub good_companions : List (List ℕ) → Bool
good_companions ds = every long_companion ds && neighbours accompanies ds && not (ends_with_endpoint ds)
