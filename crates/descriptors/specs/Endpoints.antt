-- The endpoint descriptors of a configuration's current settings, in the body's order, each with where it begins in the body.
use Rattle.std.specs.Prelude.{ℕ, ◌+◌, List, [], ◌∷◌, Bool, false, ◌&&◌, length, get_or, eqb}
use Rattle.octets.specs.Octets.{byte}
use Rattle.octets.specs.Sentences.{pick}
use Rattle.descriptors.specs.Cut.{cut, descriptors_of}
use Rattle.descriptors.specs.Descriptor.{is_interface, is_endpoint, bInterfaceNumber, bAlternateSetting}
use Rattle.descriptors.specs.Configuration.{behind}

pub record DescriptorAt : Type 0 where
  pub offset : ℕ
  pub bytes : List ℕ

-- an interface descriptor begins a current setting, given the alternate setting of each interface
abbrev pub begins_current : List ℕ → List ℕ → Bool
begins_current alternates d = eqb (bAlternateSetting d) (get_or alternates (bInterfaceNumber d) 0)

-- among descriptors that begin at `at`; `current`: what stands before them is in a current setting
unfoldable pub current_from : List ℕ → Bool → ℕ → List (List ℕ) → List DescriptorAt
current_from alternates current at [] = []
current_from alternates current at (d ∷ ds) =
    let here = pick (is_interface d) (begins_current alternates d) current in
    let rest = current_from alternates here (at + length d) ds in
    pick (is_endpoint d && here) (record { offset = at; bytes = d } ∷ rest) rest

-- of a body, behind its first descriptor, whose bLength is byte 0
abbrev pub current_descriptors : List ℕ → List ℕ → List DescriptorAt
current_descriptors alternates body = current_from alternates false (byte body 0) (behind (descriptors_of (cut body)))
