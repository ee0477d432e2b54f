-- Raw dumps (document 02, L5): a dump and its bodies, the set that it is imported into, and the dump that a set is exported to.
use Rattle.std.specs.Prelude.{ℕ, zero, suc, ◌+◌, ◌-◌, List, [], ◌∷◌, ◌++◌, map, Bool, true, false, ◌&&◌, ◌||◌, not, length, take, drop, set, eqb, leb, ltb}
use Rattle.octets.specs.Octets.{byte, word}
use Rattle.octets.specs.Sentences.{pick}
use Rattle.descriptors.specs.Limits.{full_speed}
use Rattle.descriptors.specs.Cut.{cut, descriptors_of}
use Rattle.descriptors.specs.Descriptor.{is_interface}
use Rattle.sets.specs.Contents.{bodies}
use Rattle.sets.specs.Device.{device_body}
use Rattle.sets.specs.Pieces.{Piece}
use Rattle.sets.specs.Opening.{lent, opening}
use Rattle.set_writer.specs.Writer.{laid, handing}

-- ---- "18 bytes are followed by one or more bodies that each end at their wTotalLength, at least 9, the last at the dump's end"
-- lists end to end
unfoldable pub flat : List (List ℕ) → List ℕ
flat [] = []
flat (b ∷ bs) = b ++ flat bs

-- the bytes behind the next k, which belong to a body that has begun: whether each body ends at its wTotalLength, and the bodies
unfoldable pub splits_after : ℕ → List ℕ → Bool
splits_after zero [] = true
splits_after (suc k) [] = false
splits_after zero (b ∷ bs) = leb 9 (word (b ∷ bs) 2) && splits_after (word (b ∷ bs) 2 - 1) bs
splits_after (suc k) (b ∷ bs) = splits_after k bs

unfoldable pub bodies_after : ℕ → List ℕ → List (List ℕ)
bodies_after k [] = []
bodies_after zero (b ∷ bs) = take (word (b ∷ bs) 2) (b ∷ bs) ∷ bodies_after (word (b ∷ bs) 2 - 1) bs
bodies_after (suc k) (b ∷ bs) = bodies_after k bs

abbrev pub splits : List ℕ → Bool
splits dump = ltb 18 (length dump) && splits_after 0 (drop 18 dump)

abbrev pub device_in : List ℕ → List ℕ
device_in dump = take 18 dump

abbrev pub configurations_in : List ℕ → List (List ℕ)
configurations_in dump = bodies_after 0 (drop 18 dump)

-- ---- "with string references set to zero": the five reference fields
-- bytes with 0 at some places; a place past the end is none
unfoldable pub blanked : List ℕ → List ℕ → List ℕ
blanked [] bytes = bytes
blanked (p ∷ ps) bytes = blanked ps (set bytes p 0)

-- a descriptor of type 4 that has an iInterface; one that runs past the body's end is none
abbrev pub has_name : List ℕ → Bool
has_name d = is_interface d && leb 9 (length d) && eqb (byte d 0) (length d)

-- the places of iInterface, byte 8, in descriptors of which the first begins at a place
unfoldable pub names_from : ℕ → List (List ℕ) → List ℕ
names_from at [] = []
names_from at (d ∷ ds) = pick (has_name d) ((at + 8) ∷ names_from (at + length d) ds) (names_from (at + length d) ds)

-- iManufacturer, iProduct, iSerialNumber
abbrev pub zeroed_device : List ℕ → List ℕ
zeroed_device body = blanked (14 ∷ 15 ∷ 16 ∷ []) body

-- iConfiguration, and the iInterface of every setting
abbrev pub zeroed_configuration : List ℕ → List ℕ
zeroed_configuration body = blanked (6 ∷ names_from 0 (descriptors_of (cut body))) body

-- a dump with its references zeroed
abbrev pub zeroed : List ℕ → List ℕ
zeroed dump = zeroed_device (device_in dump) ++ flat (map zeroed_configuration (configurations_in dump))

-- ---- "Import it into a set without strings"
abbrev pub device_piece : List ℕ → Piece
device_piece body = record { kind = 1; index = 0; language = 0; body = body }

abbrev pub configuration_piece : ℕ → List ℕ → Piece
configuration_piece i body = record { kind = 2; index = i; language = 0; body = body }

unfoldable pub numbered : ℕ → List (List ℕ) → List Piece
numbered i [] = []
numbered i (b ∷ bs) = configuration_piece i b ∷ numbered (i + 1) bs

-- the pieces of the set, and the set
abbrev pub pieces_for : List ℕ → List Piece
pieces_for dump = device_piece (zeroed_device (device_in dump)) ∷ numbered 0 (map zeroed_configuration (configurations_in dump))

abbrev pub imported : List ℕ → List ℕ
imported dump = laid (pieces_for dump)

-- "over 64 pieces or 16,384 bytes"
abbrev pub too_large : List ℕ → Bool
too_large dump = ltb 64 (length (pieces_for dump)) || ltb 16384 (length (imported dump))

-- "the resulting set opens with an empty serial block"
abbrev pub importing : List ℕ → ℕ → ℕ
importing dump room = pick (not (splits dump)) 23 (pick (too_large dump) 21 (handing full_speed (imported dump) [] room))

-- ---- "export a set's device and configuration bodies in that form"
-- "the device descriptor followed by its configuration bodies"
abbrev pub exported : List ℕ → List ℕ
exported set = device_body set ++ flat (bodies 2 set)

-- "export gives the opening number, then 22"
abbrev pub exporting : List ℕ → List ℕ → ℕ → ℕ
exporting set serial room =
    pick (eqb (opening full_speed (lent set serial)) 0) (pick (ltb room (length (exported set))) 22 0) (opening full_speed (lent set serial))
