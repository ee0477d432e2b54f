-- The lister's text (document 01, below "Bench set S").
use Rattle.std.specs.Prelude.{ℕ, zero, suc, ◌+◌, ◌/◌, ◌%◌, length, eqb, ltb}
use mathlib.Core.List.{List, [], ◌∷◌, ◌++◌, flat_map}
use Rattle.octets.specs.Sentences.{pick}
use Rattle.descriptors.specs.declared.limits.Limits.{Limits}
use Rattle.descriptors.specs.Descriptor.{bInterfaceNumber, bAlternateSetting, bNumEndpoints, bEndpointAddress, bmAttributes, transfer_type, wMaxPacketSize}
use Rattle.descriptors.specs.Interfaces.{Group}
use Rattle.descriptors.specs.Configuration.{bConfigurationValue, bNumInterfaces, groups_of}
use Rattle.sets.specs.Contents.{bodies}
use Rattle.sets.specs.Opening.{Board, opening}

-- ---- "in decimal": the last n digits and those before them; a number of two bytes has at most five
unfoldable pub digits : ℕ → ℕ → List ℕ
digits zero x = []
digits (suc n) x = pick (ltb x 10) ((48 + x) ∷ []) (digits n (x / 10) ++ ((48 + x % 10) ∷ []))

abbrev pub decimal : ℕ → List ℕ
decimal = digits 5

-- a line: its word, and each field after a space; "each ended by one line feed"
unfoldable pub fields : List ℕ → List ℕ
fields [] = 10 ∷ []
fields (x ∷ xs) = 32 ∷ decimal x ++ fields xs

abbrev pub line : List ℕ → List ℕ → List ℕ
line word xs = word ++ fields xs

-- ACCEPTED, REFUSED, C, I and E
abbrev pub accepted_word : List ℕ
accepted_word = 65 ∷ 67 ∷ 67 ∷ 69 ∷ 80 ∷ 84 ∷ 69 ∷ 68 ∷ []

abbrev pub refused_word : List ℕ
refused_word = 82 ∷ 69 ∷ 70 ∷ 85 ∷ 83 ∷ 69 ∷ 68 ∷ []

-- "address, transfer type, packet size"
abbrev pub endpoint_line : List ℕ → List ℕ
endpoint_line d = line (69 ∷ []) (bEndpointAddress d ∷ transfer_type (bmAttributes d) ∷ wMaxPacketSize d ∷ [])

-- "number, alternate, endpoints"
abbrev pub interface_lines : Group → List ℕ
interface_lines g = line (73 ∷ []) (bInterfaceNumber g.head ∷ bAlternateSetting g.head ∷ bNumEndpoints g.head ∷ []) ++ flat_map endpoint_line g.endpoints

-- "value, interfaces"
abbrev pub configuration_lines : List ℕ → List ℕ
configuration_lines body = line (67 ∷ []) (bConfigurationValue body ∷ bNumInterfaces body ∷ []) ++ flat_map interface_lines (groups_of body)

-- "In the set's order": "number of configurations", then each
abbrev pub accepted_lines : List ℕ → List ℕ
accepted_lines set = line accepted_word (length (bodies 2 set) ∷ []) ++ flat_map configuration_lines (bodies 2 set)

-- of a set of any kind; "A refused set gives the one line REFUSED, a space and the number."
unfoldable pub listing : Limits → Board → List ℕ
listing limits b = let n = opening limits b in pick (eqb n 0) (accepted_lines b.set) (line refused_word (n ∷ []))
