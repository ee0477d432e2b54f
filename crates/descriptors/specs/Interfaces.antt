-- The interfaces, settings and endpoints of a configuration, and the rules for how they stand together.
use Rattle.std.specs.Prelude.{ℕ, ◌+◌, List, [], ◌∷◌, ◌++◌, map, Bool, false, ◌&&◌, ◌||◌, not, length, eqb, leb}
use Rattle.octets.specs.Sentences.{pick, ◌⇒◌, every, pairs, neighbours, is_empty}
use Rattle.descriptors.specs.declared.Setting.{Setting}
use Rattle.descriptors.specs.declared.Endpoint.{Endpoint}
use Rattle.descriptors.specs.Descriptor.{is_interface, is_endpoint, bInterfaceNumber, bAlternateSetting, bNumEndpoints, bEndpointAddress, bmAttributes}

-- an interface descriptor, and the endpoints after it, before the next
pub record Group : Type 0 where
  pub head : List ℕ
  pub endpoints : List (List ℕ)

-- descriptors by interface: the endpoints that stand before the first, and then a group for each interface descriptor
pub record Groups : Type 0 where
  pub loose : List (List ℕ)
  pub groups : List Group

unfoldable pub grouped : List (List ℕ) → Groups
grouped [] = record { loose = []; groups = [] }
grouped (d ∷ ds) =
    let rest = grouped ds in
    pick (is_interface d) (record { loose = []; groups = record { head = d; endpoints = rest.loose } ∷ rest.groups })
    (pick (is_endpoint d) (record { loose = d ∷ rest.loose; groups = rest.groups }) rest)

-- the setting that an interface descriptor begins, and that of its group
abbrev pub begun_by : List ℕ → Setting
begun_by d = record { interface = bInterfaceNumber d; alternate = bAlternateSetting d }

abbrev pub setting_of : Group → Setting
setting_of g = begun_by g.head

abbrev pub endpoint_of : Setting → List ℕ → Endpoint
endpoint_of s d = record { interface = s.interface; alternate = s.alternate; address = bEndpointAddress d; attributes = bmAttributes d }

-- every endpoint of every setting, in the body's order
unfoldable pub endpoints_of : List Group → List Endpoint
endpoints_of [] = []
endpoints_of (g ∷ gs) = map (endpoint_of (setting_of g)) g.endpoints ++ endpoints_of gs

-- "number 0"
abbrev pub number_zero : Setting → Bool
number_zero s = eqb s.interface 0

-- "alternate 0"
abbrev pub alternate_zero : Setting → Bool
alternate_zero s = eqb s.alternate 0

-- "the same number", and "the number one higher"
abbrev pub same_number : Setting → Setting → Bool
same_number s t = eqb t.interface s.interface

abbrev pub next_number : Setting → Setting → Bool
next_number s t = eqb t.interface (s.interface + 1)

-- "each later one has either the same number and the alternate one higher, or the number one higher and alternate 0"
abbrev pub follows : Setting → Setting → Bool
follows s t = (same_number s t && eqb t.alternate (s.alternate + 1)) || (next_number s t && alternate_zero t)

-- "The first is number 0, alternate 0": at least one is there
abbrev pub starts_at_zero : List Setting → Bool
starts_at_zero [] = false
starts_at_zero (s ∷ ss) = number_zero s && alternate_zero s

-- "the last number is bNumInterfaces − 1"
abbrev pub is_last_number : ℕ → Setting → Bool
is_last_number n s = eqb (s.interface + 1) n

unfoldable pub ends_at : ℕ → List Setting → Bool
ends_at n [] = false
ends_at n (s ∷ []) = is_last_number n s
ends_at n (s ∷ t ∷ ts) = ends_at n (t ∷ ts)

-- "alternates end at 15"
abbrev pub alternate_within : Setting → Bool
alternate_within s = leb s.alternate 15

abbrev pub good_settings : ℕ → List Setting → Bool
good_settings n ss = starts_at_zero ss && neighbours follows ss && ends_at n ss && every alternate_within ss

-- "The endpoints after an interface, before the next, number its bNumEndpoints"
abbrev pub counted : Group → Bool
counted g = eqb (length g.endpoints) (bNumEndpoints g.head)

-- "An address occurs once in a setting and in no second interface of the same configuration":
-- two endpoints with one address stand in different settings of one interface
abbrev pub apart : Endpoint → Endpoint → Bool
apart e f = eqb e.address f.address ⇒ (eqb e.interface f.interface && not (eqb e.alternate f.alternate))

-- the descriptors after the first, for n interfaces; "none stands before the first" of them
abbrev pub good_interfaces : ℕ → Groups → Bool
good_interfaces n gs =
    is_empty gs.loose &&
    good_settings n (map setting_of gs.groups) &&
    every counted gs.groups &&
    pairs apart (endpoints_of gs.groups)
