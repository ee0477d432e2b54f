-- A configuration body: its first descriptor, its rules, and what requests ask of it.
use Rattle.std.specs.Prelude.{ℕ, ◌+◌, ◌*◌, ◌/◌, ◌%◌, List, [], ◌∷◌, map, Bool, false, ◌&&◌, ◌||◌, length, get_or, eqb, leb}
use Rattle.std.proofs.Math.Option.{Option}
use Rattle.octets.specs.Octets.{byte, word}
use Rattle.octets.specs.Bit.{clear_bit}
use Rattle.octets.specs.Sentences.{◌⇒◌, every, any, only, first}
use Rattle.descriptors.specs.declared.limits.Limits.{Limits}
use Rattle.descriptors.specs.declared.Setting.{Setting}
use Rattle.descriptors.specs.declared.Endpoint.{Endpoint}
use Rattle.descriptors.specs.Cut.{cut, descriptors_of, well_cut}
use Rattle.descriptors.specs.Descriptor.{bDescriptorType, good_descriptor, iInterface, transfer_type}
use Rattle.descriptors.specs.Interfaces.{Group, grouped, setting_of, endpoints_of, good_interfaces}
use Rattle.descriptors.specs.Companion.{good_companions}

-- ---- the first descriptor; a body begins with it, so its fields are the body's
abbrev pub wTotalLength : List ℕ → ℕ
wTotalLength d = word d 2

abbrev pub bNumInterfaces : List ℕ → ℕ
bNumInterfaces d = byte d 4

abbrev pub bConfigurationValue : List ℕ → ℕ
bConfigurationValue d = byte d 5

abbrev pub iConfiguration : List ℕ → ℕ
iConfiguration d = byte d 6

abbrev pub configuration_attributes : List ℕ → ℕ
configuration_attributes d = byte d 7

abbrev pub bMaxPower : List ℕ → ℕ
bMaxPower d = byte d 8

-- "The first descriptor is type 2"
abbrev pub is_configuration : List ℕ → Bool
is_configuration d = eqb (bDescriptorType d) 2

-- "at least 9 long"
abbrev pub head_long_enough : List ℕ → Bool
head_long_enough d = leb 9 (length d)

-- "wTotalLength equals the body's length"
abbrev pub total_is_size : ℕ → List ℕ → Bool
total_is_size size d = eqb (wTotalLength d) size

-- "bmAttributes has bit 7 one"
abbrev pub bit_seven_one : List ℕ → Bool
bit_seven_one d = eqb (configuration_attributes d / 128) 1

-- "and bits 4–0 zero"
abbrev pub low_bits_zero : List ℕ → Bool
low_bits_zero d = eqb (configuration_attributes d % 32) 0

-- "bMaxPower at most 250"
abbrev pub power_within : List ℕ → Bool
power_within d = leb (bMaxPower d) 250

-- "bNumInterfaces 1–16": at least 1, and at most 16
abbrev pub counts_interface : List ℕ → Bool
counts_interface d = leb 1 (bNumInterfaces d)

abbrev pub at_most16_interfaces : List ℕ → Bool
at_most16_interfaces d = leb (bNumInterfaces d) 16

-- the first descriptor of a body of size bytes
abbrev pub good_head : ℕ → List ℕ → Bool
good_head size d =
    is_configuration d && head_long_enough d && total_is_size size d && bit_seven_one d && low_bits_zero d && power_within d && counts_interface d && at_most16_interfaces d

-- the descriptors of a body of size bytes
unfoldable pub good_descriptors : Limits → ℕ → List (List ℕ) → Bool
good_descriptors limits size [] = false
good_descriptors limits size (d ∷ ds) =
    good_head size d &&
    every (good_descriptor limits) ds &&
    good_interfaces (bNumInterfaces d) (grouped ds) &&
    (limits.companions ⇒ good_companions (d ∷ ds))

unfoldable pub good_configuration : Limits → List ℕ → Bool
good_configuration limits body = well_cut (cut body) && good_descriptors limits (length body) (descriptors_of (cut body))

-- ---- what a body holds
abbrev pub behind : List (List ℕ) → List (List ℕ)
behind [] = []
behind (d ∷ ds) = ds

unfoldable pub groups_of : List ℕ → List Group
groups_of body = (grouped (behind (descriptors_of (cut body)))).groups

-- a configuration, as requests see it
pub record Configuration : Type 0 where
  pub value : ℕ
  pub attributes : ℕ
  pub settings : List Setting
  pub endpoints : List Endpoint

unfoldable pub configuration_of : List ℕ → Configuration
configuration_of body =
    let groups = groups_of body in
    record {
      value = bConfigurationValue body;
      attributes = configuration_attributes body;
      settings = map setting_of groups;
      endpoints = endpoints_of groups;
    }

-- its string references: iConfiguration, and the iInterface of every setting
unfoldable pub configuration_references : List ℕ → List ℕ
configuration_references body = iConfiguration body ∷ map (λ g. iInterface g.head) (groups_of body)

-- ---- what is looked up in it
-- an interface exists by its number, a setting by both of its numbers
abbrev pub has_interface : Configuration → ℕ → Bool
has_interface c j = any (λ s. eqb s.interface j) c.settings

abbrev pub has_setting : Configuration → ℕ → ℕ → Bool
has_setting c j a = any (λ s. eqb s.interface j && eqb s.alternate a) c.settings

-- an endpoint of a current setting, given the alternate setting of each interface
abbrev pub is_current : List ℕ → Endpoint → Bool
is_current alternates e = eqb e.alternate (get_or alternates e.interface 0)

abbrev pub current_of : List ℕ → Configuration → List Endpoint
current_of alternates c = only (is_current alternates) c.endpoints

-- the first endpoint with this whole address
abbrev pub addressed : ℕ → List Endpoint → Option Endpoint
addressed address = first (λ e. eqb e.address address)

-- bulk or interrupt
abbrev pub can_halt : Endpoint → Bool
can_halt e = leb 2 (transfer_type e.attributes)

-- an address's bit in the record: "bit e for OUT number e, bit 16 + e for IN"
abbrev pub bit_of : ℕ → ℕ
bit_of address = address % 16 + 16 * (address / 128)

-- a word without the bits of these endpoints
unfoldable pub cleared : List Endpoint → ℕ → ℕ
cleared [] word = word
cleared (e ∷ es) word = cleared es (clear_bit word (bit_of e.address))

-- an endpoint of the old or the new setting of interface j
abbrev pub of_either : ℕ → ℕ → ℕ → Endpoint → Bool
of_either j old new e = eqb e.interface j && (eqb e.alternate old || eqb e.alternate new)
