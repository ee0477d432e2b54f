-- Working definitions for the contracts of what is looked up in a body; no promise cites them.
use Rattle.std.specs.Prelude.{Bool, ◌&&◌, List, [], ◌∷◌, ℕ}
pub use Rattle.octets.specs.Found.{found}
use Rattle.octets.specs.Bit.{set_bit}
use Rattle.octets.specs.Sentences.{pick}
use Rattle.descriptors.specs.declared.Setting.{Setting}
use Rattle.descriptors.specs.declared.Endpoint.{Endpoint}
use Rattle.descriptors.specs.declared.walk.Stand.{Stand}
use Rattle.descriptors.specs.Descriptor.{is_interface, is_endpoint, bEndpointAddress}
use Rattle.descriptors.specs.Interfaces.{endpoint_of}
use Rattle.descriptors.specs.Configuration.{bit_of}
use Rattle.descriptors.specs.Walk.{setting_at}

-- whether a descriptor, where it stands, begins a setting for which a test holds
abbrev pub begins_one : (Setting → Bool) → Stand → List ℕ → Bool
begins_one t stand d = is_interface d && t (setting_at stand)

-- whether it lists an endpoint of a setting, and that endpoint; whether it lists one for which a test holds
abbrev pub lists : Stand → List ℕ → Bool
lists stand d = is_endpoint d && stand.inside

abbrev pub listed : Stand → List ℕ → Endpoint
listed stand d = endpoint_of (setting_at stand) d

abbrev pub lists_one : (Endpoint → Bool) → Stand → List ℕ → Bool
lists_one t stand d = lists stand d && t (listed stand d)

-- a word with the bit of the endpoint that a descriptor lists, if it is wanted
abbrev pub with_bit : ℕ → Bool → List ℕ → ℕ
with_bit bits wanted d = pick wanted (set_bit bits (bit_of (bEndpointAddress d))) bits

-- a word with the bits of these endpoints too
unfoldable pub bits_from : ℕ → List Endpoint → ℕ
bits_from word [] = word
bits_from word (e ∷ es) = bits_from (set_bit word (bit_of e.address)) es

abbrev pub bits_of : List Endpoint → ℕ
bits_of = bits_from 0
