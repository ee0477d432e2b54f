-- Working definitions for the contracts of what writes lines into a buffer; no promise cites them.
use Rattle.std.specs.Prelude.{ℕ, ◌+◌, ◌/◌, ◌%◌, List, [], ◌∷◌, leb}
use Rattle.octets.specs.Octets.{byte}
use Rattle.octets.specs.Sentences.{pick}
use Rattle.descriptors.specs.declared.Setting.{Setting}
use Rattle.descriptors.specs.declared.walk.Stand.{Stand}
use Rattle.descriptors.specs.Descriptor.{is_interface, is_endpoint, bNumEndpoints}
use Rattle.descriptors.specs.Walk.{setting_at, before, collected}
use Rattle.listing.specs.Listing.{line, endpoint_line}

-- a digit before the last: a number has it from this power of ten on
abbrev pub lead : ℕ → ℕ → List ℕ
lead power x = pick (leb power x) ((48 + x / power % 10) ∷ []) []

-- the line of one descriptor behind the first, which stands at `stand`, where it has one: an interface's names its setting
abbrev pub interface_line : Setting → List ℕ → List ℕ
interface_line t d = line (73 ∷ []) (t.interface ∷ t.alternate ∷ bNumEndpoints d ∷ [])

abbrev pub line_at : Stand → List ℕ → List ℕ
line_at stand d = pick (is_interface d) (interface_line (setting_at stand) d) (pick (is_endpoint d) (endpoint_line d) [])

-- those of the descriptors behind the first: what a walk over them collects
abbrev pub telling : ℕ → Stand → List ℕ → List ℕ
telling at stand d = line_at stand d

abbrev pub descriptor_lines : List ℕ → List ℕ
descriptor_lines body = collected telling body before (byte body 0)
