-- What acceptance tells of the view that events read: a set whose view is sound. The promises rest on it.
use Rattle.std.specs.Prelude.{ℕ, ◌+◌, ◌≤◌, ◌<◌, ◌≡◌, true, length}
use mathlib.Core.List.{List, Memᴰ}
use Rattle.octets.specs.Sentences.{pairs}
use Rattle.descriptors.specs.declared.Setting.{Setting}
use Rattle.descriptors.specs.declared.Endpoint.{Endpoint}
use Rattle.descriptors.specs.Descriptor.{good_address}
use Rattle.descriptors.specs.Interfaces.{apart}
use Rattle.descriptors.specs.Configuration.{Configuration, has_interface, has_setting}
use Rattle.sets.specs.declared.Entry.{Entry}
use Rattle.sets.specs.View.{View}

pub record SoundConfiguration (c : Configuration) : Type 0 where
  -- interfaces 0–15, alternates 0–15; an interface has its setting 0
  pub interfaces : (s : Setting) → Memᴰ s c.settings → s.interface < 16
  pub alternates : (s : Setting) → Memᴰ s c.settings → s.alternate < 16
  pub zero : (j : ℕ) → has_interface c j ≡ true → has_setting c j 0 ≡ true
  -- every endpoint stands in a setting, has an address of one byte that the rules allow, and no two are in each other's way
  pub placed : (e : Endpoint) → Memᴰ e c.endpoints → has_setting c e.interface e.alternate ≡ true
  pub addresses : (e : Endpoint) → Memᴰ e c.endpoints → good_address e.address ≡ true
  pub octets : (e : Endpoint) → Memᴰ e c.endpoints → e.address < 256
  pub distinct : pairs apart c.endpoints ≡ true

pub record Sound (set : List ℕ) (v : View) : Type 0 where
  pub configurations : (c : Configuration) → Memᴰ c v.configurations → SoundConfiguration c
  pub values : (c : Configuration) → Memᴰ c v.configurations → (1 ≤ c.value) × (c.value < 256)
  pub entries : (e : Entry) → Memᴰ e v.entries → e.offset + e.length ≤ length set
