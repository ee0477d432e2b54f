-- Working definitions for the contract of the survey of a body, a descriptor at a time; no promise cites them.
use Rattle.std.specs.Prelude.{Bool, false, ◌&&◌, ◌||◌, List, ℕ, ◌<◌, ◌≡◌, get_or, eqb, leb, ltb, Option, Some, None}
use Rattle.octets.specs.Bit.{bit, set_bit}
use Rattle.octets.specs.Sentences.{pick, only}
use Rattle.descriptors.specs.declared.Setting.{Setting}
use Rattle.descriptors.specs.declared.Endpoint.{Endpoint}
use Rattle.descriptors.specs.declared.walk.Stand.{Stand}
use Rattle.descriptors.specs.declared.survey.Asked.{Asked}
use Rattle.descriptors.specs.declared.survey.Survey.{Survey}
use Rattle.descriptors.specs.Descriptor.{is_interface, bEndpointAddress, bmAttributes, transfer_type}
use Rattle.descriptors.specs.Configuration.{Configuration, has_interface, has_setting, is_current, current_of, addressed, can_halt, of_either}
use Rattle.descriptors.specs.Walk.{setting_at, Walk, gathering}
use Rattle.descriptors.specs.Lookup.{found, begins_one, listed, lists_one, with_bit, bits_of}

-- ---- what is asked of settings and of endpoints
abbrev pub is_setting : ℕ → ℕ → Setting → Bool
is_setting number alternate s = eqb s.interface number && eqb s.alternate alternate

-- endpoints of a current setting: with an address, and those that can halt
abbrev pub current_at : List ℕ → ℕ → Endpoint → Bool
current_at alternates address e = is_current alternates e && eqb e.address address

abbrev pub current_halting : List ℕ → Endpoint → Bool
current_halting alternates e = is_current alternates e && can_halt e

-- endpoints of the current and of the asked setting of the asked interface
abbrev pub changing : List ℕ → Asked → Endpoint → Bool
changing alternates asked = of_either asked.interface (get_or alternates asked.interface 0) asked.alternate

-- ---- one descriptor
-- a word with the bit of an interface, for which it has one
abbrev pub noting : ℕ → ℕ → ℕ
noting word number = pick (ltb number 32) (set_bit word number) word

-- what was found before, or else what is found now
abbrev pub earlier : Option Endpoint → Option Endpoint → Option Endpoint
earlier (Some e) now = Some e
earlier None now = now

abbrev pub found_here : Bool → Stand → List ℕ → Option Endpoint
found_here wanted stand d = pick wanted (Some (listed stand d)) None

-- before the first descriptor, and after one that stands at `stand`
abbrev pub nothing_seen : Survey
nothing_seen = record { existing = 0; current = 0; halting = 0; endpoint = None; there = false; bits = 0 }

abbrev pub onward : List ℕ → Asked → Survey → Stand → List ℕ → Survey
onward alternates asked s stand d = record {
  existing = pick (is_interface d) (noting s.existing stand.interface) s.existing;
  current = pick (is_interface d && eqb stand.alternate (get_or alternates stand.interface 0)) (noting s.current stand.interface) s.current;
  halting = with_bit s.halting (lists_one (current_halting alternates) stand d) d;
  endpoint = earlier s.endpoint (found_here (lists_one (current_at alternates asked.address) stand d) stand d);
  there = s.there || begins_one (is_setting asked.interface asked.alternate) stand d;
  bits = with_bit s.bits (lists_one (changing alternates asked) stand d) d;
}

-- the same after an endpoint descriptor of a setting: of a current one, and of another
abbrev pub at_current : Asked → Survey → Stand → List ℕ → Survey
at_current asked s stand d = record {
  existing = s.existing;
  current = s.current;
  halting = with_bit s.halting (leb 2 (transfer_type (bmAttributes d))) d;
  endpoint = earlier s.endpoint (found_here (eqb (bEndpointAddress d) asked.address) stand d);
  there = s.there;
  bits = with_bit s.bits (eqb stand.interface asked.interface) d;
}

abbrev pub at_other : Asked → Survey → Stand → List ℕ → Survey
at_other asked s stand d = record {
  existing = s.existing;
  current = s.current;
  halting = s.halting;
  endpoint = s.endpoint;
  there = s.there;
  bits = with_bit s.bits (is_setting asked.interface asked.alternate (setting_at stand)) d;
}

-- the walk over the descriptors after the first
abbrev pub surveying : List ℕ → Asked → Walk Survey Survey
surveying alternates asked = gathering (onward alternates asked)

-- ---- the whole
-- two words say which interfaces a configuration has, and of which the current setting exists
pub record TellsInterfaces (c : Configuration) (alternates : List ℕ) (existing current : ℕ) : Type 0 where
  pub exists : (k : ℕ) → k < 32 → has_interface c k ≡ bit existing k
  pub stands : (k : ℕ) → k < 32 → has_setting c k (get_or alternates k 0) ≡ bit current k

-- a survey says what a configuration holds, and what is asked of it
pub record Surveys (c : Configuration) (alternates : List ℕ) (question : Asked) (s : Survey) : Type 0 where
  pub interfaces : TellsInterfaces c alternates s.existing s.current
  pub halts : s.halting ≡ bits_of (only can_halt (current_of alternates c))
  pub asked : s.endpoint ≡ found (addressed question.address (current_of alternates c))
  pub there : s.there ≡ has_setting c question.interface question.alternate
  pub bits : s.bits ≡ bits_of (only (of_either question.interface (get_or alternates question.interface 0) question.alternate) c.endpoints)

-- interface j's alternate setting exists, and is 0 if the interface does not
abbrev pub good_alternate : Configuration → List ℕ → ℕ → Bool
good_alternate c alternates j = pick (has_interface c j) (has_setting c j (get_or alternates j 0)) (eqb (get_or alternates j 0) 0)
