-- Working definitions for the contracts of the checks, rule by rule; no promise cites them.
use Rattle.std.specs.Prelude.{ℕ, ◌+◌, ◌*◌, ◌≤◌, ◌<◌, ◌≡◌, List, [], ◌∷◌, Bool, true, ◌&&◌, ◌||◌, not, length, eqb}
use Rattle.octets.specs.Octets.{part}
use Rattle.octets.specs.Sentences.{pick, every, neighbours, is_empty}
use Rattle.descriptors.specs.declared.limits.Limits.{Limits}
use Rattle.descriptors.specs.declared.check.Verdict.{Verdict}
use Rattle.descriptors.specs.Configuration.{good_configuration}
use Rattle.octets.specs.Table.{has}
use Rattle.descriptors.specs.Check.{configuration_refers}
use Rattle.sets.specs.declared.Entry.{Entry}
use Rattle.sets.specs.declared.contents.Outline.{Outline}
use Rattle.sets.specs.declared.opening.Begun.{Begun}
use Rattle.sets.specs.Contents.{bodies, body_of, bodies_at, entries, entries_of, before, good_frame, good_contents, kind_allowed, body_long_enough, begins_at}
use Rattle.sets.specs.Pieces.{Piece, piece_with, piece_for, pieces_in, pieces_of, has_index, has_no_language}
use Rattle.sets.specs.Device.{device_body, good_device, iManufacturer, iProduct, iSerialNumber}
use Rattle.sets.specs.Opening.{good_devices, value_nonzero}
use Rattle.sets.specs.Strings.{good_string, good_languages, language_zero, languages, listed, not_serial, good_reference}

-- an entry is the first, or comes after another
abbrev pub is_next : Bool → Entry → Entry → Bool
is_next first last e = first || before last e

-- an entry whose body has to begin at `start`, and whether it follows the one before
abbrev pub good_placed : Limits → Entry → ℕ → Bool → Bool
good_placed limits e start follows = kind_allowed limits e && body_long_enough e && begins_at start e && follows

abbrev pub good_entry : Limits → Bool → Entry → ℕ → Entry → Bool
good_entry limits first last start e = good_placed limits e start (is_next first last e)

-- an entry's place in the order, as one number
abbrev pub rank_of : Entry → ℕ
rank_of e = 16777216 * e.kind + 256 * e.language + e.index

-- what the one pass over the contents tells, where they meet group 2
pub record Outlines (limits : Limits) (set : List ℕ) (o : Outline) : Type 0 where
  pub good : good_contents limits set ≡ true
  pub devices : o.devices ≡ length (entries_of 1 set)
  pub configurations : o.configurations ≡ length (entries_of 2 set)

-- the one device entry, beside the number of configurations
abbrev pub good_device_entry : Limits → List ℕ → Entry → ℕ → Bool
good_device_entry limits set e configurations = has_index 0 (piece_for set e) && has_no_language (piece_for set e) && good_device limits configurations (body_of set e)

-- a configuration entry with index n, its body, and whether its value was there before
abbrev pub good_numbered : Limits → Entry → ℕ → List ℕ → Bool → Bool
good_numbered limits e n body seen =
    has_index n (piece_with e body) && has_no_language (piece_with e body) && good_configuration limits body && value_nonzero body && not seen

-- what is asked of a string alone, once the languages are known
abbrev pub good_string_piece : List ℕ → ℕ → Piece → Bool
good_string_piece languages serial p = good_string p.body && language_zero p && listed languages p && not_serial serial p

-- what is asked of the strings, where string 0 lists these languages; without it, that there are none
abbrev pub good_listed : List ℕ → List ℕ → Bool
good_listed set languages =
    let strings = pieces_of 3 (pieces_in set) in
    pick (good_languages languages) (every (good_string_piece languages (iSerialNumber (device_body set))) strings) (is_empty strings)

-- what a reference may be, where string 0 lists these languages; without it, none
abbrev pub may_name : List ℕ → List ℕ → ℕ → Bool
may_name set languages r =
    pick (good_languages languages) (good_reference languages (pieces_of 3 (pieces_in set)) (iSerialNumber (device_body set)) r) (eqb r 0)

-- a table of nothing
abbrev pub no_names : List ℕ
no_names = 0 ∷ 0 ∷ 0 ∷ 0 ∷ 0 ∷ 0 ∷ 0 ∷ 0 ∷ []

-- the device's references are in a table
abbrev pub device_refers : List ℕ → List ℕ → Bool
device_refers names device = has names (iManufacturer device) && has names (iProduct device) && has names (iSerialNumber device)

-- the contents are whole, and the entries ascend
pub record Ordered (set : List ℕ) : Type 0 where
  pub whole : bodies_at set ≤ length set
  pub sorted : neighbours before (entries set) ≡ true

-- and so do the languages
pub record Ascend (set languages : List ℕ) : Type 0 where
  pub order : Ordered set
  pub good : good_languages languages ≡ true

-- the strings are read: whether they are good, and then what a reference may be; 0 in any case
pub record Reads (set languages : List ℕ) (good : Bool) (names : List ℕ) : Type 0 where
  pub entries : good ≡ good_listed set languages
  pub named : good ≡ true → (j : ℕ) → j < 256 → has names j ≡ may_name set languages j
  pub zero : has names 0 ≡ true

-- what opening has read for group 5: whether the string entries are good, and then the table of what a reference may be, and whether those of the configurations are in it
pub record Read (set names : List ℕ) (refer good : Bool) : Type 0 where
  pub entries : good ≡ good_listed set (languages set)
  pub named : good ≡ true → (j : ℕ) → j < 256 → has names j ≡ may_name set (languages set) j
  pub told : refer ≡ every (configuration_refers names) (bodies 2 set)

-- groups 1 to 3 are met
pub record Begins (limits : Limits) (set : List ℕ) : Type 0 where
  pub frame : good_frame set ≡ true
  pub contents : good_contents limits set ≡ true
  pub devices : good_devices limits (pieces_in set) ≡ true

-- and what is known then: how many configurations there are, where the device descriptor lies, and that there is no string
pub record Starts (limits : Limits) (set : List ℕ) (b : Begun) : Type 0 where
  pub met : Begins limits set
  pub configurations : b.configurations ≡ length (entries_of 2 set)
  pub whole : b.device + 18 ≤ length set
  pub device : part set b.device 18 ≡ device_body set
  pub bare : b.bare ≡ true → entries_of 3 set ≡ []

-- what is read and walked through before groups 4 to 6 are asked: the strings, and the configurations with their references; and where the device descriptor lies
pub record Ready (set names : List ℕ) (good : Bool) (configurations : Verdict) (device : ℕ) : Type 0 where
  pub whole : device + 18 ≤ length set
  pub described : part set device 18 ≡ device_body set
  pub entries : good ≡ good_listed set (languages set)
  pub named : good ≡ true → (j : ℕ) → j < 256 → has names j ≡ may_name set (languages set) j
  pub told : configurations.good ≡ true → configurations.refers ≡ every (configuration_refers names) (bodies 2 set)
