-- THE SENTENCE: every accepted board enumerates, whatever happened before: of one set or of two, at either speed, from every record that its calls can have left outside
-- an entered test mode, at every address of 1-127, in every configuration of the set in use. Proved in proofs/Enumerates, over the exported calls in host_runs.
use Rattle.std.specs.Prelude.{ℕ, ◌≤◌, ◌<◌, ◌≡◌, true, false, List, eqb}
use Rattle.octets.specs.Octets.{Bytes}
use Rattle.octets.specs.Sentences.{pick, is_some}
use Rattle.descriptors.specs.Limits.{full_speed}
use Rattle.descriptors.specs.Configuration.{bConfigurationValue}
use Rattle.sets.specs.Device.{device_body, bNumConfigurations}
use Rattle.sets.specs.Opening.{Board, BytesOf, lent, lent_two, opening}
use Rattle.sets.specs.Pair.{opening_two}
use Rattle.sets.specs.View.{accepted}
use Rattle.records.specs.declared.Device.{Device}
use Rattle.records.specs.Device.{in_test_mode, Sized}
use Rattle.records.specs.Current.{set_for}
use Rattle.records.specs.Fits.{fits_on}
use Rattle.events.specs.Step.{good_reset}
use Rattle.enumeration.specs.Script.{Line, Plays, Ready}
use Rattle.enumeration.specs.Bodies.{configuration_body}
use Rattle.enumeration.specs.Enumeration.{enumeration, enumeration_by_transfers, enumerated}

-- for a script of a board, a speed, an address and a configuration's index: it is played, and ends Configured with that address and that configuration's value
abbrev pub PlaysAlways : (Board → ℕ → ℕ → ℕ → List Line) → Type 0
PlaysAlways script =
    (b : Board) → BytesOf b → accepted b ≡ true
    → (d : Device) → Ready b d
    → (speed : ℕ) → good_reset (is_some b.high) speed ≡ true
    → (address : ℕ) → 1 ≤ address → address ≤ 127
    → (i : ℕ) → i < bNumConfigurations (device_body (set_for b speed))
    → Plays b d (script b speed address i) (enumerated speed address (bConfigurationValue (configuration_body (set_for b speed) i)) d)

abbrev pub Enumerates : Type 0
Enumerates = PlaysAlways enumeration

-- the same with the status end of every transfer, as a device loop hears it
abbrev pub EnumeratesByTransfers : Type 0
EnumeratesByTransfers = PlaysAlways enumeration_by_transfers

-- ---- written out: a set and a serial block that open, any record that fits them (one set has no test mode), any address, any configuration of the set
abbrev pub EnumeratesOne : Type 0
EnumeratesOne =
    (set serial : List ℕ) → Bytes set → opening full_speed (lent set serial) ≡ 0
    → (d : Device) → Sized d → fits_on (lent set serial) d ≡ true
    → (address : ℕ) → 1 ≤ address → address ≤ 127 → (i : ℕ) → i < bNumConfigurations (device_body set)
    → Plays (lent set serial) d (enumeration (lent set serial) 0 address i) (enumerated 0 address (bConfigurationValue (configuration_body set i)) d)

-- two sets that open together, at either speed: 0 is the full-speed set, 1 the other
abbrev pub EnumeratesTwo : Type 0
EnumeratesTwo =
    (full high serial : List ℕ) → Bytes full → Bytes high → opening_two full high serial ≡ 0
    → (d : Device) → Sized d → fits_on (lent_two full high serial) d ≡ true → in_test_mode d ≡ false
    → (speed : ℕ) → speed ≤ 1 → (address : ℕ) → 1 ≤ address → address ≤ 127
    → (i : ℕ) → i < bNumConfigurations (device_body (pick (eqb speed 0) full high))
    → Plays (lent_two full high serial) d (enumeration (lent_two full high serial) speed address i)
    (enumerated speed address (bConfigurationValue (configuration_body (pick (eqb speed 0) full high) i)) d)
