-- Working definitions: a record after an event, by what the event changes of it, and what a record fits by; no promise cites them.
use Rattle.std.specs.Prelude.{ℕ, Bool, true, false, List, length, set, eqb, ltb}
use Rattle.octets.specs.Sentences.{pick}
use Rattle.descriptors.specs.Configuration.{Configuration as Described}
use Rattle.sets.specs.View.{View, by_value}
use Rattle.records.specs.declared.Device.{Device}
use Rattle.records.specs.declared.Change.{Change}
use Rattle.records.specs.declared.Change.TheVariants.{Kept, Waiting, Wakeup, Power, Suspended, Address, Configuration, Setting, Endpoints, Passed, Fresh, TestMode}
use Rattle.records.specs.Device.{nothing, fresh, with_waiting, with_wakeup, with_power, with_speed, with_suspended, awake, settled, with_address, with_configuration, with_endpoints}
use Rattle.records.specs.Image.{device_of, image_of}

-- the alternate settings with another one of interface j, if there is room for it
abbrev pub with_setting : ℕ → ℕ → List ℕ → List ℕ
with_setting j alternate alternates = pick (ltb j 16) (set alternates j alternate) alternates

abbrev pub changed : Change → Device → Device
changed Kept d = d
changed (Waiting address) d = with_waiting address d
changed (Wakeup on) d = with_wakeup on d
changed (Power source) d = with_power source d
changed (Suspended on) d = with_suspended on d
changed (Address state address) d = with_address state address d
changed (Configuration state value) d = with_configuration state value d
changed (Setting j alternate halts toggles) d = with_endpoints (with_setting j alternate d.alternates) halts toggles d
changed (Endpoints halts toggles) d = with_endpoints d.alternates halts toggles d
changed (Passed toggles) d = awake (with_endpoints d.alternates d.halts toggles d)
changed (Fresh power speed) d = with_speed speed (with_power power fresh)
changed (TestMode speed) d = with_speed speed (with_waiting nothing d)

-- settled first, or not
abbrev pub settled_if : Bool → Device → Device
settled_if true d = settled d
settled_if false d = d

abbrev pub after : Bool → Change → Device → Device
after settles c d = changed c (settled_if settles d)

-- the waiting address that is left, where a change follows what a setup settles
abbrev pub waits_after : Change → ℕ
waits_after Kept = nothing
waits_after (Waiting address) = address
waits_after (Wakeup on) = nothing
waits_after (Power source) = nothing
waits_after (Suspended on) = nothing
waits_after (Address state address) = nothing
waits_after (Configuration state value) = nothing
waits_after (Setting j alternate halts toggles) = nothing
waits_after (Endpoints halts toggles) = nothing
waits_after (Passed toggles) = nothing
waits_after (Fresh power speed) = nothing
waits_after (TestMode speed) = nothing

abbrev pub settled_with : Bool → ℕ → Device → Device
settled_with true waits d = awake (with_waiting waits d)
settled_with false waits d = d

-- the configuration with the record's value, in any state; of a record that fits it is the selected one, where no configuration has the value 0
abbrev pub valued : View → Device → Described
valued v d = by_value (record { 0 = d.configuration }) v.configurations

-- ---- on images of any length
-- a record that fits no set stands for an image of another length
abbrev pub misfit : Device
misfit = record { state = 255; address = 0; waiting = 255; configuration = 0; wakeup = 0; power = 0; suspended = 0; speed = 0; alternates = fresh.alternates; halts = 0; toggles = 0 }

abbrev pub record_in : List ℕ → Device
record_in image = pick (eqb (length image) 32) (device_of image) misfit

-- the image after a change: of another length it stays
unfoldable pub renewed : Bool → Change → List ℕ → List ℕ
renewed settles c image = pick (eqb (length image) 32) (image_of (after settles c (device_of image))) image
