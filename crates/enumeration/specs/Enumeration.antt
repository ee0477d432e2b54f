-- The script of an enumeration, as a host does it, and the record in which it ends. `Enumerates` is the sentence: every accepted board plays it.
use Rattle.std.specs.Prelude.{ℕ, take, eqb}
use mathlib.Core.List.{List, [], ◌∷◌, ◌++◌, map, flat_map}
use Rattle.octets.specs.Sentences.{pick, only, up_to, is_some, is_empty}
use Rattle.descriptors.specs.Configuration.{wTotalLength, bConfigurationValue}
use Rattle.sets.specs.Device.{device_body, bNumConfigurations}
use Rattle.sets.specs.Strings.{languages, references, is_nonzero}
use Rattle.sets.specs.Pair.{qualifier_of, retyped}
use Rattle.sets.specs.Opening.{Board}
use Rattle.records.specs.declared.Device.{Device}
use Rattle.records.specs.Device.{in_configured, nothing, zeros, at_full_speed, at_high_speed}
use Rattle.records.specs.Current.{set_for}
use Rattle.enumeration.specs.Script.{Line, line, reading, done, get_descriptor, set_address, set_configuration, bus_reset, status_end}
use Rattle.enumeration.specs.Bodies.{configuration_body, piece_body, string_body}

-- ---- before the device has an address: its descriptor, the first 8 bytes, 64 as most hosts ask, and its 18
abbrev pub device_lines : List ℕ → List Line
device_lines device =
    line (get_descriptor 1 0 0 8) (reading (take 8 device)) ∷
    line (get_descriptor 1 0 0 64) (reading device) ∷
    line (get_descriptor 1 0 0 18) (reading device) ∷ []

-- ---- then a configuration, its first 9 bytes and the whole that they tell; of type 2, and of the other speed's with type 7
abbrev pub configuration_lines : ℕ → ℕ → ℕ → List ℕ → List Line
configuration_lines kind i size body =
    line (get_descriptor kind i 0 9) (reading (take 9 body)) ∷
    line (get_descriptor kind i 0 size) (reading body) ∷ []

-- ---- on a board of two sets, what the other speed has: its device_qualifier, and each of its configurations
abbrev pub other_speed : ℕ → ℕ
other_speed speed = pick (eqb speed at_full_speed) at_high_speed at_full_speed

abbrev pub other_configuration : List ℕ → ℕ → List Line
other_configuration other j = configuration_lines 7 j (wTotalLength (configuration_body other j)) (retyped (configuration_body other j))

abbrev pub other_lines : List ℕ → List Line
other_lines other =
    line (get_descriptor 6 0 0 10) (reading (qualifier_of (device_body other))) ∷
    flat_map (other_configuration other) (up_to (bNumConfigurations (device_body other)))

-- ---- the strings: string 0, where the set lists languages; then every string that a descriptor names, in every listed language
abbrev pub zero_lines : List ℕ → List Line
zero_lines set = pick (is_empty (languages set)) [] (line (get_descriptor 3 0 0 255) (reading (piece_body set 3 0 0)) ∷ [])

abbrev pub string_line : Board → ℕ → ℕ → ℕ → Line
string_line b speed language index = line (get_descriptor 3 index language 255) (reading (string_body b speed index language))

abbrev pub string_lines : Board → ℕ → List Line
string_lines b speed =
    let set = set_for b speed in
    flat_map (λ language. map (string_line b speed language) (only is_nonzero (references set))) (languages set)

-- ---- all that is read under the address, of the configuration at an index of the set in use
abbrev pub addressed_lines : Board → ℕ → ℕ → List Line
addressed_lines b speed i =
    let set = set_for b speed in
    let body = configuration_body set i in
    configuration_lines 2 i (wTotalLength body) body ++
    (pick (is_some b.high) (other_lines (set_for b (other_speed speed))) [] ++
    (zero_lines set ++ string_lines b speed))

-- ---- the whole script: to this speed, with this address, and the configuration at this index of the set in use, which is then set by its value
abbrev pub enumeration : Board → ℕ → ℕ → ℕ → List Line
enumeration b speed address i =
    let set = set_for b speed in
    line (bus_reset speed) done ∷
    (device_lines (device_body set) ++
    (line (set_address address) done ∷
    line status_end done ∷
    (addressed_lines b speed i ++
    (line (set_configuration (bConfigurationValue (configuration_body set i))) done ∷ []))))

-- ---- the same as a device loop hears it: every control transfer ends with its status stage
abbrev pub ending : List Line → List Line
ending [] = []
ending (l ∷ ls) = l ∷ line status_end done ∷ ending ls

abbrev pub enumeration_by_transfers : Board → ℕ → ℕ → ℕ → List Line
enumeration_by_transfers b speed address i =
    let set = set_for b speed in
    line (bus_reset speed) done ∷
    (ending (device_lines (device_body set)) ++
    (line (set_address address) done ∷
    line status_end done ∷
    (ending (addressed_lines b speed i) ++
    (line (set_configuration (bConfigurationValue (configuration_body set i))) done ∷
    line status_end done ∷ []))))

-- ---- its end, from a record d: Configured, with this address and configuration value, everything else fresh but the power source and the speed
abbrev pub enumerated : ℕ → ℕ → ℕ → Device → Device
enumerated speed address value d = record {
  state = in_configured;
  address = address;
  waiting = nothing;
  configuration = value;
  wakeup = 0;
  power = d.power;
  suspended = 0;
  speed = speed;
  alternates = zeros;
  halts = 0;
  toggles = 0;
}
