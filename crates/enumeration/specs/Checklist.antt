-- Chapter 9's own checklist: what a compliance test of chapter 9 of USB 2.0 tries, step by step, on every accepted board, at every record that is ready. Proved in proofs/Checklist.
-- Where document 01 or 02 departs from USB 2.0, or decides what it leaves open, the step says so: DEPARTS, DECIDES.
use Rattle.std.specs.Prelude.{ℕ, ◌+◌, ◌*◌, ◌≤◌, ◌<◌, ◌≡◌, true, false, ◌||◌, take, get_or, eqb}
use mathlib.Core.List.{List, [], ◌∷◌, Memᴰ}
use Rattle.std.proofs.Math.Option.{some, none}
use Rattle.octets.specs.Sentences.{pick, any, member, is_some, is_empty}
use Rattle.descriptors.specs.declared.Setting.{Setting}
use Rattle.descriptors.specs.declared.Endpoint.{Endpoint}
use Rattle.descriptors.specs.Configuration.{bConfigurationValue, has_interface, has_setting, can_halt}
use Rattle.sets.specs.Pieces.{pieces_in, pieces_of}
use Rattle.sets.specs.Device.{device_body, bNumConfigurations, iSerialNumber}
use Rattle.sets.specs.Strings.{languages, references, is_string, is_nonzero}
use Rattle.sets.specs.Pair.{qualifier_of, retyped}
use Rattle.sets.specs.Opening.{Board, BytesOf}
use Rattle.sets.specs.View.{accepted, has_value, wakes}
use Rattle.records.specs.declared.Device.{Device}
use Rattle.records.specs.Device.{in_default, in_address, in_configured, after_reset, settled, awake, with_suspended, with_waiting, with_wakeup, with_address, with_configuration}
use Rattle.records.specs.Current.{set_at, set_for, view_at, selected, current_endpoints, endpoint_at}
use Rattle.requests.specs.declared.Setup.{Setup}
use Rattle.requests.specs.declared.Row.{Row}
use Rattle.requests.specs.Table.{row_of}
use Rattle.events.specs.declared.Event.{Event}
use Rattle.events.specs.declared.Event.TheVariants.{Request, Suspend, Resume, Wake}
use Rattle.events.specs.Requests.{is_endpoint_zero}
use Rattle.events.specs.Step.{good_reset, asks_test_mode}
use Rattle.enumeration.specs.Script.{line, reading, done, Plays, Ready, ask, get_descriptor, set_address, set_configuration, set_interface, get_interface, set_halt, get_endpoint_status, bus_reset, status_end}
use Rattle.enumeration.specs.Bodies.{configuration_body, piece_body, string_body}
use Rattle.enumeration.specs.Enumeration.{other_speed}
use Rattle.enumeration.specs.Works.{Chosen, Mended}

-- ---- the tester's words
-- STALL, with document 01's number; it leaves the record as it was, but for what every setup settles
abbrev pub Stalls : Board → Device → Event → ℕ → Type 0
Stalls b d e n = Plays b d (line e (record { number = n; reads = [] }) ∷ []) (settled d)

-- answered with these bytes, or with none; the record stays, or becomes another
abbrev pub Answers : Board → Device → Event → List ℕ → Type 0
Answers b d e bytes = Plays b d (line e (reading bytes) ∷ []) (settled d)

abbrev pub Does : Board → Device → Event → Device → Type 0
Does b d e left = Plays b d (line e done ∷ []) left

abbrev pub get_configuration : Event
get_configuration = ask 0x80 0x08 0 0 1

abbrev pub get_device_status : Event
get_device_status = ask 0x80 0x00 0 0 2

abbrev pub get_interface_status : ℕ → Event
get_interface_status j = ask 0x81 0x00 0 j 2

-- SET_FEATURE and CLEAR_FEATURE of DEVICE_REMOTE_WAKEUP
abbrev pub set_wakeup : Event
set_wakeup = ask 0x00 0x03 1 0 0

abbrev pub clear_wakeup : Event
clear_wakeup = ask 0x00 0x01 1 0 0

-- ---- descriptors (9.4.3), in every state and at every wLength: never more than the descriptor, never more than asked
pub record Descriptors (b : Board) (d : Device) : Type 0 where
  pub device : (w : ℕ) → w ≤ 65535 → Answers b d (get_descriptor 1 0 0 w) (take w (device_body (set_at b d)))
  pub no_device : (i : ℕ) → 1 ≤ i → i < 256 → (w : ℕ) → w ≤ 65535 → Stalls b d (get_descriptor 1 i 0 w) 13
  pub configurations : (i : ℕ) → i < bNumConfigurations (device_body (set_at b d)) → (w : ℕ) → w ≤ 65535 → Answers b d (get_descriptor 2 i 0 w) (take w (configuration_body (set_at b d) i))
  pub no_configuration : (i : ℕ) → bNumConfigurations (device_body (set_at b d)) ≤ i → i < 256 → (w : ℕ) → w ≤ 65535 → Stalls b d (get_descriptor 2 i 0 w) 13
  pub string_zero : is_empty (languages (set_at b d)) ≡ false → (w : ℕ) → w ≤ 65535 → Answers b d (get_descriptor 3 0 0 w) (take w (piece_body (set_at b d) 3 0 0))
  pub strings : (index language : ℕ) → Memᴰ index (references (set_at b d)) → is_nonzero index ≡ true → Memᴰ language (languages (set_at b d)) → (w : ℕ) → w ≤ 65535
      → Answers b d (get_descriptor 3 index language w) (take w (string_body b d.speed index language))
  pub no_string : (index language : ℕ) → 1 ≤ index → index < 256 → eqb index (iSerialNumber (device_body (set_at b d))) ≡ false → member language (languages (set_at b d)) ≡ true → language ≤ 65535
      → any (is_string index language) (pieces_of 3 (pieces_in (set_at b d))) ≡ false → (w : ℕ) → w ≤ 65535 → Stalls b d (get_descriptor 3 index language w) 13
  -- DEPARTS (document 02, L6): a language that is not listed is answered in the first one; USB 2.0 has the request stalled
  pub other_language : (index language : ℕ) → Memᴰ index (references (set_at b d)) → is_nonzero index ≡ true → member language (languages (set_at b d)) ≡ false → language ≤ 65535
      → is_empty (languages (set_at b d)) ≡ false → (w : ℕ) → w ≤ 65535
      → Answers b d (get_descriptor 3 index language w) (take w (string_body b d.speed index (get_or (languages (set_at b d)) 0 0)))
  -- a device of two speeds has both descriptors of the other speed (9.6.2, 9.6.4)
  pub qualifier : is_some b.high ≡ true → (w : ℕ) → w ≤ 65535 → Answers b d (get_descriptor 6 0 0 w) (take w (qualifier_of (device_body (set_for b (other_speed d.speed)))))
  pub other_speeds : is_some b.high ≡ true → (i : ℕ) → i < bNumConfigurations (device_body (set_for b (other_speed d.speed))) → (w : ℕ) → w ≤ 65535
      → Answers b d (get_descriptor 7 i 0 w) (take w (retyped (configuration_body (set_for b (other_speed d.speed)) i)))
  -- a device of one speed stalls both
  pub one_speed : is_some b.high ≡ false → (i : ℕ) → i < 256 → (w : ℕ) → w ≤ 65535 → Stalls b d (get_descriptor 6 i 0 w) 13 × Stalls b d (get_descriptor 7 i 0 w) 13
  -- INTERFACE, ENDPOINT and every other type is not had by GET_DESCRIPTOR
  pub other_types : (kind index : ℕ) → member kind (1 ∷ 2 ∷ 3 ∷ 6 ∷ 7 ∷ []) ≡ false → kind < 256 → index < 256 → (w : ℕ) → w ≤ 65535 → Stalls b d (get_descriptor kind index 0 w) 13

-- ---- addresses (9.4.6)
pub record Addresses (b : Board) (d : Device) : Type 0 where
  -- in Default and Address every address of 0-127 is taken at the status stage and not before; 0 leads to Default
  pub waits : d.state ≤ 1 → (a : ℕ) → a ≤ 127 → Does b d (set_address a) (with_waiting a (settled d))
  pub taken : d.state ≤ 1 → (a : ℕ) → a ≤ 127
      → Plays b d (line (set_address a) done ∷ line status_end done ∷ []) (with_address (pick (eqb a 0) in_default in_address) a (settled d))
  -- DECIDES: USB 2.0 leaves open what a device does at an address above 127, and in Configured
  pub too_high : d.state ≤ 1 → (a : ℕ) → 128 ≤ a → a ≤ 65535 → Stalls b d (set_address a) 12
  pub not_configured : d.state ≡ in_configured → (a : ℕ) → Stalls b d (set_address a) 11

-- ---- configurations (9.4.2, 9.4.7)
pub record Configurations (b : Board) (d : Device) : Type 0 where
  -- in Address and Configured each is set by its value, also again, and told; alternates, halts and toggles are then 0
  pub set : 1 ≤ d.state → (i : ℕ) → i < bNumConfigurations (device_body (set_at b d)) → (let value = bConfigurationValue (configuration_body (set_at b d) i) in
      Plays b d (line (set_configuration value) done ∷ line get_configuration (reading (value ∷ [])) ∷ []) (with_configuration in_configured value (settled d)))
  pub unset : 1 ≤ d.state → Plays b d (line (set_configuration 0) done ∷ line get_configuration (reading (0 ∷ [])) ∷ []) (with_configuration in_address 0 (settled d))
  pub no_such : 1 ≤ d.state → (value : ℕ) → 1 ≤ value → value ≤ 255 → has_value (record { 0 = value }) (view_at b d).configurations ≡ false → Stalls b d (set_configuration value) 13

-- ---- status (9.4.5)
pub record Statuses (b : Board) (d : Device) : Type 0 where
  -- self-powered is the power source as the board was told (document 02, L2), and remote wakeup
  pub device : 1 ≤ d.state → Answers b d get_device_status ((d.power + 2 * d.wakeup) ∷ 0 ∷ [])
  pub interface : 1 ≤ d.state → (j : ℕ) → j ≤ 65535 → has_interface (selected (view_at b d) d) j ≡ true → Answers b d (get_interface_status j) (0 ∷ 0 ∷ [])
  pub no_interface : 1 ≤ d.state → (j : ℕ) → j ≤ 65535 → has_interface (selected (view_at b d) d) j ≡ false → Stalls b d (get_interface_status j) 13
  pub endpoint_zero : 1 ≤ d.state → (a : ℕ) → is_endpoint_zero a ≡ true → a ≤ 65535 → Answers b d (get_endpoint_status a) (0 ∷ 0 ∷ [])
  pub no_endpoint : 1 ≤ d.state → (a : ℕ) → is_endpoint_zero a ≡ false → a ≤ 65535 → endpoint_at (view_at b d) d a ≡ none → Stalls b d (get_endpoint_status a) 13
  pub length : 1 ≤ d.state → (w : ℕ) → (w ≡ 2 → ⊥) → Stalls b d (ask 0x80 0x00 0 0 w) 12

-- ---- halts (9.4.5, 9.4.9)
pub record Halts (b : Board) (d : Device) : Type 0 where
  pub every : d.state ≡ in_configured → (e : Endpoint) → Memᴰ e (current_endpoints (view_at b d) d) → can_halt e ≡ true → Mended b d e
  pub no_endpoint : 1 ≤ d.state → (a : ℕ) → is_endpoint_zero a ≡ false → a ≤ 65535 → endpoint_at (view_at b d) d a ≡ none → Stalls b d (set_halt a) 13
  -- DECIDES: endpoint zero has no halt (USB 2.0: neither required nor recommended)
  pub not_zero : 1 ≤ d.state → (a : ℕ) → is_endpoint_zero a ≡ true → a ≤ 65535 → Stalls b d (set_halt a) 14

-- ---- remote wakeup (9.4.5) and suspend
pub record Wakeups (b : Board) (d : Device) : Type 0 where
  -- where a configuration supports it, it is set, told, cleared, told
  pub supported : 1 ≤ d.state → wakes (view_at b d) ≡ true
      → Plays b d (line set_wakeup done ∷ line get_device_status (reading ((d.power + 2) ∷ 0 ∷ [])) ∷ line clear_wakeup done ∷ line get_device_status (reading (d.power ∷ 0 ∷ [])) ∷ []) (with_wakeup 0 (settled d))
  pub unsupported : 1 ≤ d.state → wakes (view_at b d) ≡ false → Stalls b d set_wakeup 14
  -- a suspended device may wake the host exactly where it is on
  pub asleep : d.wakeup ≡ 1 → Plays b d (line Suspend done ∷ line Wake done ∷ line Resume done ∷ []) (awake d)
  pub forbidden : d.wakeup ≡ 0 → Plays b d (line Suspend done ∷ line Wake (record { number = 19; reads = [] }) ∷ []) (with_suspended 1 d)

-- ---- interfaces (9.4.4, 9.4.10)
pub record Interfaces (b : Board) (d : Device) : Type 0 where
  pub every : d.state ≡ in_configured → (s : Setting) → Memᴰ s (selected (view_at b d) d).settings → Chosen b d s
  pub no_setting : d.state ≡ in_configured → (j a : ℕ) → j ≤ 65535 → a ≤ 65535 → has_setting (selected (view_at b d) d) j a ≡ false → Stalls b d (set_interface j a) 13
  pub no_interface : d.state ≡ in_configured → (j : ℕ) → j ≤ 65535 → has_interface (selected (view_at b d) d) j ≡ false → Stalls b d (get_interface j) 13
  pub not_in_address : d.state ≡ in_address → (j a : ℕ) → Stalls b d (set_interface j a) 11 × Stalls b d (get_interface j) 11

-- ---- requests that are not there
pub record Others (b : Board) (d : Device) : Type 0 where
  -- a type and code in no row of the table (class, vendor, SET_DESCRIPTOR, SYNCH_FRAME ..): in every state. DEPARTS: USB 2.0's SYNCH_FRAME is not built
  pub unknown : (s : Setup) → row_of s ≡ none → Stalls b d (Request s) 10
  -- DECIDES: in Default all but SET_ADDRESS and GET_DESCRIPTOR is stalled (a test mode asked of two sets at high speed is not); USB 2.0 leaves it open
  pub in_default : d.state ≡ in_default → (s : Setup) (r : Row) → row_of s ≡ some r → (eqb s.bRequest 0x05 || eqb s.bRequest 0x06) ≡ false
      → asks_test_mode (is_some b.high) s ≡ false → Stalls b d (Request s) 11
  -- a bus reset leads from every state to Default, at the speed that it names
  pub reset : (speed : ℕ) → good_reset (is_some b.high) speed ≡ true → Does b d (bus_reset speed) (after_reset speed d)

-- ---- the checklist
pub record Passes (b : Board) (d : Device) : Type 0 where
  pub descriptors : Descriptors b d
  pub addresses : Addresses b d
  pub configurations : Configurations b d
  pub statuses : Statuses b d
  pub halts : Halts b d
  pub wakeups : Wakeups b d
  pub interfaces : Interfaces b d
  pub others : Others b d

abbrev pub Checklist : Type 0
Checklist = (b : Board) → BytesOf b → accepted b ≡ true → (d : Device) → Ready b d → Passes b d
