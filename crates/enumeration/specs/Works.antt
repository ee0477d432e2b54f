-- Everything that is there works: in Configured every setting of every interface can be chosen and is then current, and every bulk or interrupt endpoint of a current
-- setting can be halted, says so, and is mended by CLEAR_FEATURE with its toggle 0. Proved in proofs/Settings and proofs/Tour.
use Rattle.std.specs.Prelude.{ℕ, ◌≤◌, ◌<◌, ◌≡◌, true, false, get_or}
use mathlib.Core.List.{List, [], ◌∷◌, ◌++◌, Memᴰ}
use Rattle.octets.specs.Bit.{bit}
use Rattle.octets.specs.Sentences.{is_some}
use Rattle.descriptors.specs.declared.Setting.{Setting}
use Rattle.descriptors.specs.declared.Endpoint.{Endpoint}
use Rattle.descriptors.specs.Configuration.{configuration_of, bConfigurationValue, can_halt, bit_of}
use Rattle.sets.specs.Device.{device_body, bNumConfigurations}
use Rattle.sets.specs.Opening.{Board, BytesOf}
use Rattle.sets.specs.View.{accepted}
use Rattle.records.specs.declared.Device.{Device}
use Rattle.records.specs.Device.{in_configured, settled}
use Rattle.records.specs.Current.{set_for, view_at, selected, current_endpoints}
use Rattle.events.specs.Requests as requests
use Rattle.events.specs.Step.{good_reset}
use Rattle.enumeration.specs.Script.{Line, line, reading, done, Plays, Ready, set_interface, get_interface, set_halt, clear_halt, get_endpoint_status}
use Rattle.enumeration.specs.Bodies.{configuration_body}
use Rattle.enumeration.specs.Enumeration.{enumeration, enumerated}

-- ---- the scripts
-- SET_INTERFACE, and GET_INTERFACE tells the setting
abbrev pub selecting : Setting → List Line
selecting s = line (set_interface s.interface s.alternate) done ∷ line (get_interface s.interface) (reading (s.alternate ∷ [])) ∷ []

-- SET_FEATURE(HALT), GET_STATUS tells 1, CLEAR_FEATURE(HALT), GET_STATUS tells 0
abbrev pub halting : ℕ → List Line
halting address =
    line (set_halt address) done ∷ line (get_endpoint_status address) (reading (1 ∷ 0 ∷ [])) ∷
    line (clear_halt address) done ∷ line (get_endpoint_status address) (reading (0 ∷ 0 ∷ [])) ∷ []

-- each setting of a list in turn
abbrev pub visiting : List Setting → List Line
visiting [] = []
visiting (s ∷ ss) = selecting s ++ visiting ss

-- ---- the records in which they end: with that setting, its interface's halts and toggles gone; and with that endpoint's halt and toggle 0; past what every setup settles
abbrev pub after_selecting : Board → Device → Setting → Device
after_selecting b d s = requests.with_setting (view_at b d) (settled d) s.interface s.alternate

abbrev pub after_halting : Device → ℕ → Device
after_halting d address = requests.clear_halt (requests.set_halt (settled d) (bit_of address)) (bit_of address)

abbrev pub after_visiting : Board → Device → List Setting → Device
after_visiting b d [] = d
after_visiting b d (s ∷ ss) = after_visiting b (after_selecting b d s) ss

-- ---- for every accepted board, at every record in Configured that is ready
abbrev pub InConfigured : (Board → Device → Type 0) → Type 0
InConfigured P = (b : Board) → BytesOf b → accepted b ≡ true → (d : Device) → Ready b d → d.state ≡ in_configured → P b d

-- every setting of the selected configuration is chosen, told, and then current, and no other interface's is another
pub record Chosen (b : Board) (d : Device) (s : Setting) : Type 0 where
  pub plays : Plays b d (selecting s) (after_selecting b d s)
  pub current : get_or (after_selecting b d s).alternates s.interface 0 ≡ s.alternate
  pub others : (j : ℕ) → (j ≡ s.interface → ⊥) → get_or (after_selecting b d s).alternates j 0 ≡ get_or d.alternates j 0

abbrev pub EverySetting : Type 0
EverySetting = InConfigured (λ b d. (s : Setting) → Memᴰ s (selected (view_at b d) d).settings → Chosen b d s)

-- every bulk or interrupt endpoint of a current setting is halted, says so, and is mended
pub record Mended (b : Board) (d : Device) (e : Endpoint) : Type 0 where
  pub plays : Plays b d (halting e.address) (after_halting d e.address)
  pub runs : bit (after_halting d e.address).halts (bit_of e.address) ≡ false
  pub toggle : bit (after_halting d e.address).toggles (bit_of e.address) ≡ false

abbrev pub EveryEndpoint : Type 0
EveryEndpoint = InConfigured (λ b d. (e : Endpoint) → Memᴰ e (current_endpoints (view_at b d) d) → can_halt e ≡ true → Mended b d e)

-- ---- a host's whole tour: it enumerates, and then visits each setting of the configuration that it read
abbrev pub Tours : Type 0
Tours =
    (b : Board) → BytesOf b → accepted b ≡ true
    → (d : Device) → Ready b d
    → (speed : ℕ) → good_reset (is_some b.high) speed ≡ true
    → (address : ℕ) → 1 ≤ address → address ≤ 127
    → (i : ℕ) → i < bNumConfigurations (device_body (set_for b speed))
    → (let body = configuration_body (set_for b speed) i in
    let settings = (configuration_of body).settings in
    Plays b d (enumeration b speed address i ++ visiting settings) (after_visiting b (enumerated speed address (bConfigurationValue body) d) settings))
