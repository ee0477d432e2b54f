-- No host can lock the device out: after every run of exported calls from an opening, whatever it did, the board enumerates, in packets, unless a test mode was entered; and
-- everything that is there works. Proved in proofs/NeverLockedOut.
use Rattle.std.specs.Prelude.{ℕ, ◌≤◌, ◌<◌, ◌≡◌, true, false}
use mathlib.Core.List.{List, Memᴰ}
use Rattle.octets.specs.Octets.{Bytes}
use Rattle.octets.specs.Sentences.{any, is_some}
use Rattle.descriptors.specs.declared.Setting.{Setting}
use Rattle.descriptors.specs.declared.Endpoint.{Endpoint}
use Rattle.descriptors.specs.Configuration.{can_halt, bConfigurationValue}
use Rattle.sets.specs.Device.{device_body, bNumConfigurations}
use Rattle.sets.specs.Opening.{Board, BytesOf, lent}
use Rattle.records.specs.Device.{in_configured, in_test_mode}
use Rattle.records.specs.Image.{device_of}
use Rattle.records.specs.Current.{set_for, view_at, selected, current_endpoints}
use Rattle.events.specs.Step.{good_reset}
use Rattle.enumeration.specs.Script.{Line}
use Rattle.enumeration.specs.Bodies.{configuration_body}
use Rattle.enumeration.specs.Enumeration.{enumeration, enumerated}
use Rattle.enumeration.specs.Unasked.{asks_for_test}
use Rattle.enumeration.specs.Works.{selecting, halting, after_selecting, after_halting}
use Rattle.board.specs.Exports.{Spots}
use Rattle.board.specs.Runs.{event_of}
use Rattle.host_runs.specs.Calls.{Played, CalledSince}

-- a script of an enumeration is played from this image: at every speed that the board has, every address, every configuration
abbrev pub EnumeratesFrom : (Board → ℕ → ℕ → ℕ → List Line) → Board → Spots → List ℕ → Type 0
EnumeratesFrom script b lie last =
    (speed : ℕ) → good_reset (is_some b.high) speed ≡ true
    → (address : ℕ) → 1 ≤ address → address ≤ 127
    → (i : ℕ) → i < bNumConfigurations (device_body (set_for b speed))
    → Played b lie last (script b speed address i) (enumerated speed address (bConfigurationValue (configuration_body (set_for b speed) i)) (device_of last))

-- ---- after any run that ends in no test mode, by requests alone and with the status end of every transfer
abbrev pub NeverLockedOut : (Board → ℕ → ℕ → ℕ → List Line) → Type 0
NeverLockedOut script = (b : Board) (lie : Spots) → BytesOf b → (last : List ℕ) → CalledSince b lie last → in_test_mode (device_of last) ≡ false → EnumeratesFrom script b lie last

-- a board of one set has no test mode: after any run
abbrev pub NeverLockedOutOne : Type 0
NeverLockedOutOne = (set serial : List ℕ) (lie : Spots) → Bytes set → (last : List ℕ) → CalledSince (lent set serial) lie last → EnumeratesFrom enumeration (lent set serial) lie last

-- of two sets: after any run in which no call asked for a test mode
abbrev pub NeverLockedOutUnasked : Type 0
NeverLockedOutUnasked = (b : Board) (lie : Spots) → BytesOf b → (last : List ℕ) (since : CalledSince b lie last)
    → any (λ c. asks_for_test (is_some b.high) (event_of c)) since.before ≡ false → EnumeratesFrom enumeration b lie last

-- ---- after any run that ends in Configured, in no test mode: every setting can be chosen, every bulk or interrupt endpoint halted and mended
abbrev pub InConfiguredAfter : (Board → Spots → List ℕ → Type 0) → Type 0
InConfiguredAfter P = (b : Board) (lie : Spots) → BytesOf b → (last : List ℕ) → CalledSince b lie last → in_test_mode (device_of last) ≡ false → (device_of last).state ≡ in_configured → P b lie last

abbrev pub SettingAfter : Type 0
SettingAfter = InConfiguredAfter (λ b lie last. (s : Setting) → Memᴰ s (selected (view_at b (device_of last)) (device_of last)).settings
    → Played b lie last (selecting s) (after_selecting b (device_of last) s))

abbrev pub EndpointAfter : Type 0
EndpointAfter = InConfiguredAfter (λ b lie last. (e : Endpoint) → Memᴰ e (current_endpoints (view_at b (device_of last)) (device_of last)) → can_halt e ≡ true
    → Played b lie last (halting e.address) (after_halting (device_of last) e.address))
