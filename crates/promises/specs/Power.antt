-- The power source, sentence by sentence (L2), for every accepted board and every record that fits. No axiom.
use Rattle.std.specs.Prelude.{ℕ, ◌+◌, ◌*◌, ◌%◌, ◌≤◌, ◌≡◌, refl, List, Bool, true, false, ◌&&◌, not, set, eqb}
use Rattle.std.proofs.Common.{arith, sym, ap, ◌∙◌}
use Rattle.std.proofs.Math.Option.{Option, some, none}
use Rattle.std.proofs.lemmas.Bool.{false≢true}
use borrow.Author.Tests.{le-leb, lt-leb}
use Rattle.octets.specs.Bit.{bit}
use Rattle.octets.specs.Sentences.{first, is_some}
use Rattle.octets.proofs.Sentences.{cases}
use Rattle.descriptors.specs.declared.Endpoint.{Endpoint}
use Rattle.descriptors.specs.Configuration.{can_halt, bit_of}
use Rattle.sets.specs.Opening.{Board}
use Rattle.sets.specs.View.{View, accepted}
use Rattle.records.specs.declared.Device.{Device}
use Rattle.records.specs.Device.{in_address, in_configured, nothing, test_waits, in_test_mode, settled, with_power}
use Rattle.records.specs.Current.{view_at, endpoint_at}
use Rattle.records.specs.Fits.{fits_on}
use Rattle.records.specs.Image.{device_of, image_of}
use Rattle.requests.specs.declared.Setup.{Setup}
use Rattle.requests.specs.Table.{refusal}
use Rattle.events.specs.declared.Event.{Event}
use Rattle.events.specs.declared.Event.TheVariants.{Request, Malformed, StatusEnd, BusReset, Halt, PacketPassed, Power, Suspend, Resume, Wake}
use Rattle.events.specs.Answer.{Done, TwoBytes, Outcome, gives, done, refused}
use Rattle.events.specs.Requests.{get_status}
use Rattle.events.specs.Concerns.{concerns, concerns_on}
use Rattle.events.specs.Step.{request, answer_setup, status_end, good_reset, halt_at, halt, pass_at, packet_passed, respond, step, reply_of, event}
use Rattle.laws.proofs.Fitting.{fitting}
use Rattle.laws.proofs.Outcomes.{chosen}
use Rattle.promises.specs.Examples.{computed, S}
use Rattle.promises.specs.Bench.{configured}
use Rattle.promises.specs.Inhabited.{accepted_s}
use Rattle.promises.specs.Keeps.{FitImage}
use Rattle.promises.specs.Images.{on_image}
use Rattle.promises.specs.Kept.{setup_keeps}

-- GET_STATUS of the device
abbrev pub device_status : Setup
device_status = record { bmRequestType = 0x80; bRequest = 0x00; wValue = 0; wIndex = 0; wLength = 2 }

abbrev pub is_power : Event → Bool
is_power (Power source) = true
is_power (Request s) = false
is_power Malformed = false
is_power StatusEnd = false
is_power (BusReset speed) = false
is_power (Halt a) = false
is_power (PacketPassed a) = false
is_power Suspend = false
is_power Resume = false
is_power Wake = false

-- any event but a power event
abbrev Same : Device → Outcome → Type 0
Same d o = o.device.power ≡ d.power

power-kept : (v : View) (d : Device) (e : Event) → is_power e ≡ false → Same d (respond v d e)
unfolding status_end halt packet_passed
power-kept v d (Request s) n = setup_keeps (λ (x : Device). x.power) (λ on x. refl) (λ w x. refl) (λ state value x. refl) (λ l h t x. refl) v d s
power-kept v d Malformed n = refl
power-kept v d StatusEnd n = chosen (Same d) (eqb d.waiting nothing) (λ p. refl) (λ p. chosen (Same d) (test_waits d) (λ q. refl) (λ q. refl))
power-kept v d (BusReset speed) n = chosen (Same d) (good_reset v.paired speed) (λ p. chosen (λ (x : Device). x.power ≡ d.power) (in_test_mode d) (λ q. refl) (λ q. refl)) (λ p. refl)
power-kept v d (Halt a) n = at (endpoint_at v d a)
  where
    at : (o : Option Endpoint) → Same d (halt_at d o)
    at none = refl
    at (some e) = chosen (Same d) (can_halt e) (λ p. refl) (λ p. refl)
power-kept v d (PacketPassed a) n = at (endpoint_at v d a)
  where
    at : (o : Option Endpoint) → Same d (pass_at d o)
    at none = refl
    at (some e) = chosen (Same d) (can_halt e && not (bit d.halts (bit_of e.address))) (λ p. refl) (λ p. refl)
power-kept v d (Power source) n = absurd (false≢true (sym n))
power-kept v d Suspend n = refl
power-kept v d Resume n = refl
power-kept v d Wake n = chosen (Same d) (eqb d.suspended 1 && eqb d.wakeup 1) (λ p. refl) (λ p. refl)

module _ (b : Board) (ok : accepted b ≡ true) (d : Device) (fit : fits_on b d ≡ true) where
  steps : (e : Event) → step b d e ≡ respond (view_at b d) d e
  unfolding step
  steps e = rw (ok, fit)

  -- "D0 is that byte in every state", of those that allow the request, D1 is wakeup
  pub status_tells : in_address ≤ d.state → in_test_mode d ≡ false → step b d (Request device_status) ≡ gives (TwoBytes (d.power + 2 * d.wakeup) 0) (settled d)
  unfolding answer_setup refusal request get_status first
  status_tells l t = steps (Request device_status) ∙ cases (is_some b.high)
      (λ p. rw (t, p, le-leb 1 d.state l, le-leb d.state 2 (fitting (view_at b d) d fit).common.range.stated))
      (λ p. rw (t, p, le-leb 1 d.state l, le-leb d.state 2 (fitting (view_at b d) d fit).common.range.stated))

  pub bit_zero : (d.power + 2 * d.wakeup) % 2 ≡ d.power
  bit_zero = omega (arith, (fitting (view_at b d) d fit).common.range.powered)

  -- "set by a new power event": "the power event leaves every other byte"
  pub power_sets : (source : ℕ) → source ≤ 1 → step b d (Power source) ≡ done (with_power source d)
  power_sets source l = steps (Power source) ∙ rw (le-leb source 1 l)

  -- "a power event with a value above 1 gets 16"
  pub above_one : (source : ℕ) → 2 ≤ source → step b d (Power source) ≡ refused 16 d
  above_one source l = steps (Power source) ∙ rw (lt-leb source 1 (omega arith))

  -- "a new power event that concerns no interface"
  pub concerns_none : (source : ℕ) → concerns_on b d (Power source) ≡ none
  unfolding concerns
  concerns_none source = cases (eqb d.state in_configured) (λ p. rw p) (λ p. rw p)

  -- "Bus reset keeps it", and so does every other event
  pub only_power : (e : Event) → is_power e ≡ false → (step b d e).device.power ≡ d.power
  only_power e n = ap (λ (o : Outcome). o.device.power) (steps e) ∙ power-kept (view_at b d) d e n

  pub reset_keeps : (speed : ℕ) → (step b d (BusReset speed)).device.power ≡ d.power
  reset_keeps speed = only_power (BusReset speed) refl

-- on the 32 bytes: byte 5 alone becomes another
pub power_image : (b : Board) → accepted b ≡ true → {image : List ℕ} → FitImage b image → (source : ℕ) → source ≤ 1
    → event b image (Power source) ≡ record { answer = Done; image = set image 5 source }
unfolding image_of
power_image b ok {image} f source l =
    ap (λ i. event b i (Power source)) (sym f.back) ∙ on_image b (device_of image) (Power source) f.sized
    ∙ ap reply_of (power_sets b ok (device_of image) f.fit source l)
    ∙ ap (λ i. record { answer = Done; image = set i 5 source }) f.back

-- ---- instances: S, Configured
abbrev own_supply : Device
own_supply = with_power 1 configured

pub tells : step S own_supply (Request device_status) ≡ gives (TwoBytes 1 0) own_supply
unfolding computed
tells = status_tells S accepted_s own_supply refl (omega arith) refl

pub changes : (step S configured (Power 1) ≡ done own_supply) × (step S own_supply (Power 2) ≡ refused 16 own_supply)
unfolding computed
changes = (power_sets S accepted_s configured refl 1 (omega arith), above_one S accepted_s own_supply refl 2 (omega arith))
