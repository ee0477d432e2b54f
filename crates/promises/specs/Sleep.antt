-- Sleeping, sentence by sentence (L12), for every accepted board and every record that fits. No axiom.
use Rattle.std.specs.Prelude.{ℕ, ◌≡◌, ◌⊎◌, true, ◌&&◌, leb}
use Rattle.std.proofs.Math.Path.{refl, ap}
use Rattle.std.proofs.Common.{sym, ◌∙◌, inl, inr, arith, eqb-true, eq-eqb}
use Rattle.std.proofs.Math.Option.{Option, some, none}
use Rattle.std.proofs.Math.Bool.{not}
use Rattle.std.proofs.Math.Dec.{eqb}
use Rattle.octets.specs.Bit.{bit}
use Rattle.octets.specs.Sentences.{pick}
use Rattle.octets.proofs.Sentences.{cases, both, joined}
use Rattle.descriptors.specs.declared.Endpoint.{Endpoint}
use Rattle.descriptors.specs.Configuration.{can_halt, bit_of}
use Rattle.sets.specs.Opening.{Board}
use Rattle.sets.specs.View.{View, accepted}
use Rattle.records.specs.declared.Device.{Device}
use Rattle.records.specs.Device.{nothing, test_waits, in_test_mode, awake, with_suspended, with_wakeup}
use Rattle.records.specs.Current.{view_at, endpoint_at}
use Rattle.records.specs.Fits.{fits_on}
use Rattle.requests.specs.declared.Setup.{Setup}
use Rattle.events.specs.declared.Event.{Event}
use Rattle.events.specs.declared.Event.TheVariants.{Request, Malformed, StatusEnd, BusReset, Halt, PacketPassed, Power, Suspend, Resume, Wake}
use Rattle.events.specs.Answer.{Outcome, number_of, done, refused}
use Rattle.events.specs.Step.{status_end, good_reset, halt_at, halt, pass_at, packet_passed, respond, step}
use Rattle.laws.proofs.Outcomes.{chosen}
use Rattle.promises.specs.Examples.{computed, T}
use Rattle.promises.specs.Inhabited.{accepted_t, configured}
use Rattle.promises.specs.Kept.{setup_keeps}

-- ---- byte 6 after an event: all that sets or clears it. "Suspend sets it; resume, bus reset outside test mode, any setup past 7 to 9 and any accepted packet
-- passed event clear it; a function halt does not."
abbrev pub sleep_after : Board → Device → Event → ℕ
sleep_after b d (Request s) = 0
sleep_after b d Malformed = d.suspended
sleep_after b d StatusEnd = d.suspended
sleep_after b d (BusReset speed) = pick (good_reset (view_at b d).paired speed && not (in_test_mode d)) 0 d.suspended
sleep_after b d (Halt a) = d.suspended
sleep_after b d (PacketPassed a) = pick (eqb (number_of (step b d (PacketPassed a)).answer) 0) 0 d.suspended
sleep_after b d (Power source) = d.suspended
sleep_after b d Suspend = 1
sleep_after b d Resume = 0
sleep_after b d Wake = d.suspended

abbrev Still : Device → Outcome → Type 0
Still d o = o.device.suspended ≡ d.suspended

module _ (b : Board) (ok : accepted b ≡ true) (d : Device) (fit : fits_on b d ≡ true) where
  abbrev v : View
  v = view_at b d

  steps : (e : Event) → step b d e ≡ respond v d e
  unfolding step
  steps e = rw (ok, fit)

  by-reset : (speed : ℕ) → (respond v d (BusReset speed)).device.suspended ≡ pick (good_reset v.paired speed && not (in_test_mode d)) 0 d.suspended
  by-reset speed = cases (good_reset v.paired speed) (λ p. cases (in_test_mode d) (λ q. rw (p, q)) (λ q. rw (p, q))) (λ p. rw p)

  by-halt : (a : ℕ) → Still d (halt v d a)
  unfolding halt
  by-halt a = at (endpoint_at v d a)
    where
      at : (o : Option Endpoint) → Still d (halt_at d o)
      at none = refl
      at (some e) = chosen (Still d) (can_halt e) (λ p. refl) (λ p. refl)

  by-pass : (a : ℕ) → (packet_passed v d a).device.suspended ≡ pick (eqb (number_of (packet_passed v d a).answer) 0) 0 d.suspended
  unfolding packet_passed
  by-pass a = at (endpoint_at v d a)
    where
      at : (o : Option Endpoint) → (pass_at d o).device.suspended ≡ pick (eqb (number_of (pass_at d o).answer) 0) 0 d.suspended
      at none = refl
      at (some e) = chosen (λ (o : Outcome). o.device.suspended ≡ pick (eqb (number_of o.answer) 0) 0 d.suspended) (can_halt e && not (bit d.halts (bit_of e.address))) (λ p. refl) (λ p. refl)

  pub sleep_byte : (e : Event) → (step b d e).device.suspended ≡ sleep_after b d e
  unfolding status_end
  sleep_byte (Request s) = ap (λ (o : Outcome). o.device.suspended) (steps (Request s))
      ∙ setup_keeps (λ (x : Device). x.suspended) (λ on x. refl) (λ w x. refl) (λ state value x. refl) (λ l h t x. refl) v d s
  sleep_byte Malformed = ap (λ (o : Outcome). o.device.suspended) (steps Malformed)
  sleep_byte StatusEnd = ap (λ (o : Outcome). o.device.suspended) (steps StatusEnd)
      ∙ chosen (Still d) (eqb d.waiting nothing) (λ p. refl) (λ p. chosen (Still d) (test_waits d) (λ q. refl) (λ q. refl))
  sleep_byte (BusReset speed) = ap (λ (o : Outcome). o.device.suspended) (steps (BusReset speed)) ∙ by-reset speed
  sleep_byte (Halt a) = ap (λ (o : Outcome). o.device.suspended) (steps (Halt a)) ∙ by-halt a
  sleep_byte (PacketPassed a) = ap (λ (o : Outcome). o.device.suspended) (steps (PacketPassed a)) ∙ by-pass a
      ∙ ap (λ (o : Outcome). pick (eqb (number_of o.answer) 0) 0 d.suspended) (sym (steps (PacketPassed a)))
  sleep_byte (Power source) = ap (λ (o : Outcome). o.device.suspended) (steps (Power source)) ∙ chosen (Still d) (leb source 1) (λ p. refl) (λ p. refl)
  sleep_byte Suspend = ap (λ (o : Outcome). o.device.suspended) (steps Suspend)
  sleep_byte Resume = ap (λ (o : Outcome). o.device.suspended) (steps Resume)
  sleep_byte Wake = ap (λ (o : Outcome). o.device.suspended) (steps Wake) ∙ chosen (Still d) (eqb d.suspended 1 && eqb d.wakeup 1) (λ p. refl) (λ p. refl)

  -- suspend and resume leave all else
  pub suspends : step b d Suspend ≡ done (with_suspended 1 d)
  suspends = steps Suspend

  pub resumes : step b d Resume ≡ done (awake d)
  resumes = steps Resume

  -- "Setups refused with 10 to 14 now also clear byte 6, and so does 17": whatever a setup is answered
  pub setup_wakes : (s : Setup) → (step b d (Request s)).device.suspended ≡ 0
  setup_wakes s = sleep_byte (Request s)

  -- ---- "A wake event succeeds exactly if the device is suspended and wakeup is on"
  pub wake_exactly : (number_of (step b d Wake).answer ≡ 0 → (d.suspended ≡ 1) × (d.wakeup ≡ 1)) × ((d.suspended ≡ 1) × (d.wakeup ≡ 1) → step b d Wake ≡ done d)
  wake_exactly = (
    λ z. cases (eqb d.suspended 1 && eqb d.wakeup 1)
        (λ p. let (s, w) = both (eqb d.suspended 1) (eqb d.wakeup 1) p in (eqb-true _ _ s, eqb-true _ _ w))
        (λ p. absurd (let n : ◌≡◌ {A = ℕ} 19 0 = sym (ap (λ (o : Outcome). number_of o.answer) (steps Wake) ∙ rw p) ∙ z in omega arith)),
    λ (s, w). steps Wake ∙ rw (joined (eq-eqb d.suspended 1 s) (eq-eqb d.wakeup 1 w)),
  )

  -- "and changes nothing by itself"; "19 wake not allowed, nothing changed"
  pub wake_or19 : (step b d Wake ≡ done d) ⊎ (step b d Wake ≡ refused 19 d)
  wake_or19 = cases (eqb d.suspended 1 && eqb d.wakeup 1) (λ p. inl (steps Wake ∙ rw p)) (λ p. inr (steps Wake ∙ rw p))

-- ---- instances: T sleeps, and may wake its host only with wakeup on
abbrev asleep : Device
asleep = with_suspended 1 configured

pub may_wake : (step T (with_wakeup 1 asleep) Wake ≡ done (with_wakeup 1 asleep)) × (step T asleep Wake ≡ refused 19 asleep)
unfolding computed
may_wake = ((wake_exactly T accepted_t (with_wakeup 1 asleep) refl).1 (refl, refl), refl)

pub pass_wakes : (step T asleep (PacketPassed 0x81)).device.suspended ≡ 0
unfolding computed
pass_wakes = sleep_byte T accepted_t asleep refl (PacketPassed 0x81)
