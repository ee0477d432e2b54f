-- Test mode, sentence by sentence (L7), for every accepted board and every record that fits. No axiom.
use Rattle.std.specs.Prelude.{ℕ, ◌≡◌, refl, ◌⊎◌, true, ◌&&◌, ◌||◌, not, eqb, leb}
use Rattle.std.proofs.Common.{arith, sym, ap, ◌∙◌, inl, inr}
use Rattle.std.proofs.Math.Option.{Option, some, none}
use Rattle.std.proofs.lemmas.Bool.{false≢true}
use borrow.Author.Tests.{eqb-true, eq-eqb, ne_eqb, leb-true}
use Rattle.octets.specs.Bit.{bit}
use Rattle.octets.proofs.Sentences.{cases, both, either}
use Rattle.descriptors.specs.declared.Endpoint.{Endpoint}
use Rattle.descriptors.specs.Configuration.{can_halt, bit_of}
use Rattle.sets.specs.Opening.{Board}
use Rattle.sets.specs.View.{View, accepted}
use Rattle.records.specs.declared.Device.{Device}
use Rattle.records.specs.Device.{nothing, at_high_speed, test_waits, in_test_mode, enter_test_mode, awake, with_waiting, with_speed}
use Rattle.records.specs.Current.{view_at, endpoint_at}
use Rattle.records.specs.Fits.{fits_on}
use Rattle.requests.specs.declared.Setup.{Setup}
use Rattle.requests.specs.Table.{setup_of}
use Rattle.events.specs.declared.Event.{Event}
use Rattle.events.specs.declared.Event.TheVariants.{Request, Malformed, StatusEnd, BusReset, Halt, PacketPassed, Power, Suspend, Resume, Wake}
use Rattle.events.specs.Answer.{Outcome, number_of, done, refused}
use Rattle.events.specs.Step.{answer_setup, status_end, good_reset, halt_at, halt, pass_at, packet_passed, respond, step}
use Rattle.laws.proofs.Fitting.{fitting}
use Rattle.laws.proofs.Outcomes.{chosen}
use Rattle.laws.specs.Parts.{drops}
use Rattle.promises.specs.Refusal.{allows_fit}
use Rattle.promises.specs.Refusals.{not_own, step_number}
use Rattle.promises.specs.Examples.{computed, bytes}
use Rattle.promises.specs.Bench.{configured, setup}
use Rattle.promises.specs.Pairs.{pair, accepted_pair}

speed-kept : (v : View) (d : Device) → in_test_mode d ≡ true → d.waiting ≡ nothing → (e : Event) → (respond v d e).device.speed ≡ d.speed
unfolding answer_setup status_end halt packet_passed
speed-kept v d t w (Request s) = rw t
speed-kept v d t w Malformed = refl
speed-kept v d t w StatusEnd = rw (eq-eqb d.waiting nothing w)
speed-kept v d t w (BusReset speed) = cases (good_reset v.paired speed) (λ p. rw (p, t)) (λ p. rw p)
speed-kept v d t w (Halt a) = at (endpoint_at v d a)
  where
    at : (o : Option Endpoint) → (halt_at d o).device.speed ≡ d.speed
    at none = refl
    at (some e) = chosen (λ (o : Outcome). o.device.speed ≡ d.speed) (can_halt e) (λ p. refl) (λ p. refl)
speed-kept v d t w (PacketPassed a) = at (endpoint_at v d a)
  where
    at : (o : Option Endpoint) → (pass_at d o).device.speed ≡ d.speed
    at none = refl
    at (some e) = chosen (λ (o : Outcome). o.device.speed ≡ d.speed) (can_halt e && not (bit d.halts (bit_of e.address))) (λ p. refl) (λ p. refl)
speed-kept v d t w (Power source) = chosen (λ (o : Outcome). o.device.speed ≡ d.speed) (leb source 1) (λ p. refl) (λ p. refl)
speed-kept v d t w Suspend = refl
speed-kept v d t w Resume = refl
speed-kept v d t w Wake = chosen (λ (o : Outcome). o.device.speed ≡ d.speed) (eqb d.suspended 1 && eqb d.wakeup 1) (λ p. refl) (λ p. refl)

abbrev waiting : Device
waiting = with_waiting 132 (with_speed 1 configured)

abbrev entered : Device
entered = with_speed 65 configured

abbrev device : Event
device = setup 0x8006000100004000

module _ (b : Board) (ok : accepted b ≡ true) (d : Device) (fit : fits_on b d ≡ true) where
  steps : (e : Event) → step b d e ≡ respond (view_at b d) d e
  unfolding step
  steps e = rw (ok, fit)

  -- ---- waiting: "It waits for the status end", which enters it: the state, the address and the configuration stay
  pub enters_at_end : test_waits d ≡ true → step b d StatusEnd ≡ done (enter_test_mode d)
  unfolding status_end
  enters_at_end t =
      let n = leb-true d.waiting 133 (both (leb 129 d.waiting) (leb d.waiting 133) t).1 in
      steps StatusEnd ∙ (rw (ne_eqb d.waiting nothing (λ p. omega arith), t))

  -- ---- entered
  module _ (t : in_test_mode d ≡ true) where
    -- "a record fits only if nothing waits then"
    pub nothing_waits : d.waiting ≡ nothing
    nothing_waits = go (either (eqb d.waiting nothing || (leb d.waiting 127 && not (in_test_mode d))) (test_waits d && eqb d.speed at_high_speed) (fitting (view_at b d) d fit).common.waiting)
      where
        low : (eqb d.waiting nothing ≡ true) ⊎ ((leb d.waiting 127 && not (in_test_mode d)) ≡ true) → d.waiting ≡ nothing
        low (inl p) = eqb-true d.waiting nothing p
        low (inr p) = absurd (false≢true (sym (ap not t) ∙ (both (leb d.waiting 127) (not (in_test_mode d)) p).1))

        go : ((eqb d.waiting nothing || (leb d.waiting 127 && not (in_test_mode d))) ≡ true) ⊎ ((test_waits d && eqb d.speed at_high_speed) ≡ true) → d.waiting ≡ nothing
        go (inl p) = low (either (eqb d.waiting nothing) (leb d.waiting 127 && not (in_test_mode d)) p)
        go (inr p) = absurd (let o = eqb-true d.speed at_high_speed (both (test_waits d) (eqb d.speed at_high_speed) p).1 in let l = leb-true 2 d.speed t in omega arith)

    -- "17 any 8-byte setup": it changes nothing, but that it clears byte 6 (L12)
    pub refuses_setups : (s : Setup) → step b d (Request s) ≡ refused 17 (awake d)
    unfolding answer_setup
    refuses_setups s = steps (Request s) ∙ (rw t (ap (λ w. refused 17 (awake (with_waiting w d))) (sym nothing_waits)))

    -- "a valid bus reset then gives 0 and changes nothing"
    pub stays_at_reset : (speed : ℕ) → good_reset (view_at b d).paired speed ≡ true → step b d (BusReset speed) ≡ done d
    stays_at_reset speed g = steps (BusReset speed) ∙ (rw (g, t))

    -- "and only power-on ends it": no event changes byte 7
    pub only_power_on : (e : Event) → (step b d e).device.speed ≡ d.speed
    only_power_on e = ap (λ (o : Outcome). o.device.speed) (steps e) ∙ speed-kept (view_at b d) d t nothing_waits e

  -- 17 is given nowhere else
  pub only_in_test : (e : Event) → number_of (step b d e).answer ≡ 17 → in_test_mode d ≡ true
  only_in_test e p =
      let allowed : allows_fit d e 17 ≡ true = rw (p, ok, fit) at (step_number b d e) in
      cases (in_test_mode d && drops e) (λ t. (both (in_test_mode d) (drops e) t).0) (λ t. absurd (not_own 17 refl refl refl refl refl e (rw t at allowed)))

-- ---- instances: on the pair, test mode 4 waits in Configured and is entered; then a setup gets 17
pub waits_enters : (step pair waiting StatusEnd ≡ done entered) × (step pair entered device ≡ refused 17 entered)
unfolding computed
waits_enters = (enters_at_end pair accepted_pair waiting refl refl, refuses_setups pair accepted_pair entered refl refl (setup_of (bytes 8 0x8006000100004000)))
