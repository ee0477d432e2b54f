-- What no setup changes: any reading of the record that stays under the changes which requests make (wakeup, what waits, the configuration, and an
-- interface's setting, halts and toggles) is after a setup what it is of the settled record. No axiom.
use Rattle.std.specs.Prelude.{ℕ, ◌≡◌, List, ◌&&◌, leb}
use Rattle.std.proofs.Math.Path.{refl}
use Rattle.std.proofs.Math.Option.{Option, some, none}
use Rattle.std.proofs.Math.Dec.{eqb}
use Rattle.octets.specs.Sentences.{any}
use Rattle.descriptors.specs.declared.Endpoint.{Endpoint}
use Rattle.descriptors.specs.Configuration.{has_interface, has_setting, can_halt, bit_of}
use Rattle.sets.specs.View.{View, wakes}
use Rattle.records.specs.declared.Device.{Device}
use Rattle.records.specs.Device.{at_high_speed, in_test_mode, settled, with_waiting, with_wakeup, with_configuration, with_endpoints}
use Rattle.records.specs.Current.{selected, endpoint_at}
use Rattle.requests.specs.declared.Setup.{Setup}
use Rattle.requests.specs.Table.{recipient}
use Rattle.events.specs.declared.facts.Located.{Located}
use Rattle.events.specs.declared.facts.Located.TheVariants.{Body, Serial, Nowhere}
use Rattle.events.specs.Answer.{Outcome}
use Rattle.events.specs.Requests.{by_recipient, is_endpoint_zero, device_feature, names_test_mode, test_selector, set_device_feature, interface_feature, endpoint_feature, endpoint_status, halt_feature, clear_halt, set_halt, locate, describe, get_status, clear_feature, set_feature, set_address, get_descriptor, get_configuration, set_configuration, get_interface, set_interface}
use Rattle.events.specs.Step.{request, refusal_for, answer_setup}
use Rattle.laws.proofs.Outcomes.{chosen}

module _ {A : Type 0} (read : Device → A) (wakeups : (on : ℕ) (d : Device) → read (with_wakeup on d) ≡ read d) (waits : (w : ℕ) (d : Device) → read (with_waiting w d) ≡ read d)
    (configures : (state value : ℕ) (d : Device) → read (with_configuration state value d) ≡ read d)
    (stands : (l : List ℕ) (h t : ℕ) (d : Device) → read (with_endpoints l h t d) ≡ read d) where
  module _ (v : View) (d : Device) (s : Setup) where
    abbrev Kept : Outcome → Type 0
    Kept o = read o.device ≡ read d

    status : Kept (get_status v d s)
    unfolding get_status
    status = chosen Kept (eqb (recipient s) 0) (λ e. refl) (λ e. chosen Kept (eqb (recipient s) 1)
        (λ e. chosen Kept (has_interface (selected v d) s.wIndex) (λ e. refl) (λ e. refl))
        (λ e. chosen Kept (is_endpoint_zero s.wIndex) (λ e. refl) (λ e. at (endpoint_at v d s.wIndex))))
      where
        at : (o : Option Endpoint) → Kept (endpoint_status d o)
        at none = refl
        at (some e) = refl

    of-device : (on : ℕ) → Kept (device_feature on v d s)
    of-device on = chosen Kept (eqb s.wValue 1 && wakes v) (λ e. wakeups on d) (λ e. refl)

    test-mode : Kept (set_device_feature v d s)
    test-mode = chosen Kept (names_test_mode v.paired s)
        (λ e. chosen Kept (eqb d.speed at_high_speed && leb 1 (test_selector s) && leb (test_selector s) 5) (λ e. waits _ d) (λ e. refl)) (λ e. of-device 1)

    feature : (change : Device → ℕ → Device) → ((k : ℕ) → read (change d k) ≡ read d) → (device : Outcome) → Kept device
        → Kept (by_recipient s device (interface_feature v d s) (endpoint_feature change v d s))
    feature change c device kept = chosen Kept (eqb (recipient s) 0) (λ e. kept)
        (λ e. chosen Kept (eqb (recipient s) 1)
        (λ e. chosen Kept (has_interface (selected v d) s.wIndex) (λ e. refl) (λ e. refl))
        (λ e. chosen Kept (is_endpoint_zero s.wIndex) (λ e. refl) (λ e. at (endpoint_at v d s.wIndex))))
      where
        at : (o : Option Endpoint) → Kept (halt_feature change d s o)
        at none = refl
        at (some x) = chosen Kept (eqb s.wValue 0 && can_halt x) (λ e. c (bit_of x.address)) (λ e. refl)

    descriptor : Kept (get_descriptor v d s)
    unfolding get_descriptor
    descriptor = at (locate v s)
      where
        at : (l : Located) → Kept (describe d s.wLength l)
        at (Body offset size) = refl
        at (Serial size) = refl
        at Nowhere = refl

    configuration : Kept (set_configuration v d s)
    unfolding set_configuration
    configuration = chosen Kept (eqb s.wValue 0) (λ e. configures _ _ d)
        (λ e. chosen Kept (any (λ c. eqb c.value s.wValue) v.configurations) (λ e. configures _ _ d) (λ e. refl))

    of-request : Kept (request v d s)
    unfolding request clear_feature set_feature set_address get_configuration get_interface set_interface
    of-request =
        chosen Kept (eqb s.bRequest 0x00) (λ e. status)
        (λ e. chosen Kept (eqb s.bRequest 0x01) (λ e. feature clear_halt (λ k. stands _ _ _ d) (device_feature 0 v d s) (of-device 0))
        (λ e. chosen Kept (eqb s.bRequest 0x03) (λ e. feature set_halt (λ k. stands _ _ _ d) (set_device_feature v d s) test-mode)
        (λ e. chosen Kept (eqb s.bRequest 0x05) (λ e. waits _ d)
        (λ e. chosen Kept (eqb s.bRequest 0x06) (λ e. descriptor)
        (λ e. chosen Kept (eqb s.bRequest 0x08) (λ e. refl)
        (λ e. chosen Kept (eqb s.bRequest 0x09) (λ e. configuration)
        (λ e. chosen Kept (eqb s.bRequest 0x0A) (λ e. chosen Kept (has_interface (selected v d) s.wIndex) (λ e. refl) (λ e. refl))
        (λ e. chosen Kept (has_setting (selected v d) s.wIndex s.wValue) (λ e. stands _ _ _ d) (λ e. refl)))))))))

  pub setup_keeps : (v : View) (d : Device) (s : Setup) → read (answer_setup v d s).device ≡ read (settled d)
  unfolding answer_setup
  setup_keeps v d s = chosen (λ (o : Outcome). read o.device ≡ read (settled d)) (in_test_mode d) (λ t. refl)
      (λ t. chosen (λ (o : Outcome). read o.device ≡ read (settled d)) (eqb (refusal_for v.paired d s) 0) (λ e. of-request v (settled d) s) (λ e. refl))
