-- An event that concerns k or nobody: records that k cannot tell apart get the same answer and stay so. No axiom.
use Rattle.octets.proofs.Vocabulary.{◌≡◌, refl, sym, ap, ◌∙◌, ℕ, ◌+◌, ◌*◌, ◌≤◌, ◌<◌, List, Bool, true, false, ◌&&◌, not, false≢true, Option, some, none, length, get_or, set, eqb, leb, get_or-set_same, arith, eqb-true, eqb-false}
use Rattle.octets.specs.Bit.{bit, flip_bit}
use Rattle.octets.specs.Sentences.{pick, any, only}
use Rattle.octets.proofs.Sentences.{both, any-member, member-any}
use Rattle.descriptors.specs.declared.Endpoint.{Endpoint}
use Rattle.descriptors.specs.Configuration.{Configuration, has_interface, has_setting, current_of, addressed, can_halt, bit_of, cleared, of_either}
use Rattle.sets.specs.View.{View, wakes}
use Rattle.records.specs.declared.Device.{Device}
use Rattle.records.specs.Device.{in_default, in_address, in_configured, nothing, at_high_speed, after_reset, test_waiting, test_waits, in_test_mode, enter_test_mode, settled, with_waiting, with_wakeup, with_power, with_suspended, awake, with_address, with_configuration, with_endpoints}
use Rattle.records.specs.Current.{selected_in, selected, endpoint_at}
use Rattle.requests.specs.declared.Setup.{Setup}
use Rattle.requests.specs.Table.{recipient}
use Rattle.events.specs.declared.facts.Located.{Located}
use Rattle.events.specs.declared.facts.Located.TheVariants.{Body, Serial, Nowhere}
use Rattle.events.specs.declared.Event.{Event}
use Rattle.events.specs.declared.Event.TheVariants.{Request, Malformed, StatusEnd, BusReset, Halt, PacketPassed, Power, Suspend, Resume, Wake}
use Rattle.events.specs.Answer.{Answer, OneByte, TwoBytes, Refused, Outcome, gives, done, refused}
use Rattle.events.specs.Requests.{by_recipient, get_status, endpoint_status, is_endpoint_zero, digit, device_feature, names_test_mode, test_selector, set_test_mode, interface_feature, halt_feature, endpoint_feature, clear_halt, set_halt, clear_feature, set_feature, set_address, locate, describe, get_descriptor, get_configuration, set_configuration, get_interface, with_setting, set_interface}
use Rattle.events.specs.Step.{request, refusal_for, answer_setup, status_end, good_reset, bus_reset, halt_at, halt, pass_at, packet_passed, power, wake, respond}
use Rattle.events.specs.Concerns.{setup_concerns, the_device, subject_of, event_concerns}
use Rattle.sets.specs.Sound.{SoundConfiguration}
use Rattle.laws.specs.Parts.{home, Shared, shared, SameIn, rest, with_common}
use Rattle.laws.proofs.Homes.{AllIn, all_in, found-home, found_alike, set_both, clear_both, flip-both, cleared_both}
use Rattle.laws.proofs.Recipients.{Tabled, table-passes}

-- two choices by equal tests
pick-alike : {A : Type 0} (P : A → A → Type 0) (a b : Bool) → a ≡ b → {x y u w : A} → (a ≡ true → P x u) → (a ≡ false → P y w)
    → P (pick a x y) (pick b u w)
pick-alike P true true e f g = f refl
pick-alike P true false e f g = absurd (false≢true (sym e))
pick-alike P false true e f g = absurd (false≢true e)
pick-alike P false false e f g = g refl

-- sixteen alternates
abbrev Sixteen : Device → Type 0
Sixteen d = length d.alternates ≡ 16

-- a setting's interface exists, and its number is below 16
has-setting : (c : Configuration) → SoundConfiguration c → (j a : ℕ) → has_setting c j a ≡ true → (has_interface c j ≡ true) × (j < 16)
has-setting c S j a p =
    let (x, m, q) = any-member (λ s. eqb s.interface j && eqb s.alternate a) c.settings p in
    let (i, t) = both (eqb x.interface j) (eqb x.alternate a) q in
    (member-any (λ s. eqb s.interface j) m i, rw (← (eqb-true x.interface j i)) (S.interfaces x m))

-- ---- records that k cannot tell apart, and outcomes that it cannot; views: the view at each speed; T: whether the rest is compared too
pub record Near (views : ℕ → View) (T : Type 0) (k : ℕ) (d s : Device) : Type 0 where
  pub part : SameIn (views d.speed) k d s
  pub still : T → rest d ≡ rest s

pub record Alike (views : ℕ → View) (T : Type 0) (k : ℕ) (o p : Outcome) : Type 0 where
  pub answer : o.answer ≡ p.answer
  pub near : Near views T k o.device p.device

module _ (views : ℕ → View) (T : Type 0) (k : ℕ) (d s : Device) (h : Near views T k d s) where
  abbrev v : View
  v = views d.speed

  -- by equal tests, and by one test
  tests : (a b : Bool) → a ≡ b → {x y u w : Outcome} → (a ≡ true → Alike views T k x u) → (a ≡ false → Alike views T k y w)
      → Alike views T k (pick a x y) (pick b u w)
  tests a b e f g = pick-alike (Alike views T k) a b e f g

  test : (a : Bool) {x y u w : Outcome} → (a ≡ true → Alike views T k x u) → (a ≡ false → Alike views T k y w) → Alike views T k (pick a x y) (pick a u w)
  test a f g = tests a a refl f g

  give : {a b : Answer} → a ≡ b → Alike views T k (gives a d) (gives b s)
  give p = record { answer = p; near = h }

  refuse : (n : ℕ) → Alike views T k (refused n d) (refused n s)
  refuse n = give refl

  -- ---- records that differ from them in the same fields
  -- other shared fields and another rest, at the same configuration and view: all that an event does which names no interface and no endpoint
  near-common : {x y : Shared} {u w : ℕ × ℕ} → x ≡ y → x.configuration ≡ d.configuration → eqb x.state in_configured ≡ eqb d.state in_configured → views x.speed ≡ views d.speed → (T → u ≡ w) → Near views T k (with_common x u d) (with_common y w s)
  unfolding home
  near-common p c o view q = record {
    part = record { firm = p; alternate = h.part.alternate; halts = λ e m. h.part.halts e (rw (← c, ← o, ← view) m); toggles = λ e m. h.part.toggles e (rw (← c, ← o, ← view) m) };
    still = q;
  }

  near-waiting : (w : ℕ) → Near views T k (with_waiting w d) (with_waiting w s)
  near-waiting w = near-common h.part.firm refl refl refl (λ t. ap (λ (r : ℕ × ℕ). (w, r.1)) (h.still t))

  near-settled : Near views T k (settled d) (settled s)
  near-settled = near-common h.part.firm refl refl refl (λ t. refl)

  near-suspended : (on : ℕ) → Near views T k (with_suspended on d) (with_suspended on s)
  near-suspended on = near-common h.part.firm refl refl refl (λ t. ap (λ (r : ℕ × ℕ). (r.0, on)) (h.still t))

  near-wakeup : (on : ℕ) → Near views T k (with_wakeup on d) (with_wakeup on s)
  near-wakeup on = near-common (ap (λ (x : Shared). shared (with_wakeup on (with_common x (rest d) d))) h.part.firm) refl refl refl h.still

  near-power : (source : ℕ) → Near views T k (with_power source d) (with_power source s)
  near-power source = near-common (ap (λ (x : Shared). shared (with_power source (with_common x (rest d) d))) h.part.firm) refl refl refl h.still

  near-configuration : (state value : ℕ) → Near views T k (with_configuration state value d) (with_configuration state value s)
  near-configuration state value = record {
    part = record {
      firm = λ i. record {
        state = state;
        address = (h.part.firm i).address;
        configuration = value;
        wakeup = (h.part.firm i).wakeup;
        power = (h.part.firm i).power;
        speed = (h.part.firm i).speed;
      };
      alternate = refl;
      halts = λ e p. refl;
      toggles = λ e p. refl;
    };
    still = h.still;
  }

  near-endpoints : (l m : List ℕ) (b c x y : ℕ) → get_or l k 0 ≡ get_or m k 0 → ((e : ℕ) → home v (shared d) e ≡ k → bit b e ≡ bit c e)
      → ((e : ℕ) → home v (shared d) e ≡ k → bit x e ≡ bit y e) → Near views T k (with_endpoints l b x d) (with_endpoints m c y s)
  near-endpoints l m b c x y p q r = record {
    part = record { firm = h.part.firm; alternate = p; halts = q; toggles = r };
    still = h.still;
  }

  -- ---- what exists is the same
  same-selected : selected v d ≡ selected v s
  same-selected = ap (λ (x : Shared). selected_in v x.state x.configuration) h.part.firm

  -- the tests and answers that hang on the firm fields alone
  interface-test : (j : ℕ) → has_interface (selected v d) j ≡ has_interface (selected v s) j
  interface-test j = ap (λ c. has_interface c j) same-selected

  -- ---- an endpoint of interface k
  module _ (S : SoundConfiguration (selected v d)) (a : ℕ) (w : AllIn (selected v d) a k) where
    endpoint-test : endpoint_at v d a ≡ endpoint_at v s a
    endpoint-test =
        found_alike (selected v d) d.alternates s.alternates a k w h.part.alternate
        ∙ ap (λ c. addressed a (current_of s.alternates c)) same-selected

    endpoint-home : (e : Endpoint) → endpoint_at v d a ≡ some e → home v (shared d) (bit_of e.address) ≡ k
    unfolding home
    endpoint-home e p = found-home (selected v d) S d.alternates a k w e p

    at-endpoint : (P : Option Endpoint → Option Endpoint → Type 0) → P none none
        → ((e : Endpoint) → home v (shared d) (bit_of e.address) ≡ k → P (some e) (some e)) → P (endpoint_at v d a) (endpoint_at v s a)
    at-endpoint P x f = rw (← endpoint-test) (go (endpoint_at v d a) refl)
      where
        go : (o : Option Endpoint) → endpoint_at v d a ≡ o → P o o
        go none p = x
        go (some e) p = f e (endpoint-home e p)

    alike-status : Alike views T k (endpoint_status d (endpoint_at v d a)) (endpoint_status s (endpoint_at v s a))
    alike-status = at-endpoint (λ o p. Alike views T k (endpoint_status d o) (endpoint_status s p)) (refuse 13)
        (λ e p. give (ap (λ t. TwoBytes (digit (can_halt e && t)) 0) (h.part.halts (bit_of e.address) p)))

    alike-feature : (change : Device → ℕ → Device) → ((e : ℕ) → home v (shared d) e ≡ k → Near views T k (change d e) (change s e))
        → (q : Setup) → Alike views T k (halt_feature change d q (endpoint_at v d a)) (halt_feature change s q (endpoint_at v s a))
    alike-feature change f q = at-endpoint (λ o p. Alike views T k (halt_feature change d q o) (halt_feature change s q p)) (refuse 13)
        (λ e p. test (eqb q.wValue 0 && can_halt e)
        (λ t. record { answer = refl; near = f (bit_of e.address) p }) (λ t. refuse 14))

  near-set : (e : ℕ) → home v (shared d) e ≡ k → Near views T k (set_halt d e) (set_halt s e)
  near-set e p = near-endpoints _ _ _ _ _ _ h.part.alternate (λ f q. set_both _ _ e f (h.part.halts f q)) h.part.toggles

  near-clear : (e : ℕ) → home v (shared d) e ≡ k → Near views T k (clear_halt d e) (clear_halt s e)
  near-clear e p = near-endpoints _ _ _ _ _ _ h.part.alternate
      (λ f q. clear_both _ _ e f (h.part.halts f q)) (λ f q. clear_both _ _ e f (h.part.toggles f q))

  abbrev flipped : ℕ → Device → Device
  flipped e r = awake (with_endpoints r.alternates r.halts (flip_bit r.toggles e) r)

  near-flip : (e : ℕ) → Near views T k (flipped e d) (flipped e s)
  near-flip e = record {
    part = record { firm = h.part.firm; alternate = h.part.alternate; halts = h.part.halts; toggles = λ f q. flip-both _ _ e f (h.part.toggles f q) };
    still = λ t. ap (λ (r : ℕ × ℕ). (r.0, 0)) (h.still t);
  }

  -- ---- the function events
  alike-halt : SoundConfiguration (selected v d) → (a : ℕ) → AllIn (selected v d) a k → Alike views T k (halt v d a) (halt v s a)
  unfolding halt
  alike-halt S a w = at-endpoint S a w (λ o p. Alike views T k (halt_at d o) (halt_at s p)) (refuse 16)
      (λ e p. test (can_halt e)
      (λ t. record { answer = refl; near = near-set (bit_of e.address) p }) (λ t. refuse 16))

  alike-pass : SoundConfiguration (selected v d) → (a : ℕ) → AllIn (selected v d) a k → Alike views T k (packet_passed v d a) (packet_passed v s a)
  unfolding packet_passed
  alike-pass S a w = at-endpoint S a w (λ o p. Alike views T k (pass_at d o) (pass_at s p)) (refuse 16)
      (λ e p. tests (passes d e) (passes s e) (ap (λ t. can_halt e && not t) (h.part.halts (bit_of e.address) p))
      (λ t. record { answer = refl; near = near-flip (bit_of e.address) }) (λ t. refuse 16))
    where
      passes : Device → Endpoint → Bool
      passes r e = can_halt e && not (bit r.halts (bit_of e.address))

  -- ---- the requests
  module _ (S : SoundConfiguration (selected v d)) (zd : Sixteen d) (zs : Sixteen s) (q : Setup) (F : Tabled q)
      (w : (j : ℕ) → setup_concerns (selected v d) q ≡ some j → j ≡ k) where
    of-interface : recipient q ≡ 1 → has_interface (selected v d) q.wIndex ≡ true → q.wIndex ≡ k
    of-interface r i = w q.wIndex (rw (r, i))

    of-endpoint : recipient q ≡ 2 → AllIn (selected v d) q.wIndex k
    of-endpoint r = all_in (selected v d) S q.wIndex k (λ j p. w j (rw r p))

    alike-recipient : {x y z a b c : Outcome} → Alike views T k x a → (recipient q ≡ 1 → Alike views T k y b) → (recipient q ≡ 2 → Alike views T k z c)
        → Alike views T k (by_recipient q x y z) (by_recipient q a b c)
    alike-recipient f g i = test (eqb (recipient q) 0) (λ p. f)
        (λ n. test (eqb (recipient q) 1) (λ p. g (eqb-true _ _ p)) (λ m. i (two n m)))
      where
        two : eqb (recipient q) 0 ≡ false → eqb (recipient q) 1 ≡ false → recipient q ≡ 2
        two n m =
            let l : recipient q ≤ 2 = F.known in
            let a : recipient q ≡ 0 → ⊥ = eqb-false _ _ n in
            let b : recipient q ≡ 1 → ⊥ = eqb-false _ _ m in
            omega arith

    alike-get-status : Alike views T k (get_status v d q) (get_status v s q)
    unfolding get_status
    alike-get-status = alike-recipient
        (give (ap (λ (x : Shared). TwoBytes (x.power + 2 * x.wakeup) 0) h.part.firm))
        (λ r. tests _ _ (interface-test q.wIndex) (λ i. give refl) (λ i. refuse 13))
        (λ r. test (is_endpoint_zero q.wIndex) (λ z. give refl) (λ z. alike-status S q.wIndex (of-endpoint r)))

    alike-interface-feature : Alike views T k (interface_feature v d q) (interface_feature v s q)
    alike-interface-feature = tests _ _ (interface-test q.wIndex) (λ i. refuse 14) (λ i. refuse 13)

    alike-endpoint-feature : (change : Device → ℕ → Device) → ((e : ℕ) → home v (shared d) e ≡ k → Near views T k (change d e) (change s e))
        → recipient q ≡ 2 → Alike views T k (endpoint_feature change v d q) (endpoint_feature change v s q)
    alike-endpoint-feature change f r =
        test (is_endpoint_zero q.wIndex) (λ z. refuse 14) (λ z. alike-feature S q.wIndex (of-endpoint r) change f q)

    alike-device-feature : (on : ℕ) → Alike views T k (device_feature on v d q) (device_feature on v s q)
    alike-device-feature on = test (eqb q.wValue 1 && wakes v) (λ p. record { answer = refl; near = near-wakeup on }) (λ p. refuse 14)

    alike-test-mode : Alike views T k (set_test_mode d q) (set_test_mode s q)
    alike-test-mode = tests _ _ (ap (λ (x : Shared). eqb x.speed at_high_speed && leb 1 (test_selector q) && leb (test_selector q) 5) h.part.firm)
        (λ p. record { answer = refl; near = near-waiting (test_waiting (test_selector q)) }) (λ p. refuse 14)

    alike-clear-feature : Alike views T k (clear_feature v d q) (clear_feature v s q)
    unfolding clear_feature
    alike-clear-feature = alike-recipient (alike-device-feature 0) (λ r. alike-interface-feature) (alike-endpoint-feature clear_halt near-clear)

    alike-set-feature : Alike views T k (set_feature v d q) (set_feature v s q)
    unfolding set_feature
    alike-set-feature = alike-recipient (test (names_test_mode v.paired q) (λ p. alike-test-mode) (λ p. alike-device-feature 1)) (λ r. alike-interface-feature) (alike-endpoint-feature set_halt near-set)

    alike-set-address : Alike views T k (set_address v d q) (set_address v s q)
    unfolding set_address
    alike-set-address = record { answer = refl; near = near-waiting q.wValue }

    alike-described : (l : Located) → Alike views T k (describe d q.wLength l) (describe s q.wLength l)
    alike-described (Body offset size) = give refl
    alike-described (Serial size) = give refl
    alike-described Nowhere = refuse 13

    alike-get-descriptor : Alike views T k (get_descriptor v d q) (get_descriptor v s q)
    unfolding get_descriptor
    alike-get-descriptor = alike-described (locate v q)

    alike-get-configuration : Alike views T k (get_configuration v d q) (get_configuration v s q)
    unfolding get_configuration
    alike-get-configuration = give (ap (λ (x : Shared). OneByte x.configuration) h.part.firm)

    alike-set-configuration : Alike views T k (set_configuration v d q) (set_configuration v s q)
    unfolding set_configuration
    alike-set-configuration = test (eqb q.wValue 0) (λ p. record { answer = refl; near = near-configuration in_address 0 })
        (λ p. test (any (λ c. eqb c.value q.wValue) v.configurations)
        (λ t. record { answer = refl; near = near-configuration in_configured q.wValue }) (λ t. refuse 13))

    alike-get-interface : recipient q ≡ 1 → Alike views T k (get_interface v d q) (get_interface v s q)
    unfolding get_interface
    alike-get-interface r = tests _ _ (interface-test q.wIndex)
        (λ i. give (ap OneByte (rw (of-interface r i) h.part.alternate))) (λ i. refuse 13)

    near-setting : q.wIndex ≡ k → q.wIndex < 16 → Near views T k (with_setting v d q.wIndex q.wValue) (with_setting v s q.wIndex q.wValue)
    near-setting p l = near-endpoints _ _ _ _ _ _
        (rw (← p) (chosen d zd ∙ sym (chosen s zs)))
        (λ e m. both-cleared d.halts s.halts e (h.part.halts e m))
        (λ e m. both-cleared d.toggles s.toggles e (h.part.toggles e m))
      where
        chosen : (r : Device) → Sixteen r → get_or (set r.alternates q.wIndex q.wValue) q.wIndex 0 ≡ q.wValue
        chosen r z = get_or-set_same r.alternates q.wIndex q.wValue 0 (rw z l)

        both-settings : Device → List Endpoint
        both-settings r = only (of_either q.wIndex (get_or r.alternates q.wIndex 0) q.wValue) (selected v r).endpoints

        same-settings : both-settings d ≡ both-settings s
        same-settings =
            ap (λ c. only (of_either q.wIndex (get_or d.alternates q.wIndex 0) q.wValue) c.endpoints) same-selected
            ∙ ap (λ x. only (of_either q.wIndex x q.wValue) (selected v s).endpoints) (rw p h.part.alternate)

        both-cleared : (b c e : ℕ) → bit b e ≡ bit c e → bit (cleared (both-settings d) b) e ≡ bit (cleared (both-settings s) c) e
        both-cleared b c e m = cleared_both (both-settings d) b c e m ∙ ap (λ l. bit (cleared l c) e) same-settings

    alike-set-interface : recipient q ≡ 1 → Alike views T k (set_interface v d q) (set_interface v s q)
    unfolding set_interface
    alike-set-interface r = tests (has_setting (selected v d) q.wIndex q.wValue) (has_setting (selected v s) q.wIndex q.wValue)
        (ap (λ c. has_setting c q.wIndex q.wValue) same-selected)
        (λ i.
        let (e, l) = has-setting (selected v d) S q.wIndex q.wValue i in
        record { answer = refl; near = near-setting (of-interface r e) l })
        (λ i. refuse 13)

    alike-request : Alike views T k (request v d q) (request v s q)
    unfolding request
    alike-request =
        test (eqb q.bRequest 0x00) (λ n0. alike-get-status) (λ n0.
        test (eqb q.bRequest 0x01) (λ p. alike-clear-feature) (λ n1.
        test (eqb q.bRequest 0x03) (λ p. alike-set-feature) (λ n3.
        test (eqb q.bRequest 0x05) (λ p. alike-set-address) (λ n5.
        test (eqb q.bRequest 0x06) (λ p. alike-get-descriptor) (λ n6.
        test (eqb q.bRequest 0x08) (λ p. alike-get-configuration) (λ n8.
        test (eqb q.bRequest 0x09) (λ p. alike-set-configuration) (λ n9.
        let r : recipient q ≡ 1 = F.other (rw (n5, n6, n8, n9)) (rw (n0, n1, n3)) in
        test (eqb q.bRequest 0x0A) (λ p. alike-get-interface r) (λ n. alike-set-interface r))))))))

  -- ---- the events of the whole device. What an entered test mode leads to is the view that was in use; an address is taken elsewhere than in Configured
  unconfiguring : (t : Bool) → eqb (pick t in_default in_address) in_configured ≡ false
  unconfiguring true = refl
  unconfiguring false = refl

  alike-status-end : rest d ≡ rest s → (test_waits d ≡ true → views (enter_test_mode d).speed ≡ views d.speed)
      → (eqb d.waiting nothing ≡ false → test_waits d ≡ false → eqb d.state in_configured ≡ false)
      → Alike views T k (status_end d) (status_end s)
  unfolding status_end
  alike-status-end w stays elsewhere = tests (eqb d.waiting nothing) (eqb s.waiting nothing) (ap (λ (r : ℕ × ℕ). eqb r.0 nothing) w)
      (λ p. give refl)
      (λ p. tests (test_waits d) (test_waits s) (ap (λ (r : ℕ × ℕ). leb (test_waiting 1) r.0 && leb r.0 (test_waiting 5)) w)
      (λ t. record { answer = refl; near = near-common (λ i. entered (h.part.firm i) (w i)) refl refl (stays t) (λ t. ap (λ (r : ℕ × ℕ). (nothing, r.1)) w) })
      (λ t. record { answer = refl; near = near-common (λ i. taken (h.part.firm i) (w i)) refl (unconfiguring (eqb d.waiting 0) ∙ sym (elsewhere p t)) refl (λ t. ap (λ (r : ℕ × ℕ). (nothing, r.1)) w) }))
    where
      taken : Shared → ℕ × ℕ → Shared
      taken x r = shared (with_address (pick (eqb r.0 0) in_default in_address) r.0 (with_common x r d))

      entered : Shared → ℕ × ℕ → Shared
      entered x r = shared (enter_test_mode (with_common x r d))

  alike-reset : (speed : ℕ) → Alike views T k (bus_reset v d speed) (bus_reset v s speed)
  alike-reset speed = test (good_reset v.paired speed)
      (λ g. pick-alike (λ x y. Alike views T k (done x) (done y)) (in_test_mode d) (in_test_mode s) (ap (λ (x : Shared). leb 2 x.speed) h.part.firm) (λ t. give refl) (λ t. record {
        answer = refl;
        near = record {
          part = record { firm = ap (λ (x : Shared). shared (after_reset speed (with_common x (rest d) d))) h.part.firm; alternate = refl; halts = λ e p. refl; toggles = λ e p. refl };
          still = λ t. refl;
        };
      }))
      (λ g. refuse 16)

  alike-power : (source : ℕ) → Alike views T k (power d source) (power s source)
  alike-power source = test (leb source 1) (λ p. record { answer = refl; near = near-power source }) (λ p. refuse 16)

  alike-suspended : (on : ℕ) → Alike views T k (done (with_suspended on d)) (done (with_suspended on s))
  alike-suspended on = record { answer = refl; near = near-suspended on }

  alike-wake : rest d ≡ rest s → Alike views T k (wake d) (wake s)
  alike-wake w = tests (eqb d.suspended 1 && eqb d.wakeup 1) (eqb s.suspended 1 && eqb s.wakeup 1)
      (λ i. eqb (w i).1 1 && eqb (h.part.firm i).wakeup 1) (λ p. give refl) (λ p. refuse 19)

alike-setup : (views : ℕ → View) (T : Type 0) (k : ℕ) (d s : Device) → Near views T k d s → SoundConfiguration (selected (views d.speed) d) → Sixteen d → Sixteen s
    → (q : Setup) → ((j : ℕ) → setup_concerns (selected (views d.speed) d) q ≡ some j → j ≡ k) → Alike views T k (answer_setup (views d.speed) d q) (answer_setup (views d.speed) s q)
unfolding answer_setup
alike-setup views T k d s h S zd zs q w =
    pick-alike (Alike views T k) (in_test_mode d) (in_test_mode s) (ap (λ (x : Shared). leb 2 x.speed) h.part.firm) (λ t. record { answer = refl; near = both-settled })
    (λ t. pick-alike (Alike views T k) (eqb (refusal_for two d q) 0) (eqb (refusal_for two s q) 0) (ap (λ n. eqb n 0) same-refusal)
    (λ p. alike-request views T k (settled d) (settled s) both-settled S zd zs q (table-passes two d q (eqb-true _ _ p)) w)
    (λ p. record { answer = ap Refused same-refusal; near = both-settled }))
  where
    two : Bool
    two = (views d.speed).paired

    same-refusal : refusal_for two d q ≡ refusal_for two s q
    same-refusal = ap (λ (x : Shared). refusal_for two (with_common x (rest d) d) q) h.part.firm

    both-settled : Near views T k (settled d) (settled s)
    both-settled = near-settled views T k d s h

-- every event that concerns k or nobody; one that is the whole device's may read the rest
pub alike-event : (views : ℕ → View) (T : Type 0) (k : ℕ) (d s : Device) (e : Event) → SoundConfiguration (selected (views d.speed) d) → Sixteen d → Sixteen s
    → ((j : ℕ) → event_concerns (selected (views d.speed) d) e ≡ some j → j ≡ k) → (subject_of e ≡ the_device → T)
    → (test_waits d ≡ true → views (enter_test_mode d).speed ≡ views d.speed) → (eqb d.waiting nothing ≡ false → test_waits d ≡ false → eqb d.state in_configured ≡ false)
    → Near views T k d s → Alike views T k (respond (views d.speed) d e) (respond (views d.speed) s e)
alike-event views T k d s (Request q) S zd zs w t n m h = alike-setup views T k d s h S zd zs q w
alike-event views T k d s Malformed S zd zs w t n m h = refuse views T k d s h 9
alike-event views T k d s StatusEnd S zd zs w t n m h = alike-status-end views T k d s h (h.still (t refl)) n m
alike-event views T k d s (BusReset speed) S zd zs w t n m h = alike-reset views T k d s h speed
alike-event views T k d s (Halt a) S zd zs w t n m h = alike-halt views T k d s h S a (all_in (selected (views d.speed) d) S a k w)
alike-event views T k d s (PacketPassed a) S zd zs w t n m h = alike-pass views T k d s h S a (all_in (selected (views d.speed) d) S a k w)
alike-event views T k d s (Power source) S zd zs w t n m h = alike-power views T k d s h source
alike-event views T k d s Suspend S zd zs w t n m h = alike-suspended views T k d s h 1
alike-event views T k d s Resume S zd zs w t n m h = alike-suspended views T k d s h 0
alike-event views T k d s Wake S zd zs w t n m h = alike-wake views T k d s h (h.still (t refl))
