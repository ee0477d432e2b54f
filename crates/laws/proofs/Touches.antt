-- An event that concerns interface j changes j's part alone, once it has settled what it settles. No axiom.
use Rattle.octets.proofs.Vocabulary.{◌≡◌, refl, sym, ap, ◌∙◌, ℕ, List, List-as-Memᴰ, Bool, true, false, ◌&&◌, not, Option, some, none, Option·some-injective, ◌⊎◌, inl, inr, get_or, set, eqb, get_or-set_other, arith, eqb-true}
use Rattle.octets.specs.Bit.{bit, flip_bit}
use Rattle.octets.specs.Sentences.{pick, only}
use Rattle.octets.proofs.Sentences.{both, only-member}
use Rattle.octets.proofs.Bits.{set_other, clear-other, flip-other}
use Rattle.descriptors.specs.declared.Endpoint.{Endpoint}
use Rattle.descriptors.specs.Configuration.{Configuration, has_interface, has_setting, can_halt, bit_of, of_either}
use Rattle.sets.specs.View.{View}
use Rattle.records.specs.declared.Device.{Device}
use Rattle.records.specs.Device.{in_test_mode, awake, settled, with_endpoints}
use Rattle.records.specs.Current.{selected, endpoint_at}
use Rattle.requests.specs.declared.Setup.{Setup}
use Rattle.requests.specs.Table.{recipient}
use Rattle.events.specs.Answer.{Outcome}
use Rattle.events.specs.declared.Event.{Event}
use Rattle.events.specs.declared.Event.TheVariants.{Request, Malformed, StatusEnd, BusReset, Halt, PacketPassed, Power, Suspend, Resume, Wake}
use Rattle.events.specs.Requests.{get_status, endpoint_status, is_endpoint_zero, interface_feature, halt_feature, endpoint_feature, clear_halt, set_halt, clear_feature, set_feature, get_interface, with_setting, set_interface}
use Rattle.events.specs.Step.{request, refusal_for, answer_setup, halt_at, halt, pass_at, packet_passed, respond}
use Rattle.events.specs.Concerns.{listed_by, setup_concerns, event_concerns}
use Rattle.sets.specs.Sound.{SoundConfiguration}
use Rattle.laws.specs.Parts.{home, home_in, shared, SameIn, rest, settled_by, kind}
use Rattle.laws.proofs.Same.{self}
use Rattle.laws.proofs.Outcomes.{chosen}
use Rattle.laws.proofs.Homes.{AllIn, all_in, at_home, found-home, cleared-other}
use Rattle.laws.proofs.Recipients.{of_device, Tabled, table-passes}

-- x differs from d in j's part alone
pub record Touches (v : View) (j : ℕ) (d x : Device) : Type 0 where
  pub still : rest x ≡ rest d
  pub others : (k : ℕ) → (j ≡ k → ⊥) → SameIn v k x d

module _ (v : View) (j : ℕ) (d : Device) where
  touch-none : (x : Device) → x ≡ d → Touches v j d x
  touch-none x p = rw p (record { still = refl; others = λ k n. self v k d })

  touch-endpoints : (l : List ℕ) (b t : ℕ) → ((k : ℕ) → (j ≡ k → ⊥) → get_or l k 0 ≡ get_or d.alternates k 0)
      → ((e : ℕ) → (home v (shared d) e ≡ j → ⊥) → bit b e ≡ bit d.halts e)
      → ((e : ℕ) → (home v (shared d) e ≡ j → ⊥) → bit t e ≡ bit d.toggles e) → Touches v j d (with_endpoints l b t d)
  touch-endpoints l b t p q r = record {
    still = refl;
    others = λ k n. record { firm = refl; alternate = p k n; halts = λ e m. q e (λ o. n (sym o ∙ m)); toggles = λ e m. r e (λ o. n (sym o ∙ m)) };
  }

  module _ (e : ℕ) (p : home v (shared d) e ≡ j) where
    other-bit : (f : ℕ) → (home v (shared d) f ≡ j → ⊥) → e ≡ f → ⊥
    other-bit f n q = n (ap (home v (shared d)) (sym q) ∙ p)

    touch-set : Touches v j d (set_halt d e)
    touch-set = touch-endpoints _ _ _ (λ k n. refl) (λ f n. set_other _ e f (other-bit f n)) (λ f n. refl)

    touch-clear : Touches v j d (clear_halt d e)
    touch-clear = touch-endpoints _ _ _ (λ k n. refl) (λ f n. clear-other _ e f (other-bit f n)) (λ f n. clear-other _ e f (other-bit f n))

    touch-flip : Touches v j d (with_endpoints d.alternates d.halts (flip_bit d.toggles e) d)
    touch-flip = touch-endpoints _ _ _ (λ k n. refl) (λ f n. refl) (λ f n. flip-other _ e f (other-bit f n))

  abbrev After : Outcome → Type 0
  After o = Touches v j d o.device

  module _ (S : SoundConfiguration (selected v d)) where
    -- at the current endpoint with an address that j lists
    touch-at : (a : ℕ) → AllIn (selected v d) a j → (P : Option Endpoint → Type 0) → P none
        → ((e : Endpoint) → home v (shared d) (bit_of e.address) ≡ j → P (some e)) → P (endpoint_at v d a)
    unfolding home
    touch-at a w P x f = go (endpoint_at v d a) refl
      where
        go : (o : Option Endpoint) → endpoint_at v d a ≡ o → P o
        go none p = x
        go (some e) p = f e (found-home (selected v d) S d.alternates a j w e p)

    touch-halt : (a : ℕ) → AllIn (selected v d) a j → Touches v j d (halt v d a).device
    unfolding halt
    touch-halt a w = touch-at a w (λ o. Touches v j d (halt_at d o).device) (touch-none d refl)
        (λ e p. chosen After (can_halt e) (λ t. touch-set (bit_of e.address) p) (λ t. touch-none d refl))

    touch-feature : (change : Device → ℕ → Device) → ((e : ℕ) → home v (shared d) e ≡ j → Touches v j d (change d e))
        → (q : Setup) → AllIn (selected v d) q.wIndex j → Touches v j d (endpoint_feature change v d q).device
    touch-feature change f q w = chosen After (is_endpoint_zero q.wIndex) (λ z. touch-none d refl)
        (λ z. touch-at q.wIndex w (λ o. Touches v j d (halt_feature change d q o).device) (touch-none d refl)
        (λ e p. chosen After (eqb q.wValue 0 && can_halt e) (λ t. f (bit_of e.address) p) (λ t. touch-none d refl)))

    -- SET_INTERFACE: every endpoint of the old and the new setting stands in j
    touch-setting : (a : ℕ) → Touches v j d (with_setting v d j a)
    unfolding home
    touch-setting a = touch-endpoints _ _ _ (λ k n. get_or-set_other d.alternates j k a 0 (λ p. n (sym p)))
        (λ e n. cleared-other _ d.halts e (away e n)) (λ e n. cleared-other _ d.toggles e (away e n))
      where
        away : (e : ℕ) → (home_in (selected v d) e ≡ j → ⊥)
            → (x : Endpoint) → List-as-Memᴰ x (only (of_either j (get_or d.alternates j 0) a) (selected v d).endpoints) → bit_of x.address ≡ e → ⊥
        away e n x m p =
            let (l, t) = only-member (of_either j (get_or d.alternates j 0) a) (selected v d).endpoints m in
            n (ap (home_in (selected v d)) (sym p) ∙ at_home (selected v d) S x l ∙ eqb-true _ _ (both (eqb x.interface j) _ t).0)

    touch-set-interface : (q : Setup) → q.wIndex ≡ j → Touches v j d (set_interface v d q).device
    unfolding set_interface
    touch-set-interface q p =
        rw p (chosen After (has_setting (selected v d) j q.wValue) (λ t. touch-setting q.wValue) (λ t. touch-none d refl))

-- ---- the requests that change nothing
module _ (v : View) (d : Device) (q : Setup) where
  abbrev Left : Outcome → Type 0
  Left o = o.device ≡ d

  status-leaves : (get_status v d q).device ≡ d
  unfolding get_status
  status-leaves = chosen Left (eqb (recipient q) 0) (λ p. refl) (λ p. chosen Left (eqb (recipient q) 1)
      (λ p. chosen Left (has_interface (selected v d) q.wIndex) (λ p. refl) (λ p. refl))
      (λ p. chosen Left (is_endpoint_zero q.wIndex) (λ p. refl) (λ p. at (endpoint_at v d q.wIndex))))
    where
      at : (o : Option Endpoint) → (endpoint_status d o).device ≡ d
      at none = refl
      at (some e) = refl

  feature-leaves : (interface_feature v d q).device ≡ d
  feature-leaves = chosen Left (has_interface (selected v d) q.wIndex) (λ p. refl) (λ p. refl)

  interface-leaves : (get_interface v d q).device ≡ d
  unfolding get_interface
  interface-leaves = chosen Left (has_interface (selected v d) q.wIndex) (λ p. refl) (λ p. refl)

-- ---- a setup that concerns j
-- to interface j, or to an endpoint whose address j lists
setup-of : (c : Configuration) → SoundConfiguration c → (q : Setup) (j : ℕ) → setup_concerns c q ≡ some j
    → ((recipient q ≡ 1) × (q.wIndex ≡ j)) ⊎ ((recipient q ≡ 2) × AllIn c q.wIndex j)
setup-of c S q j p = first-test (eqb (recipient q) 1) (eqb (recipient q) 2) refl refl p
  where
    exists : (b : Bool) → pick b (some q.wIndex) none ≡ some j → q.wIndex ≡ j
    exists true p = cc
    exists false p = absurd (let z : ◌≡◌ {A = ℕ} 0 1 = cc in omega arith)

    first-test : (a b : Bool) → eqb (recipient q) 1 ≡ a → eqb (recipient q) 2 ≡ b
        → pick a (pick (has_interface c q.wIndex) (some q.wIndex) none) (pick b (listed_by c q.wIndex) none) ≡ some j
        → ((recipient q ≡ 1) × (q.wIndex ≡ j)) ⊎ ((recipient q ≡ 2) × AllIn c q.wIndex j)
    first-test true b p r o = inl (eqb-true _ _ p, exists (has_interface c q.wIndex) o)
    first-test false true p r o = inr (eqb-true _ _ r, all_in c S q.wIndex j (λ i m. Option·some-injective i j (sym m ∙ o)))
    first-test false false p r o = absurd (let z : ◌≡◌ {A = ℕ} 0 1 = cc in omega arith)

module _ (v : View) (j : ℕ) (d : Device) (S : SoundConfiguration (selected v d)) (q : Setup) (F : Tabled q) where
  -- a device's request concerns no interface
  not-device : (recipient q ≡ 0 → ⊥) → (code : ℕ) → of_device code ≡ true → eqb q.bRequest code ≡ true → ⊥
  not-device n code t p = n (F.alone (ap of_device (eqb-true q.bRequest code p) ∙ t))

  -- by the code, given what the requests of any recipient and the interface's own do
  touch-code : (recipient q ≡ 0 → ⊥) → Touches v j d (clear_feature v d q).device → Touches v j d (set_feature v d q).device
      → (recipient q ≡ 1 → Touches v j d (set_interface v d q).device) → Touches v j d (request v d q).device
  unfolding request
  touch-code n clear set interface =
      let P : Outcome → Type 0 = λ o. Touches v j d o.device in
      chosen P (eqb q.bRequest 0x00) (λ p. touch-none v j d _ (status-leaves v d q)) (λ n0.
      chosen P (eqb q.bRequest 0x01) (λ p. clear) (λ n1.
      chosen P (eqb q.bRequest 0x03) (λ p. set) (λ n3.
      chosen P (eqb q.bRequest 0x05) (λ p. absurd (not-device n 0x05 refl p)) (λ n5.
      chosen P (eqb q.bRequest 0x06) (λ p. absurd (not-device n 0x06 refl p)) (λ n6.
      chosen P (eqb q.bRequest 0x08) (λ p. absurd (not-device n 0x08 refl p)) (λ n8.
      chosen P (eqb q.bRequest 0x09) (λ p. absurd (not-device n 0x09 refl p)) (λ n9.
      chosen P (eqb q.bRequest 0x0A) (λ p. touch-none v j d _ (interface-leaves v d q)) (λ m.
      interface (F.other (rw (n5, n6, n8, n9)) (rw (n0, n1, n3)))))))))))

  touch-request : ((recipient q ≡ 1) × (q.wIndex ≡ j)) ⊎ ((recipient q ≡ 2) × AllIn (selected v d) q.wIndex j)
      → Touches v j d (request v d q).device
  unfolding clear_feature set_feature
  touch-request (inl p) =
      let r : recipient q ≡ 1 = p.0 in
      touch-code (λ z. omega arith)
      (rw r (touch-none v j d _ (feature-leaves v d q)))
      (rw r (touch-none v j d _ (feature-leaves v d q)))
      (λ t. touch-set-interface v j d S q p.1)
  touch-request (inr p) =
      let r : recipient q ≡ 2 = p.0 in
      touch-code (λ z. omega arith)
      (rw r (touch-feature v j d S clear_halt (touch-clear v j d) q p.1))
      (rw r (touch-feature v j d S set_halt (touch-set v j d) q p.1))
      (λ t. absurd (omega arith))

touch-setup : (v : View) (j : ℕ) (d : Device) → SoundConfiguration (selected v d) → (q : Setup) → setup_concerns (selected v d) q ≡ some j
    → Touches v j (settled d) (answer_setup v d q).device
unfolding answer_setup
touch-setup v j d S q c =
    let P : Outcome → Type 0 = λ o. Touches v j (settled d) o.device in
    chosen P (in_test_mode d) (λ t. touch-none v j (settled d) _ refl)
    (λ t. chosen P (eqb (refusal_for v.paired d q) 0)
    (λ p. touch-request v j (settled d) S q (table-passes v.paired d q (eqb-true _ _ p)) (setup-of (selected v d) S q j c))
    (λ p. touch-none v j (settled d) _ refl))

-- a packet that is accepted also wakes the device
touch-pass : (v : View) (j : ℕ) (d : Device) → SoundConfiguration (selected v d) → (a : ℕ) → AllIn (selected v d) a j
    → Touches v j (settled_by (kind (PacketPassed a) (packet_passed v d a).answer) d) (packet_passed v d a).device
unfolding packet_passed
touch-pass v j d S a w = touch-at v j d S a w (λ o. Passed (pass_at d o)) (touch-none v j d d refl)
    (λ e p. chosen Passed (can_halt e && not (bit d.halts (bit_of e.address)))
    (λ t. touch-flip v j (awake d) (bit_of e.address) p) (λ t. touch-none v j d d refl))
  where
    Passed : Outcome → Type 0
    Passed o = Touches v j (settled_by (kind (PacketPassed a) o.answer) d) o.device

pub touch-event : (v : View) (j : ℕ) (d : Device) → SoundConfiguration (selected v d) → (e : Event) → event_concerns (selected v d) e ≡ some j
    → Touches v j (settled_by (kind e (respond v d e).answer) d) (respond v d e).device
touch-event v j d S (Request q) c = touch-setup v j d S q c
touch-event v j d S Malformed c = absurd (let z : ◌≡◌ {A = ℕ} 0 1 = cc in omega arith)
touch-event v j d S StatusEnd c = absurd (let z : ◌≡◌ {A = ℕ} 0 1 = cc in omega arith)
touch-event v j d S (BusReset speed) c = absurd (let z : ◌≡◌ {A = ℕ} 0 1 = cc in omega arith)
touch-event v j d S (Halt a) c = touch-halt v j d S a (all_in (selected v d) S a j (λ i m. Option·some-injective i j (sym m ∙ c)))
touch-event v j d S (PacketPassed a) c = touch-pass v j d S a (all_in (selected v d) S a j (λ i m. Option·some-injective i j (sym m ∙ c)))
touch-event v j d S (Power source) c = absurd (let z : ◌≡◌ {A = ℕ} 0 1 = cc in omega arith)
touch-event v j d S Suspend c = absurd (let z : ◌≡◌ {A = ℕ} 0 1 = cc in omega arith)
touch-event v j d S Resume c = absurd (let z : ◌≡◌ {A = ℕ} 0 1 = cc in omega arith)
touch-event v j d S Wake c = absurd (let z : ◌≡◌ {A = ℕ} 0 1 = cc in omega arith)
