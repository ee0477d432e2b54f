-- Toggles never drift (specs/Toggles). No axiom.
use Rattle.octets.proofs.Vocabulary.{◌≡◌, refl, sym, ap, subst, ◌∙◌, ℕ, ◌+◌, ◌*◌, ◌-◌, ◌<◌, List, [], ◌∷◌, List-as-Memᴰ, List·Memᴰ·not-nil, Bool, true, false, ◌&&◌, ◌||◌, not, and-false, false≢true, Option, some, none, ◌⊎◌, inl, inr, get_or, set, eqb, leb, get_or-set_same, get_or-set_other, arith, eqb-true, eqb-false, eq-eqb, leb-true, le-leb}
use Rattle.octets.specs.Bit.{bit, flip_bit}
use Rattle.octets.specs.Sentences.{pick, any, every, only, is_some}
use Rattle.octets.proofs.Sentences.{cases, both, joined, or_right, every-member, any-member, member-any, none_any, first_some, only-member, member-only}
use Rattle.octets.proofs.Bits.{flip-same, flip-other, clear-same, clear-other, bit-zero}
use Rattle.descriptors.specs.declared.Setting.{Setting}
use Rattle.descriptors.specs.declared.Endpoint.{Endpoint}
use Rattle.descriptors.specs.Configuration.{has_interface, has_setting, is_current, can_halt, bit_of, cleared, of_either}
use Rattle.descriptors.proofs.EndpointBits.{at_bit, cleared-digit}
use Rattle.sets.specs.Opening.{Board, BytesOf}
use Rattle.sets.specs.View.{View, accepted, unconfigured, by_value, has_value, wakes}
use Rattle.sets.specs.Sound.{SoundConfiguration}
use Rattle.records.specs.declared.Device.{Device}
use Rattle.records.specs.Device.{in_default, in_address, in_configured, nothing, at_high_speed, fresh, after_reset, test_waits, in_test_mode, enter_test_mode, awake, settled, with_address, with_endpoints, Sized}
use Rattle.records.specs.Current.{set_at, view_for, view_at, selected, current_endpoints, endpoint_at}
use Rattle.records.specs.Fits.{fits_on}
use Rattle.requests.specs.declared.Setup.{Setup}
use Rattle.requests.specs.Table.{recipient, request_table}
use Rattle.events.specs.declared.Event.{Event}
use Rattle.events.specs.declared.Event.TheVariants.{Request, Malformed, StatusEnd, BusReset, Halt, PacketPassed, Power, Suspend, Resume, Wake}
use Rattle.events.specs.declared.facts.Located.{Located}
use Rattle.events.specs.declared.facts.Located.TheVariants.{Body, Serial, Nowhere}
use Rattle.events.specs.Answer.{Outcome, number_of, done}
use Rattle.events.specs.Requests.{is_endpoint_zero, device_feature, names_test_mode, test_selector, interface_feature, endpoint_status, halt_feature, clear_halt, set_halt, locate, describe, with_setting, get_status, clear_feature, set_feature, set_address, get_descriptor, get_configuration, set_configuration, get_interface, set_interface}
use Rattle.events.specs.Step.{request, asks_test_mode, refusal_for, answer_setup, status_end, good_reset, halt_at, halt, pass_at, packet_passed, respond, step}
use Rattle.order.specs.Run.{log}
use Rattle.laws.proofs.Homes.{at_home, cleared-other}
use Rattle.laws.proofs.Keeping.{sound_selected}
use Rattle.laws.proofs.Outcomes.{chosen}
use Rattle.laws.proofs.Recipients.{let_through, test-code, table-passes}
use Rattle.promises.specs.Keeps.{fresh_fit, step_fits}
use Rattle.promises.specs.Rearranged.{next_of, after}
use Rattle.promises.specs.Sound.{sound}
use Rattle.promises.specs.TestMode.{only_power_on}
use Rattle.enumeration.specs.Script.{sees, Ready}
use Rattle.enumeration.proofs.Playing.{ready}
use Rattle.enumeration.proofs.Enumerates.{calm-speed}
use Rattle.enumeration.specs.Toggles.{Book, new_book, in_setting, notes_setup, notes_event, notes, keeps, Agrees, book_after, NeverDriftFromOpening, NeverDriftFromReset}

-- ---- books and records that agree, and a record that is another only in what no toggle hangs on
module _ (b : Board) where
  alike : {h : Book} {d x : Device} → Agrees b h d → x.speed ≡ d.speed → x.state ≡ d.state → x.configuration ≡ d.configuration → x.alternates ≡ d.alternates → x.toggles ≡ d.toggles → Agrees b h x
  alike {h} {d} {x} a s w c l t = record {
    speed = a.speed ∙ sym s;
    configuration = a.configuration ∙ sym c;
    toggles = λ e m can. rw t (a.toggles e (rw (s, w, c, l) at m) can);
  }

  -- outside Configured there is no endpoint
  outside : {h : Book} {d x : Device} → Agrees b h d → x.speed ≡ d.speed → x.configuration ≡ d.configuration → eqb x.state in_configured ≡ false → Agrees b h x
  unfolding only
  outside {h} {d} {x} a s c n = record { speed = a.speed ∙ sym s; configuration = a.configuration ∙ sym c; toggles = λ e m can. absurd (List·Memᴰ·not-nil (rw n at m)) }

  -- no toggle is up on either side
  all-down : (h : Book) (d : Device) → h.speed ≡ d.speed → h.configuration ≡ d.configuration → ((k : ℕ) → h.toggles k ≡ false) → d.toggles ≡ 0 → Agrees b h d
  all-down h d s c t z = record { speed = s; configuration = c; toggles = λ e m can. t (bit_of e.address) ∙ sym (ap (λ w. bit w (bit_of e.address)) z ∙ bit-zero (bit_of e.address)) }

-- outside Configured there is no setting
no-setting : (j a : ℕ) → has_setting unconfigured j a ≡ true → ⊥
unfolding any
no-setting j a t = false≢true t

-- the table has no other codes
abbrev coded : ℕ → Bool
coded c = eqb c 0x00 || eqb c 0x01 || eqb c 0x03 || eqb c 0x05 || eqb c 0x06 || eqb c 0x08 || eqb c 0x09 || eqb c 0x0A || eqb c 0x0B

all_coded : every (λ r. coded r.bRequest) request_table ≡ true
unfolding every
all_coded = refl

-- ---- a setup, past the table, on a record that it has settled
module _ (b : Board) (h : Book) (d : Device) (sized : Sized d) (good : SoundConfiguration (selected (view_at b d) d)) (a : Agrees b h d)
    (s : Setup) (p : refusal_for (view_at b d).paired d s ≡ 0) where
  abbrev v : View
  v = view_at b d

  -- what holds of an outcome
  abbrev Kept : Outcome → Type 0
  Kept o = Agrees b (pick (eqb (number_of o.answer) 0) (notes_setup b h s) h) o.device

  -- a request of which the host notes nothing
  unnoted : (code : ℕ) → eqb s.bRequest code ≡ true → eqb code 0x09 ≡ false → eqb code 0x0B ≡ false → eqb code 0x01 ≡ false → notes_setup b h s ≡ h
  unnoted code e nine eleven one = rw (eqb-true s.bRequest code e, nine, eleven, one) refl

  module _ (same : notes_setup b h s ≡ h) where
    quiet : Agrees b (notes_setup b h s) d
    quiet = rw same a

    changed : {x : Device} → x.speed ≡ d.speed → x.state ≡ d.state → x.configuration ≡ d.configuration → x.alternates ≡ d.alternates → x.toggles ≡ d.toggles → Agrees b (notes_setup b h s) x
    changed v w x y z = rw same (alike b a v w x y z)

    status : Kept (get_status v d s)
    unfolding get_status
    status = chosen Kept (eqb (recipient s) 0) (λ e. quiet) (λ e. chosen Kept (eqb (recipient s) 1)
        (λ e. chosen Kept (has_interface (selected v d) s.wIndex) (λ e. quiet) (λ e. a))
        (λ e. chosen Kept (is_endpoint_zero s.wIndex) (λ e. quiet) (λ e. at (endpoint_at v d s.wIndex))))
      where
        at : (o : Option Endpoint) → Kept (endpoint_status d o)
        at none = a
        at (some e) = quiet

    of-device : (on : ℕ) → Kept (device_feature on v d s)
    of-device on = chosen Kept (eqb s.wValue 1 && wakes v) (λ e. changed refl refl refl refl refl) (λ e. a)

    of-interface : Kept (interface_feature v d s)
    of-interface = chosen Kept (has_interface (selected v d) s.wIndex) (λ e. a) (λ e. a)

    setting : Kept (set_feature v d s)
    unfolding set_feature
    setting = chosen Kept (eqb (recipient s) 0)
        (λ e. chosen Kept (names_test_mode v.paired s)
        (λ n. chosen Kept (eqb d.speed at_high_speed && leb 1 (test_selector s) && leb (test_selector s) 5) (λ e. changed refl refl refl refl refl) (λ e. a)) (λ n. of-device 1))
        (λ e. chosen Kept (eqb (recipient s) 1) (λ e. of-interface) (λ e. chosen Kept (is_endpoint_zero s.wIndex) (λ e. a) (λ e. at (endpoint_at v d s.wIndex))))
      where
        at : (o : Option Endpoint) → Kept (halt_feature set_halt d s o)
        at none = a
        at (some x) = chosen Kept (eqb s.wValue 0 && can_halt x) (λ e. changed refl refl refl refl refl) (λ e. a)

    descriptor : Kept (get_descriptor v d s)
    unfolding get_descriptor
    descriptor = at (locate v s)
      where
        at : (l : Located) → Kept (describe d s.wLength l)
        at (Body offset size) = quiet
        at (Serial size) = quiet
        at Nowhere = a

  -- ---- SET_CONFIGURATION
  configuration : eqb s.bRequest 0x09 ≡ true → Kept (set_configuration v d s)
  unfolding set_configuration
  configuration e = chosen Kept (eqb s.wValue 0)
      (λ z. rw e (all-down b _ _ a.speed (eqb-true s.wValue 0 z) (λ k. refl) refl))
      (λ z. chosen Kept (has_value (record { 0 = s.wValue }) v.configurations) (λ t. rw e (all-down b _ _ a.speed refl (λ k. refl) refl)) (λ t. a))

  -- ---- CLEAR_FEATURE
  clearing : eqb s.bRequest 0x01 ≡ true → Kept (clear_feature v d s)
  unfolding clear_feature
  clearing c = chosen Kept (eqb (recipient s) 0) (λ z. of-device (elsewhere 0 z refl) 0)
      (λ z. chosen Kept (eqb (recipient s) 1) (λ o. of-interface (elsewhere 1 o refl))
      (λ o. chosen Kept (is_endpoint_zero s.wIndex) (λ e. a) (λ e. at (endpoint_at v d s.wIndex) refl z o)))
    where
      one : s.bRequest ≡ 1
      one = eqb-true s.bRequest 1 c

      elsewhere : (n : ℕ) → eqb (recipient s) n ≡ true → eqb n 2 ≡ false → notes_setup b h s ≡ h
      elsewhere n e two = rw (one, eqb-true (recipient s) n e, two) refl

      at : (o : Option Endpoint) → endpoint_at v d s.wIndex ≡ o → eqb (recipient s) 0 ≡ false → eqb (recipient s) 1 ≡ false → Kept (halt_feature clear_halt d s o)
      at none e z o = a
      at (some x) e z o = chosen Kept (eqb s.wValue 0 && can_halt x) (λ t. noted) (λ t. a)
        where
          two : eqb (recipient s) 2 ≡ true
          two = eq-eqb (recipient s) 2 (omega (arith, (table-passes (view_at b d).paired d s p).known, eqb-false (recipient s) 0 z, eqb-false (recipient s) 1 o))

          there : s.wIndex ≡ x.address
          there = sym (eqb-true x.address s.wIndex (first_some (λ (y : Endpoint). eqb y.address s.wIndex) (current_endpoints v d) e).1)

          noted : Agrees b (notes_setup b h s) (clear_halt d (bit_of x.address))
          noted = rw (one, two, there) (record {
            speed = a.speed;
            configuration = a.configuration;
            toggles = λ f m can. cases (eqb (bit_of x.address) (bit_of f.address))
                (λ q. rw (q, ← eqb-true (bit_of x.address) (bit_of f.address) q) (sym (clear-same d.toggles (bit_of x.address))))
                (λ q. rw q (a.toggles f m can ∙ sym (clear-other d.toggles (bit_of x.address) (bit_of f.address) (eqb-false (bit_of x.address) (bit_of f.address) q))));
          })

  -- ---- SET_INTERFACE
  module _ (c : eqb s.bRequest 0x0B ≡ true) where
    abbrev j : ℕ
    j = s.wIndex

    abbrev chosen_setting : ℕ
    chosen_setting = s.wValue

    -- the endpoints whose bits are cleared
    abbrev both-settings : List Endpoint
    both-settings = only (of_either j (get_or d.alternates j 0) chosen_setting) (selected v d).endpoints

    -- two endpoints with one bit are of one interface
    one-home : (e f : Endpoint) → List-as-Memᴰ e (selected v d).endpoints → List-as-Memᴰ f (selected v d).endpoints → bit_of e.address ≡ bit_of f.address → e.interface ≡ f.interface
    one-home e f m n q = sym (at_home (selected v d) good e m) ∙ rw q (at_home (selected v d) good f n)

    module _ (f : Endpoint) (m : List-as-Memᴰ f (selected v d).endpoints) where
      -- of the chosen setting: down on both sides
      of-it : f.interface ≡ j → f.alternate ≡ chosen_setting
          → (in_setting (selected v d) j chosen_setting (bit_of f.address) ≡ true) × (bit (cleared both-settings d.toggles) (bit_of f.address) ≡ false)
      of-it i l =
          let x = eq-eqb f.interface j i in
          let y = eq-eqb f.alternate chosen_setting l in
          let z = eq-eqb (bit_of f.address) (bit_of f.address) refl in
          let inside : List-as-Memᴰ f both-settings = member-only (of_either j (get_or d.alternates j 0) chosen_setting) m (joined x (or_right (eqb f.alternate (get_or d.alternates j 0)) y)) in (
            member-any (λ (e : Endpoint). eqb e.interface j && eqb e.alternate chosen_setting && eqb (bit_of e.address) (bit_of f.address)) m (joined (joined x y) z),
            cleared-digit both-settings d.toggles (bit_of f.address) ∙ rw (member-any (at_bit (bit_of f.address)) inside z, and-false (bit d.toggles (bit_of f.address))) refl,
          )

      -- of another interface: as it was on both sides
      of_other : (f.interface ≡ j → ⊥)
          → (in_setting (selected v d) j chosen_setting (bit_of f.address) ≡ false) × (bit (cleared both-settings d.toggles) (bit_of f.address) ≡ bit d.toggles (bit_of f.address))
      of_other n = (
        none_any (λ (e : Endpoint). eqb e.interface j && eqb e.alternate chosen_setting && eqb (bit_of e.address) (bit_of f.address)) (selected v d).endpoints
            (λ e o. cases (eqb e.interface j && eqb e.alternate chosen_setting && eqb (bit_of e.address) (bit_of f.address))
            (λ q.
            let (x, z) = both (eqb e.interface j && eqb e.alternate chosen_setting) (eqb (bit_of e.address) (bit_of f.address)) q in
            let (i, l) = both (eqb e.interface j) (eqb e.alternate chosen_setting) x in
            absurd (n (sym (one-home e f o m (eqb-true (bit_of e.address) (bit_of f.address) z)) ∙ eqb-true e.interface j i)))
            (λ q. q)),
        cleared-other both-settings d.toggles (bit_of f.address) (λ e o q.
            let (w, x) = only-member (of_either j (get_or d.alternates j 0) chosen_setting) (selected v d).endpoints o in
            n (sym (one-home e f w m q) ∙ eqb-true e.interface j (both (eqb e.interface j) (eqb e.alternate (get_or d.alternates j 0) || eqb e.alternate chosen_setting) x).0)),
      )

    selects : Kept (set_interface v d s)
    unfolding set_interface
    selects = chosen Kept (has_setting (selected v d) j chosen_setting) (λ t. noted t) (λ t. a)
      where
        eleven : s.bRequest ≡ 0x0B
        eleven = eqb-true s.bRequest 0x0B c

        -- the host's configuration is the selected one
        its : has_setting (selected v d) j chosen_setting ≡ true → by_value (record { 0 = h.configuration }) (view_for b h.speed).configurations ≡ selected v d
        its t = cases (eqb d.state in_configured) (λ c. rw (a.speed, a.configuration, c) refl) (λ c. absurd (no-setting j chosen_setting (rw c at t)))

        noted : has_setting (selected v d) j chosen_setting ≡ true → Agrees b (notes_setup b h s) (with_setting v d j chosen_setting)
        noted t = rw (eleven, its t) (record { speed = a.speed; configuration = a.configuration; toggles = at })
          where
            small : j < 16
            small =
                let (x, m, q) = any-member (λ (y : Setting). eqb y.interface j && eqb y.alternate chosen_setting) (selected v d).settings t in
                rw (← eqb-true x.interface j (both (eqb x.interface j) (eqb x.alternate chosen_setting) q).0) (good.interfaces x m)

            at : (f : Endpoint) → List-as-Memᴰ f (current_endpoints v (with_setting v d j chosen_setting)) → can_halt f ≡ true
                → pick (in_setting (selected v d) j chosen_setting (bit_of f.address)) false (h.toggles (bit_of f.address)) ≡ bit (cleared both-settings d.toggles) (bit_of f.address)
            at f m can =
                let (n, q) = only-member (is_current (set d.alternates j chosen_setting)) (selected v d).endpoints m in
                cases (eqb f.interface j)
                (λ e.
                let i = eqb-true f.interface j e in
                let z = sized.sixteen in
                let l : f.alternate ≡ chosen_setting = eqb-true f.alternate _ q ∙ ap (λ x. get_or (set d.alternates j chosen_setting) x 0) i ∙ get_or-set_same d.alternates j chosen_setting 0 (omega (arith, small)) in
                let (x, y) = of-it f n i l in
                rw (x, y) refl)
                (λ e.
                let i = eqb-false f.interface j e in
                let (x, y) = of_other f n i in
                let l : is_current d.alternates f ≡ true = rw (get_or-set_other d.alternates j f.interface chosen_setting 0 i) at q in
                rw (x, y) (a.toggles f (member-only (is_current d.alternates) n l) can))

  -- ---- every request
  requested : Kept (request v d s)
  unfolding request set_address get_configuration get_interface
  requested =
      chosen Kept (eqb s.bRequest 0x00) (λ e. status (unnoted 0x00 e refl refl refl))
      (λ e0. chosen Kept (eqb s.bRequest 0x01) (λ e. clearing e)
      (λ e1. chosen Kept (eqb s.bRequest 0x03) (λ e. setting (unnoted 0x03 e refl refl refl))
      (λ e3. chosen Kept (eqb s.bRequest 0x05) (λ e. changed (unnoted 0x05 e refl refl refl) refl refl refl refl refl)
      (λ e5. chosen Kept (eqb s.bRequest 0x06) (λ e. descriptor (unnoted 0x06 e refl refl refl))
      (λ e6. chosen Kept (eqb s.bRequest 0x08) (λ e. quiet (unnoted 0x08 e refl refl refl))
      (λ e8. chosen Kept (eqb s.bRequest 0x09) (λ e. configuration e)
      (λ e9. chosen Kept (eqb s.bRequest 0x0A)
      (λ e. chosen Kept (has_interface (selected v d) s.wIndex) (λ t. quiet (unnoted 0x0A e refl refl refl)) (λ t. a))
      (λ e_a. selects (last e0 e1 e3 e5 e6 e8 e9 e_a)))))))))
    where
      last : eqb s.bRequest 0x00 ≡ false → eqb s.bRequest 0x01 ≡ false → eqb s.bRequest 0x03 ≡ false → eqb s.bRequest 0x05 ≡ false → eqb s.bRequest 0x06 ≡ false
          → eqb s.bRequest 0x08 ≡ false → eqb s.bRequest 0x09 ≡ false → eqb s.bRequest 0x0A ≡ false → eqb s.bRequest 0x0B ≡ true
      last e0 e1 e3 e5 e6 e8 e9 e_a = cases (asks_test_mode v.paired s)
          (λ t. absurd (false≢true (sym e3 ∙ eq-eqb s.bRequest 0x03 (test-code v.paired s t).1)))
          (λ t.
          let (r, m, k, c, i, f) = let_through d.state s (rw t at p) in
          rw (e0, e1, e3, e5, e6, e8, e9, e_a) at (rw c at (every-member (λ r. coded r.bRequest) {xs = request_table} all_coded m)))

-- ---- every event
-- a book agrees with a record, or a test mode was entered, in which nothing is heard any more
abbrev Fine : Board → Book → Device → Type 0
Fine b h d = (in_test_mode d ≡ true) ⊎ Agrees b h d

abbrev FineAfter : Board → Book → Event → Outcome → Type 0
FineAfter b h e o = Fine b (pick (eqb (number_of o.answer) 0) (notes_event b h e) h) o.device

module _ (b : Board) (octets : BytesOf b) (ok : accepted b ≡ true) (h : Book) (d : Device) (sized : Sized d) (fit : fits_on b d ≡ true) where
  good-at : SoundConfiguration (selected (view_at b d) d)
  good-at = sound_selected (set_at b d) (view_at b d) (sound b octets ok d.speed) d

  module _ (a : Agrees b h d) where
    -- a test mode that waits is entered
    enters : test_waits d ≡ true → in_test_mode (enter_test_mode d) ≡ true
    enters t =
        let m = leb-true 129 d.waiting (both (leb 129 d.waiting) (leb d.waiting 133) t).0 in
        le-leb 2 (1 + 16 * (d.waiting - 128)) (omega arith)

    -- an address is applied outside Configured
    applied : Fine b h (with_address (pick (eqb d.waiting 0) in_default in_address) d.waiting d)
    applied = inr (outside b a refl refl (cases (eqb d.waiting 0) (λ z. rw z refl) (λ z. rw z refl)))

    alike-it : {x : Device} → x.speed ≡ d.speed → x.state ≡ d.state → x.configuration ≡ d.configuration → x.alternates ≡ d.alternates → x.toggles ≡ d.toggles → Fine b h x
    alike-it p o q r s = inr (alike b a p o q r s)

    passes : (address : ℕ) (o : Option Endpoint) → endpoint_at (view_at b d) d address ≡ o → FineAfter b h (PacketPassed address) (pass_at d o)
    passes address none q = inr a
    passes address (some x) q = chosen (FineAfter b h (PacketPassed address)) (can_halt x && not (bit d.halts (bit_of x.address))) (λ t. inr flipped) (λ t. inr a)
      where
        there : address ≡ x.address
        there = sym (eqb-true x.address address (first_some (λ (y : Endpoint). eqb y.address address) (current_endpoints (view_at b d) d) q).1)

        flipped : Agrees b (notes_event b h (PacketPassed address)) (awake (with_endpoints d.alternates d.halts (flip_bit d.toggles (bit_of x.address)) d))
        flipped = rw there (record {
          speed = a.speed;
          configuration = a.configuration;
          toggles = λ f m can. cases (eqb (bit_of x.address) (bit_of f.address))
              (λ q. rw (q, ← eqb-true (bit_of x.address) (bit_of f.address) q) (ap not (rw (← eqb-true (bit_of x.address) (bit_of f.address) q) at (a.toggles f m can)) ∙ sym (flip-same d.toggles (bit_of x.address))))
              (λ q. rw q (a.toggles f m can ∙ sym (flip-other d.toggles (bit_of x.address) (bit_of f.address) (eqb-false (bit_of x.address) (bit_of f.address) q))));
        })

    responds : (e : Event) → FineAfter b h e (respond (view_at b d) d e)
    unfolding answer_setup status_end halt packet_passed
    responds (Request s) = chosen (FineAfter b h (Request s)) (in_test_mode d) (λ t. alike-it refl refl refl refl refl)
        (λ t. chosen (FineAfter b h (Request s)) (eqb (refusal_for (view_at b d).paired d s) 0)
        (λ p. inr (requested b h (settled d) (record { sixteen = sized.sixteen; halts-fit = sized.halts-fit; toggles-fit = sized.toggles-fit }) good-at (alike b a refl refl refl refl refl) s (eqb-true (refusal_for (view_at b d).paired d s) 0 p)))
        (λ p. rw p (alike-it refl refl refl refl refl)))
    responds Malformed = inr a
    responds StatusEnd = chosen (FineAfter b h StatusEnd) (eqb d.waiting nothing) (λ w. inr a)
        (λ w. chosen (FineAfter b h StatusEnd) (test_waits d) (λ t. inl (enters t)) (λ t. applied))
    responds (BusReset speed) = chosen (FineAfter b h (BusReset speed)) (good_reset (view_at b d).paired speed)
        (λ g. chosen (λ (x : Device). Fine b (new_book speed) x) (in_test_mode d) (λ t. inl t) (λ t. inr (all-down b (new_book speed) (after_reset speed d) refl refl (λ k. refl) refl)))
        (λ g. inr a)
    responds (Halt address) = at (endpoint_at (view_at b d) d address)
      where
        at : (o : Option Endpoint) → FineAfter b h (Halt address) (halt_at d o)
        at none = inr a
        at (some e) = chosen (FineAfter b h (Halt address)) (can_halt e) (λ t. alike-it refl refl refl refl refl) (λ t. inr a)
    responds (PacketPassed address) = passes address (endpoint_at (view_at b d) d address) refl
    responds (Power source) = chosen (FineAfter b h (Power source)) (leb source 1) (λ t. alike-it refl refl refl refl refl) (λ t. inr a)
    responds Suspend = alike-it refl refl refl refl refl
    responds Resume = alike-it refl refl refl refl refl
    responds Wake = chosen (FineAfter b h Wake) (eqb d.suspended 1 && eqb d.wakeup 1) (λ t. inr a) (λ t. inr a)

  stepped : (e : Event) → step b d e ≡ respond (view_at b d) d e
  unfolding step
  stepped e = rw (ok, fit)

  fine : (e : Event) → Fine b h d → Fine b (notes b h (e, sees b d e)) (next_of b d e)
  fine e (inl t) = inl (ap (leb 2) (only_power_on b ok d fit t e) ∙ t)
  fine e (inr a) = subst (FineAfter b h e) (sym (stepped e)) (responds a e)

-- ---- every run
module _ (b : Board) (octets : BytesOf b) (ok : accepted b ≡ true) where
  runs : (h : Book) (d : Device) → Sized d → fits_on b d ≡ true → Fine b h d → (es : List Event) → Fine b (book_after b h d es) (after b d es)
  runs h d z f x [] = x
  runs h d z f x (e ∷ es) = let (g, y) = step_fits b octets ok d e z f in runs (notes b h (e, sees b d e)) (next_of b d e) y g (fine b octets ok h d z f e x) es

  in-calm : {h : Book} {d : Device} → in_test_mode d ≡ false → Fine b h d → Agrees b h d
  in-calm c (inl t) = absurd (false≢true (sym c ∙ t))
  in-calm c (inr a) = a

  resets : (d : Device) → Ready b d → (speed : ℕ) → good_reset (is_some b.high) speed ≡ true → step b d (BusReset speed) ≡ done (after_reset speed d)
  unfolding step
  resets d r speed g = rw (ok, r.fit, g, r.calm) refl

pub never_drift_from_opening : NeverDriftFromOpening
never_drift_from_opening b octets ok es calm =
    let (f, z) = fresh_fit b octets ok in
    in-calm b octets ok calm (runs b octets ok (new_book 0) fresh z f (inr (all-down b (new_book 0) fresh refl refl (λ k. refl) refl)) es)

pub never_drift_from_reset : NeverDriftFromReset
never_drift_from_reset b octets ok d r h speed g es =
    let p = resets b octets ok d r speed g in
    let from = ready octets ok (BusReset speed) r p (calm-speed (is_some b.high) speed g) in
    subst (λ (o : Outcome). in_test_mode (after b o.device es) ≡ false
    → Agrees b (keeps b (pick (eqb (number_of o.answer) 0) (new_book speed) h) (log (sees b) (next_of b) o.device es)) (after b o.device es)) (sym p)
    (λ calm. in-calm b octets ok calm
    (runs b octets ok (new_book speed) (after_reset speed d) from.sized from.fit (inr (all-down b (new_book speed) (after_reset speed d) refl refl (λ k. refl) refl)) es))
