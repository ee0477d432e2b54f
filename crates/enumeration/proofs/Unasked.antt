-- No test mode is entered that was not asked for: where no event asks for one, SET_FEATURE(TEST_MODE) to a board of two sets, none is waiting and none is entered. No axiom.
use Rattle.octets.proofs.Vocabulary.{◌≡◌, refl, sym, ◌∙◌, ℕ, ◌%◌, ◌≤◌, [], ◌∷◌, true, false, ◌&&◌, not, false≢true, Option, some, none, ◌⊎◌, inl, inr, eqb, leb, arith, eqb-true, eq-eqb, ne_eqb, leb-true, lt-leb}
use Rattle.octets.specs.Bit.{bit}
use Rattle.octets.specs.Sentences.{◌⇒◌, every, any, is_some}
use Rattle.octets.proofs.Sentences.{cases, joined, if-then, conjunct, every-member}
use Rattle.descriptors.specs.declared.Endpoint.{Endpoint}
use Rattle.descriptors.specs.Configuration.{has_interface, has_setting, can_halt, bit_of}
use Rattle.sets.specs.Opening.{Board}
use Rattle.sets.specs.View.{View, accepted, view_of, wakes}
use Rattle.records.specs.declared.Device.{Device}
use Rattle.records.specs.Device.{nothing, in_test_mode, settled}
use Rattle.records.specs.Current.{view_at, selected, endpoint_at}
use Rattle.records.specs.Fits.{fits_on}
use Rattle.requests.specs.declared.Setup.{Setup}
use Rattle.requests.specs.Table.{recipient, request_table, largest_index}
use Rattle.events.specs.declared.Event.{Event}
use Rattle.events.specs.declared.Event.TheVariants.{Request, Malformed, StatusEnd, BusReset, Halt, PacketPassed, Power, Suspend, Resume, Wake}
use Rattle.events.specs.Answer.{Outcome}
use Rattle.events.specs.declared.facts.Located.{Located}
use Rattle.events.specs.declared.facts.Located.TheVariants.{Body, Serial, Nowhere}
use Rattle.events.specs.Requests.{by_recipient, is_endpoint_zero, device_feature, names_test_mode, set_device_feature, interface_feature, endpoint_feature, endpoint_status, halt_feature, clear_halt, set_halt, locate, describe, get_status, clear_feature, set_feature, set_address, get_descriptor, get_configuration, set_configuration, get_interface, set_interface}
use Rattle.events.specs.Step.{request, asks_test_mode, refusal_for, answer_setup, status_end, good_reset, halt_at, halt, pass_at, packet_passed, respond, step}
use Rattle.laws.proofs.Outcomes.{chosen}
use Rattle.laws.proofs.Recipients.{let_through, table-judges}
use Rattle.enumeration.specs.Unasked.{asks_for_test}
use Rattle.enumeration.proofs.Enumerates.{calm-speed}

-- none is entered, and none waits
pub record Peaceful (d : Device) : Type 0 where
  pub calm : in_test_mode d ≡ false
  pub waits : (d.waiting ≡ nothing) ⊎ (d.waiting ≤ 127)

abbrev Keeps : Outcome → Type 0
Keeps o = Peaceful o.device

-- ---- a setup, past the table, on a record that it has settled
module _ (v : View) (d : Device) (s : Setup) (calm : in_test_mode d ≡ false) (w : d.waiting ≡ nothing) (p : refusal_for v.paired d s ≡ 0) (unasked : asks_test_mode v.paired s ≡ false) where
  same : Peaceful d
  same = record { calm = calm; waits = inl w }

  like : {x : Device} → x.speed ≡ d.speed → x.waiting ≡ d.waiting → Peaceful x
  like {x} p q = record { calm = rw p calm; waits = inl (q ∙ w) }

  status : Keeps (get_status v d s)
  unfolding get_status
  status = chosen Keeps (eqb (recipient s) 0) (λ e. same) (λ e. chosen Keeps (eqb (recipient s) 1)
      (λ e. chosen Keeps (has_interface (selected v d) s.wIndex) (λ e. same) (λ e. same))
      (λ e. chosen Keeps (is_endpoint_zero s.wIndex) (λ e. same) (λ e. at (endpoint_at v d s.wIndex))))
    where
      at : (o : Option Endpoint) → Keeps (endpoint_status d o)
      at none = same
      at (some e) = same

  of-device : (on : ℕ) → Keeps (device_feature on v d s)
  of-device on = chosen Keeps (eqb s.wValue 1 && wakes v) (λ e. like refl refl) (λ e. same)

  feature : (change : Device → ℕ → Device) (device : Outcome) → ((k : ℕ) → Peaceful (change d k)) → (eqb (recipient s) 0 ≡ true → Keeps device)
      → Keeps (by_recipient s device (interface_feature v d s) (endpoint_feature change v d s))
  feature change device fine first = chosen Keeps (eqb (recipient s) 0) (λ e. first e)
      (λ e. chosen Keeps (eqb (recipient s) 1)
      (λ e. chosen Keeps (has_interface (selected v d) s.wIndex) (λ e. same) (λ e. same))
      (λ e. chosen Keeps (is_endpoint_zero s.wIndex) (λ e. same) (λ e. at (endpoint_at v d s.wIndex))))
    where
      at : (o : Option Endpoint) → Keeps (halt_feature change d s o)
      at none = same
      at (some x) = chosen Keeps (eqb s.wValue 0 && can_halt x) (λ e. fine (bit_of x.address)) (λ e. same)

  -- SET_FEATURE that the table lets through has type 0, 1 or 2: so one of a device that names the test mode asks for it
  asked-for : eqb s.bRequest 0x03 ≡ true → eqb (recipient s) 0 ≡ true → names_test_mode v.paired s ≡ true → asks_test_mode v.paired s ≡ true
  unfolding every
  asked-for c z n = cases (asks_test_mode v.paired s) (λ t. t) (λ t.
      let (r, m, k, x, i, f) = let_through d.state s (rw t at p) in
      let code : s.bRequest ≡ 3 = eqb-true s.bRequest 3 c in
      let low = leb-true r.bmRequestType 2 (if-then (eqb r.bRequest 3) (leb r.bmRequestType 2) (every-member (λ r. eqb r.bRequest 3 ⇒ leb r.bmRequestType 2) {xs = request_table} refl m) (eq-eqb r.bRequest 3 (x ∙ code))) in
      let zero : s.bmRequestType % 32 ≡ 0 = eqb-true (recipient s) 0 z in
      joined (joined n (eq-eqb s.bmRequestType 0 (omega (arith, k, low)))) c)

  in-address : eqb s.bRequest 0x05 ≡ true → s.wValue ≤ 127
  unfolding every
  in-address c =
      let code : s.bRequest ≡ 5 = eqb-true s.bRequest 5 c in
      let (r, m, k, x, i, f) = let_through d.state s (table-judges v.paired d s code refl p) in
      let low = leb-true r.value 127 (if-then (eqb r.bRequest 5) (leb r.value 127) (every-member (λ r. eqb r.bRequest 5 ⇒ leb r.value 127) {xs = request_table} refl m) (eq-eqb r.bRequest 5 (x ∙ code))) in
      let fits = leb-true s.wValue r.value (conjunct 0 (leb s.wValue r.value ∷ leb s.wIndex (largest_index r s.wValue) ∷ leb r.shortest s.wLength ∷ leb s.wLength r.longest ∷ []) f) in
      omega arith

  setting : eqb s.bRequest 0x03 ≡ true → Keeps (set_feature v d s)
  unfolding set_feature
  setting c = feature set_halt (set_device_feature v d s) (λ k. like refl refl)
      (λ z. chosen Keeps (names_test_mode v.paired s) (λ n. absurd (false≢true (sym unasked ∙ asked-for c z n))) (λ n. of-device 1))

  descriptor : Keeps (get_descriptor v d s)
  unfolding get_descriptor
  descriptor = at (locate v s)
    where
      at : (l : Located) → Keeps (describe d s.wLength l)
      at (Body offset size) = same
      at (Serial size) = same
      at Nowhere = same

  configuration : Keeps (set_configuration v d s)
  unfolding set_configuration
  configuration = chosen Keeps (eqb s.wValue 0) (λ e. like refl refl) (λ e. chosen Keeps (any (λ c. eqb c.value s.wValue) v.configurations) (λ e. like refl refl) (λ e. same))

  requested : Keeps (request v d s)
  unfolding request clear_feature set_address get_configuration get_interface set_interface
  requested =
      chosen Keeps (eqb s.bRequest 0x00) (λ e. status)
      (λ e. chosen Keeps (eqb s.bRequest 0x01) (λ e. feature clear_halt (device_feature 0 v d s) (λ k. like refl refl) (λ z. of-device 0))
      (λ e. chosen Keeps (eqb s.bRequest 0x03) (λ e. setting e)
      (λ e. chosen Keeps (eqb s.bRequest 0x05) (λ e. record { calm = calm; waits = inr (in-address e) })
      (λ e. chosen Keeps (eqb s.bRequest 0x06) (λ e. descriptor)
      (λ e. chosen Keeps (eqb s.bRequest 0x08) (λ e. same)
      (λ e. chosen Keeps (eqb s.bRequest 0x09) (λ e. configuration)
      (λ e. chosen Keeps (eqb s.bRequest 0x0A) (λ e. chosen Keeps (has_interface (selected v d) s.wIndex) (λ e. same) (λ e. same))
      (λ e. chosen Keeps (has_setting (selected v d) s.wIndex s.wValue) (λ e. like refl refl) (λ e. same)))))))))

-- ---- every event
module _ (b : Board) (d : Device) (q : Peaceful d) where
  halted : (o : Option Endpoint) → Keeps (halt_at d o)
  halted none = q
  halted (some e) = chosen Keeps (can_halt e) (λ p. record { calm = q.calm; waits = q.waits }) (λ p. q)

  passed : (o : Option Endpoint) → Keeps (pass_at d o)
  passed none = q
  passed (some e) = chosen Keeps (can_halt e && not (bit d.halts (bit_of e.address))) (λ p. record { calm = q.calm; waits = q.waits }) (λ p. q)

  ended : Keeps (status_end d)
  unfolding status_end
  ended = go q.waits
    where
      go : (d.waiting ≡ nothing) ⊎ (d.waiting ≤ 127) → Keeps (status_end d)
      go (inl w) = rw (eq-eqb d.waiting nothing w) q
      go (inr w) = rw (ne_eqb d.waiting nothing (λ z. omega arith), lt-leb 129 d.waiting (omega arith)) (record { calm = q.calm; waits = inl refl })

  responds : (e : Event) → asks_for_test (view_at b d).paired e ≡ false → Keeps (respond (view_at b d) d e)
  unfolding answer_setup halt packet_passed
  responds (Request s) unasked = rw q.calm (chosen Keeps (eqb (refusal_for (view_at b d).paired d s) 0)
      (λ p. requested (view_at b d) (settled d) s q.calm refl (eqb-true (refusal_for (view_at b d).paired d s) 0 p) unasked)
      (λ p. record { calm = q.calm; waits = inl refl }))
  responds Malformed unasked = q
  responds StatusEnd unasked = ended
  responds (BusReset speed) unasked = chosen Keeps (good_reset (view_at b d).paired speed) (λ g. rw q.calm (record { calm = calm-speed (view_at b d).paired speed g; waits = inl refl })) (λ g. q)
  responds (Halt a) unasked = halted (endpoint_at (view_at b d) d a)
  responds (PacketPassed a) unasked = passed (endpoint_at (view_at b d) d a)
  responds (Power source) unasked = chosen Keeps (leb source 1) (λ p. record { calm = q.calm; waits = q.waits }) (λ p. q)
  responds Suspend unasked = record { calm = q.calm; waits = q.waits }
  responds Resume unasked = record { calm = q.calm; waits = q.waits }
  responds Wake unasked = chosen Keeps (eqb d.suspended 1 && eqb d.wakeup 1) (λ p. q) (λ p. q)

  pub stays_peaceful : (e : Event) → asks_for_test (is_some b.high) e ≡ false → Peaceful (step b d e).device
  unfolding step view_of
  stays_peaceful e unasked = chosen Keeps (accepted b) (λ p. chosen Keeps (fits_on b d) (λ f. responds e unasked) (λ f. q)) (λ p. q)
