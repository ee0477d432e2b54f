-- Request L9, from power-on: "strike out every event that arrived in Configured and concerned an interface other than k. Every event left must get the
-- same answer, and state, address, configuration, wakeup, power and interface k's setting, halts and toggles must end the same." Bytes 6 and 7 end the
-- same too. Over every event there is, for boards of one and two sets. No axiom.
use Rattle.std.specs.Prelude.{ℕ, ◌%◌, ◌≤◌, ◌≡◌, refl, ◌⊎◌, List, [], ◌∷◌, Bool, true, false, ◌&&◌, ◌||◌, not}
use Rattle.std.proofs.Common.{arith, sym, ap, ◌∙◌, inl, inr}
use Rattle.std.proofs.Math.Option.{Option, some, none}
use Rattle.std.proofs.lemmas.Bool.{false≢true}
use Rattle.std.proofs.Math.Dec.{eqb, leb}
use borrow.Author.Tests.{eqb-true, eq-eqb, leb-true}
use Rattle.octets.specs.Bit.{bit}
use Rattle.octets.specs.Sentences.{pick, ◌⇒◌, any, every}
use Rattle.octets.proofs.Sentences.{cases, never, both, joined, or_left, or_right, if-then, conjunct, every-member}
use Rattle.descriptors.specs.declared.Endpoint.{Endpoint}
use Rattle.descriptors.specs.Configuration.{has_interface, has_setting, can_halt, bit_of}
use Rattle.sets.specs.Opening.{Board, BytesOf}
use Rattle.sets.specs.View.{View, accepted, wakes}
use Rattle.records.specs.declared.Device.{Device}
use Rattle.records.specs.Device.{nothing, at_high_speed, fresh, test_waits, in_test_mode, settled}
use Rattle.records.specs.Current.{view_at, selected, endpoint_at}
use Rattle.records.specs.Fits.{fits_on}
use Rattle.requests.specs.declared.Setup.{Setup}
use Rattle.requests.specs.Table.{recipient, largest_index}
use Rattle.events.specs.declared.Event.{Event}
use Rattle.events.specs.declared.Event.TheVariants.{Request, Malformed, StatusEnd, BusReset, Halt, PacketPassed, Power, Suspend, Resume, Wake}
use Rattle.events.specs.declared.facts.Located.{Located}
use Rattle.events.specs.declared.facts.Located.TheVariants.{Body, Serial, Nowhere}
use Rattle.events.specs.Answer.{Outcome, number_of, done, refused}
use Rattle.events.specs.Requests.{by_recipient, is_endpoint_zero, device_feature, names_test_mode, test_selector, interface_feature, endpoint_feature, endpoint_status, halt_feature, clear_halt, set_halt, locate, describe, get_status, clear_feature, set_feature, set_address, get_descriptor, get_configuration, set_configuration, get_interface, set_interface}
use Rattle.events.specs.Step.{request, asks_test_mode, refusal_for, answer_setup, status_end, good_reset, halt_at, halt, pass_at, packet_passed, respond, step}
use Rattle.order.specs.Strike.{FairRun}
use Rattle.laws.specs.Parts.{Good, drops}
use Rattle.laws.proofs.Outcomes.{chosen}
use Rattle.laws.proofs.Recipients.{let_through, test-code}
use Rattle.promises.specs.Keeps.{fresh_fit, step_fits}
use Rattle.promises.specs.Rearranged.{answer_of, next_of}
use Rattle.promises.specs.Order.{struck_for, Quiet, Unnoticed, unnoticed}

-- ---- what the statements say, in the page's words
-- "a test mode request": SET_FEATURE(TEST_MODE) that is answered 0
abbrev asks : Bool → Event → Bool
asks paired (Request s) = asks_test_mode paired s
asks paired Malformed = false
asks paired StatusEnd = false
asks paired (BusReset speed) = false
asks paired (Halt a) = false
asks paired (PacketPassed a) = false
asks paired (Power source) = false
asks paired Suspend = false
asks paired Resume = false
asks paired Wake = false

abbrev pub test_request : Board → Device → Event → Bool
test_request b d e = asks (view_at b d).paired e && eqb (number_of (answer_of b d e)) 0

abbrev pub is_status_end : Event → Bool
is_status_end StatusEnd = true
is_status_end (Request s) = false
is_status_end Malformed = false
is_status_end (BusReset speed) = false
is_status_end (Halt a) = false
is_status_end (PacketPassed a) = false
is_status_end (Power source) = false
is_status_end Suspend = false
is_status_end Resume = false
is_status_end Wake = false

-- whether a test mode request has come, and no status end after it, "whichever setup that ends"
abbrev pub pending_after : Board → Bool → Device → Event → Bool
pending_after b pending d e = pick (is_status_end e) false (pending || test_request b d e)

-- "no struck setup may lie between a test mode request and the next status end" (L9); "no struck event arrived while suspended" (L12). Of any run whose
-- records are read as a device's and whose calls tell events; `pending` at its start
abbrev pub PageRun : {Q C : Type 0} → Board → ℕ → (Q → Device) → (C → Event) → (Q → C → Q) → Bool → Q → List C → Type 0
PageRun b k read tell after pending q [] = Unit {0}
PageRun b k read tell after pending q (c ∷ cs) =
    (struck_for b k (read q) (tell c) ≡ true → ((read q).suspended ≡ 0) × (drops (tell c) ≡ true → pending ≡ false))
    × PageRun b k read tell after (pending_after b pending (read q) (tell c)) (after q c) cs

-- ---- only a test mode request makes a test mode wait
-- an outcome that leaves none waiting; one that does is of such a request, answered 0
abbrev Unasked : Outcome → Type 0
Unasked o = test_waits o.device ≡ false

module _ (v : View) (d : Device) (s : Setup) (w : test_waits d ≡ false) where
  by-status : Unasked (get_status v d s)
  unfolding get_status
  by-status = chosen Unasked (eqb (recipient s) 0) (λ e. w) (λ e. chosen Unasked (eqb (recipient s) 1)
      (λ e. chosen Unasked (has_interface (selected v d) s.wIndex) (λ e. w) (λ e. w))
      (λ e. chosen Unasked (is_endpoint_zero s.wIndex) (λ e. w) (λ e. at (endpoint_at v d s.wIndex))))
    where
      at : (o : Option Endpoint) → Unasked (endpoint_status d o)
      at none = w
      at (some e) = w

  by-wakeup : (on : ℕ) → Unasked (device_feature on v d s)
  by-wakeup on = chosen Unasked (eqb s.wValue 1 && wakes v) (λ e. w) (λ e. w)

  by-interface : Unasked (interface_feature v d s)
  by-interface = chosen Unasked (has_interface (selected v d) s.wIndex) (λ e. w) (λ e. w)

  by-endpoint : (change : Device → ℕ → Device) → ((k : ℕ) → test_waits (change d k) ≡ false) → Unasked (endpoint_feature change v d s)
  by-endpoint change c = chosen Unasked (is_endpoint_zero s.wIndex) (λ e. w) (λ e. at (endpoint_at v d s.wIndex))
    where
      at : (o : Option Endpoint) → Unasked (halt_feature change d s o)
      at none = w
      at (some x) = chosen Unasked (eqb s.wValue 0 && can_halt x) (λ e. c (bit_of x.address)) (λ e. w)

  by-descriptor : Unasked (get_descriptor v d s)
  unfolding get_descriptor
  by-descriptor = at (locate v s)
    where
      at : (l : Located) → Unasked (describe d s.wLength l)
      at (Body offset size) = w
      at (Serial size) = w
      at Nowhere = w

  by-configuration : Unasked (set_configuration v d s)
  unfolding set_configuration
  by-configuration = chosen Unasked (eqb s.wValue 0) (λ e. w) (λ e. chosen Unasked (any (λ c. eqb c.value s.wValue) v.configurations) (λ e. w) (λ e. w))

  by-feature : (change : Device → ℕ → Device) → ((k : ℕ) → test_waits (change d k) ≡ false) → (device : Outcome) → Unasked device
      → Unasked (by_recipient s device (interface_feature v d s) (endpoint_feature change v d s))
  by-feature change c device u = chosen Unasked (eqb (recipient s) 0) (λ e. u) (λ e. chosen Unasked (eqb (recipient s) 1) (λ e. by-interface) (λ e. by-endpoint change c))

  -- a test mode waits after the request: it asks for one, and is done
  abbrev Asked : Outcome → Type 0
  Asked o = test_waits o.device ≡ true → (asks_test_mode v.paired s ≡ true) × (number_of o.answer ≡ 0)

  no : (o : Outcome) → Unasked o → Asked o
  no o u t = never t u

  by-set-feature : eqb s.bRequest 0x03 ≡ true → (eqb (recipient s) 0 ≡ true → eqb s.bmRequestType 0 ≡ true) → Asked (set_feature v d s)
  unfolding set_feature
  by-set-feature three zero = chosen Asked (eqb (recipient s) 0)
      (λ r. chosen Asked (names_test_mode v.paired s)
      (λ n. chosen Asked (eqb d.speed at_high_speed && leb 1 (test_selector s) && leb (test_selector s) 5) (λ e t. (joined (joined n (zero r)) three, refl)) (λ e. no (refused 14 d) w))
      (λ n. no (device_feature 1 v d s) (by-wakeup 1)))
      (λ r. chosen Asked (eqb (recipient s) 1) (λ e. no (interface_feature v d s) by-interface) (λ e. no (endpoint_feature set_halt v d s) (by-endpoint set_halt (λ k. w))))

  by-request : (eqb s.bRequest 0x03 ≡ true → eqb (recipient s) 0 ≡ true → eqb s.bmRequestType 0 ≡ true) → (eqb s.bRequest 0x05 ≡ true → s.wValue ≤ 127) → Asked (request v d s)
  unfolding request clear_feature set_address get_configuration get_interface set_interface
  by-request zero low =
      chosen Asked (eqb s.bRequest 0x00) (λ e. no (get_status v d s) by-status)
      (λ e. chosen Asked (eqb s.bRequest 0x01) (λ e. no (clear_feature v d s) (by-feature clear_halt (λ k. w) (device_feature 0 v d s) (by-wakeup 0)))
      (λ e. chosen Asked (eqb s.bRequest 0x03) (λ e. by-set-feature e (zero e))
      (λ e. chosen Asked (eqb s.bRequest 0x05) (λ e t. absurd (let l = low e in let m = leb-true 129 s.wValue (both (leb 129 s.wValue) (leb s.wValue 133) t).0 in omega arith))
      (λ e. chosen Asked (eqb s.bRequest 0x06) (λ e. no (get_descriptor v d s) by-descriptor)
      (λ e. chosen Asked (eqb s.bRequest 0x08) (λ e. no (get_configuration v d s) w)
      (λ e. chosen Asked (eqb s.bRequest 0x09) (λ e. no (set_configuration v d s) by-configuration)
      (λ e. chosen Asked (eqb s.bRequest 0x0A) (λ e. no (get_interface v d s) (chosen Unasked (has_interface (selected v d) s.wIndex) (λ e. w) (λ e. w)))
      (λ e. no (set_interface v d s) (chosen Unasked (has_setting (selected v d) s.wIndex s.wValue) (λ e. w) (λ e. w))))))))))

-- past the table: SET_FEATURE to the device has type 00, SET_ADDRESS a value up to 127
of_row : (paired : Bool) (d : Device) (s : Setup) → refusal_for paired d s ≡ 0
    → (eqb s.bRequest 0x03 ≡ true → eqb (recipient s) 0 ≡ true → eqb s.bmRequestType 0 ≡ true) × (eqb s.bRequest 0x05 ≡ true → s.wValue ≤ 127)
unfolding every
of_row paired d s p = cases (asks_test_mode paired s)
    (λ t. let (k, c) = test-code paired s t in (λ three zero. eq-eqb _ 0 k, λ five. never five (ap (λ x. eqb x 0x05) c)))
    (λ t.
    let (r, m, k, c, i, h) = let_through d.state s (rw t at p) in
    let device = every-member (λ r. (eqb r.bRequest 3 && eqb (r.bmRequestType % 32) 0) ⇒ eqb r.bmRequestType 0) refl m in
    let address = every-member (λ r. eqb r.bRequest 5 ⇒ leb r.value 127) refl m in (
      λ three zero. rw k at (if-then _ _ device (joined (ap (λ x. eqb x 3) c ∙ three) (ap (λ x. eqb (x % 32) 0) k ∙ zero))),
      λ five.
          let l = leb-true r.value 127 (if-then _ _ address (ap (λ x. eqb x 5) c ∙ five)) in
          let n = leb-true s.wValue r.value (conjunct 0 (leb s.wValue r.value ∷ leb s.wIndex (largest_index r s.wValue) ∷ leb r.shortest s.wLength ∷ leb s.wLength r.longest ∷ []) h) in
          omega arith,
    ))

by-setup : (v : View) (d : Device) (s : Setup) → test_waits (answer_setup v d s).device ≡ true → (asks_test_mode v.paired s ≡ true) × (number_of (answer_setup v d s).answer ≡ 0)
unfolding answer_setup
by-setup v d s = chosen (Asked v (settled d) s refl) (in_test_mode d) (λ t. no v (settled d) s refl (refused 17 (settled d)) refl)
    (λ t. let n = refusal_for v.paired d s in chosen (Asked v (settled d) s refl) (eqb n 0)
    (λ p. let (zero, low) = of_row v.paired d s (eqb-true n 0 p) in by-request v (settled d) s refl zero low)
    (λ p. no v (settled d) s refl (refused n (settled d)) refl))

-- every event: where a test mode waits after it, it is no status end, and one waited before it or it is a test mode request
abbrev Waited : View → Device → Event → Outcome → Type 0
Waited v d e o = test_waits o.device ≡ true → (is_status_end e ≡ false) × ((test_waits d ≡ true) ⊎ ((asks v.paired e && eqb (number_of o.answer) 0) ≡ true))

waited : (v : View) (d : Device) (e : Event) → Waited v d e (respond v d e)
unfolding status_end halt packet_passed
waited v d (Request s) = λ t. let (a, z) = by-setup v d s t in (refl, inr (joined a (eq-eqb _ 0 z)))
waited v d Malformed = λ t. (refl, inl t)
waited v d StatusEnd = chosen (Waited v d StatusEnd) (eqb d.waiting nothing)
    (λ e t. absurd (let l = leb-true d.waiting 133 (both (leb 129 d.waiting) (leb d.waiting 133) t).1 in let n = eqb-true d.waiting nothing e in omega arith))
    (λ e. chosen (Waited v d StatusEnd) (test_waits d) (λ p t. absurd (false≢true t)) (λ p t. absurd (false≢true t)))
waited v d (BusReset speed) = chosen (Waited v d (BusReset speed)) (good_reset v.paired speed)
    (λ g. chosen (λ x. Waited v d (BusReset speed) (done x)) (in_test_mode d) (λ p t. (refl, inl t)) (λ p t. absurd (false≢true t)))
    (λ g t. (refl, inl t))
waited v d (Halt a) = at (endpoint_at v d a)
  where
    at : (o : Option Endpoint) → Waited v d (Halt a) (halt_at d o)
    at none = λ t. (refl, inl t)
    at (some e) = chosen (Waited v d (Halt a)) (can_halt e) (λ p t. (refl, inl t)) (λ p t. (refl, inl t))
waited v d (PacketPassed a) = at (endpoint_at v d a)
  where
    at : (o : Option Endpoint) → Waited v d (PacketPassed a) (pass_at d o)
    at none = λ t. (refl, inl t)
    at (some e) = chosen (Waited v d (PacketPassed a)) (can_halt e && not (bit d.halts (bit_of e.address))) (λ p t. (refl, inl t)) (λ p t. (refl, inl t))
waited v d (Power source) = chosen (Waited v d (Power source)) (leb source 1) (λ p t. (refl, inl t)) (λ p t. (refl, inl t))
waited v d Suspend = λ t. (refl, inl t)
waited v d Resume = λ t. (refl, inl t)
waited v d Wake = chosen (Waited v d Wake) (eqb d.suspended 1 && eqb d.wakeup 1) (λ p t. (refl, inl t)) (λ p t. (refl, inl t))

-- ---- so the page's premises are enough
module _ {Q C : Type 0} (b : Board) (ok : accepted b ≡ true) (k : ℕ) (read : Q → Device) (tell : C → Event) (after : Q → C → Q) (Fit : Q → Type 0)
    (keeps : (q : Q) (c : C) → Fit q → Fit (after q c)) (fits : (q : Q) → Fit q → fits_on b (read q) ≡ true)
    (reads : (q : Q) (c : C) → Fit q → read (after q c) ≡ next_of b (read q) (tell c)) where
  steps : (q : Q) (c : C) → Fit q → step b (read q) (tell c) ≡ respond (view_at b (read q)) (read q) (tell c)
  unfolding step
  steps q c f = rw (ok, fits q f)

  still : (q : Q) (c : C) (pending : Bool) → Fit q → (test_waits (read q) ≡ true → pending ≡ true)
      → test_waits (read (after q c)) ≡ true → pending_after b pending (read q) (tell c) ≡ true
  still q c pending f p t =
      let o = steps q c f in
      let (e, w) = waited (view_at b (read q)) (read q) (tell c) (sym (ap test_waits (reads q c f ∙ ap (λ (x : Outcome). x.device) o)) ∙ t) in
      rw e (go w o)
    where
      go : (test_waits (read q) ≡ true) ⊎ ((asks (view_at b (read q)).paired (tell c) && eqb (number_of (respond (view_at b (read q)) (read q) (tell c)).answer) 0) ≡ true)
          → step b (read q) (tell c) ≡ respond (view_at b (read q)) (read q) (tell c)
          → (pending || test_request b (read q) (tell c)) ≡ true
      go (inl w) o = or_left (test_request b (read q) (tell c)) (p w)
      go (inr w) o = or_right pending (ap (λ (x : Outcome). asks (view_at b (read q)).paired (tell c) && eqb (number_of x.answer) 0) o ∙ w)

  pub page_quiet : (q : Q) (pending : Bool) → Fit q → (test_waits (read q) ≡ true → pending ≡ true) → (cs : List C)
      → PageRun b k read tell after pending q cs → FairRun after (λ q c. struck_for b k (read q) (tell c)) (λ q c. Quiet (read q) (tell c)) q cs
  page_quiet q pending f p [] r = tt
  page_quiet q pending f p (c ∷ cs) r = (
    λ t. let (z, n) = r.0 t in (z, λ a. quiet (n a)),
    page_quiet (after q c) (pending_after b pending (read q) (tell c)) (keeps q c f) (still q c pending f p) cs r.1,
  )
    where
      quiet : pending ≡ false → test_waits (read q) ≡ false
      quiet n = cases (test_waits (read q)) (λ t. absurd (false≢true (sym n ∙ p t))) (λ t. t)

-- ---- from power-on
module _ (b : Board) (bytes : BytesOf b) (ok : accepted b ≡ true) (k : ℕ) (xs : List Event) where
  -- with the weaker premises: no struck event arrives while suspended, and no struck setup while a test mode waits
  pub struck : FairRun (next_of b) (struck_for b k) Quiet fresh xs → Unnoticed b k fresh xs
  struck quiet = let (fit, sized) = fresh_fit b bytes ok in unnoticed b bytes ok fresh sized fit k xs quiet

  -- with the page's
  pub struck_by_page : PageRun b k (λ d. d) (λ e. e) (next_of b) false fresh xs → Unnoticed b k fresh xs
  struck_by_page page =
      let (fit, sized) = fresh_fit b bytes ok in
      struck (page_quiet b ok k (λ d. d) (λ e. e) (next_of b) (Good b) (λ d e g. let (f, z) = step_fits b bytes ok d e g.0 g.1 in (z, f)) (λ d g. g.1) (λ d e g. refl)
      fresh false (sized, fit) (λ t. absurd (false≢true t)) xs page)
