-- What the library's own events do to the address and to what waits: a setup never changes the address, and an address waits after it only if it was a
-- SET_ADDRESS that was answered with 0. No axiom.
use Rattle.octets.proofs.Vocabulary.{◌≡◌, refl, ◌∙◌, ℕ, ◌≤◌, ◌<◌, List, [], ◌∷◌, Bool, true, false, ◌&&◌, ◌||◌, not, Option, some, none, ◌⊎◌, inl, inr, length, eqb, leb, lit≤, arith, eq-eqb, eqb-true, leb-true}
use Rattle.octets.specs.Bit.{bit, flip_bit}
use Rattle.octets.specs.Sentences.{◌⇒◌, any, every}
use Rattle.octets.proofs.Sentences.{if-then, conjunct}
use Rattle.descriptors.specs.declared.Endpoint.{Endpoint}
use Rattle.descriptors.specs.Configuration.{has_interface, has_setting, can_halt, bit_of}
use Rattle.sets.specs.Opening.{Board}
use Rattle.sets.specs.View.{View, wakes, accepted}
use Rattle.records.specs.declared.Device.{Device}
use Rattle.records.specs.Device.{nothing, at_high_speed, test_waits, in_test_mode, settled, awake, with_power, with_suspended, with_endpoints}
use Rattle.records.specs.Image.{device_of, image_of}
use Rattle.records.specs.Current.{selected, endpoint_at, view_at}
use Rattle.records.specs.Fits.{fits_on}
use Rattle.requests.specs.declared.Setup.{Setup}
use Rattle.requests.specs.Table.{recipient, refusal}
use Rattle.events.specs.declared.Event.{Event}
use Rattle.events.specs.declared.Event.TheVariants.{Request, Malformed, StatusEnd, BusReset}
use Rattle.events.specs.declared.facts.Located.{Located}
use Rattle.events.specs.declared.facts.Located.TheVariants.{Body, Serial, Nowhere}
use Rattle.events.specs.Answer.{Answer, Refused, Outcome, number_of, gives, done}
use Rattle.events.specs.Requests.{by_recipient, is_endpoint_zero, device_feature, names_test_mode, test_selector, set_test_mode, interface_feature, endpoint_feature, endpoint_status, halt_feature, clear_halt, set_halt, locate, describe, get_status, clear_feature, set_feature, set_address, get_descriptor, get_configuration, set_configuration, get_interface, set_interface}
use Rattle.events.specs.Step.{Reply, reply_of, request, refusal_for, answer_setup, status_end, good_reset, halt_at, halt as halt_event, pass_at, packet_passed as packet_passed_event, respond, step, event}
use Rattle.laws.proofs.Fitting.{fitting}
use Rattle.laws.proofs.Recipients.{table-judges}
use Rattle.laws.proofs.Outcomes.{chosen, ruled}
use Rattle.pipe_runs.specs.Runs.{Other, halt, packet_passed, power, suspend, resume, wake, other_event, address_in, waiting_in}

-- what waits after a setup: no address, or its own one
pub data Waits (s : Setup) (o : Outcome) : Type 0 where
  late : 128 ≤ o.device.waiting → Waits s o
  own : s.bRequest ≡ 5 → s.wLength ≡ 0 → number_of o.answer ≡ 0 → o.device.waiting ≡ s.wValue → Waits s o

pub record Keeps (d : Device) (s : Setup) (o : Outcome) : Type 0 where
  pub address : o.device.address ≡ d.address
  pub speed : o.device.speed ≡ d.speed
  pub waits : Waits s o

-- 05 has wLength 0
no_length : (state : ℕ) (s : Setup) → refusal state s ≡ 0 → s.bRequest ≡ 5 → s.wLength ≡ 0
unfolding every
no_length state s p c =
    let (r, f, k, i, h) = ruled (λ r. eqb r.bRequest 5 ⇒ eqb r.longest 0) refl state s p in
    let z = eqb-true r.longest 0 (if-then (eqb r.bRequest 5) (eqb r.longest 0) f (eq-eqb r.bRequest 5 (k ∙ c))) in
    let t = leb-true s.wLength r.longest (conjunct 3 (leb s.wValue r.value ∷ _ ∷ _ ∷ leb s.wLength r.longest ∷ []) h) in
    omega arith

-- ---- the requests, a leaf at a time, on a record at which no address waits
module _ (v : View) (d : Device) (s : Setup) (free : 128 ≤ d.waiting) where
  same : (a : Answer) → Keeps d s (gives a d)
  same a = record { address = refl; speed = refl; waits = late free }

  recipients : {x y z : Outcome} → Keeps d s x → Keeps d s y → Keeps d s z → Keeps d s (by_recipient s x y z)
  recipients p q r = chosen (Keeps d s) (eqb (recipient s) 0) (λ e. p) (λ e. chosen (Keeps d s) (eqb (recipient s) 1) (λ e. q) (λ e. r))

  status : Keeps d s (get_status v d s)
  unfolding get_status
  status = recipients (same _)
      (chosen (Keeps d s) (has_interface (selected v d) s.wIndex) (λ e. same _) (λ e. same _))
      (chosen (Keeps d s) (is_endpoint_zero s.wIndex) (λ e. same _) (λ e. at (endpoint_at v d s.wIndex)))
    where
      at : (o : Option Endpoint) → Keeps d s (endpoint_status d o)
      at none = same _
      at (some e) = same _

  wakes-or-not : (on : ℕ) → Keeps d s (device_feature on v d s)
  wakes-or-not on = chosen (Keeps d s) (eqb s.wValue 1 && wakes v) (λ e. record { address = refl; speed = refl; waits = late free }) (λ e. same _)

  test-mode : Keeps d s (set_test_mode d s)
  test-mode = chosen (Keeps d s) (eqb d.speed at_high_speed && leb 1 (test_selector s) && leb (test_selector s) 5)
      (λ e. record { address = refl; speed = refl; waits = late (omega arith) }) (λ e. same _)

  features : (change : Device → ℕ → Device) {device : Outcome} → Keeps d s device → ((k : ℕ) → Keeps d s (done (change d k)))
      → Keeps d s (by_recipient s device (interface_feature v d s) (endpoint_feature change v d s))
  features change device changed = recipients device
      (chosen (Keeps d s) (has_interface (selected v d) s.wIndex) (λ e. same _) (λ e. same _))
      (chosen (Keeps d s) (is_endpoint_zero s.wIndex) (λ e. same _) (λ e. at (endpoint_at v d s.wIndex)))
    where
      at : (o : Option Endpoint) → Keeps d s (halt_feature change d s o)
      at none = same _
      at (some x) = chosen (Keeps d s) (eqb s.wValue 0 && can_halt x) (λ t. changed (bit_of x.address)) (λ t. same _)

  descriptors : Keeps d s (get_descriptor v d s)
  unfolding get_descriptor
  descriptors = at (locate v s)
    where
      at : (l : Located) → Keeps d s (describe d s.wLength l)
      at (Body offset size) = same _
      at (Serial size) = same _
      at Nowhere = same _

  configurations : Keeps d s (set_configuration v d s)
  unfolding set_configuration
  configurations = chosen (Keeps d s) (eqb s.wValue 0) (λ e. record { address = refl; speed = refl; waits = late free })
      (λ e. chosen (Keeps d s) (any (λ c. eqb c.value s.wValue) v.configurations) (λ e. record { address = refl; speed = refl; waits = late free }) (λ e. same _))

  requested : refusal_for v.paired d s ≡ 0 → Keeps d s (request v d s)
  unfolding request clear_feature set_feature set_address get_configuration get_interface set_interface
  requested p =
      chosen (Keeps d s) (eqb s.bRequest 0x00) (λ e. status)
      (λ e. chosen (Keeps d s) (eqb s.bRequest 0x01) (λ e. features clear_halt (wakes-or-not 0) (λ k. record { address = refl; speed = refl; waits = late free }))
      (λ e. chosen (Keeps d s) (eqb s.bRequest 0x03) (λ e. features set_halt (chosen (Keeps d s) (names_test_mode v.paired s) (λ n. test-mode) (λ n. wakes-or-not 1)) (λ k. record { address = refl; speed = refl; waits = late free }))
      (λ e. chosen (Keeps d s) (eqb s.bRequest 0x05)
      (λ e. let five = eqb-true s.bRequest 5 e in record { address = refl; speed = refl; waits = own five (no_length d.state s (table-judges v.paired d s five refl p) five) refl refl })
      (λ e. chosen (Keeps d s) (eqb s.bRequest 0x06) (λ e. descriptors)
      (λ e. chosen (Keeps d s) (eqb s.bRequest 0x08) (λ e. same _)
      (λ e. chosen (Keeps d s) (eqb s.bRequest 0x09) (λ e. configurations)
      (λ e. chosen (Keeps d s) (eqb s.bRequest 0x0A) (λ e. chosen (Keeps d s) (has_interface (selected v d) s.wIndex) (λ e. same _) (λ e. same _))
      (λ e. chosen (Keeps d s) (has_setting (selected v d) s.wIndex s.wValue) (λ e. record { address = refl; speed = refl; waits = late free }) (λ e. same _)))))))))

-- ---- a setup, on a record that fits
setup-keeps : (v : View) (d : Device) (s : Setup) → Keeps d s (answer_setup v d s)
unfolding answer_setup
setup-keeps v d s = of (chosen (Keeps (settled d) s) (in_test_mode d) (λ t. same v (settled d) s (lit≤ tt) _)
    (λ t. chosen (Keeps (settled d) s) (eqb (refusal_for v.paired d s) 0)
    (λ e. requested v (settled d) s (lit≤ tt) (eqb-true (refusal_for v.paired d s) 0 e))
    (λ e. same v (settled d) s (lit≤ tt) _)))
  where
    of : {o : Outcome} → Keeps (settled d) s o → Keeps d s o
    of k = record { address = k.address; speed = k.speed; waits = k.waits }

-- ---- the same on images: the address, and what waits
address-back : (d : Device) → address_in (image_of d) ≡ d.address
unfolding device_of image_of
address-back d = refl

waiting-back : (d : Device) → waiting_in (image_of d) ≡ d.waiting
unfolding device_of image_of
waiting-back d = refl

speed-back : (d : Device) → (device_of (image_of d)).speed ≡ d.speed
unfolding device_of image_of
speed-back d = refl

-- an event's reply is the step's outcome, or that of an image that is not 32 bytes
by-step : (P : Reply → Type 0) (b : Board) (image : List ℕ) (e : Event) → (fits_on b (device_of image) ≡ true → P (reply_of (respond (view_at b (device_of image)) (device_of image) e)))
    → ((a : Answer) → (number_of a ≡ 7) ⊎ (number_of a ≡ 8) → P (reply_of (gives a (device_of image))) × P (record { answer = a; image = image })) → P (event b image e)
unfolding event step
by-step P b image e p q =
    chosen P (eqb (length image) 32)
    (λ _. chosen (λ o. P (reply_of o)) (accepted b)
    (λ _. chosen (λ o. P (reply_of o)) (fits_on b (device_of image)) p (λ _. (q _ (inr refl)).0)) (λ _. (q _ (inl refl)).0))
    (λ _. chosen (λ n. P (record { answer = Refused n; image = image })) (accepted b) (λ _. (q _ (inr refl)).1) (λ _. (q _ (inl refl)).1))

-- ---- a setup
pub data WaitsIn (s : Setup) (r : Reply) : Type 0 where
  late : 128 ≤ waiting_in r.image → WaitsIn s r
  own : s.bRequest ≡ 5 → s.wLength ≡ 0 → number_of r.answer ≡ 0 → waiting_in r.image ≡ s.wValue → WaitsIn s r
  refused : (number_of r.answer ≡ 7) ⊎ (number_of r.answer ≡ 8) → WaitsIn s r

pub record Leaves (image : List ℕ) (s : Setup) (r : Reply) : Type 0 where
  pub address : address_in r.image ≡ address_in image
  pub speed : (device_of r.image).speed ≡ (device_of image).speed
  pub waits : WaitsIn s r

pub setup_leaves : (b : Board) (image : List ℕ) (s : Setup) → Leaves image s (event b image (Request s))
setup_leaves b image s = by-step (Leaves image s) b image (Request s) (λ _. of (setup-keeps (view_at b (device_of image)) (device_of image) s))
    (λ a n. (record { address = address-back (device_of image); speed = speed-back (device_of image); waits = refused n }, record { address = refl; speed = refl; waits = refused n }))
  where
    waited : {o : Outcome} → Waits s o → WaitsIn s (reply_of o)
    waited {o} (late l) = late (rw (waiting-back o.device) l)
    waited {o} (own five z n w) = own five z n (waiting-back o.device ∙ w)

    of : {o : Outcome} → Keeps (device_of image) s o → Leaves image s (reply_of o)
    of {o} k = record { address = address-back o.device ∙ k.address; speed = speed-back o.device ∙ k.speed; waits = waited k.waits }

-- ---- an event that settles nothing: a setup that is not 8 bytes, and a reset that is refused
pub record Same (image : List ℕ) (r : Reply) : Type 0 where
  pub address : address_in r.image ≡ address_in image
  pub waiting : waiting_in r.image ≡ waiting_in image
  pub speed : (device_of r.image).speed ≡ (device_of image).speed

same-device : (image : List ℕ) (a : Answer) → Same image (reply_of (gives a (device_of image)))
same-device image a = record { address = address-back (device_of image); waiting = waiting-back (device_of image); speed = speed-back (device_of image) }

pub malformed_same : (b : Board) (image : List ℕ) → Same image (event b image Malformed)
malformed_same b image = by-step (Same image) b image Malformed (λ _. same-device image _) (λ a n. (same-device image a, record { address = refl; waiting = refl; speed = refl }))

pub reset_same : (b : Board) (image : List ℕ) (speed : ℕ) → (number_of (event b image (BusReset speed)).answer ≡ 0 → ⊥) → Same image (event b image (BusReset speed))
reset_same b image speed = by-step (λ r. (number_of r.answer ≡ 0 → ⊥) → Same image r) b image (BusReset speed)
    (λ _. chosen (λ o. (number_of o.answer ≡ 0 → ⊥) → Same image (reply_of o)) (good_reset (view_at b (device_of image)).paired speed) (λ _ z. absurd (z refl)) (λ _ z. same-device image _))
    (λ a n. ((λ z. same-device image a), (λ z. record { address = refl; waiting = refl; speed = refl })))

-- ---- the other events
module _ (b : Board) (image : List ℕ) where
  abbrev d : Device
  d = device_of image

  -- an outcome that leaves the three
  as_before : (x : Device) → x.address ≡ d.address → x.waiting ≡ d.waiting → x.speed ≡ d.speed → Same image (reply_of (done x))
  as_before x p q r = record { address = address-back x ∙ p; waiting = waiting-back x ∙ q; speed = speed-back x ∙ r }

  halted : (o : Option Endpoint) → Same image (reply_of (halt_at d o))
  halted none = same-device image _
  halted (some e) = chosen (λ x. Same image (reply_of x)) (can_halt e) (λ _. as_before (set_halt d (bit_of e.address)) refl refl refl) (λ _. same-device image _)

  passed : (o : Option Endpoint) → Same image (reply_of (pass_at d o))
  passed none = same-device image _
  passed (some e) = chosen (λ x. Same image (reply_of x)) (can_halt e && not (bit d.halts (bit_of e.address)))
      (λ _. as_before (awake (with_endpoints d.alternates d.halts (flip_bit d.toggles (bit_of e.address)) d)) refl refl refl) (λ _. same-device image _)

  responds : (x : Other) → Same image (reply_of (respond (view_at b d) d (other_event x)))
  unfolding halt_event packet_passed_event
  responds (halt a) = halted (endpoint_at (view_at b d) d a)
  responds (packet_passed a) = passed (endpoint_at (view_at b d) d a)
  responds (power source) = chosen (λ x. Same image (reply_of x)) (leb source 1) (λ _. as_before (with_power source d) refl refl refl) (λ _. same-device image _)
  responds suspend = as_before (with_suspended 1 d) refl refl refl
  responds resume = as_before (awake d) refl refl refl
  responds wake = chosen (λ x. Same image (reply_of x)) (eqb d.suspended 1 && eqb d.wakeup 1) (λ _. same-device image _) (λ _. same-device image _)

  pub other_same : (x : Other) → Same image (event b image (other_event x))
  other_same x = by-step (Same image) b image (other_event x) (λ _. responds x) (λ a n. (same-device image a, record { address = refl; waiting = refl; speed = refl }))

-- ---- a status end: the address stays, or is the one that waited
pub data Applies (image : List ℕ) (r : Reply) : Type 0 where
  stays : address_in r.image ≡ address_in image → Applies image r
  takes : address_in r.image ≡ waiting_in image → waiting_in image < 128 → Applies image r

-- on a record that fits, what waits is nothing, a test mode, or an address
address-waits : (b : Board) (d : Device) → fits_on b d ≡ true → eqb d.waiting nothing ≡ false → test_waits d ≡ false → d.waiting < 128
address-waits b d f n t = let l = leb-true d.waiting 127 (first_of (leb d.waiting 127) (not (in_test_mode d)) (rw (n, t) at (fitting (view_at b d) d f).common.waiting)) in omega arith
  where
    first_of : (x y : Bool) → ((x && y) || false) ≡ true → x ≡ true
    first_of true y z = refl
    first_of false y z = z

pub status_end_applies : (b : Board) (image : List ℕ) → Applies image (event b image StatusEnd)
unfolding status_end
status_end_applies b image = by-step (Applies image) b image StatusEnd
    (λ f. chosen (λ o. Applies image (reply_of o)) (eqb (device_of image).waiting nothing) (λ _. stays (address-back (device_of image)))
    (λ n. chosen (λ o. Applies image (reply_of o)) (test_waits (device_of image)) (λ _. stays (address-back _))
    (λ t. takes (address-back _) (address-waits b (device_of image) f n t))))
    (λ a n. (stays (address-back (device_of image)), stays refl))
