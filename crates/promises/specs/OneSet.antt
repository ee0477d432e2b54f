-- "A board that lends one set keeps every old answer" (L7): over one set opening is document 01's, and the step is the step from before, byte for byte, for every
-- set, serial block, record, image and event. No axiom.
use Rattle.std.specs.Prelude.{ℕ, ◌/◌, ◌%◌, ◌≤◌, ◌≡◌, refl, ◌⊎◌, Bool, true, ◌&&◌, ◌||◌, not, length, eqb}
use Rattle.std.proofs.Common.{arith, sym, ◌∙◌, inl, inr}
use Rattle.std.proofs.Math.Path.{ap}
use mathlib.Core.List.{List, [], ◌∷◌, Memᴰ}
use Rattle.std.proofs.Math.Option.{none}
use Rattle.std.proofs.Math.Bool.{false}
use Rattle.std.proofs.Math.Dec.{leb}
use borrow.Author.Tests.{eqb-true, leb-true, lt-leb}
use Rattle.octets.specs.Sentences.{pick, ◌⇒◌, every, first, member, neighbours, pairs}
use Rattle.octets.proofs.Sentences.{cases, never, both, joined, either, or_left, or_right, conjunct, same_test, every-member, every-alike, none_first}
use Rattle.descriptors.specs.Limits.{full_speed, named}
use Rattle.descriptors.specs.Cut.{cut, descriptors_of, well_cut}
use Rattle.descriptors.specs.Descriptor.{bDescriptorType, is_interface, is_endpoint, bEndpointAddress, bmAttributes, wMaxPacketSize, bInterval, transfer_type, good_address, good_attributes, interrupt_size, isochronous_size, good_size, good_interval, endpoint_long_enough, good_endpoint, interface_long_enough, good_descriptor}
use Rattle.descriptors.specs.Interfaces.{grouped, good_interfaces}
use Rattle.descriptors.specs.Configuration.{bNumInterfaces, good_head, good_descriptors, good_configuration}
use Rattle.descriptors.proofs.FullSpeed as row
use Rattle.sets.specs.declared.Entry.{Entry}
use Rattle.sets.specs.Contents.{entries, kind_allowed, before, body_long_enough, end_to_end, bodies_at, total, good_frame, good_contents}
use Rattle.sets.specs.Pieces.{Piece, pieces_in, pieces_of, bodies_of, is_one, has_index, has_no_language, sole}
use Rattle.sets.specs.Device.{bMaxPacketSize0, has18_bytes, says18_bytes, is_device, subclass_with_class, counts_configuration, at_most8_configurations, count_is_entries, good_device}
use Rattle.sets.specs.Strings.{good_strings}
use Rattle.sets.specs.Opening.{lent, good_devices, numbered_from, value_nonzero, distinct_values, good_configurations, good_block, opening}
use Rattle.sets.specs.View.{View, view_of, accepted, has_value, wakes}
use Rattle.sets.proofs.Groups.{groups}
use Rattle.records.specs.declared.Device.{Device}
use Rattle.records.specs.Device.{in_default, in_address, in_configured, nothing, test_waits, in_test_mode, after_reset, settled, fresh}
use Rattle.records.specs.Current.{selected, current_endpoints}
use Rattle.records.specs.Fits.{in_range, good_waiting, good_state, good_alternates, stands_at, fits}
use Rattle.records.specs.Image.{device_of, image_of}
use Rattle.requests.specs.declared.Setup.{Setup}
use Rattle.events.specs.declared.Event.{Event}
use Rattle.events.specs.declared.Event.TheVariants.{Request, Malformed, StatusEnd, BusReset, Halt, PacketPassed, Power, Suspend, Resume, Wake}
use Rattle.events.specs.declared.facts.Located.TheVariants.{Nowhere}
use Rattle.events.specs.Answer.{done, refused}
use Rattle.events.specs.Requests.{is_entry, body_at, by_index, locate, describe, set_feature, get_descriptor}
use Rattle.events.specs.Step.{request, answer_setup, status_end, respond, step, event, opened}
use Rattle.promises.specs.Kinds.{keeps_configurations, keeps_devices}
use Rattle.promises.specs.Base as base
use Rattle.promises.specs.Before as before

-- ---- words of tests
or-none : (a : Bool) → (a || false) ≡ a
or-none true = refl
or-none false = refl

same-pick : {A : Type 0} (t : Bool) {x y z w : A} → (t ≡ true → x ≡ w) → (t ≡ false → y ≡ z) → pick t x y ≡ pick t w z
same-pick true f g = f refl
same-pick false f g = g refl

-- ---- opening: full speed's row says document 01's numbers
kinds-same : (e : Entry) → kind_allowed full_speed e ≡ base.kind_allowed e
kinds-same e = row.entry-types e.kind

contents-same : (set : List ℕ) → good_contents full_speed set ≡ base.good_contents set
unfolding good_contents
contents-same set = ap (λ t. t && neighbours before (entries set) && every body_long_enough (entries set) && end_to_end (bodies_at set) (total set) (entries set))
    (every-alike (kind_allowed full_speed) base.kind_allowed (entries set) (λ e m. kinds-same e))

device-same : (n : ℕ) (d : List ℕ) → good_device full_speed n d ≡ base.good_device n d
device-same n d = ap (λ t. has18_bytes d && says18_bytes d && is_device d && t && subclass_with_class d && counts_configuration d && at_most8_configurations d && count_is_entries n d)
    (row.control-sizes (bMaxPacketSize0 d))

sole-same : (f g : List ℕ → Bool) → ((x : List ℕ) → f x ≡ g x) → (ps : List Piece) → sole f ps ≡ sole g ps
sole-same f g h [] = refl
sole-same f g h (p ∷ ps) = ap (λ t. is_one (p ∷ ps) && has_index 0 p && has_no_language p && t) (h p.body)

devices-same : (ps : List Piece) → good_devices full_speed ps ≡ base.good_devices ps
devices-same ps = keeps_devices full_speed refl ps ∙ sole-same (good_device full_speed (length (pieces_of 2 ps))) (base.good_device (length (pieces_of 2 ps))) (device-same (length (pieces_of 2 ps))) (pieces_of 1 ps)

size_same : (transfer size : ℕ) → good_size full_speed transfer size ≡ base.good_size transfer size
size_same transfer size =
    ap (λ t. (eqb transfer 2 ⇒ t) && interrupt_size full_speed transfer size && isochronous_size full_speed transfer size) (row.control-sizes size)
    ∙ ap (λ t. (eqb transfer 2 ⇒ base.eight_to64 size) && (eqb transfer 3 ⇒ t) && isochronous_size full_speed transfer size) (row.up_to 64 size (omega arith))
    ∙ ap (λ t. (eqb transfer 2 ⇒ base.eight_to64 size) && (eqb transfer 3 ⇒ leb size 64) && (eqb transfer 1 ⇒ t)) (row.up_to 1023 size (omega arith))

descriptor-same : (d : List ℕ) → good_descriptor full_speed d ≡ base.good_descriptor d
descriptor-same d =
    ap (λ t. not t && (is_interface d ⇒ interface_long_enough d) && (is_endpoint d ⇒ good_endpoint full_speed d)) (row.refused-types (bDescriptorType d))
    ∙ ap (λ t. not (member (bDescriptorType d) (1 ∷ 2 ∷ 3 ∷ 6 ∷ 7 ∷ [])) && (is_interface d ⇒ interface_long_enough d)
    && (is_endpoint d ⇒ (endpoint_long_enough d && good_address (bEndpointAddress d) && good_attributes (bmAttributes d) && t && good_interval full_speed (transfer_type (bmAttributes d)) (bInterval d))))
    (size_same (transfer_type (bmAttributes d)) (wMaxPacketSize d))

body_same : (body : List ℕ) → good_configuration full_speed body ≡ base.good_configuration body
unfolding good_configuration good_descriptors
body_same body = ap (λ t. well_cut (cut body) && t) (go (descriptors_of (cut body)))
  where
    go : (ds : List (List ℕ)) → good_descriptors full_speed (length body) ds ≡ base.good_descriptors (length body) ds
    go [] = refl
    go (d ∷ ds) = keeps_configurations full_speed refl (length body) d ds
        ∙ ap (λ t. good_head (length body) d && t && good_interfaces (bNumInterfaces d) (grouped ds)) (every-alike (good_descriptor full_speed) base.good_descriptor ds (λ x m. descriptor-same x))

configurations-same : (ps : List Piece) → good_configurations full_speed ps ≡ base.good_configurations ps
unfolding good_configurations
configurations-same ps = ap (λ t. numbered_from 0 (pieces_of 2 ps) && t && every value_nonzero (bodies_of 2 ps) && pairs distinct_values (bodies_of 2 ps))
    (every-alike (good_configuration full_speed) base.good_configuration (bodies_of 2 ps) (λ x m. body_same x))

-- "A board that lends one set keeps every old answer" (L7), "Older kinds keep every answer" (L13): opening too
pub opening_same : (set serial : List ℕ) → opening full_speed (lent set serial) ≡ base.opening set serial
unfolding opening base.opening
opening_same set serial =
    let ps = pieces_in set in
    ap (λ t. pick (not (good_frame set)) 1 (pick (not t) 2 (pick (not (good_devices full_speed ps)) 3 (pick (not (good_configurations full_speed ps)) 4 (pick (not (good_strings ps)) 5 (pick (not (good_block ps serial)) 6 0)))))) (contents-same set)
    ∙ ap (λ t. pick (not (good_frame set)) 1 (pick (not (base.good_contents set)) 2 (pick (not t) 3 (pick (not (good_configurations full_speed ps)) 4 (pick (not (good_strings ps)) 5 (pick (not (good_block ps serial)) 6 0)))))) (devices-same ps)
    ∙ ap (λ t. pick (not (good_frame set)) 1 (pick (not (base.good_contents set)) 2 (pick (not (base.good_devices ps)) 3 (pick (not t) 4 (pick (not (good_strings ps)) 5 (pick (not (good_block ps serial)) 6 0)))))) (configurations-same ps)

pub opened_same : (set serial image : List ℕ) → opened (lent set serial) image ≡ base.opened set serial image
unfolding opened base.opened
opened_same set serial image = ap (λ n. pick (eqb (length image) 32) (record { number = n; image = image_of fresh }) (record { number = 8; image = image })) (opening_same set serial)

-- ---- what fits where one set is lent: byte 7 is 0, and no test mode waits
module _ (d : Device) where
  low-waits : before.good_waiting d ≡ true → test_waits d ≡ false
  low-waits p = cases (test_waits d) (λ t. absurd (go t (either (leb d.waiting 127) (eqb d.waiting nothing) p))) (λ t. t)
    where
      go : test_waits d ≡ true → (leb d.waiting 127 ≡ true) ⊎ (eqb d.waiting nothing ≡ true) → ⊥
      go t q =
          let (l, h) = both (leb 129 d.waiting) (leb d.waiting 133) t in
          let m = leb-true 129 d.waiting l in
          let n = leb-true d.waiting 133 h in
          low q m n
        where
          low : (leb d.waiting 127 ≡ true) ⊎ (eqb d.waiting nothing ≡ true) → 129 ≤ d.waiting → d.waiting ≤ 133 → ⊥
          low (inl p) m n = let k = leb-true d.waiting 127 p in omega arith
          low (inr p) m n = let k = eqb-true d.waiting nothing p in omega arith

  -- at speed 0 the two rules of what waits are one
  waits-before : d.speed ≡ 0 → good_waiting d ≡ true → before.good_waiting d ≡ true
  waits-before z p = go (either (eqb d.waiting nothing || (leb d.waiting 127 && not (in_test_mode d))) (test_waits d && eqb d.speed 1) p)
    where
      low : (eqb d.waiting nothing ≡ true) ⊎ ((leb d.waiting 127 && not (in_test_mode d)) ≡ true) → before.good_waiting d ≡ true
      low (inl q) = or_right (leb d.waiting 127) q
      low (inr q) = or_left (eqb d.waiting nothing) (both (leb d.waiting 127) (not (in_test_mode d)) q).0

      go : ((eqb d.waiting nothing || (leb d.waiting 127 && not (in_test_mode d))) ≡ true) ⊎ ((test_waits d && eqb d.speed 1) ≡ true) → before.good_waiting d ≡ true
      go (inl q) = low (either (eqb d.waiting nothing) (leb d.waiting 127 && not (in_test_mode d)) q)
      go (inr q) = absurd (let o = eqb-true d.speed 1 (both (test_waits d) (eqb d.speed 1) q).1 in omega arith)

  outside : d.speed ≡ 0 → in_test_mode d ≡ false
  outside z = lt-leb 2 d.speed (omega arith)

  waits-after : d.speed ≡ 0 → before.good_waiting d ≡ true → good_waiting d ≡ true
  waits-after z p = or_left _ (go (either (leb d.waiting 127) (eqb d.waiting nothing) p))
    where
      go : (leb d.waiting 127 ≡ true) ⊎ (eqb d.waiting nothing ≡ true) → (eqb d.waiting nothing || (leb d.waiting 127 && not (in_test_mode d))) ≡ true
      go (inl q) = or_right (eqb d.waiting nothing) (joined q (ap not (outside z)))
      go (inr q) = or_left (leb d.waiting 127 && not (in_test_mode d)) q

-- the speed, where one set is lent
full : (speed : ℕ) → (eqb speed 0 || false) ≡ true → eqb speed 0 ≡ true
full speed p = sym (or-none (eqb speed 0)) ∙ p

module _ (set serial : List ℕ) where
  abbrev v : View
  v = view_of (lent set serial)

  module _ (d : Device) where
    -- where no test mode waits the two rules of the state are one
    state-same : test_waits d ≡ false → good_state v d ≡ before.good_state v d
    state-same t = ap (λ w.
        (eqb d.state in_default ⇒ (eqb d.address 0 && eqb d.configuration 0)) &&
        (eqb d.state in_address ⇒ (leb 1 d.address && leb d.address 127 && eqb d.configuration 0)) &&
        (eqb d.state in_configured ⇒ (leb 1 d.address && leb d.address 127 && has_value (record { 0 = d.configuration }) v.configurations && w)))
        (ap (λ w. eqb d.waiting nothing || w) t ∙ or-none (eqb d.waiting nothing))

    abbrev rules : List Bool
    rules = in_range false d ∷ good_waiting d ∷ good_state v d ∷ good_alternates (selected v d) d ∷ stands_at (current_endpoints v d) d.halts ∷ stands_at (current_endpoints v d) d.toggles ∷ (eqb d.wakeup 1 ⇒ wakes v) ∷ []

    abbrev were : List Bool
    were = before.in_range d ∷ before.good_waiting d ∷ before.good_state v d ∷ good_alternates (selected v d) d ∷ stands_at (current_endpoints v d) d.halts ∷ stands_at (current_endpoints v d) d.toggles ∷ (eqb d.wakeup 1 ⇒ wakes v) ∷ []

    abbrev ranges : Bool
    ranges = leb d.state 2 && leb d.wakeup 1 && leb d.power 1 && leb d.suspended 1

    pub at-full : before.fits v d ≡ true → d.speed ≡ 0
    unfolding before.fits
    at-full q = eqb-true d.speed 0 (both ranges (eqb d.speed 0) (conjunct 0 were q)).1

    pub was-waiting : before.fits v d ≡ true → before.good_waiting d ≡ true
    unfolding before.fits
    was-waiting q = conjunct 1 were q

    -- a record fits as it did
    pub fits_same : fits v d ≡ before.fits v d
    unfolding fits before.fits view_of
    fits_same = same_test (fits v d) (before.fits v d)
        (λ p.
        let (r, z) = both ranges (eqb d.speed 0 || false) (conjunct 0 rules p) in
        let full-speed = full d.speed z in
        let w = waits-before d (eqb-true d.speed 0 full-speed) (conjunct 1 rules p) in
        joined (joined (joined (joined (joined (joined (joined r full-speed) w) (sym (state-same (low-waits d w)) ∙ conjunct 2 rules p)) (conjunct 3 rules p)) (conjunct 4 rules p)) (conjunct 5 rules p)) (conjunct 6 rules p))
        (λ q.
        let (r, full-speed) = both ranges (eqb d.speed 0) (conjunct 0 were q) in
        let w = conjunct 1 were q in
        joined (joined (joined (joined (joined (joined (joined r (or_left false full-speed)) (waits-after d (eqb-true d.speed 0 full-speed) w)) (state-same (low-waits d w) ∙ conjunct 2 were q)) (conjunct 3 were q)) (conjunct 4 were q)) (conjunct 5 were q)) (conjunct 6 were q))

  -- ---- GET_DESCRIPTOR: an accepted set has no entries of types 6 and 7
  module _ (ok : accepted (lent set serial) ≡ true) where
    kinds : (e : Entry) → Memᴰ e (entries set) → named full_speed.entries e.kind ≡ true
    unfolding good_contents
    kinds e m =
        let g = groups full_speed (lent set serial) (eqb-true (opening full_speed (lent set serial)) 0 ok) in
        let k = conjunct 0 (every (λ e. named full_speed.entries e.kind) (entries set) ∷ neighbours before (entries set) ∷ every (λ e. leb 2 e.length) (entries set) ∷ end_to_end (bodies_at set) (total set) (entries set) ∷ []) g.contents in
        every-member (λ e. named full_speed.entries e.kind) k m

    no-entry : (kind index : ℕ) → eqb kind 1 ≡ false → by_index kind ≡ true → first (is_entry kind index 0) (entries set) ≡ none
    no-entry kind index n p = none_first (is_entry kind index 0) (entries set) (λ e m. cases (eqb e.kind kind)
        (λ k. never (kinds e m) (ap (named full_speed.entries) (eqb-true e.kind kind k) ∙ strange (either (eqb kind 6) (eqb kind 7) (rw n at p))))
        (λ k. rw k))
      where
        strange : (eqb kind 6 ≡ true) ⊎ (eqb kind 7 ≡ true) → named full_speed.entries kind ≡ false
        strange (inl q) = ap (named full_speed.entries) (eqb-true kind 6 q)
        strange (inr q) = ap (named full_speed.entries) (eqb-true kind 7 q)

    entry-same : (kind index : ℕ) → pick (by_index kind) (body_at (first (is_entry kind index 0) (entries set))) Nowhere ≡ pick (eqb kind 1) (body_at (first (is_entry 1 index 0) (entries set))) Nowhere
    entry-same kind index = cases (eqb kind 1)
        (λ p. rw (eqb-true kind 1 p))
        (λ n. cases (by_index kind) (λ p. rw (p, n, no-entry kind index n p)) (λ p. rw (p, n)))

    locate-same : (s : Setup) → locate v s ≡ before.locate v s
    unfolding locate view_of
    locate-same s = same-pick (eqb (s.wValue / 256) 3) (λ t. refl) (λ p. same-pick (eqb (s.wValue / 256) 2) (λ t. refl) (λ q. entry-same (s.wValue / 256) (s.wValue % 256)))

    request-same : (d : Device) (s : Setup) → request v d s ≡ before.request v d s
    unfolding request set_feature get_descriptor view_of
    request-same d s =
        same-pick (eqb s.bRequest 0x00) (λ t. refl) (λ p. same-pick (eqb s.bRequest 0x01) (λ t. refl) (λ p. same-pick (eqb s.bRequest 0x03) (λ t. refl)
        (λ p. same-pick (eqb s.bRequest 0x05) (λ t. refl) (λ p. same-pick (eqb s.bRequest 0x06) (λ t. ap (describe d s.wLength) (locate-same s)) (λ p. refl)))))

    -- ---- every event
    module _ (d : Device) (f : before.fits v d ≡ true) where
      setup-same : (s : Setup) → answer_setup v d s ≡ before.answer_setup v d s
      unfolding answer_setup view_of
      setup-same s = rw (outside d (at-full d f), request-same (settled d) s)

      end_same : status_end d ≡ before.status_end d
      unfolding status_end
      end_same = same-pick (eqb d.waiting nothing) (λ t. refl) (λ n. rw (low-waits d (was-waiting d f)))

      reset-same : (speed : ℕ) → eqb speed 0 ≡ true → respond v d (BusReset speed) ≡ before.respond v d (BusReset speed)
      reset-same speed p =
          let z = eqb-true speed 0 p in
          ap (λ x. respond v d (BusReset x)) z ∙ ap (λ t. done (pick t d (after_reset 0 d))) (outside d (at-full d f))

      respond-same : (e : Event) → before.known e ≡ true → respond v d e ≡ before.respond v d e
      respond-same (Request s) p = setup-same s
      respond-same Malformed p = refl
      respond-same StatusEnd p = end_same
      respond-same (BusReset speed) p = reset-same speed p
      respond-same (Halt a) p = refl
      respond-same (PacketPassed a) p = refl
      respond-same (Power source) p = refl
      respond-same Suspend p = refl
      respond-same Resume p = refl
      respond-same Wake p = refl

  -- ---- the step over one set is the step from before
  pub one_set : (d : Device) (e : Event) → before.known e ≡ true → step (lent set serial) d e ≡ before.step (lent set serial) d e
  unfolding step before.step view_of
  one_set d e k = rw (← opening_same set serial) (cases (accepted (lent set serial))
      (λ ok. rw (ok, fits_same d) (cases (before.fits v d) (λ f. rw f (respond-same ok d f e k)) (λ f. rw f)))
      (λ no. rw no))

  -- and a reset to another speed is refused, where the record fits
  pub other_speed : (d : Device) (speed : ℕ) → eqb speed 0 ≡ false → accepted (lent set serial) ≡ true → before.fits v d ≡ true
      → step (lent set serial) d (BusReset speed) ≡ refused 16 d
  unfolding step view_of
  other_speed d speed n ok f = rw (ok, fits_same d, f, n)

  -- ---- on images of any length
  pub one_set_image : (image : List ℕ) (e : Event) → before.known e ≡ true → event (lent set serial) image e ≡ before.event (lent set serial) image e
  unfolding event before.event
  one_set_image image e k = cases (eqb (length image) 32) (λ p. rw (p, one_set (device_of image) e k)) (λ p. rw (p, ← opening_same set serial))
