-- No reply is longer than its setup asked for, and an accepted set's bMaxPacketSize0 is a size that can be cut: so every reply can be. No axiom.
use Rattle.std.specs.Prelude.{ℕ, ◌+◌, ◌≤◌, ◌≡◌, List, [], ◌∷◌, Bool, true, false, ◌&&◌, ◌||◌, length, leb}
use native.Mathlib.Omega.{arith}
use Rattle.std.proofs.Math.Path.{refl}
use Rattle.std.proofs.Common.{sym, ◌∙◌}
use Rattle.std.proofs.Math.Option.{Option, some, none}
use Rattle.std.proofs.Math.Dec.{eqb}
use borrow.Author.Tests.{eq-eqb, eqb-true, leb-true, le-leb}
use Rattle.octets.specs.Octets.{byte}
use Rattle.octets.specs.Sentences.{pick, ◌⇒◌, any, every}
use Rattle.octets.proofs.Sentences.{cases, if-then, both, joined, conjunct, or_right}
use Rattle.descriptors.specs.declared.Endpoint.{Endpoint}
use Rattle.descriptors.specs.Configuration.{has_interface, has_setting, can_halt}
use Rattle.descriptors.specs.Limits.{doubled}
use Rattle.descriptors.specs.declared.limits.Limits.{Limits}
use Rattle.descriptors.proofs.HighSpeed.{control-64}
use Rattle.sets.specs.Device.{bMaxPacketSize0, good_device, device_body_of, device_body}
use Rattle.sets.specs.Pieces.{Piece, pieces_in, pieces_of}
use Rattle.sets.specs.Opening.{Board, one_device}
use Rattle.sets.specs.View.{View, opening_of, accepted, wakes}
use Rattle.records.specs.declared.Device.{Device}
use Rattle.records.specs.Device.{at_full_speed, at_high_speed, in_test_mode, settled}
use Rattle.records.specs.Current.{set_for, set_at, board_for, view_at, selected, endpoint_at}
use Rattle.records.proofs.InUse.{row_for, opens_for}
use Rattle.records.specs.Image.{device_of}
use Rattle.records.specs.Fits.{fits_on}
use Rattle.requests.specs.declared.Setup.{Setup}
use Rattle.requests.specs.Table.{recipient, setup_of, request_table, refusal, largest_index}
use Rattle.events.specs.declared.Event.{Event}
use Rattle.events.specs.declared.Event.TheVariants.{Request, Malformed}
use Rattle.events.specs.declared.facts.Located.{Located}
use Rattle.events.specs.declared.facts.Located.TheVariants.{Body, Serial, Nowhere}
use Rattle.events.specs.Answer.{Outcome, number_of, bytes_of, part_of, refused}
use Rattle.events.specs.Requests.{by_recipient, is_endpoint_zero, device_feature, names_test_mode, test_selector, set_device_feature, interface_feature, endpoint_feature, endpoint_status, halt_feature, clear_halt, set_halt, locate, describe, get_status, clear_feature, set_feature, set_address, get_descriptor, get_configuration, set_configuration, get_interface, set_interface}
use Rattle.events.specs.Step.{request, refusal_for, answer_setup, step, event, setup_event}
use Rattle.packets.specs.Packets.{can_cut}
use Rattle.sets.proofs.Groups.{groups, one-device}
use Rattle.sets.proofs.Pieces.{sole-good}
use Rattle.laws.proofs.Recipients.{table-judges}
use Rattle.laws.proofs.Outcomes.{ruled, chosen}
use Rattle.promises.specs.Refusals.{event_number}

-- what an answer hands back, bytes and part, is no more than asked
abbrev pub Within : ℕ → Outcome → Type 0
Within w o = length (bytes_of o.answer) + (part_of o.answer).length ≤ w

-- a code whose rows all ask for at least n bytes
asked : (code n : ℕ) → every (λ r. eqb r.bRequest code ⇒ leb n r.shortest) request_table ≡ true → (state : ℕ) (s : Setup) → refusal state s ≡ 0 → s.bRequest ≡ code → n ≤ s.wLength
asked code n all state s p c =
    let (r, f, k, i, h) = ruled (λ r. eqb r.bRequest code ⇒ leb n r.shortest) all state s p in
    let a = leb-true n r.shortest (if-then (eqb r.bRequest code) (leb n r.shortest) f (eq-eqb r.bRequest code (k ∙ c))) in
    let b = leb-true r.shortest s.wLength (conjunct 2 (leb s.wValue r.value ∷ leb s.wIndex (largest_index r s.wValue) ∷ leb r.shortest s.wLength ∷ leb s.wLength r.longest ∷ []) h) in
    omega arith

-- ---- the requests, a leaf at a time
module _ (v : View) (d : Device) (s : Setup) where
  abbrev Fine : Outcome → Type 0
  Fine = Within s.wLength

  no : (n : ℕ) → Fine (refused n d)
  no n = omega arith

  status : 2 ≤ s.wLength → Fine (get_status v d s)
  unfolding get_status
  status l = chosen Fine (eqb (recipient s) 0) (λ e. omega arith) (λ e. chosen Fine (eqb (recipient s) 1)
      (λ e. chosen Fine (has_interface (selected v d) s.wIndex) (λ e. omega arith) (λ e. no 13))
      (λ e. chosen Fine (is_endpoint_zero s.wIndex) (λ e. omega arith) (λ e. at (endpoint_at v d s.wIndex))))
    where
      at : (o : Option Endpoint) → Fine (endpoint_status d o)
      at none = no 13
      at (some e) = omega arith

  of-device : (on : ℕ) → Fine (device_feature on v d s)
  of-device on = chosen Fine (eqb s.wValue 1 && wakes v) (λ e. omega arith) (λ e. no 14)

  test-mode : Fine (set_device_feature v d s)
  test-mode = chosen Fine (names_test_mode v.paired s)
      (λ e. chosen Fine (eqb d.speed at_high_speed && leb 1 (test_selector s) && leb (test_selector s) 5) (λ e. omega arith) (λ e. no 14)) (λ e. of-device 1)

  feature : (change : Device → ℕ → Device) (device : Outcome) → Fine device → Fine (by_recipient s device (interface_feature v d s) (endpoint_feature change v d s))
  feature change device fine = chosen Fine (eqb (recipient s) 0) (λ e. fine)
      (λ e. chosen Fine (eqb (recipient s) 1)
      (λ e. chosen Fine (has_interface (selected v d) s.wIndex) (λ e. no 14) (λ e. no 13))
      (λ e. chosen Fine (is_endpoint_zero s.wIndex) (λ e. no 14) (λ e. at (endpoint_at v d s.wIndex))))
    where
      at : (o : Option Endpoint) → Fine (halt_feature change d s o)
      at none = no 13
      at (some x) = chosen Fine (eqb s.wValue 0 && can_halt x) (λ e. omega arith) (λ e. no 14)

  descriptor : Fine (get_descriptor v d s)
  unfolding get_descriptor
  descriptor = at (locate v s)
    where
      at : (l : Located) → Fine (describe d s.wLength l)
      at (Body offset size) = omega arith
      at (Serial size) = omega arith
      at Nowhere = no 13

  configuration : Fine (set_configuration v d s)
  unfolding set_configuration
  configuration = chosen Fine (eqb s.wValue 0) (λ e. omega arith)
      (λ e. chosen Fine (any (λ c. eqb c.value s.wValue) v.configurations) (λ e. omega arith) (λ e. no 13))

  within : (paired : Bool) (r : Device) → refusal_for paired r s ≡ 0 → Fine (request v d s)
  unfolding every request clear_feature set_feature set_address get_configuration get_interface set_interface
  within paired r p =
      chosen Fine (eqb s.bRequest 0x00) (λ e. let c = eqb-true s.bRequest 0 e in status (asked 0 2 refl r.state s (table-judges paired r s c refl p) c))
      (λ e. chosen Fine (eqb s.bRequest 0x01) (λ e. feature clear_halt (device_feature 0 v d s) (of-device 0))
      (λ e. chosen Fine (eqb s.bRequest 0x03) (λ e. feature set_halt (set_device_feature v d s) test-mode)
      (λ e. chosen Fine (eqb s.bRequest 0x05) (λ e. omega arith)
      (λ e. chosen Fine (eqb s.bRequest 0x06) (λ e. descriptor)
      (λ e. chosen Fine (eqb s.bRequest 0x08) (λ e. let c = eqb-true s.bRequest 8 e in let l = asked 8 1 refl r.state s (table-judges paired r s c refl p) c in omega arith)
      (λ e. chosen Fine (eqb s.bRequest 0x09) (λ e. configuration)
      (λ e. chosen Fine (eqb s.bRequest 0x0A)
      (λ e. chosen Fine (has_interface (selected v d) s.wIndex) (λ f. let c = eqb-true s.bRequest 10 e in let l = asked 10 1 refl r.state s (table-judges paired r s c refl p) c in omega arith) (λ f. no 13))
      (λ e. chosen Fine (has_setting (selected v d) s.wIndex s.wValue) (λ e. omega arith) (λ e. no 13)))))))))

-- every answer to a setup, on every board and record
pub reply_within : (b : Board) (d : Device) (s : Setup) → Within s.wLength (step b d (Request s))
unfolding step answer_setup
reply_within b d s = chosen (Within s.wLength) (accepted b)
    (λ p. chosen (Within s.wLength) (fits_on b d)
    (λ q. chosen (Within s.wLength) (in_test_mode d) (λ t. omega arith)
    (λ t. let two = (view_at b d).paired in chosen (Within s.wLength) (eqb (refusal_for two d s) 0)
    (λ r. within (view_at b d) (settled d) s two d (eqb-true _ 0 r)) (λ r. omega arith)))
    (λ q. omega arith))
    (λ p. omega arith)

-- the device descriptor of a set that opens
pub good_device_of : (limits : Limits) (ps : List Piece) → one_device limits ps ≡ true → good_device limits (length (pieces_of 2 ps)) (device_body_of ps) ≡ true
good_device_of limits ps p = sole-good (good_device limits (length (pieces_of 2 ps))) (pieces_of 1 ps) p

-- "bMaxPacketSize0 is 8, 16, 32 or 64", at high speed 64: the sizes that can be cut
abbrev cuttable : ℕ → Bool
cuttable p = eqb p 8 || eqb p 16 || eqb p 32 || eqb p 64

of_row : (high : Option (List ℕ)) (speed p : ℕ) → doubled (row_for high speed).control p ≡ true → cuttable p ≡ true
of_row none speed p q = (both (cuttable p) (leb p 64) q).0
of_row (some set) speed p q = cases (eqb speed at_full_speed)
    (λ e. (both (cuttable p) (leb p 64) (rw e at q)).0)
    (λ e. or_right (eqb p 8 || eqb p 16 || eqb p 32) (sym (control-64 p) ∙ (rw e at q)))

-- of the set in use
pub size_cuts : (b : Board) → accepted b ≡ true → (speed r w : ℕ) → r ≤ w → can_cut r w (bMaxPacketSize0 (device_body (set_for b speed))) ≡ true
size_cuts b ok speed r w l =
    let row = row_for b.high speed in
    let set = set_for b speed in
    let device = device_body set in
    let good = good_device_of row (pieces_in set) (one-device row (board_for b speed) (groups row (board_for b speed) (opens_for b speed (eqb-true (opening_of b) 0 ok)))) in
    let size = conjunct 3 (eqb (length device) 18 ∷ eqb (byte device 0) 18 ∷ eqb (byte device 1) 1 ∷ doubled row.control (bMaxPacketSize0 device) ∷ _ ∷ _ ∷ _ ∷ _ ∷ []) good in
    joined (of_row b.high speed (bMaxPacketSize0 device) size) (le-leb r w l)

-- so every answer to a setup of an accepted board can be cut into packets of the bMaxPacketSize0 of the set in use
pub reply_cuts : (b : Board) (d : Device) (s : Setup) → accepted b ≡ true → (let a = (step b d (Request s)).answer in
    can_cut (length (bytes_of a) + (part_of a).length) s.wLength (bMaxPacketSize0 (device_body (set_at b d))) ≡ true)
reply_cuts b d s ok = size_cuts b ok d.speed _ s.wLength (reply_within b d s)

-- ---- on images
-- no answer to a setup's bytes, of any length, is longer than their wLength
pub event_within : (b : Board) (image setup : List ℕ) → (let a = (event b image (setup_event setup)).answer in
    length (bytes_of a) + (part_of a).length ≤ (setup_of setup).wLength)
unfolding event step
event_within b image setup = cases (eqb (length image) 32) (λ p. rw p (whole (eqb (length setup) 8))) (λ p. rw p (omega arith))
  where
    whole : (t : Bool) → Within (setup_of setup).wLength (step b (device_of image) (pick t (Request (setup_of setup)) Malformed))
    whole true = reply_within b (device_of image) (setup_of setup)
    whole false = chosen (Within (setup_of setup).wLength) (accepted b)
        (λ p. chosen (Within (setup_of setup).wLength) (fits_on b (device_of image)) (λ q. omega arith) (λ q. omega arith))
        (λ p. omega arith)

-- what is done is done on an accepted board
pub done_accepted : (b : Board) (image : List ℕ) (e : Event) → number_of (event b image e).answer ≡ 0 → accepted b ≡ true
done_accepted b image e z = cases (accepted b) (λ p. p)
    (λ p. absurd (let q : ◌≡◌ {A = ℕ} 0 7 = eqb-true 0 7 (rw (z, p) at (event_number b image e)) in omega arith))
