-- The kinds of sets side by side (document 02, L13): what older kinds keep, and that no set opens as two. A kind is a row of limits, and the rules
-- are over any row. No axiom.
use Rattle.std.specs.Prelude.{ℕ, ◌≡◌, refl, List, [], ◌∷◌, true, ◌&&◌, length, eqb, leb}
use Rattle.std.proofs.Common.{sym, ◌∙◌}
use Rattle.std.proofs.Math.Bool.{false, and-true}
use Rattle.std.proofs.lemmas.Bool.{false≢true}
use borrow.Author.Tests.{eqb-true, ne_eqb}
use Rattle.octets.specs.Octets.{byte}
use Rattle.octets.specs.Sentences.{every, ◌⇒◌}
use Rattle.octets.proofs.Sentences.{conjunct, cases}
use Rattle.descriptors.specs.declared.limits.Limits.{Limits}
use Rattle.descriptors.specs.Limits.{full_speed, paired_full, high_speed, super_speed, doubled, named}
use Rattle.descriptors.specs.Descriptor.{good_descriptor}
use Rattle.descriptors.specs.Interfaces.{grouped, good_interfaces}
use Rattle.descriptors.specs.Configuration.{bNumInterfaces, good_head, good_descriptors}
use Rattle.descriptors.proofs.FullSpeed as full
use Rattle.descriptors.proofs.HighSpeed as highspeed
use Rattle.descriptors.proofs.SuperSpeed as superspeed
use Rattle.sets.specs.Device.{bDeviceClass, bDeviceSubClass, bMaxPacketSize0, bNumConfigurations, device_body}
use Rattle.sets.specs.Opening.{Board, lent, lent_two, one_device, good_devices, opening}
use Rattle.sets.specs.Pieces.{Piece, pieces_in, pieces_of}
use Rattle.sets.specs.View.{opening_of, accepted}
use Rattle.sets.proofs.Groups.{groups, one-device}
use Rattle.sets.proofs.Pair.{opened}
use Rattle.records.specs.declared.Device.{Device}
use Rattle.events.specs.declared.Event.{Event}
use Rattle.events.specs.Answer.{Refused, refused}
use Rattle.events.specs.Step.{step, event}
use Rattle.promises.specs.Replies.{good_device_of}

-- ---- "Older kinds keep every answer": of a row without companions, and of one without type 15 entries, nothing more is asked than was
pub keeps_configurations : (limits : Limits) → limits.companions ≡ false → (size : ℕ) (d : List ℕ) (ds : List (List ℕ))
    → good_descriptors limits size (d ∷ ds) ≡ (good_head size d && every (good_descriptor limits) ds && good_interfaces (bNumInterfaces d) (grouped ds))
unfolding good_descriptors
keeps_configurations limits p size d ds = rw (p, and-true)

pub keeps_devices : (limits : Limits) → named limits.entries 15 ≡ false → (ps : List Piece) → good_devices limits ps ≡ one_device limits ps
unfolding good_devices
keeps_devices limits p ps = rw p

pub full_speed_keeps : (full_speed.companions ≡ false) × (named full_speed.entries 15 ≡ false)
full_speed_keeps = (refl, refl)

pub paired_full_keeps : (paired_full.companions ≡ false) × (named paired_full.entries 15 ≡ false)
paired_full_keeps = (refl, refl)

pub high_speed_keeps : (high_speed.companions ≡ false) × (named high_speed.entries 15 ≡ false)
high_speed_keeps = (refl, refl)

-- ---- no set opens as two kinds whose bMaxPacketSize0 have no number in common
control : (limits : Limits) (b : Board) → opening limits b ≡ 0 → doubled limits.control (bMaxPacketSize0 (device_body b.set)) ≡ true
control limits b p =
    let d = device_body b.set in
    let n = length (pieces_of 2 (pieces_in b.set)) in
    let rules = eqb (length d) 18 ∷ eqb (byte d 0) 18 ∷ eqb (byte d 1) 1 ∷ doubled limits.control (bMaxPacketSize0 d) ∷ (eqb (bDeviceClass d) 0 ⇒ eqb (bDeviceSubClass d) 0) ∷ leb 1 (bNumConfigurations d) ∷ leb (bNumConfigurations d) 8 ∷ eqb (bNumConfigurations d) n ∷ [] in
    conjunct 3 rules (good_device_of limits (pieces_in b.set) (one-device limits b (groups limits b p)))

pub not_two_kinds : (k l : Limits) → ((size : ℕ) → doubled k.control size ≡ true → doubled l.control size ≡ true → ⊥) → (b : Board) → opening k b ≡ 0 → opening l b ≡ 0 → ⊥
not_two_kinds k l apart b p q = apart (bMaxPacketSize0 (device_body b.set)) (control k b p) (control l b q)

-- 9 is not 8, 16, 32 or 64
nine-alone : (size : ℕ) → doubled super_speed.control size ≡ true → doubled full_speed.control size ≡ true → ⊥
nine-alone size p q =
    let nine = eqb-true size 9 (sym (superspeed.control-sizes size) ∙ p) in
    false≢true (sym (full.control-sizes size ∙ rw nine) ∙ q)

pub not_super_speed : (b : Board) → opening super_speed b ≡ 0 → opening full_speed b ≡ 0 → ⊥
not_super_speed = not_two_kinds super_speed full_speed nine-alone

-- nor is it 64
nine-not-64 : (size : ℕ) → doubled super_speed.control size ≡ true → doubled high_speed.control size ≡ true → ⊥
nine-not-64 size p q =
    let nine = eqb-true size 9 (sym (superspeed.control-sizes size) ∙ p) in
    false≢true (sym (highspeed.control-64 size ∙ rw nine) ∙ q)

-- ---- "Events refuse this kind with 7": lent alone, or as either set of two
pub data Lends (set serial : List ℕ) : Board → Type 0 where
  alone : Lends set serial (lent set serial)
  as_full : (high : List ℕ) → Lends set serial (lent_two set high serial)
  as_high : (full : List ℕ) → Lends set serial (lent_two full set serial)

module _ {set serial : List ℕ} (p : opening super_speed (lent set serial) ≡ 0) where
  -- a board with such a set does not open
  pub not_opened : {b : Board} → Lends set serial b → opening_of b ≡ 0 → ⊥
  not_opened alone q = not_super_speed (lent set serial) p q
  not_opened (as_full high) q = not_two_kinds super_speed paired_full nine-alone (lent set serial) p (opened set high serial q).slow
  not_opened (as_high full) q = not_two_kinds super_speed high_speed nine-not-64 (lent set serial) p (opened full set serial q).fast

  pub refused_steps : {b : Board} → Lends set serial b → (d : Device) (e : Event) → step b d e ≡ refused 7 d
  unfolding step
  refused_steps {b} l d e = rw (ne_eqb (opening_of b) 0 (not_opened l))

  pub refused_events : {b : Board} → Lends set serial b → (image : List ℕ) (e : Event) → (event b image e).answer ≡ Refused 7
  unfolding event step
  refused_events {b} l image e =
      let no : accepted b ≡ false = ne_eqb (opening_of b) 0 (not_opened l) in
      cases (eqb (length image) 32) (λ m. rw (m, no)) (λ m. rw (m, no))
