-- Demand 1 over the step and over opening: what a refusal leaves, what it hands back, which numbers there are, and where parts lie.
-- That the step and an event on an image leave what `keeps` says stands in proofs/Refusals.
-- No axiom.
use Rattle.std.specs.Prelude.{ℕ, ◌≤◌, ◌≡◌, refl, List, [], Bool, true, false, ◌&&◌, ◌||◌, length, eqb, leb}
use Rattle.std.proofs.Common.{arith, sym, eqb-true, eq-eqb, le-leb}
use Rattle.std.proofs.Math.Path.{ap}
use Rattle.std.proofs.Math.Option.{Option, some, none}
use Rattle.octets.specs.Sentences.{pick, is_some}
use Rattle.octets.proofs.Sentences.{cases, never, both, joined, or_left, or_right}
use Rattle.descriptors.specs.Limits.{full_speed, paired_full, high_speed}
use Rattle.sets.specs.Opening.{Board, lent, opening}
use Rattle.sets.specs.Pair.{agrees, or_else, opening_two}
use Rattle.sets.specs.View.{View, opening_of, accepted}
use Rattle.records.specs.declared.Device.{Device}
use Rattle.records.specs.Device.{fresh, in_test_mode, settled}
use Rattle.records.specs.Image.{device_of, image_of}
use Rattle.records.specs.Current.{board_for, view_at}
use Rattle.records.proofs.InUse.{row_for, opens_for}
use Rattle.records.specs.Fits.{fits_on}
use Rattle.events.specs.declared.Event.{Event}
use Rattle.events.specs.declared.Event.TheVariants.{Request, Malformed, StatusEnd, BusReset, Halt, PacketPassed, Power, Suspend, Resume, Wake}
use Rattle.laws.specs.Parts.{drops}
use Rattle.events.specs.Answer.{Answer, Done, OneByte, TwoBytes, SetPart, SerialPart, Refused, Outcome, number_of, bytes_of, part_of, InsideAt}
use Rattle.events.specs.Step.{answer_setup, respond, step, event, opened}
use Rattle.promises.specs.Refusal.{after_settling, left_by, refuses, allows_fit, allows, empty_part, allows_image, opens}
use Rattle.sets.proofs.Groups.{groups}
use Rattle.laws.proofs.Outcomes.{chosen, Refusable, malformed, no_reset, no_halt, no_pass, no_power, no_wake, responded}
use Rattle.laws.proofs.Refusing.{Numbered, not_refused, refused_setup, refused_in_test, refused_other, numbered, placed, opening-number}

-- ---- over the step
-- "Refusals hand back no bytes and an empty part."
pub refusal_empty : (a : Answer) → (number_of a ≡ 0 → ⊥) → (bytes_of a ≡ []) × (part_of a ≡ empty_part)
refusal_empty Done z = absurd (z refl)
refusal_empty (OneByte x) z = absurd (z refl)
refusal_empty (TwoBytes x y) z = absurd (z refl)
refusal_empty (SetPart offset size) z = absurd (z refl)
refusal_empty (SerialPart size) z = absurd (z refl)
refusal_empty (Refused n) z = (refl, refl)

-- a refusal that settles nothing is one of the event's own, the event is no setup, and it is none of 10 to 14 and 17
settles_nothing : {e : Event} {n : ℕ} → Refusable e n → (refuses e n ≡ true) × (drops e ≡ false) × (after_settling n ≡ false)
settles_nothing malformed = (refl, refl, refl)
settles_nothing no_reset = (refl, refl, refl)
settles_nothing no_halt = (refl, refl, refl)
settles_nothing no_pass = (refl, refl, refl)
settles_nothing no_power = (refl, refl, refl)
settles_nothing no_wake = (refl, refl, refl)

-- in a test mode a setup is refused with 17, whatever it asks
in_test17 : (v : View) (d : Device) (e : Event) → (in_test_mode d && drops e) ≡ true → number_of (respond v d e).answer ≡ 17
unfolding answer_setup
in_test17 v d (Request s) p = rw (both (in_test_mode d) true p).0
in_test17 v d Malformed p = never (both (in_test_mode d) false p).1 refl
in_test17 v d StatusEnd p = never (both (in_test_mode d) false p).1 refl
in_test17 v d (BusReset speed) p = never (both (in_test_mode d) false p).1 refl
in_test17 v d (Halt a) p = never (both (in_test_mode d) false p).1 refl
in_test17 v d (PacketPassed a) p = never (both (in_test_mode d) false p).1 refl
in_test17 v d (Power source) p = never (both (in_test_mode d) false p).1 refl
in_test17 v d Suspend p = never (both (in_test_mode d) false p).1 refl
in_test17 v d Resume p = never (both (in_test_mode d) false p).1 refl
in_test17 v d Wake p = never (both (in_test_mode d) false p).1 refl

own_number : {d : Device} {e : Event} {o : Outcome} → Numbered d e o → (in_test_mode d && drops e) ≡ false → (eqb (number_of o.answer) 0 || refuses e (number_of o.answer)) ≡ true
own_number {e} {o} (not_refused z) t = or_left (refuses e (number_of o.answer)) (eq-eqb _ 0 z)
own_number (refused_setup {n = n} l h) t = or_right (eqb n 0) (joined (le-leb 10 n l) (le-leb n 14 h))
own_number (refused_in_test p) t = never (joined p refl) t
own_number (refused_other {n = n} r) t = or_right (eqb n 0) (settles_nothing r).0

allowed : (v : View) (d : Device) (e : Event) → allows_fit d e (number_of (respond v d e).answer) ≡ true
allowed v d e = cases (in_test_mode d && drops e)
    (λ p. rw p (eq-eqb (number_of (respond v d e).answer) 17 (in_test17 v d e p)))
    (λ p. rw p (own_number (numbered (responded v d e)) p))

pub keeps : {d : Device} {e : Event} {o : Outcome} → Numbered d e o → (number_of o.answer ≡ 0 → ⊥) → o.device ≡ left_by (number_of o.answer) d
keeps (not_refused z) refused = absurd (refused z)
keeps {d} (refused_setup {n = n} l h) refused = ap (λ b. pick b (settled d) d) (sym (or_left (eqb n 17) (joined (le-leb 10 n l) (le-leb n 14 h))))
keeps {d} (refused_in_test p) refused = refl
keeps {d} (refused_other r) refused = ap (λ b. pick b (settled d) d) (sym (settles_nothing r).2)

-- 0, 9 to 14, 16 and 19 are all the numbers of an event by its own rules
pub not_own : (n : ℕ) → eqb n 0 ≡ false → eqb n 9 ≡ false → (leb 10 n && leb n 14) ≡ false → eqb n 16 ≡ false → eqb n 19 ≡ false
    → (e : Event) → (eqb n 0 || refuses e n) ≡ true → ⊥
not_own n z m t f w e p = never p (rw z (go e))
  where
    go : (e : Event) → refuses e n ≡ false
    go (Request s) = t
    go Malformed = m
    go StatusEnd = refl
    go (BusReset speed) = f
    go (Halt a) = f
    go (PacketPassed a) = f
    go (Power source) = f
    go Suspend = refl
    go Resume = refl
    go Wake = w

module _ (b : Board) (d : Device) (e : Event) where
  -- every number is one of document 01's for that board, record and event, in its order
  pub step_number : allows b d e (number_of (step b d e).answer) ≡ true
  unfolding step
  step_number = cases (accepted b)
      (λ p. cases (fits_on b d) (λ q. rw (p, q) (allowed (view_at b d) d e)) (λ q. rw (p, q)))
      (λ p. rw p)

  -- every part lies inside its slice: the set in use, or the serial block
  pub step_inside : InsideAt b d.speed (part_of (step b d e).answer)
  unfolding step
  step_inside = cases (accepted b)
      (λ p. cases (fits_on b d) (λ q. rw (p, q) (placed b d.speed (groups (row_for b.high d.speed) (board_for b d.speed) (opens_for b d.speed (eqb-true (opening_of b) 0 p))) (responded (view_at b d) d e))) (λ q. rw (p, q) (omega arith)))
      (λ p. rw p (omega arith))

-- ---- over events on images
module _ (b : Board) (image : List ℕ) (e : Event) where
  pub event_number : allows_image b image e (number_of (event b image e).answer) ≡ true
  unfolding event
  event_number = cases (eqb (length image) 32) (λ p. rw p (step_number b (device_of image) e)) (λ p. cases (accepted b) (λ q. rw (p, q)) (λ q. rw (p, q)))

  pub event_inside : InsideAt b (device_of image).speed (part_of (event b image e).answer)
  unfolding event
  event_inside = cases (eqb (length image) 32) (λ p. rw p (step_inside b (device_of image) e)) (λ p. rw p (omega arith))

-- ---- over opening
-- of one set 0 to 6, of two 24 also
opening_number : (set serial : List ℕ) (high : Option (List ℕ)) → (let b : Board = record { set = set; serial = serial; high = high } in
    (leb (opening_of b) 6 || (is_some high && eqb (opening_of b) 24)) ≡ true)
unfolding opening_two
opening_number set serial none = or_left _ (le-leb (opening full_speed (lent set serial)) 6 (opening-number full_speed (lent set serial)))
opening_number set serial (some high) =
    first (opening paired_full (lent set serial)) _ (opening-number paired_full (lent set serial))
    (first (opening high_speed (lent high serial)) _ (opening-number high_speed (lent high serial)) (agreed (agrees set high && agrees high set)))
  where
    first : (n m : ℕ) → n ≤ 6 → (leb m 6 || eqb m 24) ≡ true → (leb (or_else n m) 6 || eqb (or_else n m) 24) ≡ true
    first n m l p = chosen (λ x. (leb x 6 || eqb x 24) ≡ true) (eqb n 0) (λ z. p) (λ z. or_left (eqb n 24) (le-leb n 6 l))

    agreed : (t : Bool) → (leb (pick t 0 24) 6 || eqb (pick t 0 24) 24) ≡ true
    agreed true = refl
    agreed false = refl

module _ (b : Board) (image : List ℕ) where
  -- 8 where the image is not 32 bytes, else 0 to 6, or 24 where two sets are lent
  pub opened_number : opens b image (opened b image).number ≡ true
  unfolding opened
  opened_number = cases (eqb (length image) 32) (λ p. rw p (opening_number b.set b.serial b.high)) (λ p. rw p)

  -- "else it becomes the fresh record, accepted or not"
  pub opened_leaves : (opened b image).image ≡ pick (eqb (length image) 32) (image_of fresh) image
  unfolding opened
  opened_leaves = cases (eqb (length image) 32) (λ p. rw p) (λ p. rw p)
