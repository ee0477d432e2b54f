-- hk_record_event: on a record that is lent it is the call on the record's image. So what holds of runs over an image holds of runs over a
-- record that is changed where it stands: demands 1, 2 and 3. No axiom.
use Rattle.std.specs.Prelude.{ℕ, ◌≡◌, refl, List, [], ◌∷◌, true, length}
use Rattle.std.proofs.Common.{sym, ap, ◌∙◌}
use Rattle.sets.specs.Opening.{Board, BytesOf}
use Rattle.sets.specs.View.{accepted}
use Rattle.records.specs.declared.Device.{Device}
use Rattle.records.specs.Image.{image_of}
use Rattle.records.specs.Fits.{fits_on}
use Rattle.records.specs.Device.{Sized}
use Rattle.records.proofs.Image.{device-image}
use Rattle.events.specs.declared.Event.{Event}
use Rattle.events.specs.Answer.{number_of, bytes_of, part_of, bytes_at}
use Rattle.events.specs.Step.{step, Reply}
use Rattle.promises.specs.Refusal.{left_by, allows}
use Rattle.promises.specs.Refusals.{step_number, step_inside, refusal_empty}
use Rattle.promises.proofs.Refusals.{step_keeps}
use Rattle.promises.specs.Keeps.{image_fits}
use Rattle.promises.specs.Images
use Rattle.promises.specs.Images.{step_sized, same_image}
use Rattle.board.specs.Exports.{Opens, Spot, Spots, padded, spot_of_part, numbered, AnswersRecordEvent, AnswersImage}
use Rattle.board.specs.Runs.{Call, record_event, Given, number_given, handed, by_record_event, Runs, ends, calls, decided, Throughout, NothingHanded, LiesInside, NotEight, never_eight_after}
use Rattle.board.specs.Order.{Reordered, told_to, order_fit}

-- ---- the law: the statement of a record is the statement of its image
pub on_image : {b : Board} {lie : Spots} {d left : Device} {e : Event} {n : ℕ} {bytes : List ℕ} {count : ℕ} {shown : List ℕ} {spot : Spot}
    → Sized d → AnswersRecordEvent b lie d e n left bytes count shown spot → AnswersImage b lie (image_of d) e n (image_of left) bytes count shown spot
on_image {b} {d = d} {e = e} z a =
    let same = Images.on_image b d e z in
    record { leaves = ap image_of a.leaves ∙ sym (ap (λ (r : Reply). r.image) same); answers = rw (same, device-image d z) a.answers }

-- on every record there is such an answer
pub answers_by_rules : (b : Board) (lie : Spots) (d : Device) (e : Event) → (let a = (step b d e).answer in
    AnswersRecordEvent b lie d e (number_of a) (step b d e).device (padded (bytes_of a)) (length (bytes_of a)) (bytes_at b d.speed (part_of a)) (spot_of_part b d.speed lie (part_of a)))
answers_by_rules b lie d e = record { leaves = refl; answers = record { number = refl; hands = refl; counts = refl; shows = refl; lies = refl } }

-- ---- a run: each call meets its statement, and the record that it leaves is lent to the next
pub data RecordRuns (b : Board) (lie : Spots) : Device → List Call → List Given → Device → Type 0 where
  ended : {d : Device} → RecordRuns b lie d [] [] d
  called : {d left last : Device} {kind value : ℕ} {bytes : List ℕ} {n : ℕ} {handed_back : List ℕ} {count : ℕ} {shown : List ℕ} {spot : Spot} {cs : List Call} {gs : List Given}
      → AnswersRecordEvent b lie d (numbered kind value bytes) n left handed_back count shown spot → RecordRuns b lie left cs gs last
      → RecordRuns b lie d (record_event kind value bytes ∷ cs) (handed n handed_back count shown spot ∷ gs) last

-- ---- demand 1
-- its number is one of the documents' for that board, record and event, in its order; a refusal leaves the record as it was, but that 10 to 14
-- and 17 settle it (what waits is dropped, sleep ends), and hands nothing back; and a part lies inside the set in use or the serial block
pub record RecordRefuses (b : Board) (lie : Spots) (d : Device) (e : Event) (g : Given) (left : Device) : Type 0 where
  pub allowed : allows b d e (number_given g) ≡ true
  pub keeps : (number_given g ≡ 0 → ⊥) → left ≡ left_by (number_given g) d
  pub empty : (number_given g ≡ 0 → ⊥) → NothingHanded g
  pub inside : LiesInside b lie d.speed g

pub refusal : {b : Board} {lie : Spots} {d left : Device} {e : Event} {n : ℕ} {bytes : List ℕ} {count : ℕ} {shown : List ℕ} {spot : Spot}
    → AnswersRecordEvent b lie d e n left bytes count shown spot → RecordRefuses b lie d e (handed n bytes count shown spot) left
refusal {b} {lie} {d} {e = e} a =
    let h = a.answers in
    let nothing = refusal_empty (step b d e).answer in
    record {
      allowed = rw h.number (step_number b d e);
      keeps = rw (h.number, a.leaves) (step_keeps b d e);
      empty = rw h.number (λ z. (h.hands ∙ ap padded (nothing z).0, h.counts ∙ ap length (nothing z).0, h.shows ∙ ap (bytes_at b d.speed) (nothing z).1));
      inside = (part_of (step b d e).answer, step_inside b d e, h.shows, h.lies);
    }

-- ---- a run over a record is a run over its image
module _ (b : Board) (lie : Spots) (bytes : BytesOf b) where
  pub as_images : {d last : Device} {cs : List Call} {gs : List Given} → Sized d → RecordRuns b lie d cs gs last
      → Runs b lie (image_of d) cs gs (image_of last) × Sized last
  as_images z ended = (ends, z)
  as_images {d} z (called {kind = kind} {value} {bytes = setup} a r) =
      let (rest, y) = as_images (rw a.leaves (step_sized b bytes d (numbered kind value setup) z)) r in
      (calls (by_record_event (on_image z a)) rest, y)

  -- so the statements decide it
  pub decided_record : {d last other : Device} {cs : List Call} {gs others : List Given} → Sized d
      → RecordRuns b lie d cs gs last → RecordRuns b lie d cs others other → (gs ≡ others) × (last ≡ other)
  decided_record {last = last} {other} z one two =
      let (r, y) = as_images z one in
      let (s, x) = as_images z two in
      let (p, q) = decided b lie r s in
      (p, same_image last other y x q)

  -- ---- demand 2: once hk_open has opened the record's 32 bytes no call gives 8
  pub never_eight_record : {start : List ℕ} {d last : Device} {n : ℕ} {cs : List Call} {gs : List Given} → length start ≡ 32 → Opens b start n (image_of d)
      → (z : Sized d) (r : RecordRuns b lie d cs gs last) → Throughout NotEight (as_images z r).0
  never_eight_record l o z r = never_eight_after b lie bytes l o (as_images z r).0

  -- ---- demand 3: two orders of calls that concern different interfaces leave the same record, and each interface's calls are given the same
  pub order_record : accepted b ≡ true → {d last other : Device} {xs ys : List Call} {gs others : List Given} → Sized d → fits_on b d ≡ true
      → RecordRuns b lie d xs gs last → RecordRuns b lie d ys others other → Reordered b (image_of d) xs ys
      → (last ≡ other) × ((k : ℕ) → told_to b (image_of d) k xs gs ≡ told_to b (image_of d) k ys others)
  order_record ok {d} {last} {other} z fit one two r =
      let (p, y) = as_images z one in
      let (q, x) = as_images z two in
      let (end, heard) = order_fit b lie bytes ok (image_of d) (image_fits b bytes ok d (fit, z)) p q r in
      (same_image last other y x end, heard)
