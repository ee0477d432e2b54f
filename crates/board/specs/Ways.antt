-- Both ways to answer an event give the same, for every input: what meets the statement of the one equals what meets that of the other. No axiom.
-- 02, L10: "both are proved to give the same number, bytes, part and record for every input"
use Rattle.std.specs.Prelude.{ℕ, ◌≡◌, List}
use Rattle.std.proofs.Common.{sym, ◌∙◌}
use Rattle.sets.specs.Opening.{Board}
use Rattle.records.specs.declared.Device.{Device}
use Rattle.records.specs.Device.{Sized}
use Rattle.records.specs.Image.{image_of}
use Rattle.events.specs.declared.Event.{Event}
use Rattle.board.specs.Exports.{Spot, Spots, Happens, AnswersSetup, numbered, AnswersRecordEvent, AnswersImage}
use Rattle.board.specs.Decided.{answers_setup, answers_image}
use Rattle.board.specs.Records.{on_image}

-- hk_setup, and the second way with event 0 and any value: image, number, bytes, count and part, which is the same part of the same slice
pub same_setup : {b : Board} {lie : Spots} {image setup : List ℕ} (value : ℕ) {n m : ℕ} {left other bytes others : List ℕ} {count also : ℕ} {part piece : List ℕ} {spot place : Spot}
    → AnswersSetup b lie image setup n left bytes count part spot → AnswersImage b lie image (numbered 0 value setup) m other others also piece place
    → (left ≡ other) × ((n ≡ m) × (bytes ≡ others) × (count ≡ also) × (part ≡ piece) × (spot ≡ place))
same_setup value p q = answers_setup p (record { leaves = q.leaves; answers = q.answers })

-- the calls of an event without bytes or a part, and the second way with that event: image and number
pub same_event : {b : Board} {lie : Spots} {image : List ℕ} {e : Event} {n m : ℕ} {left other bytes : List ℕ} {count : ℕ} {part : List ℕ} {spot : Spot}
    → Happens b image e n left → AnswersImage b lie image e m other bytes count part spot → (left ≡ other) × (n ≡ m)
same_event p q = (p.leaves ∙ sym q.leaves, p.number ∙ sym q.answers.number)

-- hk_two_event, and the second way of a board that lends two sets: all that they give and leave
pub same_two : {b : Board} {lie : Spots} {image : List ℕ} {e : Event} {n m : ℕ} {left other bytes others : List ℕ} {count also : ℕ} {part piece : List ℕ} {spot place : Spot}
    → AnswersImage b lie image e n left bytes count part spot → AnswersImage b lie image e m other others also piece place
    → (left ≡ other) × ((n ≡ m) × (bytes ≡ others) × (count ≡ also) × (part ≡ piece) × (spot ≡ place))
same_two p q = answers_image p q

-- hk_record_event on a record, and the second way with that event on the record's image: the image left is that of the record left, and all that they give is the same
pub same_record : {b : Board} {lie : Spots} {d left : Device} {e : Event} {n m : ℕ} {other bytes others : List ℕ} {count also : ℕ} {part piece : List ℕ} {spot place : Spot}
    → Sized d → AnswersRecordEvent b lie d e n left bytes count part spot → AnswersImage b lie (image_of d) e m other others also piece place
    → (image_of left ≡ other) × ((n ≡ m) × (bytes ≡ others) × (count ≡ also) × (part ≡ piece) × (spot ≡ place))
same_record z p q = answers_image (on_image z p) q
