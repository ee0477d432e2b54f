-- What each kind of outcome leaves, hands back and lays into a slice. No axiom.
use Rattle.octets.proofs.Vocabulary.{◌≡◌, refl, sym, ap, ◌∙◌, ℕ, ◌≤◌, List, Bool, true, false, not, arith}
use Rattle.octets.specs.Sentences.{pick}
use Rattle.descriptors.specs.declared.limits.Limits.{Limits}
use Rattle.sets.specs.Opening.{Board, good_devices, good_configurations, good_block, opening}
use Rattle.sets.specs.Contents.{good_frame, good_contents}
use Rattle.sets.specs.Pieces.{pieces_in}
use Rattle.sets.specs.Strings.{good_strings}
use Rattle.sets.specs.View.{View, view_of}
use Rattle.sets.proofs.Groups.{Groups, inside}
use Rattle.records.specs.declared.Device.{Device}
use Rattle.records.specs.Current.{board_for, view_for}
use Rattle.records.proofs.InUse.{row_for}
use Rattle.records.specs.Device.{nothing, in_test_mode, settled, with_waiting, with_suspended}
use Rattle.records.specs.Image.{device_of, image_of, settled_image}
use Rattle.requests.specs.declared.Setup.{Setup}
use Rattle.events.specs.declared.Event.{Event}
use Rattle.events.specs.declared.Event.TheVariants.{Request}
use Rattle.events.specs.Answer.{Outcome, number_of, part_of, refused, InsideAt}
use Rattle.laws.proofs.Outcomes.{reads, from_set, from_serial, changes, refused_with, in_test, Refusable, Responded, answers, leaves, becomes, refuses}

-- an outcome by its number: done; a setup refused by its rules or in a test mode, once it has settled; or a refusal that settles nothing
pub data Numbered (d : Device) : Event → Outcome → Type 0 where
  not_refused : {e : Event} {o : Outcome} → number_of o.answer ≡ 0 → Numbered d e o
  refused_setup : {s : Setup} {n : ℕ} → 10 ≤ n → n ≤ 14 → Numbered d (Request s) (refused n (settled d))
  refused_in_test : {s : Setup} → in_test_mode d ≡ true → Numbered d (Request s) (refused 17 (settled d))
  refused_other : {e : Event} {n : ℕ} → Refusable e n → Numbered d e (refused n d)

pub numbered : {v : View} {d : Device} {e : Event} {o : Outcome} → Responded v d e o → Numbered d e o
numbered (answers (reads a p q)) = not_refused p
numbered (answers (from_set e n m)) = not_refused refl
numbered (answers (from_serial n)) = not_refused refl
numbered (answers (changes c)) = not_refused refl
numbered (answers (refused_with n l h)) = refused_setup l h
numbered (answers (in_test t)) = refused_in_test t
numbered leaves = not_refused refl
numbered (becomes c) = not_refused refl
numbered (refuses r) = refused_other r

-- ---- parts
module _ (b : Board) (speed : ℕ) (g : Groups (row_for b.high speed) (board_for b speed)) where
  pub placed : {d : Device} {e : Event} {o : Outcome} → Responded (view_for b speed) d e o → InsideAt b speed (part_of o.answer)
  unfolding view_of
  placed (answers (reads a p q)) = rw q (omega arith)
  placed (answers (from_set e n m)) = omega (arith, inside (row_for b.high speed) (board_for b speed) g e m)
  placed (answers (from_serial n)) = omega arith
  placed (answers (changes c)) = omega arith
  placed (answers (refused_with n l h)) = omega arith
  placed (answers (in_test t)) = omega arith
  placed leaves = omega arith
  placed (becomes c) = omega arith
  placed (refuses r) = omega arith

-- ---- the record left
-- where nothing waits and nobody sleeps settling changes nothing
pub nothing-settled : (d : Device) → d.waiting ≡ nothing → d.suspended ≡ 0 → (b : Bool) → pick b (settled d) d ≡ d
nothing-settled d w z true = λ i. with_suspended (sym z i) (with_waiting (sym w i) d)
nothing-settled d w z false = refl

-- on an image
settled-image : (d : Device) → image_of (settled d) ≡ settled_image (image_of d)
unfolding image_of
settled-image d = refl

pub left-image : (image : List ℕ) → image_of (device_of image) ≡ image → (b : Bool)
    → image_of (pick b (settled (device_of image)) (device_of image)) ≡ pick b (settled_image image) image
left-image image same true = settled-image (device_of image) ∙ ap settled_image same
left-image image same false = same

-- ---- opening
pub opening-number : (limits : Limits) (b : Board) → opening limits b ≤ 6
unfolding opening
opening-number limits b = go (good_frame b.set) (good_contents limits b.set) (good_devices limits (pieces_in b.set)) (good_configurations limits (pieces_in b.set)) (good_strings (pieces_in b.set)) (good_block (pieces_in b.set) b.serial)
  where
    one : (g : Bool) (n m : ℕ) → n ≤ 6 → m ≤ 6 → pick (not g) n m ≤ 6
    one true n m p q = q
    one false n m p q = p

    go : (g h i j k l : Bool) → pick (not g) 1 (pick (not h) 2 (pick (not i) 3 (pick (not j) 4 (pick (not k) 5 (pick (not l) 6 0))))) ≤ 6
    go g h i j k l = one g 1 _ (omega arith) (one h 2 _ (omega arith) (one i 3 _ (omega arith) (one j 4 _ (omega arith) (one k 5 _ (omega arith) (one l 6 0 (omega arith) (omega arith))))))
