-- An answer's reply: its length, and that its place is a number of two bytes. No axiom.
use Rattle.octets.proofs.Vocabulary.{◌≡◌, refl, sym, ℕ, ◌+◌, ◌≤◌, ◌<◌, [], ◌∷◌, true, length, eqb, leb, arith, zero-add, eqb-true, leb-true}
use Rattle.octets.specs.Octets.{byte}
use Rattle.octets.proofs.Sentences.{conjunct}
use Rattle.sets.specs.Contents.{total, count, bodies_at, good_frame}
use Rattle.sets.specs.Opening.{Board}
use Rattle.sets.specs.View.{opening_of, accepted}
use Rattle.sets.proofs.Groups.{groups}
use Rattle.records.specs.Current.{set_for, board_for}
use Rattle.records.proofs.InUse.{row_for, opens_for}
use Rattle.events.specs.Answer.{Answer, Done, OneByte, TwoBytes, SetPart, SerialPart, Refused, number_of, bytes_of, part_of, InsideAt}
use Rattle.pipes.specs.Turns.{reply_at}

-- "at most 16,384" bytes
pub short-set : (b : Board) (speed : ℕ) → accepted b ≡ true → length (set_for b speed) ≤ 16384
unfolding good_frame
short-set b speed ok =
    let set = set_for b speed in
    let g = groups (row_for b.high speed) (board_for b speed) (opens_for b speed (eqb-true (opening_of b) 0 ok)) in
    leb-true (length set) 16384 (conjunct 1 (leb 4 (length set) ∷ leb (length set) 16384 ∷ eqb (total set) (length set) ∷ leb 1 (count set) ∷ leb (count set) 64 ∷ eqb (byte set 3) 0 ∷ leb (bodies_at set) (total set) ∷ []) g.frame)

pub reply-length : (a : Answer) → (reply_at a).length ≡ length (bytes_of a) + (part_of a).length
reply-length Done = refl
reply-length (OneByte x) = refl
reply-length (TwoBytes x y) = refl
reply-length (SetPart offset size) = sym (zero-add size)
reply-length (SerialPart size) = sym (zero-add size)
reply-length (Refused n) = refl

pub reply-place : (b : Board) (speed : ℕ) (a : Answer) → InsideAt b speed (part_of a) → (number_of a ≡ 0 → length (set_for b speed) ≤ 16384) → (reply_at a).offset < 65536
reply-place b speed Done h s = omega arith
reply-place b speed (OneByte x) h s = omega arith
reply-place b speed (TwoBytes x y) h s = omega arith
reply-place b speed (SetPart offset size) h s = let z = s refl in omega arith
reply-place b speed (SerialPart size) h s = omega arith
reply-place b speed (Refused n) h s = omega arith
