-- The set in use of an accepted board opens, by the row of limits of its speed: so what opening tells of a set holds of it. No axiom.
use Rattle.octets.proofs.Vocabulary.{◌≡◌, ℕ, List, Option, some, none, eqb}
use Rattle.octets.specs.Sentences.{pick}
use Rattle.octets.proofs.Sentences.{cases}
use Rattle.descriptors.specs.declared.limits.Limits.{Limits}
use Rattle.descriptors.specs.Limits.{full_speed, paired_full, high_speed}
use Rattle.octets.specs.Octets.{Bytes}
use Rattle.sets.specs.Opening.{Board, BytesIf, BytesOf, opening}
use Rattle.sets.specs.View.{opening_of}
use Rattle.sets.proofs.Pair.{opened}
use Rattle.records.specs.Device.{at_full_speed}
use Rattle.records.specs.Current.{in_use, or_empty, set_for, board_for}

abbrev pub row_for : Option (List ℕ) → ℕ → Limits
row_for none speed = full_speed
row_for (some set) speed = pick (eqb speed at_full_speed) paired_full high_speed

opens : (set serial : List ℕ) (high : Option (List ℕ)) (speed : ℕ) → (let b : Board = record { set = set; serial = serial; high = high } in
    opening_of b ≡ 0 → opening (row_for high speed) (board_for b speed) ≡ 0)
unfolding opening
opens set serial none speed p = p
opens set serial (some high) speed p =
    let o = opened set high serial p in
    cases (eqb speed at_full_speed) (λ q. rw q o.slow) (λ q. rw q o.fast)

pub opens_for : (b : Board) (speed : ℕ) → opening_of b ≡ 0 → opening (row_for b.high speed) (board_for b speed) ≡ 0
opens_for b speed p = opens b.set b.serial b.high speed p

-- it is of bytes, where what is lent is
bytes : (set : List ℕ) (high : Option (List ℕ)) (speed : ℕ) → Bytes set → BytesIf high → Bytes (in_use high speed set (or_empty high))
bytes set none speed p q = p
bytes set (some other) speed p q = cases (eqb speed at_full_speed) (λ e. rw e p) (λ e. rw e q)

pub bytes_for : (b : Board) (speed : ℕ) → BytesOf b → Bytes (set_for b speed)
bytes_for b speed (p, q) = bytes b.set b.high speed p q
