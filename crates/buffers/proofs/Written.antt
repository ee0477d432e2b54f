-- One text written after another: what a run of writes, straight or in a loop, has still to write. No axiom.
use Prim.Native.Nat.{ℕ, suc, ◌+◌, ◌-◌, ◌≤◌}
use native.Mathlib.Nat.{add-zero}
use native.Mathlib.Omega.{arith}
use mathlib.Core.Path.{◌≡◌, refl, sym, ap, ap₂, ◌∙◌}
use mathlib.Core.List.{List, [], ◌∷◌, ◌++◌, append_assoc}
use lib.ListN.{length, set, take, drop, length-append}
use lib.Seq.{sets, length-sets}
use borrow.Rule.Slice.PartMut.{put_mid}
use Rattle.std.proofs.lemmas.List.{take_all, take_at, drop_at, length-take-le}
use Rattle.std.proofs.lemmas.List.Edits.{sets-eq}
use Rattle.std.proofs.lemmas.Slice.{put_mid-paste}
use Rattle.buffers.specs.declared.Writer.{Writer}
use Rattle.buffers.specs.Written.{Room, Wrote}

sets-append : (out : List ℕ) (at : ℕ) (a b : List ℕ) → sets out at (a ++ b) ≡ sets (sets out at a) (at + length a) b
sets-append out at [] b = rw add-zero
sets-append out at (x ∷ a) b =
    let e : suc at + length a ≡ at + suc (length a) = omega arith in
    sets-append (set out at x) (suc at) a b ∙ ap (λ (k : ℕ). sets (sets (set out at x) (suc at) a) k b) e

-- a text that was copied over the part of a buffer from `at` to `end`
pub copied : (out : List ℕ) (at end : ℕ) (text part : List ℕ) → at + length text ≤ length out → end ≡ at + length text → part ≡ text → put_mid at (end - at) out part ≡ sets out at text
copied out at end text part room ends is =
    put_mid-paste at (end - at) out part text (length text) is (omega arith) refl
    ∙ ap (λ (l : List ℕ). (take at out ++ l) ++ drop (at + length text) out) (take_all (length text) text (omega arith))
    ∙ sym (sets-eq text out at room)

-- ---- a text that was written is written over
module _ (out : List ℕ) (at : ℕ) (text : List ℕ) (room : at + length text ≤ length out) where
  abbrev ahead : List ℕ
  ahead = take at out

  abbrev behind : List ℕ
  behind = drop (at + length text) out

  ahead-length : length ahead ≡ at
  ahead-length = length-take-le at out (omega arith)

  parts : sets out at text ≡ ahead ++ (text ++ behind)
  parts = sets-eq text out at room ∙ append_assoc ahead text behind

  dropped : drop at (sets out at text) ≡ text ++ behind
  dropped = ap (drop at) parts ∙ drop_at ahead (text ++ behind) at ahead-length

  standing : (k : ℕ) → length text ≡ k → take k (drop at (sets out at text)) ≡ text
  standing k h = ap (take k) dropped ∙ take_at text behind k h

  overwritten : (k : ℕ) (other : List ℕ) → length text ≡ k → length other ≡ length text → put_mid at k (sets out at text) other ≡ sets out at other
  overwritten k other h e =
      let a : take at (sets out at text) ≡ ahead = ap (take at) parts ∙ take_at ahead (text ++ behind) at ahead-length in
      let b : drop k (drop at (sets out at text)) ≡ behind = ap (drop k) dropped ∙ drop_at text behind k h in
      ap₂ (λ (p q : List ℕ). p ++ (other ++ q)) a b
      ∙ sym (append_assoc ahead other behind)
      ∙ ap (λ (n : ℕ). (ahead ++ other) ++ drop (at + n) out) (sym e)
      ∙ sym (sets-eq other out at (omega arith))

module _ {was is : Writer} {text : List ℕ} (room : Room was text) (r : Wrote was text is) where
  whole-length : length text ≡ is.at - was.at
  whole-length = omega (arith, r.place)

  pub inside : is.at ≤ length is.out.now
  inside = omega (arith, room, r.place, ap length r.bytes ∙ length-sets was.out.now was.at text)

  pub stands : take (is.at - was.at) (drop was.at is.out.now) ≡ text
  stands = ap (λ (l : List ℕ). take (is.at - was.at) (drop was.at l)) r.bytes ∙ standing was.out.now was.at text room (is.at - was.at) whole-length

  pub replaced : {after : Writer} (other : List ℕ) → length other ≡ length text → after.out.now ≡ put_mid was.at (is.at - was.at) is.out.now other → after.at ≡ is.at → after.out.ghost_name ≡ is.out.ghost_name
      → Wrote was other after
  replaced other e q a n = record {
    bytes = q ∙ ap (λ (l : List ℕ). put_mid was.at (is.at - was.at) l other) r.bytes ∙ overwritten was.out.now was.at text room (is.at - was.at) other whole-length e;
    place = omega (arith, a, r.place, e);
    same = n ∙ r.same;
  }

pub wrote_nothing : (w : Writer) → Wrote w [] w
wrote_nothing w = record { bytes = refl; place = sym (add-zero w.at); same = refl }

pub wrote-both : {was mid is : Writer} {a b : List ℕ} → Wrote was a mid → Wrote mid b is → Wrote was (a ++ b) is
wrote-both {was} {mid} {is} {a} {b} p q = record {
  bytes = q.bytes ∙ ap (λ (l : List ℕ). sets l mid.at b) p.bytes ∙ ap (λ (k : ℕ). sets (sets was.out.now was.at a) k b) p.place ∙ sym (sets-append was.out.now was.at a b);
  place = omega (arith, p.place, q.place, length-append a b);
  same = q.same ∙ p.same;
}

-- a whole text was to be written at `start`; now the rest is, at `is`, and there is room for it
pub record Going (start : Writer) (whole : List ℕ) (is : Writer) (rest : List ℕ) : Type 0 where
  pub room : Room is rest
  pub onward : (after : Writer) → Wrote is rest after → Wrote start whole after

pub begun : (w : Writer) (whole : List ℕ) → Room w whole → Going w whole w whole
begun w whole h = record { room = h; onward = λ after r. r }

-- the rest begins with this text: there is room for it, and once it is written, what follows is the rest
module _ {start is : Writer} {whole text : List ℕ} (g : Going start whole is text) (a rest : List ℕ) (e : text ≡ a ++ rest) where
  pub room_for : Room is a
  room_for = omega (arith, g.room, ap length e, length-append a rest)

  pub next : {after : Writer} → Wrote is a after → Going start whole after rest
  next {after} w = record {
    room = omega (arith, g.room, ap length e, length-append a rest, w.place, ap length w.bytes ∙ length-sets is.out.now is.at a);
    onward = λ last v. g.onward last (rw e (wrote-both w v));
  }

pub done : {start is : Writer} {whole text : List ℕ} → Going start whole is text → text ≡ [] → Wrote start whole is
done {is = is} g e = g.onward is (rw e (wrote_nothing is))

-- the buffer keeps its length
pub same-length : {start is : Writer} {whole rest : List ℕ} → Going start whole is rest → length is.out.now ≡ length start.out.now
same-length {start} {is} {whole} {rest} g =
    let after : Writer = record { out = record is.out { now = sets is.out.now is.at rest }; at = is.at + length rest } in
    let w = g.onward after (record { bytes = refl; place = refl; same = refl }) in
    sym (length-sets is.out.now is.at rest) ∙ ap length w.bytes ∙ length-sets start.out.now start.at whole
