-- Each test of the walk, by its shortest way, says what the rules say; and bits of words that are made of others. No axiom.
use Rattle.octets.proofs.Vocabulary.{◌≡◌, refl, sym, ap, ◌∙◌, ℕ, zero, suc, ◌+◌, ◌/◌, ◌%◌, ◌^◌, ◌≤◌, ◌<◌, List, Bool, true, false, ◌&&◌, ◌||◌, and-true, and-false, length, take, drop, length-take, List·get_d-eq-default, eqb, leb, ltb, get_or-take, get_or-drop, arith, ltb-true, ltb-false}
use lib.Bits.{bit_or, or_shr, or_mod}
use Rattle.octets.specs.Bit.{bit}
use Rattle.octets.specs.Octets.{byte}
use Rattle.octets.proofs.Sentences.{cases}
use Rattle.octets.proofs.Bits.{bit_past}
use Rattle.descriptors.specs.declared.limits.Limits.{Limits}
use Rattle.descriptors.specs.Limits.{refused_types, named}
use Rattle.descriptors.specs.Descriptor.{bEndpointAddress, bmAttributes, wMaxPacketSize, bInterval, transfer_type, good_address, good_attributes, good_size, good_interval, type_allowed}
use Rattle.descriptors.specs.declared.sequence.Order.{Order}
use Rattle.descriptors.specs.Sequence.{good_kind, free, comes, listable}

-- ---- no type from 8 on is refused
pub others-allowed : (t : ℕ) → 8 ≤ t → named refused_types t ≡ false
others-allowed t l = bit_past 8 206 t (omega arith) l

-- ---- an endpoint descriptor
regroup : (l a t s i : Bool) → (l && a && t && s && i) ≡ (l && a && (t && s && i))
regroup true true true s i = refl
regroup true true false s i = refl
regroup true false t s i = refl
regroup false a t s i = refl

module _ (limits : Limits) (o : Order) (d : List ℕ) where
  abbrev kind : Bool
  kind = good_kind limits (bmAttributes d) (wMaxPacketSize d) (bInterval d)

  pub by_kind : listable limits o d ≡ (comes o d && kind)
  by_kind = ap (λ (b : Bool). type_allowed 5 && b && leb 1 o.coming && free o d)
      (regroup (leb 7 (length d)) (good_address (bEndpointAddress d)) (good_attributes (bmAttributes d)) (good_size limits (transfer_type (bmAttributes d)) (wMaxPacketSize d)) (good_interval limits (transfer_type (bmAttributes d)) (bInterval d)))
      ∙ go (leb 7 (length d)) (good_address (bEndpointAddress d)) kind (leb 1 o.coming) (free o d)
    where
      go : (l a k c f : Bool) → ((l && a && k) && c && f) ≡ ((l && a && c && f) && k)
      go false a k c f = refl
      go true false k c f = refl
      go true true true c f = sym (and-true (c && f))
      go true true false c f = sym (and-false (c && f))

-- ---- bits
either-digit : (a b : ℕ) → a < 2 → b < 2 → eqb (bit_or a b) 1 ≡ (eqb a 1 || eqb b 1)
either-digit zero zero l m = refl
either-digit zero (suc zero) l m = refl
either-digit zero (suc (suc b)) l m = absurd (omega arith)
either-digit (suc zero) zero l m = refl
either-digit (suc zero) (suc zero) l m = refl
either-digit (suc zero) (suc (suc b)) l m = absurd (omega arith)
either-digit (suc (suc a)) b l m = absurd (omega arith)

pub or-digit : (a b k : ℕ) → bit (bit_or a b) k ≡ (bit a k || bit b k)
or-digit a b k =
    ap (λ (x : ℕ). eqb (x % 2) 1) (or_shr a b k) ∙ ap (λ (x : ℕ). eqb x 1) (or_mod (a / 2 ^ k) (b / 2 ^ k) 1) ∙
    either-digit (a / 2 ^ k % 2) (b / 2 ^ k % 2) (omega arith) (omega arith)

-- a part of bytes is bytes
pub part_bytes : (body : List ℕ) → ((k : ℕ) → byte body k < 256) → (at n j : ℕ) → byte (take n (drop at body)) j < 256
part_bytes body f at n j = cases (ltb j n)
    (λ p. rw (get_or-take n (drop at body) j 0 (ltb-true j n p), get_or-drop at body j 0) (f (at + j)))
    (λ p. let l = ltb-false j n p in rw (List·get_d-eq-default (take n (drop at body)) 0 {n = j} (simp length-take (omega arith))) (omega arith))
