-- The row of limits of full speed, field by field in document 01's words, for every number. No axiom.
use Rattle.octets.proofs.Vocabulary.{◌≡◌, refl, sym, ◌∙◌, ℕ, ◌%◌, ◌/◌, ◌^◌, ◌≤◌, ◌<◌, List, [], ◌∷◌, Bool, true, false, ◌&&◌, ◌||◌, not, and-true, eqb, leb, ltb, leb·zero, arith, eqb-true, ne_eqb, leb-true, le-leb, ltb-true, ltb-false}
use Rattle.octets.specs.Sentences.{pick, every, any, below, member}
use Rattle.octets.proofs.Sentences.{cases, same_test, both, joined, below_at}
use Rattle.octets.proofs.Bits.{bit_past}
use Rattle.descriptors.specs.Limits.{refused_types, full_speed, doubled, named}
use Rattle.descriptors.specs.Descriptor.{good_size, good_interval}

-- "8, 16, 32 or 64" of bMaxPacketSize0 and of bulk
sizes : (x : ℕ) → (eqb x 8 || eqb x 16 || eqb x 32 || eqb x 64) && leb x 64 ≡ (eqb x 8 || eqb x 16 || eqb x 32 || eqb x 64)
sizes x = same_test ((eqb x 8 || eqb x 16 || eqb x 32 || eqb x 64) && leb x 64) (eqb x 8 || eqb x 16 || eqb x 32 || eqb x 64)
    (λ p. (both (eqb x 8 || eqb x 16 || eqb x 32 || eqb x 64) (leb x 64) p).0)
    (λ p. joined p (le-leb x 64 (small p)))
  where
    small : (eqb x 8 || eqb x 16 || eqb x 32 || eqb x 64) ≡ true → x ≤ 64
    small p = cases (eqb x 8) (λ a. let e = eqb-true x 8 a in omega arith)
        (λ a. cases (eqb x 16) (λ b. let e = eqb-true x 16 b in omega arith)
        (λ b. cases (eqb x 32) (λ c. let e = eqb-true x 32 c in omega arith)
        (λ c. let e = eqb-true x 64 (rw (a, b, c) at p) in omega arith)))

pub control-sizes : (x : ℕ) → doubled full_speed.control x ≡ (eqb x 8 || eqb x 16 || eqb x 32 || eqb x 64)
control-sizes x = sizes x

pub bulk-sizes : (size : ℕ) → good_size full_speed 2 size ≡ (eqb size 8 || eqb size 16 || eqb size 32 || eqb size 64)
bulk-sizes size = rw (and-true, and-true) (sizes size)

-- "interrupt 0–64; isochronous 0–1,023": all 16 bits of the size
pub whole-size : (least most size : ℕ) → most < 2048 → (leb least (size % 2048) && leb (size % 2048) most && leb (size / 2048) 0) ≡ (leb least size && leb size most)
whole-size least most size l = same_test (leb least (size % 2048) && leb (size % 2048) most && leb (size / 2048) 0) (leb least size && leb size most)
    (λ p.
    let (q, z) = both (leb least (size % 2048) && leb (size % 2048) most) (leb (size / 2048) 0) p in
    let (i, j) = both (leb least (size % 2048)) (leb (size % 2048) most) q in
    let k = leb-true least (size % 2048) i in
    let m = leb-true (size % 2048) most j in
    let n = leb-true (size / 2048) 0 z in
    joined (le-leb least size (omega arith)) (le-leb size most (omega arith)))
    (λ p.
    let (i, j) = both (leb least size) (leb size most) p in
    let k = leb-true least size i in
    let m = leb-true size most j in
    joined (joined (le-leb least (size % 2048) (omega arith)) (le-leb (size % 2048) most (omega arith))) (le-leb (size / 2048) 0 (omega arith)))

pub up_to : (most size : ℕ) → most < 2048 → (leb 0 (size % 2048) && leb (size % 2048) most && leb (size / 2048) 0) ≡ leb size most
up_to most size l = whole-size 0 most size l ∙ rw leb·zero

pub interrupt-sizes : (size : ℕ) → good_size full_speed 3 size ≡ leb size 64
interrupt-sizes size = rw and-true (up_to 64 size (omega arith))

pub isochronous-sizes : (size : ℕ) → good_size full_speed 1 size ≡ leb size 1023
isochronous-sizes size = up_to 1023 size (omega arith)

-- "bInterval: interrupt 1–255, isochronous 1–16, bulk free"
pub interrupt-intervals : (interval : ℕ) → good_interval full_speed 3 interval ≡ (leb 1 interval && leb interval 255)
interrupt-intervals interval = rw and-true

pub isochronous-intervals : (interval : ℕ) → good_interval full_speed 1 interval ≡ (leb 1 interval && leb interval 16)
isochronous-intervals interval = refl

pub bulk-intervals : (interval : ℕ) → good_interval full_speed 2 interval ≡ true
bulk-intervals interval = refl

-- ---- the types that bits name
unfoldable pub alike : Bool → Bool → Bool
alike a b = pick a b (not b)

alike_is : (a b : Bool) → alike a b ≡ true → a ≡ b
unfolding alike
alike_is true b p = sym p
alike_is false true p = p
alike_is false false p = refl

module _ (width word : ℕ) (ts : List ℕ) (small : word < 2 ^ width) (each : every (λ k. ltb k width) ts ≡ true) (all : below width (λ t. alike (named word t) (member t ts)) ≡ true) where
  no_member : (t : ℕ) → width ≤ t → (us : List ℕ) → every (λ k. ltb k width) us ≡ true → member t us ≡ false
  unfolding any every
  no_member t l [] p = refl
  no_member t l (u ∷ us) p =
      let (q, r) = both (ltb u width) (every (λ k. ltb k width) us) p in
      let m = ltb-true u width q in
      rw (ne_eqb t u (λ e. omega arith)) (no_member t l us r)

  pub these : (t : ℕ) → named word t ≡ member t ts
  these t = cases (ltb t width)
      (λ p. alike_is (named word t) (member t ts) (below_at (λ t. alike (named word t) (member t ts)) width all t (ltb-true t width p)))
      (λ p. let l = ltb-false t width p in bit_past width word t small l ∙ sym (no_member t l ts each))

-- "types 1, 2 or 3"
pub entry-types : (t : ℕ) → named full_speed.entries t ≡ member t (1 ∷ 2 ∷ 3 ∷ [])
unfolding every any below alike
entry-types = these 8 14 (1 ∷ 2 ∷ 3 ∷ []) (omega arith) refl refl

-- "After it, types 1, 2, 3, 6 and 7 are refused"
pub refused-types : (t : ℕ) → named refused_types t ≡ member t (1 ∷ 2 ∷ 3 ∷ 6 ∷ 7 ∷ [])
unfolding every any below alike
refused-types = these 8 206 (1 ∷ 2 ∷ 3 ∷ 6 ∷ 7 ∷ []) (omega arith) refl refl
