-- The bits of a word that is made of others: with a bit set or cleared, and without the bits of a mask. No axiom.
use Rattle.octets.proofs.Vocabulary.{◌≡◌, refl, sym, ap, ◌∙◌, ℕ, zero, suc, ◌-◌, ◌*◌, ◌/◌, ◌%◌, ◌^◌, ◌<◌, Bool, true, false, ◌&&◌, ◌||◌, not, or-false, or-true, and-true, and-false, eqb, arith, pow-suc, mul_comm, div-one, div-div-eq-div-mul, not-suc-le-zero, eqb-true, eqb-false, eq-eqb, ne_eqb}
use lib.Bits.{bit_and, and_shr, and_mod, and_le_l}
use Rattle.octets.specs.Bit.{bit, set_bit, clear_bit}
use Rattle.octets.specs.Sentences.{below, ◌⇒◌}
use Rattle.octets.proofs.Sentences.{cases, same_test, below_at, at-below}
use Rattle.octets.proofs.Bits.{set_same, set_other, clear-same, clear-other, bit-zero, ext-bits}

-- ---- setting and clearing one bit, at any bit
pub set-digit : (w e k : ℕ) → bit (set_bit w e) k ≡ (bit w k || eqb e k)
set-digit w e k = cases (eqb e k)
    (λ p. let q = eqb-true e k p in rw (p, ← q, set_same w e) (sym (or-true (bit w e))))
    (λ p. rw (p, set_other w e k (eqb-false e k p)) (sym (or-false (bit w k))))

pub clear-digit : (w e k : ℕ) → bit (clear_bit w e) k ≡ (bit w k && not (eqb e k))
clear-digit w e k = cases (eqb e k)
    (λ p. let q = eqb-true e k p in rw (p, ← q, clear-same w e) (sym (and-false (bit w e))))
    (λ p. rw (p, clear-other w e k (eqb-false e k p)) (sym (and-true (bit w k))))

-- ---- the code's operators, at any bit
both-digits : (a b : ℕ) → a < 2 → b < 2 → eqb (bit_and a b) 1 ≡ (eqb a 1 && eqb b 1)
both-digits zero zero l m = refl
both-digits zero (suc zero) l m = refl
both-digits zero (suc (suc b)) l m = absurd (omega arith)
both-digits (suc zero) zero l m = refl
both-digits (suc zero) (suc zero) l m = refl
both-digits (suc zero) (suc (suc b)) l m = absurd (omega arith)
both-digits (suc (suc a)) b l m = absurd (omega arith)

and-digit : (a b k : ℕ) → bit (bit_and a b) k ≡ (bit a k && bit b k)
and-digit a b k =
    ap (λ (x : ℕ). eqb (x % 2) 1) (and_shr a b k) ∙ ap (λ (x : ℕ). eqb x 1) (and_mod (a / 2 ^ k) (b / 2 ^ k) 1) ∙
    both-digits (a / 2 ^ k % 2) (b / 2 ^ k % 2) (omega arith) (omega arith)

bit-half : (w k : ℕ) → bit w (suc k) ≡ bit (w / 2) k
bit-half w k = rw (pow-suc 2 k, mul_comm (2 ^ k) 2, ← div-div-eq-div-mul w 2 (2 ^ k))

other-digit : (n m : ℕ) → m < 2 ^ suc n → bit (2 ^ suc n - 1 - m) 0 ≡ not (bit m 0)
other-digit n m l =
    let two : 2 ^ suc n ≡ 2 ^ n * 2 = pow-suc 2 n in
    cases (eqb (m % 2) 1)
    (λ p. rw (div-one m, div-one (2 ^ suc n - 1 - m), p) (ne_eqb ((2 ^ suc n - 1 - m) % 2) 1 (λ e. let q = eqb-true (m % 2) 1 p in omega arith)))
    (λ p. rw (div-one m, div-one (2 ^ suc n - 1 - m), p) (eq-eqb ((2 ^ suc n - 1 - m) % 2) 1 (let q = eqb-false (m % 2) 1 p in omega arith)))

not_digit : (n m k : ℕ) → m < 2 ^ n → k < n → bit (2 ^ n - 1 - m) k ≡ not (bit m k)
not_digit zero m k l h = absurd (not-suc-le-zero h)
not_digit (suc n) m zero l h = other-digit n m l
not_digit (suc n) m (suc k) l h =
    let two : 2 ^ suc n ≡ 2 ^ n * 2 = pow-suc 2 n in
    let half : (2 ^ suc n - 1 - m) / 2 ≡ 2 ^ n - 1 - m / 2 = omega arith in
    bit-half (2 ^ suc n - 1 - m) k ∙ rw half (not_digit n (m / 2) k (omega arith) (omega arith)) ∙ ap not (sym (bit-half m k))

-- the word without the bits of a mask
pub without-digit : (w m k : ℕ) → m < 2 ^ 32 → k < 32 → bit (bit_and w (2 ^ 32 - 1 - m)) k ≡ (bit w k && not (bit m k))
without-digit w m k l h = and-digit w (2 ^ 32 - 1 - m) k ∙ ap (λ (b : Bool). bit w k && b) (not_digit 32 m k l h)

module _ (w m : ℕ) (lw : w < 2 ^ 32) (lm : m < 2 ^ 32) where
  -- no bit is left of a word that stands within a mask
  pub nothing_left : eqb (bit_and w (2 ^ 32 - 1 - m)) 0 ≡ below 32 (λ k. bit w k ⇒ bit m k)
  nothing_left = same_test (eqb (bit_and w (2 ^ 32 - 1 - m)) 0) (below 32 (λ k. bit w k ⇒ bit m k))
      (λ p. at-below (λ k. bit w k ⇒ bit m k) 32
      (λ k h. within (bit w k) (bit m k) (sym (without-digit w m k lm h) ∙ ap (λ (x : ℕ). bit x k) (eqb-true (bit_and w (2 ^ 32 - 1 - m)) 0 p) ∙ bit-zero k)))
      (λ p.
      let l = and_le_l w (2 ^ 32 - 1 - m) in
      eq-eqb (bit_and w (2 ^ 32 - 1 - m)) 0 (ext-bits 32 (bit_and w (2 ^ 32 - 1 - m)) 0 (omega arith) (omega arith)
      (λ k h. without-digit w m k lm h ∙ outside (bit w k) (bit m k) (below_at (λ k. bit w k ⇒ bit m k) 32 p k h) ∙ sym (bit-zero k))))
    where
      within : (a b : Bool) → (a && not b) ≡ false → (a ⇒ b) ≡ true
      within true true e = refl
      within true false e = sym e
      within false b e = refl

      outside : (a b : Bool) → (a ⇒ b) ≡ true → (a && not b) ≡ false
      outside true true e = refl
      outside true false e = sym e
      outside false b e = refl
