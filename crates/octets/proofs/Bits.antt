-- The laws of a number's bits: set, cleared and flipped. Flipping is exclusive or with a power of two, and the others are by it. No axiom.
use Rattle.octets.proofs.Vocabulary.{◌≡◌, refl, sym, ap, ◌∙◌, ℕ, zero, suc, ◌+◌, ◌-◌, ◌*◌, ◌/◌, ◌%◌, ◌^◌, ◌<◌, ◌≤◌, min, true, false, not, eqb, ltb, arith, pow-suc, zero-div, div-one, lt_of_lt_of_le, div-eq_of_lt, div_self, mul-div_cancel, pow-succ', div-div-eq-div-mul, one-mul, mod-eq_of_lt, eqb-false, eqb-true, ltb-true, ltb-false}
use lib.Pow.{pow-add, pow_pos, pow-lt, pow_mono}
use lib.Bits.{bit_and, bit_or, bit_xor, and_step, and_high, or_add_and, xor_add_and, xor_shr, xor_mod, xor_zero_r, xor_lt}
use Rattle.octets.specs.Bit.{bit, set_bit, clear_bit, flip_bit}
use Rattle.octets.proofs.Sentences.{cases}

-- ---- the operators of the code
and-power : (w e : ℕ) → bit_and w (2 ^ e) ≡ w / 2 ^ e % 2 * 2 ^ e
and-power w e =
    let q : 2 ^ (1 + e) - 2 ^ e ≡ 2 ^ e = omega (arith, pow-add 2 1 e) in
    sym (ap (bit_and w) q) ∙ and_high w 1 e

-- with the bit set, and not
on : (w e : ℕ) → bit w e ≡ true → bit_and w (2 ^ e) ≡ 2 ^ e
on w e p = and-power w e ∙ rw (eqb-true (w / 2 ^ e % 2) 1 p) (one-mul (2 ^ e))

off : (w e : ℕ) → bit w e ≡ false → bit_and w (2 ^ e) ≡ 0
off w e p =
    let n = eqb-false (w / 2 ^ e % 2) 1 p in
    let z : w / 2 ^ e % 2 ≡ 0 = omega arith in
    and-power w e ∙ rw z (omega arith)

pub or-sets : (w e : ℕ) → bit_or w (2 ^ e) ≡ set_bit w e
or-sets w e = cases (bit w e)
    (λ p. rw p (omega (arith, or_add_and w (2 ^ e), on w e p)))
    (λ p. rw p (omega (arith, or_add_and w (2 ^ e), off w e p)))

pub xor-flips : (w e : ℕ) → bit_xor w (2 ^ e) ≡ flip_bit w e
xor-flips w e = cases (bit w e)
    (λ p. rw p (omega (arith, xor_add_and w (2 ^ e), on w e p)))
    (λ p. rw p (omega (arith, xor_add_and w (2 ^ e), off w e p)))

-- a number's digits are those that a mask has and those that it has not
masked : (n w m : ℕ) → w < 2 ^ n → m < 2 ^ n → bit_and w m + bit_and w (2 ^ n - 1 - m) ≡ w
masked zero w m hw hm = let z : w ≡ 0 = omega arith in rw z
masked (suc n) w m hw hm =
    let two : 2 ^ suc n ≡ 2 ^ n * 2 = pow-suc 2 n in
    let half : (2 ^ suc n - 1 - m) / 2 ≡ 2 ^ n - 1 - m / 2 = omega arith in
    let high = rw (← half) at (masked n (w / 2) (m / 2) (omega arith) (omega arith)) in
    let low : min (w % 2) (m % 2) + min (w % 2) ((2 ^ suc n - 1 - m) % 2) ≡ w % 2 = omega arith in
    omega (arith, and_step w m, and_step w (2 ^ suc n - 1 - m))

pub and-clears : (w e : ℕ) → e < 32 → w < 2 ^ 32 → bit_and w (2 ^ 32 - 1 - 2 ^ e) ≡ clear_bit w e
and-clears w e h l = cases (bit w e)
    (λ p. rw p (omega (arith, masked 32 w (2 ^ e) l (pow-lt h), on w e p)))
    (λ p. rw p (omega (arith, masked 32 w (2 ^ e) l (pow-lt h), off w e p)))

-- the code's 1 << e
pub shifted_one : (e : ℕ) → e < 32 → 1 * 2 ^ e % 2 ^ 32 ≡ 2 ^ e
shifted_one e h = rw (one-mul (2 ^ e)) (mod-eq_of_lt (pow-lt h))

-- ---- flipping
xor-digit : (a b k : ℕ) → bit_xor a b / 2 ^ k % 2 ≡ bit_xor (a / 2 ^ k % 2) (b / 2 ^ k % 2)
xor-digit a b k = ap (λ (x : ℕ). x % 2) (xor_shr a b k) ∙ xor_mod (a / 2 ^ k) (b / 2 ^ k) 1

power-other : (e k : ℕ) → (e ≡ k → ⊥) → 2 ^ e / 2 ^ k % 2 ≡ 0
power-other e k n = cases (ltb e k)
    (λ p. rw (div-eq_of_lt (pow-lt (ltb-true e k p))))
    (λ p. higher (ltb-false e k p))
  where
    higher : k ≤ e → 2 ^ e / 2 ^ k % 2 ≡ 0
    higher l =
        let s : e ≡ suc (e - k - 1) + k = omega arith in
        rw (s, pow-add 2 (suc (e - k - 1)) k, mul-div_cancel (2 ^ suc (e - k - 1)) (pow_pos k)) (omega (arith, pow-suc 2 (e - k - 1)))

other-digit : (d : ℕ) → d < 2 → eqb (bit_xor d 1) 1 ≡ not (eqb d 1)
other-digit zero l = refl
other-digit (suc zero) l = refl
other-digit (suc (suc d)) l = absurd (omega arith)

pub flip-same : (w e : ℕ) → bit (flip_bit w e) e ≡ not (bit w e)
flip-same w e = rw (← xor-flips w e, xor-digit w (2 ^ e) e, div_self (pow_pos e)) (other-digit (w / 2 ^ e % 2) (omega arith))

pub flip-other : (w e k : ℕ) → (e ≡ k → ⊥) → bit (flip_bit w e) k ≡ bit w k
flip-other w e k n = rw (← xor-flips w e, xor-digit w (2 ^ e) k, power-other e k n, xor_zero_r (w / 2 ^ k % 2))

pub flip-below : (n w e : ℕ) → e < n → w < 2 ^ n → flip_bit w e < 2 ^ n
flip-below n w e h l = rw (← xor-flips w e) (xor_lt n w (2 ^ e) l (pow-lt h))

-- ---- setting and clearing: the number as it is, or flipped
set-flips : (w e : ℕ) → bit w e ≡ false → set_bit w e ≡ flip_bit w e
set-flips w e p = rw p

clear-flips : (w e : ℕ) → bit w e ≡ true → clear_bit w e ≡ flip_bit w e
clear-flips w e p = rw p

-- what holds of the number as it is, and of it flipped, holds of it set and cleared
module _ (P : ℕ → Type 0) (w e : ℕ) where
  of-set : (bit w e ≡ true → P w) → (bit w e ≡ false → P (flip_bit w e)) → P (set_bit w e)
  of-set f g = cases (bit w e) (λ p. rw p (f p)) (λ p. rw (set-flips w e p) (g p))

  of-clear : (bit w e ≡ true → P (flip_bit w e)) → (bit w e ≡ false → P w) → P (clear_bit w e)
  of-clear f g = cases (bit w e) (λ p. rw (clear-flips w e p) (f p)) (λ p. rw p (g p))

pub set_same : (w e : ℕ) → bit (set_bit w e) e ≡ true
set_same w e = of-set (λ (x : ℕ). bit x e ≡ true) w e (λ p. p) (λ p. flip-same w e ∙ ap not p)

pub set_other : (w e k : ℕ) → (e ≡ k → ⊥) → bit (set_bit w e) k ≡ bit w k
set_other w e k n = of-set (λ (x : ℕ). bit x k ≡ bit w k) w e (λ p. refl) (λ p. flip-other w e k n)

pub set_below : (n w e : ℕ) → e < n → w < 2 ^ n → set_bit w e < 2 ^ n
set_below n w e h l = of-set (λ (x : ℕ). x < 2 ^ n) w e (λ p. l) (λ p. flip-below n w e h l)

pub clear-same : (w e : ℕ) → bit (clear_bit w e) e ≡ false
clear-same w e = of-clear (λ (x : ℕ). bit x e ≡ false) w e (λ p. flip-same w e ∙ ap not p) (λ p. p)

pub clear-other : (w e k : ℕ) → (e ≡ k → ⊥) → bit (clear_bit w e) k ≡ bit w k
clear-other w e k n = of-clear (λ (x : ℕ). bit x k ≡ bit w k) w e (λ p. flip-other w e k n) (λ p. refl)

pub clear-below : (n w e : ℕ) → e < n → w < 2 ^ n → clear_bit w e < 2 ^ n
clear-below n w e h l = of-clear (λ (x : ℕ). x < 2 ^ n) w e (λ p. flip-below n w e h l) (λ p. l)

-- ---- a number and all its bits
pub bit-zero : (e : ℕ) → bit 0 e ≡ false
bit-zero e = rw (zero-div (2 ^ e))

-- from the number's size on no bit is set
pub bit_past : (n w e : ℕ) → w < 2 ^ n → n ≤ e → bit w e ≡ false
bit_past n w e l h = rw (div-eq_of_lt (lt_of_lt_of_le l (pow_mono h)))

-- two digits with the same test are the same
digit : (x y : ℕ) → x < 2 → y < 2 → eqb x 1 ≡ eqb y 1 → x ≡ y
digit x y hx hy h = cases (eqb y 1)
    (λ q. eqb-true x 1 (h ∙ q) ∙ sym (eqb-true y 1 q))
    (λ q.
    let nx = eqb-false x 1 (h ∙ q) in
    let ny = eqb-false y 1 q in
    omega arith)

halved : (w e : ℕ) → bit (w / 2) e ≡ bit w (suc e)
halved w e = rw (div-div-eq-div-mul, pow-succ')

-- two numbers below 2 ^ n with the same bits are the same
pub ext-bits : (n v w : ℕ) → v < 2 ^ n → w < 2 ^ n → ((e : ℕ) → e < n → bit v e ≡ bit w e) → v ≡ w
ext-bits zero v w hv hw h = omega arith
ext-bits (suc n) v w hv hw h =
    let two : 2 ^ suc n ≡ 2 ^ n * 2 = pow-suc 2 n in
    let low : v % 2 ≡ w % 2 = digit (v % 2) (w % 2) (omega arith) (omega arith) (rw (div-one v, div-one w) at (h 0 (omega arith))) in
    let high : v / 2 ≡ w / 2 = ext-bits n (v / 2) (w / 2) (omega arith) (omega arith) (λ e l. halved v e ∙ h (suc e) (omega arith) ∙ sym (halved w e)) in
    omega arith
