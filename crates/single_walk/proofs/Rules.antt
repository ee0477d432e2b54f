-- The limits of a speed, and bits of words that are made of others. No axiom.
use Rattle.octets.proofs.Vocabulary.{◌≡◌, refl, sym, ap, ◌∙◌, ℕ, zero, suc, ◌-◌, ◌^◌, Bool, true, false, ◌||◌, eqb, ltb, arith, le_refl, pow-suc, lt-ltb, le-ltb, eqb-true, eqb-false, ltb-true, ltb-false}
use lib.Pow.{pow_pos}
use Rattle.octets.specs.Bit.{bit, set_bit}
use Rattle.octets.proofs.Sentences.{cases}
use Rattle.octets.proofs.Bits.{bit-zero, bit_past}
use Rattle.octets.proofs.Words.{set-digit}
use Rattle.single_walk.specs.Course.{limits_at}

-- ---- no companions
pub no-companions : (high : Bool) → (limits_at high).companions ≡ false
no-companions true = refl
no-companions false = refl

-- ---- bits
pub lowest-bits : (n k : ℕ) → bit (2 ^ n - 1) k ≡ ltb k n
lowest-bits zero k = bit-zero k ∙ sym (le-ltb k 0 (omega arith))
lowest-bits (suc n) k =
    let b : bit (2 ^ n - 1) n ≡ false = bit_past n (2 ^ n - 1) n (omega (arith, pow_pos n)) (le_refl n) in
    let e : 2 ^ suc n - 1 ≡ set_bit (2 ^ n - 1) n = rw b (omega (arith, pow-suc 2 n, pow_pos n)) in
    rw e (set-digit (2 ^ n - 1) n k ∙ ap (λ (b : Bool). b || eqb n k) (lowest-bits n k) ∙ last)
  where
    last : (ltb k n || eqb n k) ≡ ltb k (suc n)
    last = cases (ltb k n)
        (λ p. let l = ltb-true k n p in rw (p, lt-ltb k (suc n) (omega arith)))
        (λ p. cases (eqb n k)
        (λ q. let m = eqb-true n k q in rw (p, q, lt-ltb k (suc n) (omega arith)))
        (λ q. let m = eqb-false n k q in let l = ltb-false k n p in rw (p, q, le-ltb k (suc n) (omega arith))))
