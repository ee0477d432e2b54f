-- The laws of a table of numbers below 256. No axiom.
use Rattle.octets.proofs.Vocabulary.{◌≡◌, refl, sym, ap, ◌∙◌, ℕ, ◌/◌, ◌%◌, ◌<◌, List, true, false, ◌||◌, length, get_or, replicate, get_or-replicate, length-set, List·get_d-eq-default, eqb, ltb, get_or-set_same, get_or-set_other, arith, eqb-true, eqb-false, eq-eqb, ne_eqb, ltb-true, ltb-false}
use Rattle.octets.specs.Bit.{bit, set_bit}
use Rattle.octets.specs.Sentences.{below}
use Rattle.octets.proofs.Bits.{set_same, set_other, bit-zero}
use Rattle.octets.proofs.Sentences.{cases, below_at}
use Rattle.octets.specs.Table.{has, with}

-- ---- one more number
pub with-long : (table : List ℕ) (k : ℕ) → length table ≡ 8 → length (with table k) ≡ 8
with-long table k p = length-set table (k / 32) _ ∙ p

module _ (table : List ℕ) (k : ℕ) (h : k < 256) (p : length table ≡ 8) (j : ℕ) where
  word-with : k / 32 ≡ j / 32 → has (with table k) j ≡ bit (set_bit (get_or table (j / 32) 0) (k % 32)) (j % 32)
  word-with q = rw (q) (ap (λ w. bit w (j % 32)) (get_or-set_same table (j / 32) _ 0 (omega arith)))

  pub has-with : has (with table k) j ≡ (eqb k j || has table j)
  has-with = cases (eqb (k / 32) (j / 32))
      (λ q. let u = eqb-true (k / 32) (j / 32) q in cases (eqb (k % 32) (j % 32))
      (λ r. let v = eqb-true (k % 32) (j % 32) r in word-with u ∙ rw (v, set_same, eq-eqb k j (omega arith)))
      (λ r. let v = eqb-false (k % 32) (j % 32) r in
      word-with u ∙ set_other (get_or table (j / 32) 0) (k % 32) (j % 32) v ∙ rw (ne_eqb k j (λ e. v (ap (λ n. n % 32) e)))))
      (λ q. let u = eqb-false (k / 32) (j / 32) q in
      rw (ne_eqb k j (λ e. u (ap (λ n. n / 32) e))) (ap (λ w. bit w (j % 32)) (get_or-set_other table (k / 32) (j / 32) _ 0 (λ e. u (sym e)))))

-- ---- none and all
abbrev pub all_of : ℕ → List ℕ
all_of word = replicate 8 word

pub has-none : (j : ℕ) → has (all_of 0) j ≡ false
has-none j = rw (zeros (j / 32)) (bit-zero (j % 32))
  where
    zeros : (i : ℕ) → get_or (replicate {A = ℕ} 8 0) i 0 ≡ 0
    zeros i = cases (ltb i 8) (λ p. get_or-replicate {A = ℕ} 8 i 0 0 (ltb-true i 8 p)) (λ p. List·get_d-eq-default (replicate {A = ℕ} 8 0) 0 (ltb-false i 8 p))

all-bits : below 32 (bit 4294967295) ≡ true
unfolding below
all-bits = refl

pub has_all : (j : ℕ) → j < 256 → has (all_of 4294967295) j ≡ true
has_all j h = rw (get_or-replicate {A = ℕ} 8 (j / 32) 4294967295 0 (omega arith)) (below_at (bit 4294967295) 32 all-bits (j % 32) (omega arith))
