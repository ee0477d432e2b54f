-- Whether the alternate settings of all interfaces exist, from the words of a survey: all sixteen at once. No axiom.
use Rattle.octets.proofs.Vocabulary.{◌≡◌, refl, sym, ◌∙◌, ℕ, ◌+◌, ◌<◌, List, Bool, true, false, ◌&&◌, ◌||◌, not, and-false, or-false, get_or, eqb, ltb, arith, eqb-true, eqb-false, ltb-true, ltb-false, lt-ltb, le-ltb}
use Rattle.octets.specs.Bit.{bit, set_bit}
use Rattle.octets.specs.Sentences.{pick, ◌⇒◌, below}
use Rattle.octets.proofs.Sentences.{cases, same_test, both, joined, below_at, at-below}
use Rattle.octets.proofs.Words.{set-digit}
use Rattle.descriptors.specs.Configuration.{Configuration}
use Rattle.descriptors.specs.Survey.{TellsInterfaces, good_alternate}

-- ---- the word of the interfaces whose alternate setting is not 0
abbrev pub not_zero : List ℕ → ℕ → Bool
not_zero alternates k = not (eqb (get_or alternates k 0) 0)

-- one number more stands below
below_more : (k j : ℕ) → ltb k (j + 1) ≡ (ltb k j || eqb j k)
below_more k j = cases (ltb k j)
    (λ p. let l = ltb-true k j p in rw (p, lt-ltb k (j + 1) (omega arith)))
    (λ p. let l = ltb-false k j p in rw p (cases (eqb j k)
    (λ q. let e = eqb-true j k q in rw (q, lt-ltb k (j + 1) (omega arith)))
    (λ q. let e = eqb-false j k q in rw (q, le-ltb k (j + 1) (omega arith)))))

module _ (alternates : List ℕ) (j word : ℕ) (told : (k : ℕ) → bit word k ≡ (ltb k j && not_zero alternates k)) where
  -- its bit is set, or it has none
  pub moved_here : not_zero alternates j ≡ true → (k : ℕ) → bit (set_bit word j) k ≡ (ltb k (j + 1) && not_zero alternates k)
  moved_here p k = set-digit word j k ∙ rw (told k, below_more k j) (cases (eqb j k)
      (λ q. let e = eqb-true j k q in rw (q, ← e, p) (go (ltb j j)))
      (λ q. rw q (simp or-false)))
    where
      go : (a : Bool) → ((a && true) || true) ≡ ((a || true) && true)
      go true = refl
      go false = refl

  pub moved-not : not_zero alternates j ≡ false → (k : ℕ) → bit word k ≡ (ltb k (j + 1) && not_zero alternates k)
  moved-not p k = told k ∙ rw (below_more k j) (cases (eqb j k)
      (λ q. let e = eqb-true j k q in rw (q, ← e, p) (simp and-false))
      (λ q. rw q (simp or-false)))

-- ---- the two words and the survey's, at each interface
good-by-words : (a b z : Bool) → ((a && true) ⇒ b) ≡ true → ((true && not z) ⇒ a) ≡ true → pick a b z ≡ true
good-by-words true b z p q = p
good-by-words false b true p q = refl
good-by-words false b false p q = q

words-by-good : (a b z : Bool) → pick a b z ≡ true → (((a && true) ⇒ b) ≡ true) × (((true && not z) ⇒ a) ≡ true)
words-by-good true b true p = (p, refl)
words-by-good true b false p = (p, refl)
words-by-good false b true p = (refl, refl)
words-by-good false b false p = (refl, p)

-- the bits that the code takes off are those from 16 on
pub low-sixteen : (k : ℕ) → k < 32 → not (bit 4294901760 k) ≡ ltb k 16
unfolding below
low-sixteen k h = go (bit 4294901760 k) (ltb k 16) (below_at (λ k. pick (bit 4294901760 k) (not (ltb k 16)) (ltb k 16)) 32 refl k h)
  where
    go : (a b : Bool) → pick a (not b) b ≡ true → not a ≡ b
    go true true p = p
    go true false p = refl
    go false b p = sym p

module _ (alternates : List ℕ) (existing current low moved : ℕ)
    (below16 : (k : ℕ) → k < 32 → bit low k ≡ (bit existing k && ltb k 16)) (told : (k : ℕ) → bit moved k ≡ (ltb k 16 && not_zero alternates k)) where
  pub by-words : (c : Configuration) → TellsInterfaces c alternates existing current
      → (below 32 (λ k. bit low k ⇒ bit current k) && below 32 (λ k. bit moved k ⇒ bit existing k)) ≡ below 16 (good_alternate c alternates)
  by-words c t = same_test (below 32 lows && below 32 moves) (below 16 (good_alternate c alternates)) forth back
    where
      lows : ℕ → Bool
      lows k = bit low k ⇒ bit current k

      moves : ℕ → Bool
      moves k = bit moved k ⇒ bit existing k

      forth : (below 32 lows && below 32 moves) ≡ true → below 16 (good_alternate c alternates) ≡ true
      forth p =
          let (f, g) = both (below 32 lows) (below 32 moves) p in
          at-below (good_alternate c alternates) 16
          (λ k h.
          let u : k < 32 = omega arith in
          let l = below_at lows 32 f k u in
          let m = below_at moves 32 g k u in
          rw (t.exists k u, t.stands k u)
          (good-by-words (bit existing k) (bit current k) (eqb (get_or alternates k 0) 0) (rw (below16 k u, lt-ltb k 16 h) at l) (rw (told k, lt-ltb k 16 h) at m)))

      at_one : (k : ℕ) → k < 32 → below 16 (good_alternate c alternates) ≡ true → (lows k ≡ true) × (moves k ≡ true)
      at_one k u p = cases (ltb k 16)
          (λ q.
          let g = rw (t.exists k u, t.stands k u) at (below_at (good_alternate c alternates) 16 p k (ltb-true k 16 q)) in
          rw (below16 k u, told k, q) (words-by-good (bit existing k) (bit current k) (eqb (get_or alternates k 0) 0) g))
          (λ q. rw (below16 k u, told k, q) (rw (and-false (bit existing k)) (refl, refl)))

      back : below 16 (good_alternate c alternates) ≡ true → (below 32 lows && below 32 moves) ≡ true
      back p = joined (at-below lows 32 (λ k u. (at_one k u p).0)) (at-below moves 32 (λ k u. (at_one k u p).1))
