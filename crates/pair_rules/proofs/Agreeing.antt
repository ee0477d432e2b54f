-- How many leading bytes of two lists agree. No axiom.
use Rattle.std.specs.Prelude.{nat_eq, zip, position, unwrap_or}
use Rattle.std.specs.List.{position_or_len}
use Rattle.std.proofs.lemmas.List.Sums.{prefix_len-le-length}
use Rattle.std.proofs.lemmas.Slice.Zip.{length-zip}
use Rattle.octets.proofs.Vocabulary.{◌<◌, ◌≡◌, refl, sym, ap, ◌∙◌, ℕ, suc, ◌+◌, ◌≤◌, List, [], ◌∷◌, Bool, true, false, ◌&&◌, and-false, length, drop, eqb, arith, eq-eqb, ne_eqb, eqb-true, not, min, ltb, ltb-false}
use Rattle.octets.proofs.Sentences.{cases, same_test}
use Rattle.sets.specs.Pair.{same}
use Rattle.pair_rules.specs.Pair.{agreeing}

-- ---- the first place where they differ, or the shorter one's length
abbrev pub differ : ℕ × ℕ → Bool
differ p = not (nat_eq p.0 p.1)

alike : (a b : List ℕ) → position_or_len differ (zip a b) ≡ agreeing a b
unfolding agreeing
alike [] b = refl
alike (x ∷ xs) [] = refl
alike (x ∷ xs) (y ∷ ys) = cases (eqb x y) (λ p. rw (p, alike xs ys) (omega arith)) (λ p. rw p)

pub agreeing-position : (a b : List ℕ) → unwrap_or (position differ (zip a b)) (min (length a) (length b)) ≡ agreeing a b
agreeing-position a b =
    let n = position_or_len differ (zip a b) in
    let all : n ≤ length (zip a b) = prefix_len-le-length (λ p. not (differ p)) (zip a b) in
    let short : length (zip a b) ≡ min (length a) (length b) = length-zip a b in
    cases (ltb n (length (zip a b)))
    (λ p. rw p (alike a b))
    (λ p. rw (p, ← alike a b) (omega (arith, all, short, ltb-false n (length (zip a b)) p)))

-- no more than there are
pub agreeing-short : (a b : List ℕ) → agreeing a b ≤ length a
unfolding agreeing
agreeing-short [] b = omega arith
agreeing-short (x ∷ xs) [] = omega arith
agreeing-short (x ∷ xs) (y ∷ ys) = cases (eqb x y) (λ p. rw p (let h = agreeing-short xs ys in omega arith)) (λ p. rw p (omega arith))

-- ---- they are the same where all agree and none is left
pub same-agreeing : (a b : List ℕ) → (eqb (agreeing a b) (length a) && eqb (length a) (length b)) ≡ same a b
unfolding agreeing same
same-agreeing [] [] = refl
same-agreeing [] (y ∷ ys) = ne_eqb 0 (length (y ∷ ys)) (λ p. omega arith)
same-agreeing (x ∷ xs) [] = rw (ne_eqb (length (x ∷ xs)) 0 (λ p. omega arith)) (and-false (eqb 0 (length (x ∷ xs))))
same-agreeing (x ∷ xs) (y ∷ ys) = cases (eqb x y)
    (λ p. rw p (more (agreeing xs ys) (length xs) (length ys) ∙ same-agreeing xs ys))
    (λ p. rw (p, ne_eqb 0 (length (x ∷ xs)) (λ q. omega arith)))
  where
    up : (m n : ℕ) → eqb (suc m) (suc n) ≡ eqb m n
    up m n = same_test (eqb (suc m) (suc n)) (eqb m n) (λ p. let h = eqb-true (suc m) (suc n) p in eq-eqb m n (omega arith)) (λ p. let h = eqb-true m n p in eq-eqb (suc m) (suc n) (omega arith))

    more : (m k l : ℕ) → (eqb (suc m) (suc k) && eqb (suc k) (suc l)) ≡ (eqb m k && eqb k l)
    more m k l = rw (up m k, up k l)

-- so the number of bytes that a rule asks for is asked by the way
pub long-enough : (a b : List ℕ) → (eqb (length a) (length b) && same a b) ≡ same a b
long-enough a b =
    ap (λ t. eqb (length a) (length b) && t) (sym (same-agreeing a b))
    ∙ go (eqb (agreeing a b) (length a)) (eqb (length a) (length b))
    ∙ same-agreeing a b
  where
    go : (x y : Bool) → (y && (x && y)) ≡ (x && y)
    go true true = refl
    go true false = refl
    go false true = refl
    go false false = refl

-- ---- the first two bytes by themselves, and then the others
module _ (a b : ℕ) (rest : List ℕ) where
  pub start-differs : (m : List ℕ) → agreeing m (a ∷ b ∷ []) < 2 → agreeing m (a ∷ b ∷ []) ≡ agreeing m (a ∷ b ∷ rest)
  unfolding agreeing
  start-differs [] h = refl
  start-differs (x ∷ []) h = refl
  start-differs (x ∷ y ∷ m) h = cases (eqb x a) (λ p. cases (eqb y b) (λ q. absurd (omega (arith, rw (p, q) at h))) (λ q. rw (p, q))) (λ p. rw p)

  pub start-agrees : (m : List ℕ) → 2 ≤ agreeing m (a ∷ b ∷ []) → 2 + agreeing (drop 2 m) rest ≡ agreeing m (a ∷ b ∷ rest)
  unfolding agreeing
  start-agrees [] h = absurd (omega (arith, h))
  start-agrees (x ∷ []) h = cases (eqb x a) (λ p. absurd (omega (arith, rw p at h))) (λ p. absurd (omega (arith, rw p at h)))
  start-agrees (x ∷ y ∷ m) h =
      cases (eqb x a) (λ p. cases (eqb y b) (λ q. rw (p, q) (omega arith)) (λ q. absurd (omega (arith, rw (p, q) at h)))) (λ p. absurd (omega (arith, rw p at h)))
