-- The rule that is named is broken, each before it holds, and its place lies inside what was lent. No axiom.
use Rattle.octets.proofs.Vocabulary.{◌≡◌, refl, sym, ap, ℕ, ◌<◌, List, [], ◌∷◌, Bool, true, false, not, some, none, length, ltb, arith, ltb-true, ltb-false}
use Rattle.octets.specs.Sentences.{pick, every, first}
use Rattle.octets.proofs.Sentences.{cases, joined}
use Rattle.rules.specs.Explained.{inside}
use Rattle.maker_laws.specs.RuleNamed.{NamesFirst}

module _ {A : Type 0} (holds : A → Bool) where
  absent : {B : Type 0} {x : A} → none ≡ some x → B
  absent p = let z : ◌≡◌ {A = ℕ} 0 1 = cc in absurd (omega arith)

  pub names-first : (xs : List A) {x : A} → first (λ y. not (holds y)) xs ≡ some x → NamesFirst holds xs x
  unfolding first every
  names-first [] p = absent p
  names-first (y ∷ ys) {x} p = go (holds y) refl p (λ q. names-first ys q)
    where
      go : (b : Bool) → holds y ≡ b → pick (not b) (some y) (first (λ z. not (holds z)) ys) ≡ some x
          → (first (λ z. not (holds z)) ys ≡ some x → NamesFirst holds ys x) → NamesFirst holds (y ∷ ys) x
      go true e q ih =
          let n = ih q in
          record { earlier = y ∷ n.earlier; later = n.later; splits = ap (λ zs. y ∷ zs) n.splits; hold = joined e n.hold; broken = n.broken }
      go false e q ih = let r : some y ≡ some x = q in let s : y ≡ x = cc in record { earlier = []; later = ys; splits = ap (λ z. z ∷ ys) s; hold = refl; broken = rw (← s) e }

  -- all hold where none is broken
  pub all_hold : (xs : List A) → first (λ y. not (holds y)) xs ≡ none → every holds xs ≡ true
  unfolding first every
  all_hold [] p = refl
  all_hold (x ∷ xs) p = go (holds x) refl p (λ q. all_hold xs q)
    where
      go : (b : Bool) → holds x ≡ b → pick (not b) (some x) (first (λ z. not (holds z)) xs) ≡ none
          → (first (λ z. not (holds z)) xs ≡ none → every holds xs ≡ true) → every holds (x ∷ xs) ≡ true
      go true e q later = joined e (later q)
      go false e q later = let r : some x ≡ none = q in absent (sym r)

pub place_inside : (bytes : List ℕ) (place : ℕ) → 0 < length bytes → inside bytes place < length bytes
place_inside bytes place h = cases (ltb place (length bytes))
    (λ p. rw p (ltb-true place (length bytes) p))
    (λ p. rw p (omega arith))

-- the first byte is there, or nothing is
pub first_byte : (bytes : List ℕ) → inside bytes 0 ≡ 0
first_byte bytes = cases (ltb 0 (length bytes)) (λ p. rw p) (λ p. rw p (omega (arith, ltb-false 0 (length bytes) p)))
