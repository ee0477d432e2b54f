-- Picking out an interface's events: the two ways to say it are one, and it goes through a map. No axiom.
use Rattle.octets.proofs.Vocabulary.{◌≡◌, refl, sym, ap, ◌∙◌, ℕ, zero, suc, List, [], ◌∷◌, map, Bool, true, false, false≢true, Option, some, none, Option·map, Option·some-injective, Option·none-ne-some, get_elem?, eqb}
use Rattle.octets.specs.Sentences.{pick, every, only, is_some}
use Rattle.octets.proofs.Sentences.{both, joined}
use Rattle.order.specs.Run.{log, keep, All, own}
use Rattle.laws.specs.Parts.{or_nobody}
use Rattle.events.specs.Concerns.{is_this}

module _ {A : Type 0} (f : A → Option ℕ) (k : ℕ) where
  pub own_is : (l : List A) → every (λ a. is_some (f a)) l ≡ true → own (λ a. or_nobody (f a)) k l ≡ only (λ a. is_this k (f a)) l
  unfolding every only
  own_is [] p = refl
  own_is (a ∷ l) p =
      let (some-a, some-l) = both (is_some (f a)) (every (λ a. is_some (f a)) l) p in
      go (f a) some-a (own_is l some-l)
    where
      put : (b : Bool) {x y : List A} → x ≡ y → keep b a x ≡ pick b (a ∷ y) y
      put true q = ap (λ l. a ∷ l) q
      put false q = q

      go : (o : Option ℕ) → is_some o ≡ true → {x y : List A} → x ≡ y → keep (eqb (or_nobody o) k) a x ≡ pick (is_this k o) (a ∷ y) y
      go none s q = absurd (false≢true s)
      go (some j) s q = put (eqb j k) q

module _ {A : Type 0} (f : A → Bool) where
  pub all_of : (xs : List A) → every f xs ≡ true → All (λ e. f e ≡ true) xs
  unfolding every
  all_of [] p = tt
  all_of (e ∷ xs) p = let (q, r) = both (f e) (every f xs) p in (q, all_of xs r)

  pub of-all : (xs : List A) → All (λ e. f e ≡ true) xs → every f xs ≡ true
  unfolding every
  of-all [] a = refl
  of-all (e ∷ xs) a = joined a.0 (of-all xs a.1)

  -- a log has the run's events
  pub every-log : {R B : Type 0} (answer : R → A → B) (next : R → A → R) (r : R) (xs : List A) → every f xs ≡ true
      → every (λ (p : A × B). f p.0) (log answer next r xs) ≡ true
  unfolding every
  every-log answer next r [] p = refl
  every-log answer next r (e ∷ xs) p = let (q, s) = both (f e) (every f xs) p in joined q (every-log answer next (next r e) xs s)

pub only-map : {A B : Type 0} (f : B → Bool) (g : A → B) (l : List A) → only f (map g l) ≡ map g (only (λ a. f (g a)) l)
unfolding only
only-map f g [] = refl
only-map f g (a ∷ l) = go (f (g a)) (only-map f g l)
  where
    go : (t : Bool) → only f (map g l) ≡ map g (only (λ a. f (g a)) l)
        → pick t (g a ∷ only f (map g l)) (only f (map g l)) ≡ map g (pick t (a ∷ only (λ a. f (g a)) l) (only (λ a. f (g a)) l))
    go true h = ap (λ x. g a ∷ x) h
    go false h = h

pub map_at : {A B : Type 0} (g : A → B) (l : List A) (i : ℕ) → get_elem? (map g l) i ≡ Option·map g (get_elem? l i)
map_at g [] i = refl
map_at g (a ∷ l) zero = refl
map_at g (a ∷ l) (suc i) = map_at g l i

pub mapped_at : {A B : Type 0} (g : A → B) (l : List A) (i : ℕ) {b : B} → get_elem? (map g l) i ≡ some b
    → (a : A) × (get_elem? l i ≡ some a) × (g a ≡ b)
mapped_at {A} g l i {b} p = go (get_elem? l i) refl (sym (map_at g l i) ∙ p)
  where
    go : (o : Option A) → get_elem? l i ≡ o → Option·map g o ≡ some b → (a : A) × (get_elem? l i ≡ some a) × (g a ≡ b)
    go none q r = absurd (Option·none-ne-some b r)
    go (some a) q r = (a, q, Option·some-injective (g a) b r)
