-- The laws of the words in which the rules are written: of tests and of sentences about a list. No axiom.
use Rattle.octets.proofs.Vocabulary.{◌≡◌, refl, sym, ap, ◌∙◌, ℕ, zero, suc, ◌+◌, ◌<◌, ◌≤◌, List, [], ◌∷◌, ◌++◌, map, List-as-Memᴰ, List·Memᴰ·head, List·Memᴰ·tail, List·Memᴰ·not-nil, List·Memᴰ·cases-cons, Bool, true, false, ◌&&◌, ◌||◌, false≢true, and-true, and-false, and_assoc, or_assoc, some, none, ◌⊎◌, inl, inr, length, get_or, drop, drop_of_length-le, eqb, drop-cons, arith, not-suc-le-zero, eqb-true, eqb-false}
use native.Mathlib.Numerals.{add-one}
use Rattle.octets.specs.Sentences.{pick, ◌⇒◌, every, any, only, first, pairs, neighbours, below, is_some}

-- ---- tests
-- by cases on a test
pub cases : {A : Type 0} (a : Bool) → (a ≡ true → A) → (a ≡ false → A) → A
cases true f g = f refl
cases false f g = g refl

-- a test does not come out both ways
pub never : {A : Type 0} {a : Bool} → a ≡ true → a ≡ false → A
never p q = absurd (false≢true (sym q ∙ p))

-- two tests that hold together are one
pub same_test : (a b : Bool) → (a ≡ true → b ≡ true) → (b ≡ true → a ≡ true) → a ≡ b
same_test true b f g = sym (f refl)
same_test false true f g = g refl
same_test false false f g = refl

pub both : (a b : Bool) → (a && b) ≡ true → (a ≡ true) × (b ≡ true)
both true b p = (refl, p)
both false b p = absurd (false≢true p)

pub joined : {a b : Bool} → a ≡ true → b ≡ true → (a && b) ≡ true
joined p q = rw (p, q)

pub either : (a b : Bool) → (a || b) ≡ true → (a ≡ true) ⊎ (b ≡ true)
either true b p = inl refl
either false b p = inr p

pub or_left : {a : Bool} (b : Bool) → a ≡ true → (a || b) ≡ true
or_left b p = rw p

pub or_right : (a : Bool) {b : Bool} → b ≡ true → (a || b) ≡ true
or_right true p = refl
or_right false p = p

pub neither : (a b : Bool) → (a || b) ≡ false → (a ≡ false) × (b ≡ false)
neither true b p = absurd (false≢true (sym p))
neither false b p = (refl, p)

pub if-then : (a b : Bool) → (a ⇒ b) ≡ true → a ≡ true → b ≡ true
if-then true b p q = p
if-then false b p q = absurd (false≢true q)

pub then_if : (a b : Bool) → (a ≡ true → b ≡ true) → (a ⇒ b) ≡ true
then_if true b f = f refl
then_if false b f = refl

-- a row of `&&`, grouped from the left: `row true (a ∷ b ∷ c ∷ [])` computes to a && b && c
abbrev pub row : Bool → List Bool → Bool
row a [] = a
row a (b ∷ bs) = row (a && b) bs

row-start : (a : Bool) (bs : List Bool) → row a bs ≡ true → a ≡ true
row-start a [] p = p
row-start a (b ∷ bs) p = (both a b (row-start (a && b) bs p)).0

row-rest : (a : Bool) (bs : List Bool) → row a bs ≡ true → row true bs ≡ true
row-rest a bs p = rw (row-start a bs p) at p

-- the k-th of a row that holds: of h : a && b && c ≡ true, `conjunct 2 (a ∷ b ∷ c ∷ []) h` is c ≡ true
pub conjunct : (k : ℕ) (bs : List Bool) → row true bs ≡ true → get_or bs k true ≡ true
conjunct k [] p = refl
conjunct zero (b ∷ bs) p = row-start b bs p
conjunct (suc k) (b ∷ bs) p = conjunct k bs (row-rest b bs p)

-- ---- every, any, first and only, by the members
module _ {A : Type 0} (f : A → Bool) where
  pub every-member : {x : A} {xs : List A} → every f xs ≡ true → List-as-Memᴰ x xs → f x ≡ true
  unfolding every
  every-member p (List·Memᴰ·head {x} {xs} e) = ap f e ∙ (both (f x) (every f xs) p).0
  every-member p (List·Memᴰ·tail {x} {xs} m) = every-member (both (f x) (every f xs) p).1 m

  pub member-every : (xs : List A) → ((x : A) → List-as-Memᴰ x xs → f x ≡ true) → every f xs ≡ true
  unfolding every
  member-every [] h = refl
  member-every (x ∷ xs) h = joined (h x (List·Memᴰ·head refl)) (member-every xs (λ y m. h y (List·Memᴰ·tail m)))

  pub any-member : (xs : List A) → any f xs ≡ true → (x : A) × List-as-Memᴰ x xs × (f x ≡ true)
  unfolding any
  any-member [] p = absurd (false≢true p)
  any-member (x ∷ xs) p = go (either (f x) (any f xs) p) (λ q. any-member xs q)
    where
      go : (f x ≡ true) ⊎ (any f xs ≡ true) → (any f xs ≡ true → (y : A) × List-as-Memᴰ y xs × (f y ≡ true)) → (y : A) × List-as-Memᴰ y (x ∷ xs) × (f y ≡ true)
      go (inl q) later = (x, List·Memᴰ·head refl, q)
      go (inr q) later = let (y, m, r) = later q in (y, List·Memᴰ·tail m, r)

  pub member-any : {x : A} {xs : List A} → List-as-Memᴰ x xs → f x ≡ true → any f xs ≡ true
  unfolding any
  member-any (List·Memᴰ·head {x} {xs} e) p = or_left (any f xs) (ap f (sym e) ∙ p)
  member-any (List·Memᴰ·tail {x} {xs} m) p = or_right (f x) (member-any m p)

  pub any_none : {x : A} {xs : List A} → any f xs ≡ false → List-as-Memᴰ x xs → f x ≡ false
  any_none {x} p m = cases (f x) (λ q. never (member-any m q) p) (λ q. q)

  pub none_any : (xs : List A) → ((x : A) → List-as-Memᴰ x xs → f x ≡ false) → any f xs ≡ false
  unfolding any
  none_any [] h = refl
  none_any (x ∷ xs) h = rw (h x (List·Memᴰ·head refl)) (none_any xs (λ y m. h y (List·Memᴰ·tail m)))

  pub first_any : (xs : List A) → is_some (first f xs) ≡ any f xs
  unfolding first any
  first_any [] = refl
  first_any (x ∷ xs) = go (f x) (first_any xs)
    where
      go : (b : Bool) → is_some (first f xs) ≡ any f xs → is_some (pick b (some x) (first f xs)) ≡ (b || any f xs)
      go true e = refl
      go false e = e

  pub first_some : (xs : List A) {x : A} → first f xs ≡ some x → List-as-Memᴰ x xs × (f x ≡ true)
  unfolding first
  first_some [] p = absurd (false≢true (ap is_some p))
  first_some (y ∷ ys) {x} p = go (f y) refl p (λ q. first_some ys q)
    where
      go : (b : Bool) → f y ≡ b → pick b (some y) (first f ys) ≡ some x → (first f ys ≡ some x → List-as-Memᴰ x ys × (f x ≡ true)) → List-as-Memᴰ x (y ∷ ys) × (f x ≡ true)
      go true q e later = let i : x ≡ y = cc in (List·Memᴰ·head i, ap f i ∙ q)
      go false q e later = let (m, r) = later e in (List·Memᴰ·tail m, r)

  pub none_first : (xs : List A) → ((x : A) → List-as-Memᴰ x xs → f x ≡ false) → first f xs ≡ none
  unfolding first
  none_first [] h = refl
  none_first (x ∷ xs) h = rw (h x (List·Memᴰ·head refl)) (none_first xs (λ y m. h y (List·Memᴰ·tail m)))

  pub only-member : (xs : List A) {x : A} → List-as-Memᴰ x (only f xs) → List-as-Memᴰ x xs × (f x ≡ true)
  unfolding only
  only-member [] m = absurd (List·Memᴰ·not-nil m)
  only-member (y ∷ ys) {x} m = go (f y) refl m (λ n. only-member ys n)
    where
      go : (b : Bool) → f y ≡ b → List-as-Memᴰ x (pick b (y ∷ only f ys) (only f ys)) → (List-as-Memᴰ x (only f ys) → List-as-Memᴰ x ys × (f x ≡ true)) → List-as-Memᴰ x (y ∷ ys) × (f x ≡ true)
      go true q n later = found (List·Memᴰ·cases-cons n)
        where
          found : (x ≡ y) ⊎ List-as-Memᴰ x (only f ys) → List-as-Memᴰ x (y ∷ ys) × (f x ≡ true)
          found (inl e) = (List·Memᴰ·head e, ap f e ∙ q)
          found (inr k) = let (l, r) = later k in (List·Memᴰ·tail l, r)
      go false q n later = let (l, r) = later n in (List·Memᴰ·tail l, r)

  pub member-only : {x : A} {xs : List A} → List-as-Memᴰ x xs → f x ≡ true → List-as-Memᴰ x (only f xs)
  unfolding only
  member-only (List·Memᴰ·head e) p = rw (ap f (sym e) ∙ p) (List·Memᴰ·head e)
  member-only (List·Memᴰ·tail {x} {xs} m) p = go (f x) (member-only m p)
    where
      go : {y : A} (b : Bool) → List-as-Memᴰ y (only f xs) → List-as-Memᴰ y (pick b (x ∷ only f xs) (only f xs))
      go true k = List·Memᴰ·tail k
      go false k = k

  pub every_append : (xs ys : List A) → every f (xs ++ ys) ≡ (every f xs && every f ys)
  unfolding every
  every_append [] ys = refl
  every_append (x ∷ xs) ys = rw (every_append xs ys) (sym (and_assoc (f x) (every f xs) (every f ys)))

  pub any_append : (xs ys : List A) → any f (xs ++ ys) ≡ (any f xs || any f ys)
  unfolding any
  any_append [] ys = refl
  any_append (x ∷ xs) ys = rw (any_append xs ys) (sym (or_assoc (f x) (any f xs) (any f ys)))

  pub only-append : (xs ys : List A) → only f (xs ++ ys) ≡ only f xs ++ only f ys
  unfolding only
  only-append [] ys = refl
  only-append (x ∷ xs) ys = go (f x) (only-append xs ys)
    where
      go : (b : Bool) → only f (xs ++ ys) ≡ only f xs ++ only f ys
          → pick b (x ∷ only f (xs ++ ys)) (only f (xs ++ ys)) ≡ pick b (x ∷ only f xs) (only f xs) ++ only f ys
      go true e = ap (λ (l : List A). x ∷ l) e
      go false e = e

-- ---- a loop that looks for the first, at place i
module _ {A : Type 0} (f : A → Bool) (xs : List A) (i : ℕ) where
  pub first-end : length xs ≤ i → first f (drop i xs) ≡ none
  unfolding first
  first-end h = rw (drop_of_length-le xs h)

  module _ (d : A) (h : i < length xs) where
    pub first-here : f (get_or xs i d) ≡ true → first f (drop i xs) ≡ some (get_or xs i d)
    unfolding first
    first-here p = rw (drop-cons xs i d h, p)

    pub first_on : f (get_or xs i d) ≡ false → first f (drop i xs) ≡ first f (drop (i + 1) xs)
    unfolding first
    first_on p = rw (add-one, drop-cons xs i d h, p)

-- ---- two tests that agree on the members
module _ {A : Type 0} (f g : A → Bool) where
  pub every-alike : (xs : List A) → ((x : A) → List-as-Memᴰ x xs → f x ≡ g x) → every f xs ≡ every g xs
  unfolding every
  every-alike [] h = refl
  every-alike (x ∷ xs) h = rw (h x (List·Memᴰ·head refl), every-alike xs (λ y m. h y (List·Memᴰ·tail m)))

  pub any-alike : (xs : List A) → ((x : A) → List-as-Memᴰ x xs → f x ≡ g x) → any f xs ≡ any g xs
  unfolding any
  any-alike [] h = refl
  any-alike (x ∷ xs) h = rw (h x (List·Memᴰ·head refl), any-alike xs (λ y m. h y (List·Memᴰ·tail m)))

  pub only-alike : (xs : List A) → ((x : A) → List-as-Memᴰ x xs → f x ≡ g x) → only f xs ≡ only g xs
  unfolding only
  only-alike [] h = refl
  only-alike (x ∷ xs) h = rw (h x (List·Memᴰ·head refl), only-alike xs (λ y m. h y (List·Memᴰ·tail m)))

  pub first_alike : (xs : List A) → ((x : A) → List-as-Memᴰ x xs → f x ≡ g x) → first f xs ≡ first g xs
  unfolding first
  first_alike [] h = refl
  first_alike (x ∷ xs) h = rw (h x (List·Memᴰ·head refl), first_alike xs (λ y m. h y (List·Memᴰ·tail m)))

-- ---- over a list of images
module _ {A B : Type 0} (f : B → Bool) (g : A → B) where
  pub every_map : (xs : List A) → every f (map g xs) ≡ every (λ x. f (g x)) xs
  unfolding every
  every_map [] = refl
  every_map (x ∷ xs) = rw (every_map xs)

  pub any-map : (xs : List A) → any f (map g xs) ≡ any (λ x. f (g x)) xs
  unfolding any
  any-map [] = refl
  any-map (x ∷ xs) = rw (any-map xs)

-- ---- two of a list
module _ {A : Type 0} (r : A → A → Bool) where
  pub pairs-cons : (x : A) (xs : List A) → pairs r (x ∷ xs) ≡ (every (r x) xs && pairs r xs)
  unfolding pairs
  pairs-cons x xs = refl

  pub pairs-split : (x : A) (xs : List A) → pairs r (x ∷ xs) ≡ true → (every (r x) xs ≡ true) × (pairs r xs ≡ true)
  pairs-split x xs p = both (every (r x) xs) (pairs r xs) (sym (pairs-cons x xs) ∙ p)

  -- where r is symmetric, two members are the same or related
  pub pairs-members : ((x y : A) → r x y ≡ true → r y x ≡ true)
      → {x y : A} (xs : List A) → pairs r xs ≡ true → List-as-Memᴰ x xs → List-as-Memᴰ y xs → (x ≡ y) ⊎ (r x y ≡ true)
  pairs-members s [] p m n = absurd (List·Memᴰ·not-nil m)
  pairs-members s {x} {y} (z ∷ zs) p m n = go (pairs-split z zs p) (List·Memᴰ·cases-cons m) (List·Memᴰ·cases-cons n) (λ q k l. pairs-members s zs q k l)
    where
      go : (every (r z) zs ≡ true) × (pairs r zs ≡ true) → (x ≡ z) ⊎ List-as-Memᴰ x zs → (y ≡ z) ⊎ List-as-Memᴰ y zs
          → (pairs r zs ≡ true → List-as-Memᴰ x zs → List-as-Memᴰ y zs → (x ≡ y) ⊎ (r x y ≡ true)) → (x ≡ y) ⊎ (r x y ≡ true)
      go q (inl d) (inl e) later = inl (d ∙ sym e)
      go q (inl d) (inr l) later = inr (rw d (every-member (r z) q.0 l))
      go q (inr k) (inl e) later = inr (rw e (s z x (every-member (r z) q.0 k)))
      go q (inr k) (inr l) later = later q.1 k l

  -- every element of xs before every element of ys
  pub pairs-append : (xs ys : List A) → pairs r (xs ++ ys) ≡ (pairs r xs && pairs r ys && every (λ x. every (r x) ys) xs)
  unfolding pairs every
  pairs-append [] ys = sym (and-true (pairs r ys))
  pairs-append (x ∷ xs) ys = rw (every_append (r x) xs ys, pairs-append xs ys) (go (every (r x) xs) (every (r x) ys) (pairs r xs) (pairs r ys) (every (λ x. every (r x) ys) xs))
    where
      go : (a b c d e : Bool) → ((a && b) && (c && d && e)) ≡ ((a && c) && d && (b && e))
      go true true c d e = refl
      go true false c d e = sym (and-false (c && d))
      go false b c d e = refl

  pub neighbours-cons : (x y : A) (ys : List A) → neighbours r (x ∷ y ∷ ys) ≡ (r x y && neighbours r (y ∷ ys))
  unfolding neighbours
  neighbours-cons x y ys = refl

-- ---- every number below n
module _ (f : ℕ → Bool) where
  pub below_at : (n : ℕ) → below n f ≡ true → (k : ℕ) → k < n → f k ≡ true
  unfolding below
  below_at zero p k l = absurd (not-suc-le-zero l)
  below_at (suc n) p k l = cases (eqb k n) (λ e. rw (eqb-true k n e) (both (f n) (below n f) p).0) (λ e. let d = eqb-false k n e in below_at n (both (f n) (below n f) p).1 k (omega arith))

  pub at-below : (n : ℕ) → ((k : ℕ) → k < n → f k ≡ true) → below n f ≡ true
  unfolding below
  at-below zero h = refl
  at-below (suc n) h = joined (h n (omega arith)) (at-below n (λ k l. h k (omega arith)))

pub below_alike : (f g : ℕ → Bool) (n : ℕ) → ((k : ℕ) → k < n → f k ≡ g k) → below n f ≡ below n g
unfolding below
below_alike f g zero h = refl
below_alike f g (suc n) h = rw (h n (omega arith), below_alike f g n (λ k l. h k (omega arith)))

-- ---- of those for which a test holds
pub any-only : {A : Type 0} (t f : A → Bool) (xs : List A) → any t (only f xs) ≡ any (λ x. f x && t x) xs
unfolding any only
any-only t f [] = refl
any-only t f (x ∷ xs) = go (f x) (any-only t f xs)
  where
    go : (b : Bool) → any t (only f xs) ≡ any (λ x. f x && t x) xs → any t (pick b (x ∷ only f xs) (only f xs)) ≡ (b && t x) || any (λ x. f x && t x) xs
    go true rest = ap (λ (b : Bool). t x || b) rest
    go false rest = rest

pub first-only : {A : Type 0} (t f : A → Bool) (xs : List A) → first t (only f xs) ≡ first (λ x. f x && t x) xs
unfolding first only
first-only t f [] = refl
first-only t f (x ∷ xs) = go (f x) (first-only t f xs)
  where
    go : (b : Bool) → first t (only f xs) ≡ first (λ x. f x && t x) xs → first t (pick b (x ∷ only f xs) (only f xs)) ≡ pick (b && t x) (some x) (first (λ x. f x && t x) xs)
    go true rest = ap (pick (t x) (some x)) rest
    go false rest = rest

pub only-only : {A : Type 0} (t f : A → Bool) (xs : List A) → only t (only f xs) ≡ only (λ x. f x && t x) xs
unfolding only
only-only t f [] = refl
only-only t f (x ∷ xs) = go (f x) (only-only t f xs)
  where
    go : (b : Bool) → only t (only f xs) ≡ only (λ x. f x && t x) xs → only t (pick b (x ∷ only f xs) (only f xs)) ≡ pick (b && t x) (x ∷ only (λ x. f x && t x) xs) (only (λ x. f x && t x) xs)
    go true rest = ap (λ (ys : List _). pick (t x) (x ∷ ys) ys) rest
    go false rest = rest
