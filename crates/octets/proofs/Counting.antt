-- Counting along a list: what is told of each place is told of the list; and no more numbers below n than n differ. No axiom.
use Rattle.octets.proofs.Vocabulary.{◌≡◌, refl, sym, ap, ℕ, zero, suc, ◌+◌, ◌≤◌, ◌<◌, List, [], ◌∷◌, map, List-as-Memᴰ, List·Memᴰ·head, List·Memᴰ·tail, Bool, true, false, not, Option, some, none, length, get_elem?, eqb, arith, add-zero, eqb-true, eqb-false, ne_eqb, not-true}
use Rattle.octets.specs.Sentences.{pick, every, only, pairs, from, up_to}
use Rattle.octets.proofs.Sentences.{both, joined, every-member, member-every, every_map, only-member, pairs-split}

-- ---- places
pub none-some : {A : Type 0} {x : A} → ◌≡◌ {A = Option A} none (some x) → ⊥
none-some {A} e = let z : ◌≡◌ {A = ℕ} 0 1 = ap size e in omega arith
  where
    size : Option A → ℕ
    size none = 0
    size (some x) = 1

pub at-member : {A : Type 0} (l : List A) (k : ℕ) {x : A} → get_elem? l k ≡ some x → List-as-Memᴰ x l
at-member [] k p = absurd (none-some p)
at-member (y ∷ l) zero {x} p = let e : x ≡ y = cc in List·Memᴰ·head e
at-member (y ∷ l) (suc k) p = List·Memᴰ·tail (at-member l k p)

pub at-inside : {A : Type 0} (l : List A) (k : ℕ) → k < length l → (x : A) × (get_elem? l k ≡ some x)
at-inside [] k h = absurd (omega arith)
at-inside (y ∷ l) zero h = (y, refl)
at-inside (y ∷ l) (suc k) h = at-inside l k (omega arith)

pub at-beyond : {A : Type 0} (l : List A) (k : ℕ) → length l ≤ k → get_elem? l k ≡ none
at-beyond [] k h = refl
at-beyond (y ∷ l) zero h = absurd (omega arith)
at-beyond (y ∷ l) (suc k) h = at-beyond l k (omega arith)

-- a function of the place that is a function of what stands there
told-from : {A B : Type 0} (f : ℕ → B) (g : A → B) (j : ℕ) (l : List A) → ((k : ℕ) (x : A) → get_elem? l k ≡ some x → f (j + k) ≡ g x) → map f (from j (length l)) ≡ map g l
unfolding from
told-from f g j [] h = refl
told-from f g j (x ∷ l) h =
    let here : f j ≡ g x = rw add-zero at (h 0 x refl) in
    let rest = told-from f g (suc j) l (λ k y e. let s : suc j + k ≡ j + suc k = omega arith in rw s (h (suc k) y e)) in
    rw (here, rest)

pub told : {A B : Type 0} (f : ℕ → B) (g : A → B) (l : List A) → ((k : ℕ) (x : A) → get_elem? l k ≡ some x → f k ≡ g x) → map f (up_to (length l)) ≡ map g l
told f g l h = told-from f g 0 l (λ k x e. let s : 0 + k ≡ k = omega arith in rw s (h k x e))

-- each two places, the earlier first
pub pairs-at : {A : Type 0} (r : A → A → Bool) (l : List A) → pairs r l ≡ true → (j k : ℕ) {x y : A} → get_elem? l j ≡ some x → get_elem? l k ≡ some y → j < k → r x y ≡ true
pairs-at r [] p j k a b h = absurd (none-some a)
pairs-at r (z ∷ l) p zero zero a b h = absurd (omega arith)
pairs-at r (z ∷ l) p zero (suc k) {x} {y} a b h = let e : z ≡ x = cc in rw (← e) (every-member (r z) (pairs-split r z l p).0 (at-member l k b))
pairs-at r (z ∷ l) p (suc j) zero a b h = absurd (omega arith)
pairs-at r (z ∷ l) p (suc j) (suc k) a b h = pairs-at r l (pairs-split r z l p).1 j k a b (omega arith)

pub pairs-map : {A B : Type 0} (r : B → B → Bool) (g : A → B) (l : List A) → pairs (λ x y. r (g x) (g y)) l ≡ pairs r (map g l)
unfolding pairs
pairs-map r g [] = refl
pairs-map r g (x ∷ l) = rw (every_map (r (g x)) g l, pairs-map r g l)

-- each two, by what is known of each
pub pairs-then : {A : Type 0} (r s : A → A → Bool) (l : List A) → ((x y : A) → List-as-Memᴰ x l → List-as-Memᴰ y l → r x y ≡ true → s x y ≡ true) → pairs r l ≡ true → pairs s l ≡ true
unfolding pairs
pairs-then r s [] h p = refl
pairs-then r s (x ∷ l) h p =
    let (q, t) = pairs-split r x l p in
    joined (member-every (s x) l (λ y m. h x y (List·Memᴰ·head refl) (List·Memᴰ·tail m) (every-member (r x) q m))) (pairs-then r s l (λ y z m k. h y z (List·Memᴰ·tail m) (List·Memᴰ·tail k)) t)

-- ---- numbers that differ
abbrev pub differ : ℕ → ℕ → Bool
differ x y = not (eqb x y)

pub apart : (x y : ℕ) → differ x y ≡ true → x ≡ y → ⊥
apart x y t = eqb-false x y (not-true (eqb x y) t)

pub differs : (x y : ℕ) → (x ≡ y → ⊥) → differ x y ≡ true
differs x y n = rw (ne_eqb x y n)

pairs-only : {A : Type 0} (r : A → A → Bool) (f : A → Bool) (l : List A) → pairs r l ≡ true → pairs r (only f l) ≡ true
unfolding pairs only
pairs-only r f [] p = refl
pairs-only r f (x ∷ l) p = let (q, s) = pairs-split r x l p in go (f x) q (pairs-only r f l s)
  where
    go : (b : Bool) → every (r x) l ≡ true → pairs r (only f l) ≡ true → pairs r (pick b (x ∷ only f l) (only f l)) ≡ true
    go true q s = joined (member-every (r x) (only f l) (λ y m. every-member (r x) q (only-member f l m).0)) s
    go false q s = s

-- all but n
abbrev without : ℕ → List ℕ → List ℕ
without n = only (λ x. not (eqb x n))

stays : (n : ℕ) (l : List ℕ) → every (differ n) l ≡ true → length l ≤ length (without n l)
unfolding every only
stays n [] p = omega arith
stays n (x ∷ l) p = let (q, s) = both (differ n x) (every (differ n) l) p in go (eqb x n) refl q (stays n l s)
  where
    go : (b : Bool) → eqb x n ≡ b → differ n x ≡ true → length l ≤ length (without n l) → length (x ∷ l) ≤ length (pick (not b) (x ∷ without n l) (without n l))
    go true e q h = absurd (apart n x q (sym (eqb-true x n e)))
    go false e q h = omega arith

one_less : (n : ℕ) (l : List ℕ) → pairs differ l ≡ true → length l ≤ suc (length (without n l))
unfolding only pairs
one_less n [] p = omega arith
one_less n (x ∷ l) p = let (q, s) = pairs-split differ x l p in go (eqb x n) refl q (one_less n l s)
  where
    go : (b : Bool) → eqb x n ≡ b → every (differ x) l ≡ true → length l ≤ suc (length (without n l)) → length (x ∷ l) ≤ suc (length (pick (not b) (x ∷ without n l) (without n l)))
    go true e q h = let i : x ≡ n = eqb-true x n e in let w : length l ≤ length (without n l) = stays n l (rw i at q) in omega arith
    go false e q h = omega arith

pub no_more : (n : ℕ) (l : List ℕ) → ((x : ℕ) → List-as-Memᴰ x l → x < n) → pairs differ l ≡ true → length l ≤ n
no_more zero [] h p = omega arith
no_more zero (x ∷ l) h p = let z : x < 0 = h x (List·Memᴰ·head refl) in absurd (omega arith)
no_more (suc n) l h p =
    let less : (x : ℕ) → List-as-Memᴰ x (without n l) → x < n = λ x m.
    let (k, t) = only-member (λ x. not (eqb x n)) l m in
    below x (h x k) t in
    let w = no_more n (without n l) less (pairs-only differ (λ x. not (eqb x n)) l p) in
    omega (arith, one_less n l p, w)
  where
    below : (x : ℕ) → x < suc n → not (eqb x n) ≡ true → x < n
    below x a t = let d = apart x n t in omega (arith, a, d)
