-- Another order, said by places: event by event the answers are the same, at place i of the one run and at place `to i` of the other.
-- `Permuted` is a Shuffle (`shuffle-of`) and back (`places_of`), so the three ways to say "another order" are one. No axiom.
use Prim.Native.Nat.{ℕ, zero, suc, pred, ◌<◌, ◌≤◌}
use native.Mathlib.Omega.{arith}
use mathlib.Core.Path.{◌≡◌, refl, sym, ap, ◌∙◌}
use mathlib.Core.List.{List, [], ◌∷◌}
use mathlib.Core.Option.{some}
use lib.ListN.{length, get_elem?}
use Rattle.order.specs.Run.{run, answers, All, own}
use Rattle.order.specs.Places.{Permuted}
use Rattle.order.proofs.Shuffle.{Shuffle, stay, same, swap, then, move, move-self, own-shuffle, sort}
use Rattle.order.proofs.Order.{Square, run-shuffle, answers-shuffle}

-- ---- past a removed place m
up : ℕ → ℕ → ℕ
up zero j = suc j
up (suc m) zero = zero
up (suc m) (suc j) = suc (up m j)

down : ℕ → ℕ → ℕ
down zero p = pred p
down (suc m) zero = zero
down (suc m) (suc p) = suc (down m p)

remove : {E : Type 0} → List E → ℕ → List E
remove [] m = []
remove (y ∷ ys) zero = ys
remove (y ∷ ys) (suc m) = y ∷ remove ys m

insert : {A : Type 0} → ℕ → A → List A → List A
insert zero a l = a ∷ l
insert (suc m) a [] = a ∷ []
insert (suc m) a (b ∷ l) = b ∷ insert m a l

up-ne : (m j : ℕ) → up m j ≡ m → ⊥
unfolding up
up-ne zero j p = omega arith
up-ne (suc m) zero p = omega arith
up-ne (suc m) (suc j) p = up-ne m j (omega arith)

up-down : (m p : ℕ) → (p ≡ m → ⊥) → up m (down m p) ≡ p
unfolding up down
up-down zero zero n = absurd (n refl)
up-down zero (suc p) n = refl
up-down (suc m) zero n = refl
up-down (suc m) (suc p) n = ap suc (up-down m p (λ q. n (ap suc q)))

down-up : (m j : ℕ) → down m (up m j) ≡ j
unfolding up down
down-up zero j = refl
down-up (suc m) zero = refl
down-up (suc m) (suc j) = ap suc (down-up m j)

down_lt : (m p q : ℕ) → (p ≡ m → ⊥) → (q ≡ m → ⊥) → p < q → down m p < down m q
unfolding down
down_lt zero p q a b h = let i : pred p < pred q = omega arith in i
down_lt (suc m) p zero a b h = absurd (omega arith)
down_lt (suc m) zero (suc q) a b h = omega arith
down_lt (suc m) (suc p) (suc q) a b h =
    let i = down_lt m p q (λ r. a (ap suc r)) (λ r. b (ap suc r)) (omega arith) in
    omega arith

-- ---- taking an entry out, and putting one in
get-remove : {E : Type 0} (ys : List E) (m j : ℕ) → get_elem? (remove ys m) j ≡ get_elem? ys (up m j)
unfolding up remove
get-remove [] m j = refl
get-remove (y ∷ ys) zero j = refl
get-remove (y ∷ ys) (suc m) zero = refl
get-remove (y ∷ ys) (suc m) (suc j) = get-remove ys m j

get-insert : {A : Type 0} (m : ℕ) (a : A) (l : List A) → m ≤ length l → get_elem? (insert m a l) m ≡ some a
unfolding insert
get-insert zero a l h = refl
get-insert (suc m) a [] h = absurd (omega arith)
get-insert (suc m) a (b ∷ l) h = get-insert m a l (omega arith)

get-insert-up : {A : Type 0} (m : ℕ) (a : A) (l : List A) (j : ℕ) → m ≤ length l → get_elem? (insert m a l) (up m j) ≡ get_elem? l j
unfolding insert up
get-insert-up zero a l j h = refl
get-insert-up (suc m) a [] j h = absurd (omega arith)
get-insert-up (suc m) a (b ∷ l) zero h = refl
get-insert-up (suc m) a (b ∷ l) (suc j) h = get-insert-up m a l j (omega arith)

get-nil : {E B : Type 0} (i : ℕ) (e : E) → get_elem? [] i ≡ some e → B
get-nil i e p = absurd (let z : ◌≡◌ {A = ℕ} 0 1 = cc in omega arith)

get-lt : {A : Type 0} (l : List A) (i : ℕ) (a : A) → get_elem? l i ≡ some a → i < length l
get-lt [] i a p = get-nil i a p
get-lt (b ∷ l) zero a p = omega arith
get-lt (b ∷ l) (suc i) a p = let h = get-lt l i a p in omega arith

nth : {A : Type 0} (l : List A) (i : ℕ) → i < length l → (a : A) × (get_elem? l i ≡ some a)
nth [] i h = absurd (omega arith)
nth (b ∷ l) zero h = (b, refl)
nth (b ∷ l) (suc i) h = nth l i (omega arith)

-- x stands at place m of ys
data At {E : Type 0} (x : E) : List E → ℕ → Type 0 where
  top : {ys : List E} → At x (x ∷ ys) zero
  below : {y : E} {ys : List E} {m : ℕ} → At x ys m → At x (y ∷ ys) (suc m)

at_of : {E : Type 0} (x : E) (ys : List E) (m : ℕ) → get_elem? ys m ≡ some x → At x ys m
at_of x [] m p = get-nil m x p
at_of x (y ∷ ys) zero p = let q : x ≡ y = cc in rw q top
at_of x (y ∷ ys) (suc m) p = below (at_of x ys m p)

len-move : {E A : Type 0} {who : E → ℕ} {xs ys : List E} (p : Shuffle who xs ys) (l : List A) → length (move p l) ≡ length l
len-move stay l = refl
len-move (same e p) [] = refl
len-move (same e p) (a ∷ l) = ap suc (len-move p l)
len-move (swap e f n) [] = refl
len-move (swap e f n) (a ∷ []) = refl
len-move (swap e f n) (a ∷ (b ∷ l)) = refl
len-move (then p q) l = len-move q (move p l) ∙ len-move p l

len-shuffle : {E : Type 0} {who : E → ℕ} {xs ys : List E} (p : Shuffle who xs ys) → length ys ≡ length xs
len-shuffle {xs = xs} p = sym (ap length (move-self p)) ∙ len-move p xs

module _ {E : Type 0} (who : E → ℕ) where
  -- no event of x's owner stands before place m
  abbrev Ahead : E → List E → ℕ → Type 0
  Ahead x ys m = (j : ℕ) (f : E) → j < m → get_elem? ys j ≡ some f → who f ≡ who x → ⊥

  -- x, at place m and behind none of its owner's events, is brought to the front
  front : (x : E) {ys : List E} {m : ℕ} → At x ys m → Ahead x ys m → Shuffle who (x ∷ remove ys m) ys
  unfolding remove
  front x top n = stay
  front x (below {y = y} p) n =
      then (swap x y (λ q. n zero y (omega arith) refl (sym q))) (same y (front x p (λ j f h g. n (suc j) f (omega arith) g)))

  move-front : {A : Type 0} (x : E) {ys : List E} {m : ℕ} (p : At x ys m) (n : Ahead x ys m)
      → (a : A) (l : List A) → m ≤ length l → move (front x p n) (a ∷ l) ≡ insert m a l
  unfolding remove insert front
  move-front x top n a l h = refl
  move-front x (below p) n a [] h = absurd (omega arith)
  move-front x (below p) n a (b ∷ l) h = ap (λ t. b ∷ t) (move-front x p (λ j f h g. n (suc j) f (omega arith) g) a l (omega arith))

  module _ (x : E) (xs ys : List E) (w : Permuted who (x ∷ xs) ys) where
    -- no event of x's owner stands before x in ys
    first : Ahead x ys (w.to 0)
    first j f h p q =
        let b : w.to (w.from j) ≡ j = w.to-from j f p in
        go (w.from j) refl b
      where
        go : (i : ℕ) → w.from j ≡ i → w.to (w.from j) ≡ j → ⊥
        go zero e b = let c : w.to 0 ≡ j = ap w.to (sym e) ∙ b in omega arith
        go (suc i) e b =
            let c : w.to (suc i) ≡ j = ap w.to (sym e) ∙ b in
            let d : get_elem? (x ∷ xs) (suc i) ≡ some f = ap (get_elem? (x ∷ xs)) (sym e) ∙ w.here j f p in
            let o = w.in_order 0 (suc i) x f refl d (sym q) (omega arith) in
            omega arith

    not_first : (i : ℕ) (e : E) → get_elem? xs i ≡ some e → w.to (suc i) ≡ w.to 0 → ⊥
    not_first i e p q =
        let a : w.from (w.to (suc i)) ≡ suc i = w.from-to (suc i) e p in
        let b : w.from (w.to 0) ≡ 0 = w.from-to 0 x refl in
        let c : suc i ≡ 0 = sym a ∙ ap w.from q ∙ b in
        omega arith

    not_there : (i : ℕ) (e : E) → get_elem? xs i ≡ some e → up (w.to 0) (down (w.to 0) (w.to (suc i))) ≡ w.to (suc i)
    not_there i e p = up-down (w.to 0) (w.to (suc i)) (not_first i e p)

    later : (j : ℕ) (e : E) → get_elem? ys (up (w.to 0) j) ≡ some e → (i : ℕ) × (w.from (up (w.to 0) j) ≡ suc i)
    later j e p = go (w.from (up (w.to 0) j)) refl
      where
        go : (i : ℕ) → w.from (up (w.to 0) j) ≡ i → (i : ℕ) × (w.from (up (w.to 0) j) ≡ suc i)
        go zero q = absurd (up-ne (w.to 0) j (sym (w.to-from (up (w.to 0) j) e p) ∙ ap w.to q))
        go (suc i) q = (i, q)

    -- without x, and without its place
    shrink : Permuted who xs (remove ys (w.to 0))
    shrink = record {
      to = λ i. down (w.to 0) (w.to (suc i));
      from = λ j. pred (w.from (up (w.to 0) j));
      there = λ i e p.
          get-remove ys (w.to 0) (down (w.to 0) (w.to (suc i))) ∙ ap (get_elem? ys) (not_there i e p) ∙ w.there (suc i) e p;
      here = λ j e p.
          let q : get_elem? ys (up (w.to 0) j) ≡ some e = sym (get-remove ys (w.to 0) j) ∙ p in
          let i = later j e q in
          ap (λ k. get_elem? xs (pred k)) i.1 ∙ ap (get_elem? (x ∷ xs)) (sym i.1) ∙ w.here (up (w.to 0) j) e q;
      from-to = λ i e p. ap (λ k. pred (w.from k)) (not_there i e p) ∙ ap pred (w.from-to (suc i) e p);
      to-from = λ j e p.
          let q : get_elem? ys (up (w.to 0) j) ≡ some e = sym (get-remove ys (w.to 0) j) ∙ p in
          let i = later j e q in
          ap (λ k. down (w.to 0) (w.to (suc (pred k)))) i.1 ∙ ap (λ k. down (w.to 0) (w.to k)) (sym i.1)
          ∙ ap (down (w.to 0)) (w.to-from (up (w.to 0) j) e q) ∙ down-up (w.to 0) j;
      in_order = λ i j e f p q o h.
          let l = w.in_order (suc i) (suc j) e f p q o (omega arith) in
          down_lt (w.to 0) (w.to (suc i)) (w.to (suc j)) (not_first i e p) (not_first j f q) l;
    }

    stands : At x ys (w.to 0)
    stands = at_of x ys (w.to 0) (w.there 0 x refl)

  -- a rearranging by places is made of exchanges of neighbours with different owners
  pub shuffle-of : (xs ys : List E) → Permuted who xs ys → Shuffle who xs ys
  shuffle-of [] [] w = stay
  shuffle-of [] (y ∷ ys) w = get-nil (w.from 0) y (w.here 0 y refl)
  shuffle-of (x ∷ xs) ys w =
      then (same x (shuffle-of xs (remove ys (w.to 0)) (shrink x xs ys w))) (front x (stands x xs ys w) (first x xs ys w))

  module _ {A : Type 0} (x : E) (xs ys : List E) (w : Permuted who (x ∷ xs) ys) where
    abbrev rest : List A → List A
    rest l = move (shuffle-of xs (remove ys (w.to 0)) (shrink x xs ys w)) l

    fits : (l : List A) → length l ≡ length xs → w.to 0 ≤ length (rest l)
    fits l h =
        let a = get-lt ys (w.to 0) x (w.there 0 x refl) in
        let b = len-shuffle (front x (stands x xs ys w) (first x xs ys w)) in
        let c = len-shuffle (shuffle-of xs (remove ys (w.to 0)) (shrink x xs ys w)) in
        let d = len-move (shuffle-of xs (remove ys (w.to 0)) (shrink x xs ys w)) l in
        omega arith

    go : (b : A) (l : List A) → length l ≡ length xs → (a : A)
        → ((j : ℕ) → get_elem? l j ≡ some a → get_elem? (rest l) (down (w.to 0) (w.to (suc j))) ≡ some a)
        → (i : ℕ) → get_elem? (b ∷ l) i ≡ some a → get_elem? (insert (w.to 0) b (rest l)) (w.to i) ≡ some a
    go b l h a ih zero p = get-insert (w.to 0) b (rest l) (fits l h) ∙ p
    go b l h a ih (suc i) p =
        let e = nth xs i (omega (arith, get-lt l i a p)) in
        let q = not_there x xs ys w i e.0 e.1 in
        ap (get_elem? (insert (w.to 0) b (rest l))) (sym q)
        ∙ get-insert-up (w.to 0) b (rest l) (down (w.to 0) (w.to (suc i))) (fits l h) ∙ ih i p

  -- and these exchanges take what stands at place i to place `to i`, in any list of that length
  place : {A : Type 0} (xs ys : List E) (w : Permuted who xs ys) (l : List A) → length l ≡ length xs
      → (i : ℕ) (a : A) → get_elem? l i ≡ some a → get_elem? (move (shuffle-of xs ys w) l) (w.to i) ≡ some a
  unfolding shuffle-of shrink
  place [] ys w l h i a p = absurd (let z = get-lt l i a p in omega arith)
  place (x ∷ xs) ys w [] h i a p = get-nil i a p
  place (x ∷ xs) ys w (b ∷ l) h i a p =
      rw (move-front x (stands x xs ys w) (first x xs ys w) b (rest x xs ys w l) (fits x xs ys w l (omega arith)))
      (go x xs ys w b l (omega arith) a (λ j q. place xs (remove ys (w.to 0)) (shrink x xs ys w) l (omega arith) j a q) i p)

-- ---- and back: exchanges of neighbours with different owners rearrange by places
lift : (ℕ → ℕ) → ℕ → ℕ
lift f zero = zero
lift f (suc i) = suc (f i)

flip : ℕ → ℕ
flip zero = 1
flip (suc zero) = 0
flip (suc (suc i)) = suc (suc i)

module _ {E : Type 0} {who : E → ℕ} where
  stay-places : {xs : List E} → Permuted who xs xs
  stay-places = record {
    to = λ i. i;
    from = λ i. i;
    there = λ i e p. p;
    here = λ i e p. p;
    from-to = λ i e p. refl;
    to-from = λ i e p. refl;
    in_order = λ i j e f p q o h. h;
  }

  then-places : {xs ys zs : List E} → Permuted who xs ys → Permuted who ys zs → Permuted who xs zs
  then-places v w = record {
    to = λ i. w.to (v.to i);
    from = λ j. v.from (w.from j);
    there = λ i e p. w.there (v.to i) e (v.there i e p);
    here = λ j e p. v.here (w.from j) e (w.here j e p);
    from-to = λ i e p. ap v.from (w.from-to (v.to i) e (v.there i e p)) ∙ v.from-to i e p;
    to-from = λ j e p. ap w.to (v.to-from (w.from j) e (w.here j e p)) ∙ w.to-from j e p;
    in_order = λ i j e f p q o h.
        w.in_order (v.to i) (v.to j) e f (v.there i e p) (v.there j f q) o (v.in_order i j e f p q o h);
  }

  same-places : (a : E) {xs ys : List E} → Permuted who xs ys → Permuted who (a ∷ xs) (a ∷ ys)
  unfolding lift
  same-places a {xs} {ys} w = record {
    to = lift w.to;
    from = lift w.from;
    there = there;
    here = here;
    from-to = from-to;
    to-from = to-from;
    in_order = both;
  }
    where
      there : (i : ℕ) (e : E) → get_elem? (a ∷ xs) i ≡ some e → get_elem? (a ∷ ys) (lift w.to i) ≡ some e
      there zero e p = p
      there (suc i) e p = w.there i e p

      here : (j : ℕ) (e : E) → get_elem? (a ∷ ys) j ≡ some e → get_elem? (a ∷ xs) (lift w.from j) ≡ some e
      here zero e p = p
      here (suc j) e p = w.here j e p

      from-to : (i : ℕ) (e : E) → get_elem? (a ∷ xs) i ≡ some e → lift w.from (lift w.to i) ≡ i
      from-to zero e p = refl
      from-to (suc i) e p = ap suc (w.from-to i e p)

      to-from : (j : ℕ) (e : E) → get_elem? (a ∷ ys) j ≡ some e → lift w.to (lift w.from j) ≡ j
      to-from zero e p = refl
      to-from (suc j) e p = ap suc (w.to-from j e p)

      both : (i j : ℕ) (e f : E) → get_elem? (a ∷ xs) i ≡ some e → get_elem? (a ∷ xs) j ≡ some f → who e ≡ who f → i < j
          → lift w.to i < lift w.to j
      both i zero e f p q o h = absurd (omega arith)
      both zero (suc j) e f p q o h = omega arith
      both (suc i) (suc j) e f p q o h = let l = w.in_order i j e f p q o (omega arith) in omega arith

  swap_places : (a b : E) {xs : List E} → (who a ≡ who b → ⊥) → Permuted who (a ∷ b ∷ xs) (b ∷ a ∷ xs)
  unfolding flip
  swap_places a b {xs} n = record {
    to = flip;
    from = flip;
    there = over a b;
    here = over b a;
    from-to = λ i e p. twice i;
    to-from = λ i e p. twice i;
    in_order = both;
  }
    where
      over : (c d : E) (i : ℕ) (e : E) → get_elem? (c ∷ d ∷ xs) i ≡ some e → get_elem? (d ∷ c ∷ xs) (flip i) ≡ some e
      over c d zero e p = p
      over c d (suc zero) e p = p
      over c d (suc (suc i)) e p = p

      twice : (i : ℕ) → flip (flip i) ≡ i
      twice zero = refl
      twice (suc zero) = refl
      twice (suc (suc i)) = refl

      both : (i j : ℕ) (e f : E) → get_elem? (a ∷ b ∷ xs) i ≡ some e → get_elem? (a ∷ b ∷ xs) j ≡ some f → who e ≡ who f → i < j
          → flip i < flip j
      both i zero e f p q o h = absurd (omega arith)
      both zero (suc zero) e f p q o h =
          let c : a ≡ e = cc in
          let d : b ≡ f = cc in
          absurd (n (ap who c ∙ o ∙ sym (ap who d)))
      both (suc i) (suc zero) e f p q o h = absurd (omega arith)
      both zero (suc (suc j)) e f p q o h = omega arith
      both (suc zero) (suc (suc j)) e f p q o h = omega arith
      both (suc (suc i)) (suc (suc j)) e f p q o h = h

  -- each owner's own events are the same list in both; and two runs of which that is true are such orders of each other
  pub own-places : (xs ys : List E) → Permuted who xs ys → (k : ℕ) → own who k xs ≡ own who k ys
  own-places xs ys w = own-shuffle (shuffle-of who xs ys w)

  places_of : {xs ys : List E} → Shuffle who xs ys → Permuted who xs ys
  places_of stay = stay-places
  places_of (same e p) = same-places e (places_of p)
  places_of (swap e f n) = swap_places e f n
  places_of (then p q) = then-places (places_of p) (places_of q)

  pub places-own : (xs ys : List E) → ((k : ℕ) → own who k xs ≡ own who k ys) → Permuted who xs ys
  places-own xs ys h = places_of (sort who xs ys h)

length-answers : {R E A : Type 0} (answer : R → E → A) (next : R → E → R) (r : R) (xs : List E)
    → length (answers answer next r xs) ≡ length xs
length-answers answer next r [] = refl
length-answers answer next r (e ∷ xs) = ap suc (length-answers answer next (next r e) xs)

module _ {R E A : Type 0} {answer : R → E → A} {next : R → E → R} {Ok : E → Type 0} {who : E → ℕ} {Good : R → Type 0}
    (L : Square answer next Ok who Good) where
  -- the record after the run is the same, and the event at place i, which stands at place `to i` of the other order, gets the same answer there
  pub order-places : (r : R) → Good r → (xs ys : List E) → All Ok xs → (w : Permuted who xs ys)
      → (run next r xs ≡ run next r ys)
      × ((i : ℕ) (a : A) → get_elem? (answers answer next r xs) i ≡ some a → get_elem? (answers answer next r ys) (w.to i) ≡ some a)
  order-places r g xs ys ok w =
      let p = shuffle-of who xs ys w in
      let moved = sym (answers-shuffle L p r g ok) in (
        run-shuffle L p r g ok,
        λ i a q. ap (λ l. get_elem? l (w.to i)) moved ∙ place who xs ys w (answers answer next r xs) (length-answers answer next r xs) i a q,
      )
