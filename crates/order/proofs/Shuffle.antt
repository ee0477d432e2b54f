-- Another order of a run that keeps each owner's own events in their order, said twice, and the two proved to be one.
-- (1) By exchanges: `Shuffle who xs ys`, made of exchanges of two neighbours with different owners.
-- (2) By sublists: for each owner k the events of k are the same list in both, `own who k xs ≡ own who k ys`.
-- `own-shuffle` is (1) to (2), `sort` is (2) to (1). No axiom.
use Prim.Native.Nat.{ℕ}
use native.Mathlib.Omega.{arith}
use native.Mathlib.Decide.{ℕ_discrete}
use mathlib.Core.Path.{◌≡◌, refl, sym, ap, subst, ◌∙◌}
use mathlib.Core.List.{List, [], ◌∷◌}
use mathlib.Core.Bool.{Bool, true, false}
use lib.Dec.{eqb}
use lib.ListN.{length}
use borrow.Author.Tests.{eqb-true}
use Rattle.order.specs.Run.{keep, own, All}
use Rattle.order.proofs.Run.{own-mine, own-other}

pub data Shuffle {E : Type 0} (who : E → ℕ) : List E → List E → Type 0 where
  stay : {xs : List E} → Shuffle who xs xs
  same : (e : E) {xs ys : List E} → Shuffle who xs ys → Shuffle who (e ∷ xs) (e ∷ ys)
  swap : (e f : E) {xs : List E} → (who e ≡ who f → ⊥) → Shuffle who (e ∷ f ∷ xs) (f ∷ e ∷ xs)
  then : {xs ys zs : List E} → Shuffle who xs ys → Shuffle who ys zs → Shuffle who xs zs

-- the same exchanges, done to a list of anything (the answers, say)
abbrev pub move : {E A : Type 0} {who : E → ℕ} {xs ys : List E} → Shuffle who xs ys → List A → List A
move stay l = l
move (same e p) [] = []
move (same e p) (a ∷ l) = a ∷ move p l
move (swap e f n) [] = []
move (swap e f n) (a ∷ []) = a ∷ []
move (swap e f n) (a ∷ (b ∷ l)) = b ∷ a ∷ l
move (then p q) l = move q (move p l)

-- of two tests of different owners against k at most one passes
keep-swap : {A : Type 0} (i j k : ℕ) → (i ≡ j → ⊥) → (a b : A) (l : List A)
    → keep (eqb i k) a (keep (eqb j k) b l) ≡ keep (eqb j k) b (keep (eqb i k) a l)
keep-swap i j k n a b l = go (eqb i k) (eqb j k) refl refl
  where
    go : (s t : Bool) → eqb i k ≡ s → eqb j k ≡ t → keep s a (keep t b l) ≡ keep t b (keep s a l)
    go true true p q = absurd (n (eqb-true i k p ∙ sym (eqb-true j k q)))
    go true false p q = refl
    go false true p q = refl
    go false false p q = refl

module _ {E : Type 0} {who : E → ℕ} where
  -- it takes the one run to the other: so `move p` is the rearranging that p stands for
  pub move-self : {xs ys : List E} (p : Shuffle who xs ys) → move p xs ≡ ys
  move-self stay = refl
  move-self (same e p) = ap (λ l. e ∷ l) (move-self p)
  move-self (swap e f n) = refl
  move-self (then p q) = ap (move q) (move-self p) ∙ move-self q

  pub all-shuffle : (Ok : E → Type 0) {xs ys : List E} → Shuffle who xs ys → All Ok xs → All Ok ys
  all-shuffle Ok stay a = a
  all-shuffle Ok (same e p) a = (a.0, all-shuffle Ok p a.1)
  all-shuffle Ok (swap e f n) a = (a.1.0, (a.0, a.1.1))
  all-shuffle Ok (then p q) a = all-shuffle Ok q (all-shuffle Ok p a)

  -- (1) to (2)
  pub own-shuffle : {xs ys : List E} → Shuffle who xs ys → (k : ℕ) → own who k xs ≡ own who k ys
  own-shuffle stay k = refl
  own-shuffle (same e p) k = ap (keep (eqb (who e) k) e) (own-shuffle p k)
  own-shuffle (swap e f {xs = xs} n) k = keep-swap (who e) (who f) k n e f (own who k xs)
  own-shuffle (then p q) k = own-shuffle p k ∙ own-shuffle q k

module _ {E : Type 0} (who : E → ℕ) where
  -- the first event of j is brought to the front, past the others' events
  record Pulled (j : ℕ) (e : E) (tail ys : List E) : Type 0 where
    others : List E
    moved : Shuffle who (e ∷ others) ys
    mine : own who j others ≡ tail
    rest : (k : ℕ) → (j ≡ k → ⊥) → own who k others ≡ own who k ys

  pull : (j : ℕ) (e : E) (tail ys : List E) → who e ≡ j → own who j ys ≡ e ∷ tail → Pulled j e tail ys
  pull j e tail [] w p = absurd (omega (arith, ap length p))
  pull j e tail (y ∷ ys) w p = go (ℕ_discrete (who y) j) (pull j e tail ys w)
    where
      go : Dec (who y ≡ j) → (own who j ys ≡ e ∷ tail → Pulled j e tail ys) → Pulled j e tail (y ∷ ys)
      go (yes q) f =
          let h : y ∷ own who j ys ≡ e ∷ tail = sym (own-mine who j y ys q) ∙ p in
          let same_head : e ≡ y = cc in
          record {
            others = ys;
            moved = subst (λ x. Shuffle who (e ∷ ys) (x ∷ ys)) same_head stay;
            mine = cc;
            rest = λ k n. sym (own-other who k y ys (λ r. n (sym q ∙ r)));
          }
      go (no n) f =
          let i = f (sym (own-other who j y ys n) ∙ p) in
          record {
            others = y ∷ i.others;
            moved = then (swap e y (λ q. n (sym q ∙ w))) (same y i.moved);
            mine = own-other who j y i.others n ∙ i.mine;
            rest = λ k m. ap (keep (eqb (who y) k) y) (i.rest k m);
          }

  -- (2) to (1)
  pub sort : (xs ys : List E) → ((k : ℕ) → own who k xs ≡ own who k ys) → Shuffle who xs ys
  sort [] [] h = stay
  sort [] (y ∷ ys) h = absurd (omega (arith, ap length (h (who y) ∙ own-mine who (who y) y ys refl)))
  sort (x ∷ xs) ys h =
      let i = pull (who x) x (own who (who x) xs) ys refl (sym (h (who x)) ∙ own-mine who (who x) x xs refl) in
      then (same x (sort xs i.others (left i))) i.moved
    where
      left : (i : Pulled (who x) x (own who (who x) xs) ys) (k : ℕ) → own who k xs ≡ own who k i.others
      left i k = go (ℕ_discrete (who x) k)
        where
          go : Dec (who x ≡ k) → own who k xs ≡ own who k i.others
          go (yes p) = subst (λ m. own who m xs ≡ own who m i.others) p (sym i.mine)
          go (no n) = sym (own-other who k x xs n) ∙ h k ∙ sym (i.rest k n)
