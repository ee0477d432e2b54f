-- One set of laws, `Owners`, for two promises:
-- `ordered`: from a good record, a run of events that each have an owner there, in any other order that keeps each owner's events in theirs;
-- `ordered-places`: the same with the other order given place by place;
-- `unnoticed-by`: any run, and the events of every owner but k struck out.
-- No axiom.
use Prim.Native.Nat.{ℕ, suc}
use native.Mathlib.Omega.{arith}
use mathlib.Core.Path.{◌≡◌, refl, sym, ◌∙◌}
use mathlib.Core.List.{List}
use mathlib.Core.Bool.{Bool, true, false, ◌&&◌, not, false≢true}
use mathlib.Core.Option.{some}
use lib.Dec.{eqb}
use lib.ListN.{get_elem?}
use borrow.Author.Tests.{eqb-true, eqb-false}
use Rattle.order.specs.Run.{run, answers, log, All, own, log_of}
use Rattle.order.proofs.Order.{Square, order}
use Rattle.order.specs.Places.{Permuted}
use Rattle.order.specs.Strike.{strike, left, FairRun}
use Rattle.order.specs.Owners.{Owners, others, Idle}
use Rattle.order.proofs.Places.{order-places}
use Rattle.order.proofs.Parts.{Parts, square-of}
use Rattle.order.proofs.Strike.{Unwinding, unnoticed}

both : (a b : Bool) → a && not b ≡ true → (a ≡ true) × (b ≡ false)
both true true p = absurd (false≢true p)
both true false p = (refl, refl)
both false b p = absurd (false≢true p)

neither : (a b : Bool) → a && not b ≡ false → a ≡ true → b ≡ true
neither true true p q = refl
neither true false p q = sym p
neither false b p q = absurd (false≢true q)

cases : {A : Type 0} (b : Bool) → (b ≡ true → A) → (b ≡ false → A) → A
cases true f g = f refl
cases false f g = g refl

-- the good records at which every event has the owner that it has at a
abbrev pub Like : {R E : Type 0} → (R → Type 0) → (R → E → Bool) → (R → E → ℕ) → R → R → Type 0
Like {E = E} Good owned who a r = Good r × ((e : E) → owned r e ≡ owned a e) × ((e : E) → who r e ≡ who a e)

module _ {R E A W M : Type 0} {answer : R → E → A} {next : R → E → R} {Good : R → Type 0} {owned : R → E → Bool} {who : R → E → ℕ}
    {Same : ℕ → R → R → Type 0} {rest : R → W} {kind : E → A → M} {settle : M → W → W}
    (P : Owners answer next Good owned who Same rest kind settle) where
  -- ---- another order
  -- an owned event leaves every event its owner: an owner of something else sees nothing
  still : (r : R) (e : E) → Good r → owned r e ≡ true → Same (suc (who r e)) (next r e) r
  still r e g o = P.apart (suc (who r e)) r e g o (λ q. omega arith)

  like : (a r : R) (e : E) → Like Good owned who a r → owned a e ≡ true → Like Good owned who a (next r e)
  like a r e g o =
      let s = still r e g.0 (g.1 e ∙ o) in
      let d = P.keeps r e g.0 in
      (d, λ f. P.owned_by _ (next r e) r f d g.0 s ∙ g.1 f, λ f. P.who-by _ (next r e) r f d g.0 s ∙ g.2 f)

  parts_at : (a : R) → Parts answer next (λ e. owned a e ≡ true) (who a) (Like Good owned who a) Same rest kind settle
  parts_at a = record {
    keeps = λ r e g o. like a r e g o;
    turn = P.turn;
    join = P.join;
    reply = λ r s e g d o h. P.reply (who a e) r s e g.0 d.0 (g.1 e ∙ o) (g.2 e) h;
    local = λ r s e g d o h. P.local (who a e) r s e g.0 d.0 (g.1 e ∙ o) (g.2 e) h;
    apart = λ r e k g o n. P.apart k r e g.0 (g.1 e ∙ o) (λ q. n (sym (g.2 e) ∙ q));
    rests = λ r e g o. P.rests r e g.0 (g.1 e ∙ o);
    commute = P.commute;
    whole = λ r s g d h w. P.whole r s g.0 d.0 h w;
  }

  pub square-at : (a : R) → Square answer next (λ e. owned a e ≡ true) (who a) (Like Good owned who a)
  square-at a = square-of (parts_at a)

  pub like-self : (a : R) → Good a → Like Good owned who a a
  like-self a g = (g, λ e. refl, λ e. refl)

  pub ordered : (r : R) → Good r → (xs ys : List E) → All (λ e. owned r e ≡ true) xs → ((k : ℕ) → own (who r) k xs ≡ own (who r) k ys)
      → (run next r xs ≡ run next r ys) × ((k : ℕ) → log_of answer next (who r) k r xs ≡ log_of answer next (who r) k r ys)
  ordered r g xs ys ok h = order (square-at r) r (like-self r g) xs ys ok h

  -- the event at place i of xs, which stands at place `to i` of ys, gets the same answer there
  pub ordered-places : (r : R) → Good r → (xs ys : List E) → All (λ e. owned r e ≡ true) xs → (w : Permuted (who r) xs ys)
      → (run next r xs ≡ run next r ys)
      × ((i : ℕ) (a : A) → get_elem? (answers answer next r xs) i ≡ some a → get_elem? (answers answer next r ys) (w.to i) ≡ some a)
  ordered-places r g xs ys ok w = order-places (square-at r) r (like-self r g) xs ys ok w

  -- ---- events struck out
  pub unwinding-by : (k : ℕ) → Unwinding answer next Good (others owned who k) (Idle answer rest kind settle) (λ r s. Same k r s × (rest r ≡ rest s))
  unwinding-by k = record {
    keeps = P.keeps;
    unseen = λ r s e g d p f h.
        let o = both (owned r e) (eqb (who r e) k) p in
        let seen = P.apart k r e g o.0 (eqb-false (who r e) k o.1) in
        (P.join k (next r e) r s seen h.0, P.rests r e g o.0 ∙ f ∙ h.1);
    reply = λ r s e g d p h. cases (owned r e)
        (λ o. P.reply k r s e g d o (mine r e p o) h.0)
        (λ o. P.free-reply k r s e g d o h.0 h.1);
    local = λ r s e g d p h. cases (owned r e)
        (λ o. (P.local k r s e g d o (mine r e p o) h.0, settles r s e g d p h o))
        (λ o. (P.free_local k r s e g d o h.0 h.1, P.free-rest k r s e g d o h.0 h.1));
  }
    where
      mine : (r : R) (e : E) → others owned who k r e ≡ false → owned r e ≡ true → who r e ≡ k
      mine r e p o = eqb-true (who r e) k (neither (owned r e) (eqb (who r e) k) p o)

      settles : (r s : R) (e : E) → Good r → Good s → others owned who k r e ≡ false → Same k r s × (rest r ≡ rest s) → owned r e ≡ true
          → rest (next r e) ≡ rest (next s e)
      settles r s e g d p h o =
          let there : owned s e ≡ true = sym (P.owned_by k r s e g d h.0) ∙ o in
          P.rests r e g o ∙ rw (P.reply k r s e g d o (mine r e p o) h.0, h.1) (sym (P.rests s e d there))

  pub unnoticed-by : (k : ℕ) (r : R) → Good r → (xs : List E) → FairRun next (others owned who k) (Idle answer rest kind settle) r xs
      → (left answer next (others owned who k) r xs ≡ log answer next r (strike next (others owned who k) r xs))
      × Same k (run next r xs) (run next r (strike next (others owned who k) r xs))
      × (rest (run next r xs) ≡ rest (run next r (strike next (others owned who k) r xs)))
  unnoticed-by k r g xs f =
      let u = unnoticed (unwinding-by k) xs r r g g (P.self k r, refl) f in
      (u.0, u.1.0, u.1.1)

  -- ---- the laws hold of every system that answers and goes on in the same way at good records
  pub along : {reply : R → E → A} {after : R → E → R} → ((r : R) (e : E) → Good r → reply r e ≡ answer r e)
      → ((r : R) (e : E) → Good r → after r e ≡ next r e) → Owners reply after Good owned who Same rest kind settle
  along a n = record {
    keeps = λ r e g. rw (n r e g) (P.keeps r e g);
    self = P.self;
    turn = P.turn;
    join = P.join;
    owned_by = P.owned_by;
    who-by = P.who-by;
    reply = λ k r s e g d o w h. a r e g ∙ P.reply k r s e g d o w h ∙ sym (a s e d);
    local = λ k r s e g d o w h. rw (n r e g, n s e d) (P.local k r s e g d o w h);
    apart = λ k r e g o w. rw (n r e g) (P.apart k r e g o w);
    rests = λ r e g o. rw (n r e g, a r e g) (P.rests r e g o);
    again = P.again;
    commute = P.commute;
    free-reply = λ k r s e g d o h w. a r e g ∙ P.free-reply k r s e g d o h w ∙ sym (a s e d);
    free_local = λ k r s e g d o h w. rw (n r e g, n s e d) (P.free_local k r s e g d o h w);
    free-rest = λ k r s e g d o h w. rw (n r e g, n s e d) (P.free-rest k r s e g d o h w);
    whole = P.whole;
  }

  -- an answer together with what everybody sees of the record that the event found
  pub seen : {B : Type 0} (see : R → B) → ((k : ℕ) (r s : R) → Same k r s → see r ≡ see s)
      → Owners {A = B × A} (λ r e. (see r, answer r e)) next Good owned who Same rest (λ e a. kind e a.1) settle
  seen see by = record {
    keeps = P.keeps;
    self = P.self;
    turn = P.turn;
    join = P.join;
    owned_by = P.owned_by;
    who-by = P.who-by;
    reply = λ k r s e g d o w h. λ i. (by k r s h i, P.reply k r s e g d o w h i);
    local = P.local;
    apart = P.apart;
    rests = P.rests;
    again = P.again;
    commute = P.commute;
    free-reply = λ k r s e g d o h w. λ i. (by k r s h i, P.free-reply k r s e g d o h w i);
    free_local = P.free_local;
    free-rest = P.free-rest;
    whole = P.whole;
  }
