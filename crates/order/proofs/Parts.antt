-- The square law from the form of the law that lasts: each owner has a part of the record; an event takes its answer and its owner's
-- next part from its owner's part and from what no considered event changes, leaves every other part, and changes what is left
-- over, the rest, only by a settling that may stand anywhere. No axiom.
use Prim.Native.Nat.{ℕ}
use native.Mathlib.Decide.{ℕ_discrete}
use mathlib.Core.Path.{◌≡◌, sym, ◌∙◌}
use Rattle.order.proofs.Order.{Square}

-- Same j r s: what j's events can see of r and s is the same. rest r: what of the shared part considered events may change.
-- settle m: the change, by a kind m. kind e a: the kind that e makes where a is its answer.
pub record Parts {R E A W M : Type 0} (answer : R → E → A) (next : R → E → R) (Ok : E → Type 0) (who : E → ℕ) (Good : R → Type 0)
    (Same : ℕ → R → R → Type 0) (rest : R → W) (kind : E → A → M) (settle : M → W → W) : Type 0 where
  pub keeps : (r : R) (e : E) → Good r → Ok e → Good (next r e)
  pub turn : (k : ℕ) (r s : R) → Same k r s → Same k s r
  pub join : (k : ℕ) (r s t : R) → Same k r s → Same k s t → Same k r t
  -- (a) from records that its owner cannot tell apart an event gets one answer, so settles alike, and leaves such records again
  pub reply : (r s : R) (e : E) → Good r → Good s → Ok e → Same (who e) r s → answer r e ≡ answer s e
  pub local : (r s : R) (e : E) → Good r → Good s → Ok e → Same (who e) r s → Same (who e) (next r e) (next s e)
  -- (b) it leaves what every other owner sees
  pub apart : (r : R) (e : E) (k : ℕ) → Good r → Ok e → (who e ≡ k → ⊥) → Same k (next r e) r
  -- (c) it changes the rest only by its settling, and two settlings may change places
  pub rests : (r : R) (e : E) → Good r → Ok e → rest (next r e) ≡ settle (kind e (answer r e)) (rest r)
  pub commute : (m n : M) (w : W) → settle m (settle n w) ≡ settle n (settle m w)
  -- (d) a good record is its parts and its rest
  pub whole : (r s : R) → Good r → Good s → ((k : ℕ) → Same k r s) → rest r ≡ rest s → r ≡ s

module _ {R E A W M : Type 0} {answer : R → E → A} {next : R → E → R} {Ok : E → Type 0} {who : E → ℕ} {Good : R → Type 0}
    {Same : ℕ → R → R → Type 0} {rest : R → W} {kind : E → A → M} {settle : M → W → W}
    (P : Parts answer next Ok who Good Same rest kind settle) where
  -- after e and f of different owners, e's owner sees the same in either order
  half : (r : R) (e f : E) → Good r → Ok e → Ok f → (who e ≡ who f → ⊥) → Same (who e) (next (next r e) f) (next (next r f) e)
  half r e f g oe of n =
      let ge = P.keeps r e g oe in
      let gf = P.keeps r f g of in
      let m : who f ≡ who e → ⊥ = λ q. n (sym q) in
      let s = P.turn _ _ _ (P.apart r f (who e) g of m) in
      P.join _ _ _ _ (P.apart (next r e) f (who e) ge of m) (P.local r (next r f) e g gf oe s)

  -- an owner of neither sees nothing of either
  third : (r : R) (e f : E) (k : ℕ) → Good r → Ok e → Ok f → (who e ≡ k → ⊥) → (who f ≡ k → ⊥) → Same k (next (next r e) f) r
  third r e f k g oe of n m = P.join _ _ _ _ (P.apart (next r e) f k (P.keeps r e g oe) of m) (P.apart r e k g oe n)

  each : (r : R) (e f : E) → Good r → Ok e → Ok f → (who e ≡ who f → ⊥) → (k : ℕ) → Dec (who e ≡ k) → Dec (who f ≡ k)
      → Same k (next (next r e) f) (next (next r f) e)
  each r e f g oe of n k (yes p) d = rw (← p) (half r e f g oe of n)
  each r e f g oe of n k (no a) (yes q) = rw (← q) (P.turn _ _ _ (half r f e g of oe (λ p. n (sym p))))
  each r e f g oe of n k (no a) (no b) = P.join _ _ _ _ (third r e f k g oe of a b) (P.turn _ _ _ (third r f e k g of oe b a))

  rests2 : (r : R) (e f : E) → Good r → Ok e → Ok f → (who e ≡ who f → ⊥)
      → rest (next (next r e) f) ≡ settle (kind f (answer r f)) (settle (kind e (answer r e)) (rest r))
  rests2 r e f g oe of n =
      let ge = P.keeps r e g oe in
      let deaf : answer (next r e) f ≡ answer r f = P.reply (next r e) r f ge g of (P.apart r e (who f) g oe n) in
      P.rests (next r e) f ge of ∙ rw (deaf, P.rests r e g oe)

  pub square-of : Square answer next Ok who Good
  square-of = record {
    keeps = P.keeps;
    deaf = λ r e f g oe of n. P.reply (next r e) r f (P.keeps r e g oe) g of (P.apart r e (who f) g oe n);
    square = λ r e f g oe of n. P.whole _ _ (P.keeps _ f (P.keeps r e g oe) of) (P.keeps _ e (P.keeps r f g of) oe)
        (λ k. each r e f g oe of n k (ℕ_discrete (who e) k) (ℕ_discrete (who f) k))
        (rests2 r e f g oe of n ∙ P.commute _ _ _ ∙ sym (rests2 r f e g of oe (λ q. n (sym q))));
  }
