-- The laws of a system whose events have owners. The owner of an event is read off the record, as "an event concerns interface j, in Configured"
-- is; events that concern nobody are allowed in a run. They are empty of meaning where nothing is ever good or owned: show an instance.
use Rattle.std.specs.Prelude.{ℕ, ◌≡◌, Bool, true, false, ◌&&◌, not, eqb}

-- owned r e: event e, arriving at r, concerns some owner; who r e: which (read only where owned). Good: an invariant of the records.
-- Same k r s: k's part and the fixed fields of the shared part are the same. rest, kind, settle: what of the shared part an owned
-- event changes, and how, by the event and its answer.
pub record Owners {R E A W M : Type 0} (answer : R → E → A) (next : R → E → R) (Good : R → Type 0) (owned : R → E → Bool) (who : R → E → ℕ)
    (Same : ℕ → R → R → Type 0) (rest : R → W) (kind : E → A → M) (settle : M → W → W) : Type 0 where
  pub keeps : (r : R) (e : E) → Good r → Good (next r e)
  pub self : (k : ℕ) (r : R) → Same k r r
  pub turn : (k : ℕ) (r s : R) → Same k r s → Same k s r
  pub join : (k : ℕ) (r s t : R) → Same k r s → Same k s t → Same k r t
  -- who owns an event is seen by everybody
  pub owned_by : (k : ℕ) (r s : R) (e : E) → Good r → Good s → Same k r s → owned r e ≡ owned s e
  pub who-by : (k : ℕ) (r s : R) (e : E) → Good r → Good s → Same k r s → who r e ≡ who s e
  -- k's own events: answer and k's next part hang on k's part
  pub reply : (k : ℕ) (r s : R) (e : E) → Good r → Good s → owned r e ≡ true → who r e ≡ k → Same k r s → answer r e ≡ answer s e
  pub local : (k : ℕ) (r s : R) (e : E) → Good r → Good s → owned r e ≡ true → who r e ≡ k → Same k r s
      → Same k (next r e) (next s e)
  -- another owner's events leave k's part
  pub apart : (k : ℕ) (r : R) (e : E) → Good r → owned r e ≡ true → (who r e ≡ k → ⊥) → Same k (next r e) r
  -- every owned event changes the rest only by its settling; a settling done twice is done once, and settlings may change places
  pub rests : (r : R) (e : E) → Good r → owned r e ≡ true → rest (next r e) ≡ settle (kind e (answer r e)) (rest r)
  pub again : (m : M) (w : W) → settle m (settle m w) ≡ settle m w
  pub commute : (m n : M) (w : W) → settle m (settle n w) ≡ settle n (settle m w)
  -- nobody's events, from records that look the same to k, the rest included
  pub free-reply : (k : ℕ) (r s : R) (e : E) → Good r → Good s → owned r e ≡ false → Same k r s → rest r ≡ rest s → answer r e ≡ answer s e
  pub free_local : (k : ℕ) (r s : R) (e : E) → Good r → Good s → owned r e ≡ false → Same k r s → rest r ≡ rest s
      → Same k (next r e) (next s e)
  pub free-rest : (k : ℕ) (r s : R) (e : E) → Good r → Good s → owned r e ≡ false → Same k r s → rest r ≡ rest s
      → rest (next r e) ≡ rest (next s e)
  -- a good record is its parts and its rest
  pub whole : (r s : R) → Good r → Good s → ((k : ℕ) → Same k r s) → rest r ≡ rest s → r ≡ s

-- the events struck out for k
abbrev pub others : {R E : Type 0} → (R → E → Bool) → (R → E → ℕ) → ℕ → R → E → Bool
others owned who k r e = owned r e && not (eqb (who r e) k)

-- a struck event had nothing to settle
abbrev pub Idle : {R E A W M : Type 0} → (R → E → A) → (R → W) → (E → A → M) → (M → W → W) → R → E → Type 0
Idle answer rest kind settle r e = settle (kind e (answer r e)) (rest r) ≡ rest r
