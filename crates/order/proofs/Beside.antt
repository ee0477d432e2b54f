-- A system that runs beside another: its records are read as the other's, its events tell the other's, and its answers are the other's, said in
-- its own way. So neighbours that may change places there may here, and what is not noticed there is not here. No axiom.
use Prim.Native.Nat.{ℕ}
use mathlib.Core.Path.{◌≡◌, sym, ap, ◌∙◌}
use mathlib.Core.Bool.{Bool, true}
use mathlib.Core.List.{List, [], ◌∷◌}
use Rattle.order.proofs.Order.{Square}
use Rattle.order.specs.Strike.{FairRun}
use Rattle.order.proofs.Strike.{Unwinding}

-- Fit: an invariant of this system's records
module _ {R Q E C A B : Type 0} {answer : R → E → A} {next : R → E → R} {reply : Q → C → B} {after : Q → C → Q} (read : Q → R) (tell : C → E)
    (say : C → A → B) (Fit : Q → Type 0) (keeps : (q : Q) (c : C) → Fit q → Fit (after q c))
    (says : (q : Q) (c : C) → Fit q → reply q c ≡ say c (answer (read q) (tell c)))
    (reads : (q : Q) (c : C) → Fit q → read (after q c) ≡ next (read q) (tell c)) where
  -- where one reading is of one record alone
  pub square-beside : {Ok : E → Type 0} {who : E → ℕ} {Good : R → Type 0} → Square answer next Ok who Good
      → ((p q : Q) → Fit p → Fit q → read p ≡ read q → p ≡ q)
      → Square reply after (λ c. Ok (tell c)) (λ c. who (tell c)) (λ q. Fit q × Good (read q))
  square-beside S one = record {
    keeps = λ q c g o. (keeps q c g.0, rw (reads q c g.0) (S.keeps (read q) (tell c) g.1 o));
    deaf = λ q c d g o p n. says (after q c) d (keeps q c g.0)
        ∙ ap (λ r. say d (answer r (tell d))) (reads q c g.0) ∙ ap (say d) (S.deaf (read q) (tell c) (tell d) g.1 o p n) ∙ sym (says q d g.0);
    square = λ q c d g o p n.
        let f = keeps q c g.0 in
        let h = keeps q d g.0 in
        one (after (after q c) d) (after (after q d) c) (keeps (after q c) d f) (keeps (after q d) c h)
        (reads (after q c) d f ∙ ap (λ r. next r (tell d)) (reads q c g.0) ∙ S.square (read q) (tell c) (tell d) g.1 o p n
        ∙ sym (reads (after q d) c h ∙ ap (λ r. next r (tell c)) (reads q d g.0)));
  }

  pub unwinding-beside : {Good : R → Type 0} {struck : R → E → Bool} {Fair : R → E → Type 0} {Same : R → R → Type 0}
      → Unwinding answer next Good struck Fair Same → ((q : Q) → Fit q → Good (read q))
      → Unwinding reply after Fit (λ q c. struck (read q) (tell c)) (λ q c. Fair (read q) (tell c)) (λ p q. Same (read p) (read q))
  unwinding-beside U good = record {
    keeps = keeps;
    unseen = λ p q c f g t fair h. rw (reads p c f) (U.unseen (read p) (read q) (tell c) (good p f) (good q g) t fair h);
    reply = λ p q c f g t h. says p c f ∙ ap (say c) (U.reply (read p) (read q) (tell c) (good p f) (good q g) t h) ∙ sym (says q c g);
    local = λ p q c f g t h. rw (reads p c f, reads q c g) (U.local (read p) (read q) (tell c) (good p f) (good q g) t h);
  }

-- a premise on the struck events of a run, from another
pub fair-run : {Q C : Type 0} (after : Q → C → Q) (struck : Q → C → Bool) (Calm Fair : Q → C → Type 0) (Fit : Q → Type 0)
    → ((q : Q) (c : C) → Fit q → Fit (after q c)) → ((q : Q) (c : C) → Fit q → struck q c ≡ true → Calm q c → Fair q c)
    → (q : Q) → Fit q → (cs : List C) → FairRun after struck Calm q cs → FairRun after struck Fair q cs
fair-run after struck Calm Fair Fit keeps fair q f [] calm = tt
fair-run after struck Calm Fair Fit keeps fair q f (c ∷ cs) calm =
    (λ p. fair q c f p (calm.0 p), fair-run after struck Calm Fair Fit keeps fair (after q c) (keeps q c f) cs calm.1)
