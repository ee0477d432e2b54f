-- Order, from the square law alone: if two neighbouring events of different owners may change places, then any two runs in which
-- each owner has the same events in the same order end at the same record and give each event the same answer. No axiom.
use Prim.Native.Nat.{ℕ}
use mathlib.Core.Path.{◌≡◌, refl, sym, ap, ◌∙◌}
use mathlib.Core.List.{List, ◌∷◌}
use Rattle.order.specs.Run.{run, answers, log, All, own, log_of}
use Rattle.order.proofs.Shuffle.{Shuffle, stay, same, swap, then, move, all-shuffle, own-shuffle, sort}

-- Ok: the events considered. who: their owners. Good: an invariant of the records.
pub record Square {R E A : Type 0} (answer : R → E → A) (next : R → E → R) (Ok : E → Type 0) (who : E → ℕ) (Good : R → Type 0) : Type 0 where
  -- a considered event keeps the invariant
  pub keeps : (r : R) (e : E) → Good r → Ok e → Good (next r e)
  -- f's answer is the same after an event of another owner
  pub deaf : (r : R) (e f : E) → Good r → Ok e → Ok f → (who e ≡ who f → ⊥) → answer (next r e) f ≡ answer r f
  -- and so is the record after both
  pub square : (r : R) (e f : E) → Good r → Ok e → Ok f → (who e ≡ who f → ⊥) → next (next r e) f ≡ next (next r f) e

module _ {R E A : Type 0} {answer : R → E → A} {next : R → E → R} {Ok : E → Type 0} {who : E → ℕ} {Good : R → Type 0}
    (L : Square answer next Ok who Good) where
  -- ---- along an explicit rearranging p
  pub run-shuffle : {xs ys : List E} (p : Shuffle who xs ys) (r : R) → Good r → All Ok xs → run next r xs ≡ run next r ys
  run-shuffle stay r g ok = refl
  run-shuffle (same e p) r g ok = run-shuffle p (next r e) (L.keeps r e g ok.0) ok.1
  run-shuffle (swap e f {xs = xs} n) r g ok = ap (λ s. run next s xs) (L.square r e f g ok.0 ok.1.0 n)
  run-shuffle (then p q) r g ok = run-shuffle p r g ok ∙ run-shuffle q r g (all-shuffle Ok p ok)

  -- the answers move along with their events: `move p` takes xs to ys, and it takes xs's answers to ys's
  pub answers-shuffle : {xs ys : List E} (p : Shuffle who xs ys) (r : R) → Good r → All Ok xs
      → move p (answers answer next r xs) ≡ answers answer next r ys
  answers-shuffle stay r g ok = refl
  answers-shuffle (same e p) r g ok = ap (λ l. answer r e ∷ l) (answers-shuffle p (next r e) (L.keeps r e g ok.0) ok.1)
  answers-shuffle (swap e f {xs = xs} n) r g ok = rw (
    L.deaf r e f g ok.0 ok.1.0 n,
    L.deaf r f e g ok.1.0 ok.0 (λ q. n (sym q)),
    L.square r e f g ok.0 ok.1.0 n,
  )
  answers-shuffle (then p q) r g ok = ap (move q) (answers-shuffle p r g ok) ∙ answers-shuffle q r g (all-shuffle Ok p ok)

  -- the log of the one run is the log of the other, rearranged by exchanges of different owners' entries
  log-shuffle : {xs ys : List E} (p : Shuffle who xs ys) (r : R) → Good r → All Ok xs
      → Shuffle (λ (a : E × A). who a.0) (log answer next r xs) (log answer next r ys)
  log-shuffle stay r g ok = stay
  log-shuffle (same e p) r g ok = same (e, answer r e) (log-shuffle p (next r e) (L.keeps r e g ok.0) ok.1)
  log-shuffle (swap e f {xs = xs} n) r g ok = rw (
    L.deaf r e f g ok.0 ok.1.0 n,
    L.deaf r f e g ok.1.0 ok.0 (λ q. n (sym q)),
    L.square r e f g ok.0 ok.1.0 n,
  ) (swap (e, answer r e) (f, answer r f) n)
  log-shuffle (then p q) r g ok = then (log-shuffle p r g ok) (log-shuffle q r g (all-shuffle Ok p ok))

  -- ---- the theorem
  -- A run may hold equal events twice, so "the same event" in the other order needs a name: an order that keeps each owner's own
  -- events in theirs takes k's n-th event to k's n-th event. `log_of .. k` lists k's events, each with the answer that it gets: that
  -- the two lists are equal for each k says that k's n-th event is the same in both runs and gets the same answer.
  pub order : (r : R) → Good r → (xs ys : List E) → All Ok xs → ((k : ℕ) → own who k xs ≡ own who k ys)
      → (run next r xs ≡ run next r ys) × ((k : ℕ) → log_of answer next who k r xs ≡ log_of answer next who k r ys)
  order r g xs ys ok h =
      let p = sort who xs ys h in
      (run-shuffle p r g ok, own-shuffle (log-shuffle p r g ok))
