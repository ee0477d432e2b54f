-- What opening gives: its number, and what is known then. No axiom.
use Rattle.std.specs.Prelude.{Result, Ok, Err, is_ok, IfOk, IsErrAnd}
use Rattle.octets.proofs.Vocabulary.{◌≡◌, sym, ◌∙◌, ℕ, List, true, false≢true, eqb, eq-eqb, ne_eqb}
use Rattle.descriptors.specs.declared.survey.Asked.{Asked}
use Rattle.sets.specs.declared.opening.Broken.{Broken}
use Rattle.sets.specs.Broken.{number_of}
use Rattle.sets.proofs.Opened.{number-nonzero}
use Rattle.steps.specs.declared.facts.Selected.{Selected}
use Rattle.steps.specs.Selected.{Knows}
use Rattle.single_walk.specs.Passes.{Tells}

module _ (gives : ℕ) (set : List ℕ) (value : ℕ) (alternates : List ℕ) (asked : Asked) where
  -- what a `?` hands on keeps its number
  pub refusal-told : (r : Result Selected Broken) (b : Broken) → IsErrAnd r (λ y. y ≡ b) → number_of b ≡ gives → Tells gives set value alternates asked r
  refusal-told (Ok k) b p q = absurd p
  refusal-told (Err y) b p q = record { opens = tt; refuses = rw p q }

  pub accepted-told : (r : Result Selected Broken) → Tells gives set value alternates asked r → is_ok r ≡ eqb gives 0
  accepted-told (Ok k) t = sym (eq-eqb gives 0 t.opens.0)
  accepted-told (Err b) t = sym (ne_eqb gives 0 (λ z. number-nonzero b (t.refuses ∙ z)))

  module _ (r : Result Selected Broken) (t : Tells gives set value alternates asked r) (ok : is_ok r ≡ true) where
    pub opened-zero : gives ≡ 0
    opened-zero = go r t ok
      where
        go : (r : Result Selected Broken) → Tells gives set value alternates asked r → is_ok r ≡ true → gives ≡ 0
        go (Ok k) t p = t.opens.0
        go (Err b) t p = absurd (false≢true p)

    pub known-told : (k : Selected) → IfOk r (λ known. k ≡ known) → Knows set value alternates asked k
    known-told k e = go r t ok e
      where
        go : (r : Result Selected Broken) → Tells gives set value alternates asked r → is_ok r ≡ true → IfOk r (λ known. k ≡ known) → Knows set value alternates asked k
        go (Ok known) t p e = rw e t.opens.1
        go (Err b) t p e = absurd (false≢true p)
