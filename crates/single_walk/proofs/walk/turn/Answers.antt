-- `single_walk::walk::turn` meets its contract: by its type. No axiom.
use Rattle.octets.proofs.Vocabulary.{refl, sym, ap, ◌∙◌, not, ne_eqb}
use Rattle.octets.proofs.Sentences.{never}
use Rattle.single_walk.proofs.walk.turn.Goals as goal

pub returns-then-t-eq-ENDPOINT : goal.returns-then-t-eq-ENDPOINT
returns-then-t-eq-ENDPOINT c =
    let p = sym c.peek-t.ensures ∙ c.if-t-eq-ENDPOINT.true in
    record {
      may = rw p c.list.ensures.may;
      lists = λ _. c.list.ensures.on;
      starts = λ i _. never i (rw p);
      passes = λ _ k. never (rw p) k;
    }

pub returns-then-t-eq-INTERFACE : goal.returns-then-t-eq-INTERFACE
returns-then-t-eq-INTERFACE c =
    let p = sym c.peek-t.ensures ∙ c.if-t-eq-INTERFACE.true in
    record {
      may = rw p c.start.ensures.may;
      lists = λ k _. never k (rw p);
      starts = λ _. c.start.ensures.on;
      passes = λ i _. never (rw p) i;
    }

pub returns : goal.returns
returns c =
    let e = c.peek-t.ensures in
    let k = ne_eqb _ _ (λ q. c.if-t-eq-ENDPOINT.false (e ∙ q)) in
    let i = ne_eqb _ _ (λ q. c.if-t-eq-INTERFACE.false (e ∙ q)) in
    record {
      may = ap not c.is_refused.ensures ∙ rw (e, i, k);
      lists = λ p _. never p k;
      starts = λ p _. never p i;
      passes = λ _ _. refl;
    }
