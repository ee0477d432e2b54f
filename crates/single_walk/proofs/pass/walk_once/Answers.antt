-- `single_walk::pass::walk_once` meets its contract: the limits ask of a body what those of their speed ask. No axiom.
use Rattle.octets.proofs.Vocabulary.{sym, ap, ◌∙◌, false≢true, not-true, not-false}
use Rattle.descriptors.proofs.CheckReferences.{told}
use Rattle.single_walk.proofs.Learning.{walked-once}
use Rattle.single_walk.proofs.pass.walk_once.Goals as goal

pub returns-then-selected : goal.returns-then-selected
returns-then-selected c =
    let collects = rw c.is_high.ensures at c.collect.ensures in
    record { good = collects.good ∙ sym (c.requires c.args.body.now); on = walked-once _ _ _ _ _ c.collect.result collects.on }

pub returns-then-not-verdict : goal.returns-then-not-verdict
returns-then-not-verdict c = record { good = sym (not-true c.good_configuration-verdict.result.good c.if-not-verdict.true) ∙ ap (λ v. v.good) c.good_configuration-verdict.ensures; on = tt }

pub returns : goal.returns
returns c =
    let v = c.good_configuration-verdict in
    let good = not-false v.result.good c.if-not-verdict.false in
    record {
      good = sym good ∙ ap (λ v. v.good) v.ensures;
      on = record { refers = told v.result _ _ v.ensures good; surveyed = λ selected. absurd (false≢true (sym c.if-selected.false ∙ selected)) };
    }
