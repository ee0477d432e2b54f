-- `pairs::compare` meets its contract. No axiom.
use Rattle.octets.proofs.Vocabulary.{refl, sym, ◌∙◌}
use Rattle.pairs.proofs.Opening.{compared}
use Rattle.pairs.proofs.compare.Goals as goal

pub returns-then-agree : goal.returns-then-agree
returns-then-agree c = λ serial first second.
    let a = c.args in compared a.full.now a.high.now serial _ _ refl first refl second _ (sym c.if-agree.true ∙ c.agree.ensures)

pub returns : goal.returns
returns c = λ serial first second.
    let a = c.args in compared a.full.now a.high.now serial _ _ refl first refl second _ (sym c.if-agree.false ∙ c.agree.ensures)
