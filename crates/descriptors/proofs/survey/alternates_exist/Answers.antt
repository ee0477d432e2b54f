-- `descriptors::survey::alternates_exist` meets its contract: two words tell it of all sixteen interfaces. No axiom.
use Rattle.octets.proofs.Vocabulary.{◌∙◌}
use Rattle.descriptors.proofs.Alternates.{by-words, low-sixteen}
use Rattle.descriptors.proofs.survey.alternates_exist.Goals as goal

pub returns : goal.returns
returns c = λ g t.
    let a = c.args in
    rw (c.has_only.ensures, c.has_only-2.ensures)
    (by-words a.alternates a.existing a.current c.without.result c.moved.result (λ k h. c.without.ensures k h ∙ rw (low-sixteen k h)) c.moved.ensures g t)
