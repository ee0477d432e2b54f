-- `descriptors::check::turn` meets its contract: by its type. No axiom.
use Rattle.octets.proofs.Vocabulary.{sym, ◌∙◌, [], ◌∷◌, leb, leb-true}
use Rattle.octets.proofs.Sentences.{conjunct}
use Rattle.descriptors.specs.Descriptor.{type_allowed, good_endpoint}
use Rattle.descriptors.specs.Sequence.{free}
use Rattle.descriptors.proofs.check.turn.Goals as goal

pub list-requires : goal.list-requires
list-requires c =
    let a = c.args in
    let o = a.checked.order in
    let rules = type_allowed 5 ∷ good_endpoint a.limits a.d.now ∷ leb 1 o.coming ∷ free o a.d.now ∷ [] in
    leb-true 1 o.coming (conjunct 2 rules (sym c.may_list.ensures ∙ c.if-may_list.true))
