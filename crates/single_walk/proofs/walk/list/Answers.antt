-- `single_walk::walk::list` meets its contract. No axiom.
use Rattle.octets.proofs.Vocabulary.{refl, sym, ◌∙◌, [], ◌∷◌, leb, leb-true}
use Rattle.octets.proofs.Sentences.{never, conjunct}
use Rattle.descriptors.specs.Descriptor.{type_allowed, good_endpoint}
use Rattle.descriptors.specs.Sequence.{free}
use Rattle.single_walk.specs.Course.{limits_at}
use Rattle.single_walk.proofs.walk.list.Goals as goal

pub list-requires : goal.list-requires
list-requires c =
    let a = c.args in
    let o = a.course.order in
    let rules = type_allowed 5 ∷ good_endpoint (limits_at a.wanted.high) a.d.now ∷ leb 1 o.coming ∷ free o a.d.now ∷ [] in
    leb-true 1 o.coming (conjunct 2 rules (sym c.may_list.ensures ∙ c.if-may_list.true))

pub returns-then-may_list : goal.returns-then-may_list
returns-then-may_list c = record { may = sym c.if-may_list.true ∙ c.may_list.ensures; on = λ _. record { order = c.list.ensures; role = refl; finds = c.with_endpoint.ensures; refers = refl } }

pub returns : goal.returns
returns c = record { may = sym c.if-may_list.false ∙ c.may_list.ensures; on = λ e. never e refl }
