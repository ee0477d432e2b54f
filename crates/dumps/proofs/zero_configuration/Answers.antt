-- `dumps::zero_configuration` meets its contract: the places that the walk has still to collect have still to be blanked. No axiom.
use Rattle.octets.proofs.Vocabulary.{sym, ◌∙◌, ◌+◌, true, false, le_refl}
use Rattle.descriptors.specs.Walk.{stand_in}
use Rattle.descriptors.proofs.Walks.{collect-end, collect-stuck}
use Rattle.dumps.proofs.Naming.{name_at, names_same}
use Rattle.dumps.proofs.Blanking.{blanked-none, blanked-more, none-past, names-on}
use Rattle.dumps.proofs.zero_configuration.Goals as goal

pub loop-at-init : goal.loop-at-init
loop-at-init c = rw (names_same c.args.body.now, c.blank.ensures, c.requires) (sym (blanked-more 6 _ c.args.body.now))

pub returns-in_default : goal.returns-in_default
returns-in_default c =
    let l = c.loop-at in
    sym (blanked-none l.copy) ∙ rw (collect-stuck name_at none-past c.args.body.now (stand_in l.last) l.at c.in_default.ensures.steps c.loop-at-test.true (le_refl c.loop-at.at)) at l.invariant

pub loop-at-preserved-then-has_name : goal.loop-at-preserved-then-has_name
loop-at-preserved-then-has_name c =
    let l = c.loop-at in
    let s = c.in-Some.ensures in
    let on = names-on c.args.body.now (stand_in l.last) l.at s.steps.steps c.loop-at-test.true s.onward true (sym c.if-has_name.true ∙ c.has_name.ensures) in
    rw (← s.steps.apart, c.blank-then-has_name.ensures) (sym (blanked-more (l.at + 8) _ l.copy) ∙ (rw on at l.invariant))

pub loop-at-preserved : goal.loop-at-preserved
loop-at-preserved c =
    let l = c.loop-at in
    let s = c.in-Some.ensures in
    let on = names-on c.args.body.now (stand_in l.last) l.at s.steps.steps c.loop-at-test.true s.onward false (sym c.if-has_name.false ∙ c.has_name.ensures) in
    rw (← s.steps.apart) (rw on at l.invariant)

pub returns : goal.returns
returns c =
    let l = c.loop-at in
    sym (blanked-none l.copy) ∙ rw (collect-end name_at c.args.body.now (stand_in l.last) l.at c.loop-at-test.false) at l.invariant
