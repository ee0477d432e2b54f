-- `board::event` meets its contract: the one set is in use. No axiom.
use Rattle.octets.proofs.Vocabulary.{sym, ap, ◌∙◌, Bool, false, eqb-true}
use Rattle.descriptors.specs.Limits.{full_speed}
use Rattle.sets.specs.Opening.{lent}
use Rattle.events.specs.Step.{Reply}
use Rattle.steps.specs.Gathering.{view_in, event_in}
use Rattle.steps.proofs.Steps.{event-in}
use Rattle.board.proofs.event.Goals as goal

pub happen-requires : goal.happen-requires
happen-requires c = λ z. (full_speed, eqb-true _ 0 (sym c.requires ∙ z))

pub returns : goal.returns
returns c =
    let a = c.args in
    let q = ap (λ (t : Bool). event_in t (view_in false a.set.now a.serial.now) a.image.now a.what) c.requires ∙ sym (event-in (lent a.set.now a.serial.now) a.image.now a.what) in
    let e = c.happen.ensures in
    record { answer = e.answer ∙ ap (λ (r : Reply). r.answer) q; image = e.image ∙ ap (λ (r : Reply). r.image) q }
