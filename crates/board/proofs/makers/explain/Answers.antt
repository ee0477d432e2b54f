-- `board::makers::explain` meets its contract: the explainer's own. No axiom.
use Rattle.octets.proofs.Vocabulary.{ap, ◌∙◌}
use Rattle.sets.specs.Opening.{lent}
use Rattle.rules.proofs.Told.{told-number}
use Rattle.board.proofs.makers.explain.Goals as goal

pub returns-in-Ok : goal.returns-in-Ok
returns-in-Ok c =
    let e = c.in-Ok.ensures in
    record { number = ap (λ r. r.number) e ∙ told-number c.args.limits (lent c.args.set.now c.args.serial.now); broken = ap (λ r. r.rule) e; lies = ap (λ r. r.place) e }

pub returns-in-Err : goal.returns-in-Err
returns-in-Err c =
    let e = c.in-Err.ensures in
    record { number = c.number.ensures ∙ ap (λ r. r.number) e ∙ told-number c.args.limits (lent c.args.set.now c.args.serial.now); broken = ap (λ r. r.rule) e; lies = ap (λ r. r.place) e }
