-- `board::makers::hk_two_explain` meets its contract: explain_two's own. No axiom.
use Rattle.octets.proofs.Vocabulary.{ap, ◌∙◌}
use Rattle.pair_rules.proofs.First.{told-number}
use Rattle.board.proofs.makers.hk_two_explain.Goals as goal

pub returns-in-Ok : goal.returns-in-Ok
returns-in-Ok c =
    let e = c.in-Ok.ensures in
    record { number = ap (λ r. r.number) e ∙ told-number c.args.full.now c.args.high.now c.args.serial.now; about = ap (λ r. r.block) e; broken = ap (λ r. r.rule) e; lies = ap (λ r. r.place) e }

pub returns-in-Err : goal.returns-in-Err
returns-in-Err c =
    let e = c.in-Err.ensures in
    record { number = c.number.ensures ∙ ap (λ r. r.number) e ∙ told-number c.args.full.now c.args.high.now c.args.serial.now; about = c.number_of_block.ensures ∙ ap (λ r. r.block) e; broken = ap (λ r. r.rule) e; lies = ap (λ r. r.place) e }
