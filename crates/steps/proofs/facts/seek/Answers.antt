-- `steps::facts::seek` meets its contract: one by one. No axiom.
use Rattle.steps.proofs.Telling.{serial_short}
use Rattle.steps.proofs.facts.seek.Goals as goal

pub locate-requires : goal.locate-requires
locate-requires c =
    serial_short c.args.set.now c.args.serial.now (c.requires c.if-not-accepted.false)

pub returns : goal.returns
returns c = λ z paired.
    let asked = c.question_of-question.ensures in
    record { configuration = rw asked at c.has_asked.ensures; located = rw asked at (c.locate.ensures paired) }
