-- `board::happen` meets its contract: what was learned and sought is true, where the set opens. No axiom.
use Rattle.octets.proofs.Vocabulary.{◌≡◌, true, arith}
use Rattle.records.specs.Change.{record_in}
use Rattle.steps.specs.Gathering.{view_in}
use Rattle.steps.specs.Selected.{Told}
use Rattle.steps.proofs.Telling.{told_in}
use Rattle.board.proofs.happen.Goals as goal

pub seek-sought-requires : goal.seek-sought-requires
seek-sought-requires c = c.requires

pub learn-known-requires : goal.learn-known-requires
learn-known-requires c = c.requires

pub react-requires : goal.react-requires
react-requires c =
    let a = c.args in
    let v = view_in a.paired a.set.now a.serial.now in
    let told : a.accepted ≡ true → Told v a.paired (record_in a.image.now) a.what c.learn-known.result c.seek-sought.result = λ z.
    told_in a.paired a.set.now a.serial.now (record_in a.image.now) a.what (λ i. omega (arith, c.type_inv.set i)) (c.requires z) (c.learn-known.ensures z) (c.seek-sought.ensures z a.paired)
    in
    λ z. (v, told z)

pub returns : goal.returns
returns c =
    let a = c.args in
    let v = view_in a.paired a.set.now a.serial.now in
    let told : a.accepted ≡ true → Told v a.paired (record_in a.image.now) a.what c.learn-known.result c.seek-sought.result = λ z.
    told_in a.paired a.set.now a.serial.now (record_in a.image.now) a.what (λ i. omega (arith, c.type_inv.set i)) (c.requires z) (c.learn-known.ensures z) (c.seek-sought.ensures z a.paired)
    in
    record { answer = c.react.ensures.answer v told; image = c.react.ensures.image v told }
