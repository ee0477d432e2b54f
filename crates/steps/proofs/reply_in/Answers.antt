-- `steps::reply_in` meets its contract: 7 where the sets do not open; else the event on the image. No axiom.
use Rattle.octets.proofs.Vocabulary.{refl, sym, ap, ◌∙◌, Bool, arith}
use Rattle.records.specs.Image.{device_of}
use Rattle.records.specs.Change.{record_in}
use Rattle.steps.specs.Gathering.{view_in, step_in}
use Rattle.steps.proofs.Telling.{told_in}
use Rattle.steps.proofs.reply_in.Goals as goal

pub react-requires : goal.react-requires
react-requires c = λ z.
    let a = c.args in
    let known = c.type_inv.set in
    (view_in a.paired a.set.now a.serial.now, told_in a.paired a.set.now a.serial.now (record_in a.image.now) a.event (λ i. omega (arith, known i)) (c.requires c.if-not-accepted.false) (c.learn-known.ensures refl) (c.seek-sought.ensures refl a.paired))

pub returns : goal.returns
returns c =
    let a = c.args in
    let v = view_in a.paired a.set.now a.serial.now in
    let d = device_of a.image.now in
    let known = c.type_inv.set in
    let opens = c.if-not-accepted.false in
    let told = told_in a.paired a.set.now a.serial.now (record_in a.image.now) a.event (λ i. omega (arith, known i)) (c.requires opens) (c.learn-known.ensures refl) (c.seek-sought.ensures refl a.paired) in
    c.react.ensures.device v (λ _. told) (omega arith) ∙ ap (λ (x : Bool). step_in x v d a.event) (sym opens)
