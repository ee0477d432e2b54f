-- `single_walk::react_two` meets its contract: the set in use of two that open. No axiom.
use Rattle.octets.proofs.Vocabulary.{◌≡◌, sym, ◌∙◌, true, eqb, arith}
use Rattle.sets.specs.Pair.{opening_two}
use Rattle.records.specs.Change.{record_in}
use Rattle.steps.specs.Gathering.{view_in}
use Rattle.steps.specs.Selected.{Told}
use Rattle.steps.proofs.Telling.{told_in}
use Rattle.single_walk.proofs.InUse.{openable, either-bytes}
use Rattle.single_walk.proofs.Opened.{accepted-told, opened-zero, known-told}
use Rattle.single_walk.proofs.react_two.Goals as goal

pub seek-sought-requires : goal.seek-sought-requires
seek-sought-requires c = λ ok.
    let a = c.args in
    let o = c.open_two-opened in
    rw c.in_use-set.ensures.bytes (openable a.full.now a.high.now a.serial.now a.speed (opened-zero _ _ _ _ _ o.result o.ensures (sym c.is_ok-accepted.ensures.value ∙ ok)))

pub react-requires : goal.react-requires
react-requires c =
    let a = c.args in
    let o = c.open_two-opened in
    let u = c.in_use-set in
    let full = c.type_inv.full in
    let high = c.type_inv.high in
    λ ok.
    let opens = sym c.is_ok-accepted.ensures.value ∙ ok in (
      view_in true u.result.now a.serial.now,
      told_in true u.result.now a.serial.now (record_in a.image.now) a.event
          (rw u.ensures.bytes (either-bytes (eqb a.speed 0) a.full.now a.high.now (λ i. omega (arith, full i)) (λ i. omega (arith, high i))))
          (rw u.ensures.bytes (openable a.full.now a.high.now a.serial.now a.speed (opened-zero _ _ _ _ _ o.result o.ensures opens)))
          (rw u.ensures.bytes (rw (c.asked_of-asked.ensures, c.read-device.ensures) at (known-told _ _ _ _ _ o.result o.ensures opens c.known_in-known.result c.known_in-known.ensures)))
          (c.seek-sought.ensures ok true),
    )

pub returns : goal.returns
returns c =
    let a = c.args in
    let o = c.open_two-opened in
    let u = c.in_use-set in
    let full = c.type_inv.full in
    let high = c.type_inv.high in
    let told : c.is_ok-accepted.result ≡ true → Told (view_in true u.result.now a.serial.now) true (record_in a.image.now) a.event c.known_in-known.result c.seek-sought.result = λ ok.
    let opens = sym c.is_ok-accepted.ensures.value ∙ ok in
    told_in true u.result.now a.serial.now (record_in a.image.now) a.event
    (rw u.ensures.bytes (either-bytes (eqb a.speed 0) a.full.now a.high.now (λ i. omega (arith, full i)) (λ i. omega (arith, high i))))
    (rw u.ensures.bytes (openable a.full.now a.high.now a.serial.now a.speed (opened-zero _ _ _ _ _ o.result o.ensures opens)))
    (rw u.ensures.bytes (rw (c.asked_of-asked.ensures, c.read-device.ensures) at (known-told _ _ _ _ _ o.result o.ensures opens c.known_in-known.result c.known_in-known.ensures)))
    (c.seek-sought.ensures ok true)
    in
    let v = view_in true u.result.now a.serial.now in
    let same : c.is_ok-accepted.result ≡ eqb (opening_two a.full.now a.high.now a.serial.now) 0 = c.is_ok-accepted.ensures.value ∙ accepted-told _ _ _ _ _ o.result o.ensures in
    record { answer = rw (u.ensures.bytes, same) at (c.react.ensures.answer v told); image = rw (u.ensures.bytes, same) at (c.react.ensures.image v told) }
