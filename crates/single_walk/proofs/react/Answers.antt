-- `single_walk::react` meets its contract: the one set opens by the row of full speed. No axiom.
use Rattle.octets.proofs.Vocabulary.{◌≡◌, refl, sym, ◌∙◌, true, false, arith}
use Rattle.descriptors.specs.Limits.{full_speed}
use Rattle.sets.specs.Opening.{lent, opening}
use Rattle.sets.specs.View.{accepted}
use Rattle.records.specs.Change.{record_in}
use Rattle.steps.specs.Gathering.{view_in}
use Rattle.steps.specs.Selected.{Told}
use Rattle.steps.proofs.Telling.{told_in}
use Rattle.single_walk.proofs.Opened.{accepted-told, opened-zero, known-told}
use Rattle.single_walk.proofs.react.Goals as goal

pub open_set-opened-requires : goal.open_set-opened-requires
open_set-opened-requires c = rw c.full_speed.ensures (λ body. refl)

pub seek-sought-requires : goal.seek-sought-requires
seek-sought-requires c = λ ok.
    let o = c.open_set-opened in
    (full_speed, opened-zero _ _ _ _ _ o.result (rw c.full_speed.ensures at o.ensures) (sym c.is_ok-accepted.ensures.value ∙ ok))

pub react-requires : goal.react-requires
react-requires c =
    let a = c.args in
    let o = c.open_set-opened in
    let tells = rw c.full_speed.ensures at o.ensures in
    λ ok.
    let opens = sym c.is_ok-accepted.ensures.value ∙ ok in
    let zero : opening full_speed (lent a.set.now a.serial.now) ≡ 0 = opened-zero _ _ _ _ _ o.result tells opens in (
      view_in false a.set.now a.serial.now,
      told_in false a.set.now a.serial.now (record_in a.image.now) a.event (λ i. omega (arith, c.type_inv.set i)) (full_speed, zero)
          (rw (c.asked_of-asked.ensures, c.read-device.ensures) at (known-told _ _ _ _ _ o.result tells opens c.known_in-known.result c.known_in-known.ensures)) (c.seek-sought.ensures ok false),
    )

pub returns : goal.returns
returns c =
    let a = c.args in
    let o = c.open_set-opened in
    let tells = rw c.full_speed.ensures at o.ensures in
    let told : c.is_ok-accepted.result ≡ true → Told (view_in false a.set.now a.serial.now) false (record_in a.image.now) a.event c.known_in-known.result c.seek-sought.result = λ ok.
    let opens = sym c.is_ok-accepted.ensures.value ∙ ok in
    let zero : opening full_speed (lent a.set.now a.serial.now) ≡ 0 = opened-zero _ _ _ _ _ o.result tells opens in
    told_in false a.set.now a.serial.now (record_in a.image.now) a.event (λ i. omega (arith, c.type_inv.set i)) (full_speed, zero)
    (rw (c.asked_of-asked.ensures, c.read-device.ensures) at (known-told _ _ _ _ _ o.result tells opens c.known_in-known.result c.known_in-known.ensures)) (c.seek-sought.ensures ok false)
    in
    let v = view_in false a.set.now a.serial.now in
    let same : c.is_ok-accepted.result ≡ accepted (lent a.set.now a.serial.now) = c.is_ok-accepted.ensures.value ∙ accepted-told _ _ _ _ _ o.result tells in
    record { answer = rw same at (c.react.ensures.answer v told); image = rw same at (c.react.ensures.image v told) }
