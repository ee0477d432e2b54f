-- `sets::opening::last_groups` meets its contract: group after group, behind the first three. No axiom.
use Rattle.octets.proofs.Vocabulary.{sym, ◌∙◌, add-sub_cancel_left, not-true, not-false}
use Rattle.sets.proofs.Opened.{fourth-broken, fifth-broken, serial-decides, strings-decide}
use Rattle.sets.proofs.opening.last_groups.Goals as goal

pub returns-then-not-configurations : goal.returns-then-not-configurations
returns-then-not-configurations c = λ limits b g. fourth-broken limits c.args.set.now c.args.serial.now b (sym g ∙ not-true _ c.if-not-configurations.true)

pub returns-then-not-configurations-device_refers : goal.returns-then-not-configurations-device_refers
returns-then-not-configurations-device_refers c = λ limits b g.
    let a = c.args in
    let told = not-false _ c.if-not-configurations.false in
    let strings = strings-decide a.set.now a.names.now a.good a.configurations a.device c.requires (λ k. (c.type_inv.set k).fits) told in
    fifth-broken limits a.set.now a.serial.now b (sym g ∙ told)
    (sym strings ∙ rw add-sub_cancel_left at (rw c.device_refers.ensures at c.if-not-configurations-device_refers.true))

pub returns-then-not-good_serial : goal.returns-then-not-good_serial
returns-then-not-good_serial c = λ limits b g.
    let a = c.args in
    serial-decides a.set.now a.names.now a.good a.configurations a.device c.requires (λ k. (c.type_inv.set k).fits) (not-false _ c.if-not-configurations.false) limits a.serial.now b g
    (rw add-sub_cancel_left at (rw c.device_refers.ensures at c.if-not-configurations-device_refers.false))
    (sym c.if-not-good_serial.true ∙ rw add-sub_cancel_left at (rw c.peek.ensures at c.good_serial.ensures))

pub returns : goal.returns
returns c = λ limits b g.
    let a = c.args in
    serial-decides a.set.now a.names.now a.good a.configurations a.device c.requires (λ k. (c.type_inv.set k).fits) (not-false _ c.if-not-configurations.false) limits a.serial.now b g
    (rw add-sub_cancel_left at (rw c.device_refers.ensures at c.if-not-configurations-device_refers.false))
    (sym c.if-not-good_serial.false ∙ rw add-sub_cancel_left at (rw c.peek.ensures at c.good_serial.ensures))
