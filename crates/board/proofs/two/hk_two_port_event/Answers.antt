-- `board::two::hk_two_port_event` meets its contract: the record at the port is changed where it stands. No axiom.
use Rattle.sets.specs.Opening.{lent_two}
use Rattle.board.specs.Exports.{spot_of, spots_two, numbered}
use Rattle.board.proofs.PortAnswers.{present}
use Rattle.board.proofs.two.hk_two_port_event.Goals as goal

pub returns : goal.returns
returns c =
    let a = c.args in
    present (lent_two a.full.now a.high.now a.serial.now) (spots_two (spot_of a.full.ref_ptr) (spot_of a.high.ref_ptr) (spot_of a.serial.ref_ptr)) a.row.now a.port (numbered a.kind a.value a.setup.now) _ c.if-row-port.false (rw c.event_of-what.ensures at c.record_event.ensures)
