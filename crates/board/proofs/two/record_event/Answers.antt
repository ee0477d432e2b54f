-- `board::two::record_event` meets its contract: the record by its image. No axiom.
use Rattle.records.proofs.Image.{device-image}
use Rattle.board.proofs.two.record_event.Goals as goal

pub returns : goal.returns
returns c = rw c.keep.ensures (rw (c.store.ensures.written, device-image c.args.device.now c.store.ensures.sized) at c.image_event-number.ensures)
