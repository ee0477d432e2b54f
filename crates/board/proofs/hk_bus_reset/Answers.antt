-- `board::hk_bus_reset` meets its contract: it is told. No axiom.
use Rattle.board.proofs.hk_bus_reset.Goals as goal

pub returns : goal.returns
returns c = c.tell.ensures
