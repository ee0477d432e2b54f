-- `board::hk_power` meets its contract: it is told. No axiom.
use Rattle.board.proofs.hk_power.Goals as goal

pub returns : goal.returns
returns c = c.tell.ensures
