-- `board::hk_status_end` meets its contract: it is told. No axiom.
use Rattle.board.proofs.hk_status_end.Goals as goal

pub returns : goal.returns
returns c = c.tell.ensures
