-- `board::hk_suspend` meets its contract: it is told. No axiom.
use Rattle.board.proofs.hk_suspend.Goals as goal

pub returns : goal.returns
returns c = c.tell.ensures
