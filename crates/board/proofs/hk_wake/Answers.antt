-- `board::hk_wake` meets its contract: it is told. No axiom.
use Rattle.board.proofs.hk_wake.Goals as goal

pub returns : goal.returns
returns c = c.tell.ensures
