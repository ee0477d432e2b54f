-- `board::hk_halt` meets its contract: it is told. No axiom.
use Rattle.board.proofs.hk_halt.Goals as goal

pub returns : goal.returns
returns c = c.tell.ensures
