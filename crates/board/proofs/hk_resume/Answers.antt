-- `board::hk_resume` meets its contract: it is told. No axiom.
use Rattle.board.proofs.hk_resume.Goals as goal

pub returns : goal.returns
returns c = c.tell.ensures
