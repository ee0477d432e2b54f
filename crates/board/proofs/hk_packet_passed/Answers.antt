-- `board::hk_packet_passed` meets its contract: it is told. No axiom.
use Rattle.board.proofs.hk_packet_passed.Goals as goal

pub returns : goal.returns
returns c = c.tell.ensures
