-- `pipes::hearing::move_on` meets its contract: by whether the pipe record fits. No axiom.
use Rattle.octets.proofs.Vocabulary.{sym, ◌∙◌}
use Rattle.pipes.proofs.Fitting.{received-fits}
use Rattle.pipes.proofs.hearing.move_on.Goals as goal

pub turned-requires : goal.turned-requires
turned-requires c = let a = c.args in rw c.read.ensures (received-fits a.lengths a.pipe.now (sym c.fits_in.ensures ∙ c.if-not-fits_in.false))
