-- `sets::opening::opening` meets its contract: the groups before the configurations, these, and the groups after them. No axiom.
use Rattle.sets.proofs.Passing.{ordered}
use Rattle.sets.proofs.opening.opening.Goals as goal

pub read_strings-strings-requires : goal.read_strings-strings-requires
read_strings-strings-requires c = let b = c.in_ok-begun.ensures.ok in (ordered _ _ b.met.frame b.met.contents, b.bare)
