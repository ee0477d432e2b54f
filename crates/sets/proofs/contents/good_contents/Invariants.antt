-- `sets::contents::good_contents` meets its contract: the entries passed are good and counted, and what is asked of all is asked of those left. No axiom.
use Rattle.sets.proofs.Entries.{Outlined}
use Rattle.sets.proofs.contents.good_contents.Given as goal

abbrev pub invariant-loop-i : goal.invariant-loop-i
invariant-loop-i l = Outlined l.limits l.set l.start l.last l.devices l.configurations l.i
