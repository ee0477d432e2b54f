-- `sets::opening::read_strings` meets its contract: without a string a reference may be 0 alone; else string 0 lists the languages. No axiom.
use Rattle.sets.proofs.Strings.{bare-reads}
use Rattle.sets.proofs.opening.read_strings.Goals as goal

pub returns-then-bare : goal.returns-then-bare
returns-then-bare c = rw c.name_none.ensures (bare-reads c.args.set.now (c.requires.1 c.if-bare.true))
