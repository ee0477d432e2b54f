-- `single_walk::read_strings` meets its contract: without a string a reference may be 0 alone; else string 0 lists the languages. No axiom.
use Rattle.sets.proofs.Strings.{bare-reads}
use Rattle.single_walk.proofs.read_strings.Goals as goal

pub returns-then-bare : goal.returns-then-bare
returns-then-bare c = rw c.name_none.ensures (bare-reads c.args.set.now (c.requires.1 c.if-bare.true))

pub read-requires : goal.read-requires
read-requires c = c.requires.0

pub returns : goal.returns
returns c = rw c.string_zero.ensures at c.read.ensures
