-- `pair_rules::beside::agreeing` meets its contract. No axiom.
use Rattle.pair_rules.proofs.Agreeing.{agreeing-position}
use Rattle.pair_rules.proofs.beside.agreeing.Goals as goal

pub returns : goal.returns
returns c = rw (c.unwrap_or.ensures, c.first_difference.ensures, c.min.ensures) (agreeing-position c.args.a.now c.args.b.now)
