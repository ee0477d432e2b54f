-- `pairs::agreement::is_retyped` meets its contract. No axiom.
use Rattle.pairs.proofs.Same.{same-retyped}
use Rattle.pairs.proofs.agreement.is_retyped.Goals as goal

pub returns : goal.returns
returns c =
    let a = c.args in
    rw (c.same.ensures, c.behind_two-2.ensures, c.behind_two.ensures, c.peek.ensures, c.peek-2.ensures, c.peek-3.ensures)
    (same-retyped a.mine.now a.theirs.now)
