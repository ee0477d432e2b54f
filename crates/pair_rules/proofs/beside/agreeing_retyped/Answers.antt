-- `pair_rules::beside::agreeing_retyped` meets its contract: the first two bytes by themselves, and then the others. No axiom.
use Rattle.octets.proofs.Vocabulary.{◌∙◌, ◌<◌, ◌≤◌, [], ◌∷◌, drop, length-drop, arith}
use Rattle.octets.specs.Octets.{byte}
use Rattle.pair_rules.specs.Pair.{agreeing}
use Rattle.pair_rules.proofs.Agreeing.{agreeing-short, start-differs, start-agrees}
use Rattle.pair_rules.proofs.beside.agreeing_retyped.Goals as goal

pub returns-then-same-lt2 : goal.returns-then-same-lt2
returns-then-same-lt2 c =
    let mine = c.args.mine.now in
    let theirs = c.args.theirs.now in
    let same = rw c.peek.ensures at c.agreeing-same.ensures in
    let few : agreeing mine (byte theirs 0 ∷ 7 ∷ []) < 2 = rw same at c.if-same-lt2.true in
    same ∙ start-differs (byte theirs 0) 7 (drop 2 theirs) mine few

pub overflow_add-result : goal.overflow_add-result
overflow_add-result c =
    let mine = c.args.mine.now in
    let s = agreeing-short (drop 2 mine) (drop 2 c.args.theirs.now) in
    let l = length-drop 2 mine in
    omega (arith, s, l, rw (c.tail-2.ensures, c.tail.ensures) at c.agreeing.ensures)

pub returns : goal.returns
returns c =
    let mine = c.args.mine.now in
    let theirs = c.args.theirs.now in
    let same = rw c.peek.ensures at c.agreeing-same.ensures in
    let both : 2 ≤ agreeing mine (byte theirs 0 ∷ 7 ∷ []) = rw same at c.if-same-lt2.false in
    rw (c.agreeing.ensures, c.tail-2.ensures, c.tail.ensures) (start-agrees (byte theirs 0) 7 (drop 2 theirs) mine both)
