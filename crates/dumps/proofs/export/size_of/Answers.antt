-- `dumps::export::size_of` meets its contract: what is counted and what is left is all. No axiom.
use Rattle.octets.proofs.Vocabulary.{ap, ◌∙◌, arith}
use Rattle.sets.proofs.Entries.{next-entry, no-entry}
use Rattle.dumps.specs.Export.{shares}
use Rattle.dumps.proofs.Together.{shares-more, shares-none}
use Rattle.dumps.proofs.export.size_of.Goals as goal

pub loop-i-preserved : goal.loop-i-preserved
loop-i-preserved c =
    let l = c.loop-i in
    let t = next-entry c.args.set.now _ c.peek-count.ensures _ c.loop-i-test.true _ c.entry_at.ensures in
    (omega (arith, c.share_of-size.ensures.1), omega (arith, l.invariant.1, c.share_of-size.ensures.0, ap shares t ∙ shares-more _ _))

pub returns : goal.returns
returns c = omega (arith, c.loop-i.invariant.1, ap shares (no-entry c.args.set.now _ c.peek-count.ensures _ c.loop-i-test.false) ∙ shares-none)
