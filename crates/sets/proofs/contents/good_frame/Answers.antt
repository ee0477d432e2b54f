-- `sets::contents::good_frame` meets its contract: of a set too short for a frame no more is asked. No axiom.
use Rattle.octets.proofs.Vocabulary.{length, lt-leb, le-leb}
use Rattle.sets.specs.Contents.{good_frame}
use Rattle.sets.proofs.contents.good_frame.Goals as goal

pub returns-then-set-lt4 : goal.returns-then-set-lt4
unfolding good_frame
returns-then-set-lt4 c = rw (lt-leb 4 (length c.args.set.now) c.if-set-lt4.true)

pub returns : goal.returns
unfolding good_frame
returns c =
    rw (le-leb 4 (length c.args.set.now) c.if-set-lt4.false, c.word-total.ensures, c.peek-count.ensures, c.peek.ensures)
