-- `descriptors::survey::moved` meets its contract: the bits of the interfaces passed are told. No axiom.
use Rattle.octets.proofs.Vocabulary.{eq-eqb, ne_eqb}
use Rattle.descriptors.proofs.Alternates.{moved_here, moved-not}
use Rattle.descriptors.proofs.survey.moved.Goals as goal
use Rattle.descriptors.proofs.survey.moved.Goals.{then-alternates-j-ne0, else-alternates-j-ne0}

pub loop-j-preserved : goal.loop-j-preserved
loop-j-preserved c = λ k. elim c.if-alternates-j-ne0.branch [
  | then-alternates-j-ne0 w ↦ rw (w.word-is, w.set_bit-word.ensures) (moved_here c.args.alternates c.loop-j.j c.loop-j.word c.loop-j.invariant (rw (ne_eqb _ 0 w.if-alternates-j-ne0.true)) k)
  | else-alternates-j-ne0 w ↦ rw w.word-is (moved-not c.args.alternates c.loop-j.j c.loop-j.word c.loop-j.invariant (rw (eq-eqb _ 0 w.if-alternates-j-ne0.false)) k)
]
