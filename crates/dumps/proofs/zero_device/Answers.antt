-- `dumps::zero_device` meets its contract: three places are blanked. No axiom.
use Rattle.octets.proofs.Vocabulary.{refl}
use Rattle.dumps.specs.Dump.{blanked}
use Rattle.dumps.proofs.zero_device.Goals as goal

pub returns : goal.returns
unfolding blanked
returns c = rw (c.blank-3.ensures, c.blank-2.ensures, c.blank.ensures) refl
