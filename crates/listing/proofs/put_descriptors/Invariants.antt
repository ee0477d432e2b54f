-- `listing::put_descriptors` meets its contract: the lines of the descriptors ahead are left. No axiom.
use Rattle.octets.proofs.Vocabulary.{◌-◌, length}
use Rattle.descriptors.specs.Walk.{stand_in, collected}
use Rattle.descriptors.proofs.Ahead.{Place}
use Rattle.listing.specs.Written.{telling, descriptor_lines}
use Rattle.buffers.proofs.Written.{Going}
use Rattle.listing.proofs.put_descriptors.Given as goal

abbrev pub invariant-loop-from : goal.invariant-loop-from
invariant-loop-from l = Place l.body l.from × Going l.initial.w (descriptor_lines l.body) l.w (collected telling l.body (stand_in l.last) l.from)

abbrev pub decreases-loop-from : goal.decreases-loop-from
decreases-loop-from l = length l.body - l.from
