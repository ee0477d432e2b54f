-- `listing::put_configurations` meets its contract: the lines of the configurations that are left. No axiom.
use Rattle.octets.proofs.Vocabulary.{◌≡◌, flat_map, true}
use Rattle.octets.specs.Sentences.{every}
use Rattle.descriptors.specs.declared.limits.Limits.{Limits}
use Rattle.descriptors.specs.Configuration.{good_configuration}
use Rattle.sets.specs.Contents.{bodies}
use Rattle.listing.specs.Listing.{configuration_lines}
use Rattle.buffers.proofs.Written.{Going}
use Rattle.listing.proofs.Lines.{bodies_from}
use Rattle.listing.proofs.put_configurations.Given as goal

abbrev pub invariant-loop-i : goal.invariant-loop-i
invariant-loop-i l =
    ((limits : Limits) × (every (good_configuration limits) (bodies_from l.set l.i) ≡ true)) × Going l.initial.w (flat_map configuration_lines (bodies 2 l.set)) l.w (flat_map configuration_lines (bodies_from l.set l.i))
