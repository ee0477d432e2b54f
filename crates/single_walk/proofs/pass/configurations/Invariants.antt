-- `single_walk::pass::configurations` meets its contract: what is asked of all configurations is asked of those left, and what is known is known before them. No axiom.
use Rattle.octets.proofs.Vocabulary.{◌≡◌, ◌≤◌, map, ◌&&◌, length}
use Rattle.octets.specs.Sentences.{every}
use Rattle.descriptors.specs.Check.{configuration_refers}
use Rattle.sets.specs.Contents.{body_of, bodies}
use Rattle.sets.specs.Pieces.{piece_for, pieces_in}
use Rattle.sets.specs.Opening.{good_configurations}
use Rattle.sets.proofs.Configurations.{good_from}
use Rattle.sets.proofs.Entries.{rest_of}
use Rattle.single_walk.proofs.Learning.{Learnt}
use Rattle.single_walk.proofs.pass.configurations.Given as goal

abbrev pub invariant-loop-i : goal.invariant-loop-i
invariant-loop-i l =
    (l.index ≤ l.i) × (length l.seen ≡ 8) × (good_configurations l.limits (pieces_in l.set) ≡ good_from l.limits l.index l.seen (map (piece_for l.set) (rest_of 2 l.set l.i)))
    × (every (configuration_refers l.names.table.now) (bodies 2 l.set) ≡ (l.refers && every (configuration_refers l.names.table.now) (map (body_of l.set) (rest_of 2 l.set l.i))))
    × Learnt l.set l.device.configuration l.device.alternates l.asked l.known (rest_of 2 l.set l.i)
