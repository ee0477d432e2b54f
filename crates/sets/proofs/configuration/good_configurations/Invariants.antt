-- `sets::configuration::good_configurations` meets its contract: what is asked of all configurations is asked of those left, until so many are passed. No axiom.
use Rattle.octets.proofs.Vocabulary.{◌≡◌, ◌+◌, ◌-◌, ◌≤◌, map, ◌&&◌, length}
use Rattle.octets.specs.Sentences.{every}
use Rattle.descriptors.specs.Check.{configuration_refers}
use Rattle.sets.specs.Contents.{count, body_of, bodies, entries_of}
use Rattle.sets.specs.Pieces.{piece_for, pieces_in}
use Rattle.sets.specs.Opening.{good_configurations}
use Rattle.sets.proofs.Configurations.{good_from}
use Rattle.sets.proofs.Entries.{rest_of}
use Rattle.sets.proofs.configuration.good_configurations.Given as goal

abbrev pub invariant-loop-index : goal.invariant-loop-index
invariant-loop-index l =
    (l.index ≤ l.i) × (length l.seen ≡ 8) × (good_configurations l.limits (pieces_in l.set) ≡ good_from l.limits l.index l.seen (map (piece_for l.set) (rest_of 2 l.set l.i)))
    × (every (configuration_refers l.names) (bodies 2 l.set) ≡ (l.refers && every (configuration_refers l.names) (map (body_of l.set) (rest_of 2 l.set l.i))))
    × (length (entries_of 2 l.set) ≡ l.index + length (rest_of 2 l.set l.i))

abbrev pub decreases-loop-index : goal.decreases-loop-index
decreases-loop-index l = count l.set - l.i
