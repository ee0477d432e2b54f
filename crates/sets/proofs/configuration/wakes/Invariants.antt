-- `sets::configuration::wakes` meets its contract. Before the i-th entry there is none such. No axiom.
use Rattle.octets.proofs.Vocabulary.{◌≡◌, map}
use Rattle.octets.specs.Sentences.{any}
use Rattle.sets.specs.Contents.{body_of, bodies}
use Rattle.sets.specs.Found.{can_wake}
use Rattle.sets.proofs.Entries.{rest_of}
use Rattle.sets.proofs.configuration.wakes.Given as goal

abbrev pub invariant-loop-i : goal.invariant-loop-i
invariant-loop-i l = any can_wake (bodies 2 l.set) ≡ any can_wake (map (body_of l.set) (rest_of 2 l.set l.i))
