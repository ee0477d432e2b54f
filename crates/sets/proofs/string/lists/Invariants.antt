-- `sets::string::lists` meets its contract: none before this place is the language. No axiom.
use Rattle.octets.proofs.Vocabulary.{◌≡◌, ◌+◌, ◌-◌, ◌≤◌, length, drop}
use Rattle.octets.specs.Sentences.{member}
use Rattle.sets.specs.Strings.{words}
use Rattle.sets.proofs.string.lists.Given as goal

abbrev pub invariant-loop-at : goal.invariant-loop-at
invariant-loop-at l = (l.at ≤ length l.body + 2) × (member l.language (words (drop 2 l.body)) ≡ member l.language (words (drop l.at l.body)))

abbrev pub decreases-loop-at : goal.decreases-loop-at
decreases-loop-at l = length l.body - l.at
