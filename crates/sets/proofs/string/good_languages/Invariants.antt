-- `sets::string::good_languages` meets its contract: the languages passed ascend from 0, and those left have to from the last. No axiom.
use Rattle.octets.proofs.Vocabulary.{◌≡◌, ◌-◌, ◌≤◌, ◌∷◌, length, drop, ltb}
use Rattle.octets.specs.Sentences.{neighbours}
use Rattle.sets.specs.Strings.{words, good_languages}
use Rattle.sets.proofs.string.good_languages.Given as goal

abbrev pub invariant-loop-at : goal.invariant-loop-at
invariant-loop-at l = (l.at ≤ 13) × (good_languages (words (drop 2 l.body)) ≡ neighbours ltb (l.last ∷ words (drop l.at l.body)))

abbrev pub decreases-loop-at : goal.decreases-loop-at
decreases-loop-at l = length l.body - l.at
