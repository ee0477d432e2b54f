-- `rules::string::languages_fault` meets its contract. No axiom.
use Rattle.octets.proofs.Vocabulary.{◌≡◌, ◌*◌, drop}
use Rattle.sets.specs.Strings.{words}
use Rattle.rules.specs.Strings.{languages_from}
use Rattle.rules.specs.After.{after, first_of}
use Rattle.rules.proofs.string.languages_fault.Given as goal

abbrev pub invariant-loop-i : goal.invariant-loop-i
invariant-loop-i l =
    first_of (languages_from l.start 2 0 (words (drop 2 l.zero.bytes.now))) ≡ after l.found (languages_from l.start (2 * l.i) l.last (words (drop (2 * l.i) l.zero.bytes.now)))
