-- `sets::contents::entry_of` meets its contract: as many are to be passed as the k-th has before it. No axiom.
use Rattle.octets.proofs.Vocabulary.{◌≡◌, get_elem?}
use Rattle.sets.specs.Contents.{entries_of}
use Rattle.sets.proofs.Entries.{rest_of}
use Rattle.sets.proofs.contents.entry_of.Given as goal

abbrev pub invariant-loop-i : goal.invariant-loop-i
invariant-loop-i l = get_elem? (entries_of l.kind l.set) l.k ≡ get_elem? (rest_of l.kind l.set l.i) l.left
