-- `rules::frame::contents_fault` meets its contract. No axiom.
use Rattle.octets.proofs.Vocabulary.{◌≡◌, ◌+◌, ◌*◌, ◌≤◌, true}
use Rattle.sets.proofs.Entries.{rest}
use Rattle.rules.specs.After.{after, first_of, is_first, last_of}
use Rattle.sets.specs.Contents.{total, bodies_at, entries}
use Rattle.rules.specs.Frame.{contents_asked, no_entry}
use Rattle.rules.proofs.frame.contents_fault.Given as goal

abbrev pub invariant-loop-i : goal.invariant-loop-i
invariant-loop-i l =
    (l.start ≤ 2044 + 65535 * l.i)
    × (first_of (contents_asked l.limits (total l.set) 4 true no_entry (bodies_at l.set) (entries l.set)) ≡ after l.found (contents_asked l.limits (total l.set) (4 + 8 * l.i) (is_first l.last) (last_of l.last) l.start (rest l.set l.i)))
