-- `sets::string::read_listed` meets its contract: one step of the pass after another. No axiom.
use Rattle.octets.proofs.Vocabulary.{◌≡◌, sym, ◌∙◌, ◌+◌, [], ◌∷◌, false≢true, drop, rules}
use Rattle.sets.specs.Strings.{words}
use Rattle.sets.specs.Pieces.{piece_for}
use Rattle.sets.specs.Checks.{good_string_piece}
use Rattle.sets.proofs.Entries.{rest, next-entry, no-entry}
use Rattle.sets.proofs.Passing.{begins, listed_here, moves, other, refused, skips, takes, all-good, names-read}
use Rattle.sets.proofs.string.read_listed.Goals.{After-entry_whole-e, After-good_string_entry, After-loop-i}
use Rattle.sets.proofs.string.read_listed.Goals as goal

-- the next entry, what is asked of a string, and that no entry is left
turn : (c : After-entry_whole-e) → rest c.args.set.now c.loop-i.i ≡ c.entry_whole-e.result ∷ rest c.args.set.now (c.loop-i.i + 1)
turn c = next-entry c.args.set.now c.peek-count.result c.peek-count.ensures c.loop-i.i c.loop-i-test.true c.entry_whole-e.result c.entry_whole-e.ensures

verdict : (c : After-good_string_entry) → good_string_piece (words (drop 2 c.args.languages.now)) c.args.serial (piece_for c.args.set.now c.entry_whole-e.result) ≡ c.good_string_entry.result
verdict c = rw (← c.body_of.ensures, ← c.lists_beside-listed.ensures) (sym c.good_string_entry.ensures)

ends : (c : After-loop-i) → rest c.args.set.now c.loop-i.i ≡ []
ends c = no-entry c.args.set.now c.peek-count.result c.peek-count.ensures c.loop-i.i c.loop-i-test.false

pub loop-i-init : goal.loop-i-init
loop-i-init c = rw c.word-language.ensures (begins c.args.set.now c.args.languages.now c.args.serial c.requires.order c.requires.good)

pub loop-i-preserved-then-is_later : goal.loop-i-preserved-then-is_later
loop-i-preserved-then-is_later c =
    rw c.word-language-then-is_later.ensures
    (moves _ _ _ c.loop-i.invariant c.entry_whole-e.result _ (turn (goal.at.loop-i-preserved-then-is_later c).After-entry_whole-e) (sym c.is_later.ensures ∙ c.if-is_later.true))

pub lists_beside-listed-requires : goal.lists_beside-listed-requires
lists_beside-listed-requires c = listed_here _ _ _ c.loop-i.invariant

pub returns-then-not-good_string_entry : goal.returns-then-not-good_string_entry
returns-then-not-good_string_entry c =
    let at = goal.at.returns-then-not-good_string_entry c in (
      refused _ _ _ c.loop-i.invariant c.entry_whole-e.result (turn at.After-entry_whole-e) c.if-e-eq-STRING.true (verdict at.After-good_string_entry ∙ c.if-not-good_string_entry.true),
      λ p. absurd (false≢true p),
    )

pub loop-i-preserved-then-is_listed : goal.loop-i-preserved-then-is_listed
loop-i-preserved-then-is_listed c =
    let at = goal.at.loop-i-preserved-then-is_listed c in
    rw c.join.ensures
    (takes _ _ _ c.loop-i.invariant c.entry_whole-e.result (turn at.After-entry_whole-e) c.if-e-eq-STRING.true (sym c.is_later.ensures ∙ c.if-is_later.false)
    (verdict at.After-good_string_entry ∙ c.if-not-good_string_entry.false) (search rules) (sym c.is_listed.ensures ∙ c.if-is_listed.true))

pub loop-i-preserved-else-is_listed : goal.loop-i-preserved-else-is_listed
loop-i-preserved-else-is_listed c =
    let at = goal.at.loop-i-preserved-else-is_listed c in
    skips _ _ _ c.loop-i.invariant c.entry_whole-e.result (turn at.After-entry_whole-e) c.if-e-eq-STRING.true (sym c.is_later.ensures ∙ c.if-is_later.false)
    (verdict at.After-good_string_entry ∙ c.if-not-good_string_entry.false) (sym c.is_listed.ensures ∙ c.if-is_listed.false)

pub loop-i-preserved : goal.loop-i-preserved
loop-i-preserved c = other _ _ _ c.loop-i.invariant c.entry_whole-e.result (turn (goal.at.loop-i-preserved c).After-entry_whole-e) c.if-e-eq-STRING.false

pub returns : goal.returns
returns c =
    let l = c.loop-i in
    let at = goal.at.returns c in (
      all-good _ _ _ l.invariant (ends at.After-loop-i),
      λ p j q. rw c.close.ensures (names-read _ _ _ l.invariant (ends at.After-loop-i) (search rules) j q),
    )
