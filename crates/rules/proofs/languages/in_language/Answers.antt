-- `rules::languages::in_language` meets its contract. No axiom.
use Rattle.octets.proofs.Vocabulary.{sym, ◌∙◌, ℕ, ◌<◌, map, ◌&&◌, ◌||◌, and-false, or-false, rules}
use Rattle.octets.specs.Sentences.{any}
use Rattle.octets.specs.Table.{has}
use Rattle.octets.proofs.Tables.{with-long}
use Rattle.sets.specs.Pieces.{piece_for, pieces_of}
use Rattle.sets.specs.Strings.{is_string}
use Rattle.sets.proofs.Entries.{asked-next, asked-end, only-empty, any-empty}
use Rattle.sets.proofs.Strings.{entry_in, entry_past}
use Rattle.rules.proofs.languages.in_language.Goals.{then-is_listed, else-is_listed}
use Rattle.rules.proofs.languages.in_language.Goals as goal

pub loop-i-preserved : goal.loop-i-preserved
loop-i-preserved c =
    let a = c.args in
    let l = c.loop-i in
    let set = a.set.now in
    let e = c.entry_at-e in
    let turn = λ (j : ℕ) (h : j < 256). asked-next (λ es. has l.next j || (has a.table.now j && any (is_string j a.language) (pieces_of 3 (map (piece_for set) es)))) set _ c.peek-i-end.ensures l.i (l.invariant.1 j h) c.loop-i-test.true e.result e.ensures in
    elim c.if-is_listed.branch [
      | then-is_listed w ↦
          rw w.next-is (
            rw w.join.ensures (with-long l.next _ l.invariant.0),
            λ j h. turn j h ∙ entry_in a.table.now l.next a.language (piece_for set e.result) _ j l.invariant.0 (search rules) (sym c.is_listed.ensures ∙ w.if-is_listed.true) ∙ rw w.join.ensures,
          )
      | else-is_listed w ↦ rw w.next-is (l.invariant.0, λ j h. turn j h ∙ entry_past a.table.now l.next a.language (piece_for set e.result) _ j (sym c.is_listed.ensures ∙ w.if-is_listed.false))
    ]

pub returns : goal.returns
returns c =
    let a = c.args in
    let l = c.loop-i in
    λ j h. sym
    (asked-end (λ es. has l.next j || (has a.table.now j && any (is_string j a.language) (pieces_of 3 (map (piece_for a.set.now) es)))) a.set.now _ c.peek-i-end.ensures l.i (l.invariant.1 j h) c.loop-i-test.false
    ∙ rw (only-empty, any-empty, and-false, or-false))
