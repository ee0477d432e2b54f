-- `rules::languages::in_every_language` meets its contract: the table is right for the languages passed. No axiom.
use Rattle.octets.proofs.Vocabulary.{sym, ap, ◌∙◌, ℕ, ◌+◌, ◌*◌, Bool, ◌&&◌, and-true, and_assoc, drop}
use Rattle.octets.specs.Sentences.{every, any}
use Rattle.octets.specs.Table.{has}
use Rattle.octets.proofs.Tables.{has_all}
use Rattle.sets.specs.Pieces.{pieces_in, pieces_of}
use Rattle.sets.specs.Strings.{words, is_string}
use Rattle.sets.proofs.Entries.{every-cons, every-empty}
use Rattle.rules.proofs.Entries.{words-next, words-none}
use Rattle.rules.proofs.languages.in_every_language.Goals as goal

pub loop-i-init : goal.loop-i-init
loop-i-init c = λ j h. rw (has_all j h)

pub loop-i-preserved : goal.loop-i-preserved
loop-i-preserved c =
    let a = c.args in
    let l = c.loop-i in
    λ j h. let f : ℕ → Bool = λ w. any (is_string j w) (pieces_of 3 (pieces_in a.set.now)) in
    l.invariant j h
    ∙ ap (λ ls. has l.table j && every f ls) (words-next a.languages.now l.i c.loop-i-test.true)
    ∙ rw
    (every-cons, ← c.word.ensures, c.in_language-table.ensures j h)
    (sym (and_assoc (has l.table j) (f c.word.result) (every f (words (drop (2 * (l.i + 1)) a.languages.now)))))

pub returns : goal.returns
returns c =
    let a = c.args in
    let l = c.loop-i in
    λ j h. let f : ℕ → Bool = λ w. any (is_string j w) (pieces_of 3 (pieces_in a.set.now)) in
    sym (l.invariant j h ∙ ap (λ ls. has l.table j && every f ls) (words-none a.languages.now l.i c.loop-i-test.false) ∙ rw (every-empty, and-true))
