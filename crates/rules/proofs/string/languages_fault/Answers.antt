-- `rules::string::languages_fault` meets its contract. No axiom.
use Rattle.octets.proofs.Vocabulary.{◌≡◌, sym, ap, ◌∙◌, ◌+◌, ◌*◌, arith}
use Rattle.rules.specs.Strings.{languages_from}
use Rattle.rules.specs.After.{after}
use Rattle.rules.proofs.Entries.{words-next, words-none, languages-turn, languages-end}
use Rattle.rules.proofs.string.languages_fault.Goals as goal

pub loop-i-preserved : goal.loop-i-preserved
loop-i-preserved c =
    let l = c.loop-i in
    let a = c.args in
    let next : 2 * l.i + 2 ≡ 2 * (l.i + 1) = omega arith in
    l.invariant
    ∙ ap (λ ls. after l.found (languages_from a.start (2 * l.i) l.last ls)) (words-next a.zero.now.bytes.now l.i c.loop-i-test.true)
    ∙ languages-turn a.start (2 * l.i) l.last _ _ l.found
    ∙ rw (c.or-found.ensures, c.or.ensures, c.ask.ensures, c.ask-in-loop-i.ensures, c.word-language.ensures, next)

pub returns : goal.returns
returns c =
    let l = c.loop-i in
    let a = c.args in
    sym
    (l.invariant
    ∙ ap (λ ls. after l.found (languages_from a.start (2 * l.i) l.last ls)) (words-none a.zero.now.bytes.now l.i c.loop-i-test.false)
    ∙ languages-end a.start (2 * l.i) l.last l.found)
