-- `sets::string::good_languages` meets its contract: the languages passed ascend from 0, and those left have to from the last. No axiom.
use Rattle.octets.proofs.Vocabulary.{sym, ap, ◌∙◌, ◌∷◌, ltb, arith, le-ltb, lt-ltb}
use Rattle.octets.specs.Sentences.{neighbours}
use Rattle.octets.proofs.Sentences.{neighbours-cons}
use Rattle.sets.proofs.Strings.{words_more, words-end, languages-few, languages-many, languages-some, neighbours-one}
use Rattle.sets.proofs.string.good_languages.Goals as goal

pub returns-then-body-lt4 : goal.returns-then-body-lt4
returns-then-body-lt4 c = languages-few c.args.body.now c.if-body-lt4.true

pub returns-then-body-gt11 : goal.returns-then-body-gt11
returns-then-body-gt11 c = languages-many c.args.body.now c.if-body-gt11.true

pub loop-at-init : goal.loop-at-init
loop-at-init c = (omega arith, languages-some c.args.body.now c.if-body-lt4.false c.if-body-gt11.false)

pub returns-then-language-last : goal.returns-then-language-last
returns-then-language-last c =
    let body = c.args.body.now in
    sym
    (c.loop-at.invariant.1
    ∙ ap (λ ls. neighbours ltb (c.loop-at.last ∷ ls)) (words_more body c.loop-at.at c.loop-at-test.true)
    ∙ neighbours-cons ltb _ _ _
    ∙ rw (← c.word-language.ensures, le-ltb _ _ c.if-language-last.true))

pub loop-at-preserved : goal.loop-at-preserved
loop-at-preserved c =
    let body = c.args.body.now in (
      omega arith,
      c.loop-at.invariant.1
          ∙ ap (λ ls. neighbours ltb (c.loop-at.last ∷ ls)) (words_more body c.loop-at.at c.loop-at-test.true)
          ∙ neighbours-cons ltb _ _ _
          ∙ rw (← c.word-language.ensures, lt-ltb _ _ c.if-language-last.false),
    )

pub returns : goal.returns
returns c =
    let body = c.args.body.now in
    sym
    (c.loop-at.invariant.1
    ∙ ap (λ ls. neighbours ltb (c.loop-at.last ∷ ls)) (words-end body c.loop-at.at c.loop-at-test.false)
    ∙ neighbours-one ltb c.loop-at.last)
