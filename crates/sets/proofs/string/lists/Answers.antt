-- `sets::string::lists` meets its contract: none before this place is the language. No axiom.
use Rattle.octets.proofs.Vocabulary.{sym, ap, ◌∙◌, eqb, arith, eq-eqb, ne_eqb}
use Rattle.octets.specs.Sentences.{member}
use Rattle.sets.proofs.Strings.{words_more, words-end}
use Rattle.sets.proofs.Entries.{any-cons, any-empty}
use Rattle.sets.proofs.string.lists.Goals as goal

pub returns-then-language-word : goal.returns-then-language-word
returns-then-language-word c =
    let a = c.args in
    sym
    (c.loop-at.invariant.1
    ∙ ap (member a.language) (words_more a.body.now c.loop-at.at c.loop-at-test.true)
    ∙ any-cons _ _ _
    ∙ rw (← c.word.ensures, eq-eqb _ _ c.if-language-word.true))

pub loop-at-preserved : goal.loop-at-preserved
loop-at-preserved c =
    let a = c.args in (
      omega arith,
      c.loop-at.invariant.1
          ∙ ap (member a.language) (words_more a.body.now c.loop-at.at c.loop-at-test.true)
          ∙ any-cons _ _ _
          ∙ rw (← c.word.ensures, ne_eqb _ _ c.if-language-word.false),
    )

pub returns : goal.returns
returns c =
    let a = c.args in
    sym (c.loop-at.invariant.1 ∙ ap (member a.language) (words-end a.body.now c.loop-at.at c.loop-at-test.false) ∙ any-empty (eqb a.language))
