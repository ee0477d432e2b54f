-- `sets::string::first_language` meets its contract: the first word behind string 0's head. No axiom.
use Rattle.octets.proofs.Vocabulary.{sym, ap, ◌∙◌, ℕ, List, get_or}
use Rattle.sets.proofs.Strings.{words_more, words-end}
use Rattle.sets.proofs.string.first_language.Goals as goal

pub returns-then-zero-gt3 : goal.returns-then-zero-gt3
returns-then-zero-gt3 c =
    let zero = c.string_zero-zero in
    c.word.ensures ∙ sym (ap (λ (ls : List ℕ). get_or ls 0 0) (sym zero.ensures ∙ words_more zero.result.now 2 c.if-zero-gt3.true))

pub returns : goal.returns
returns c =
    let zero = c.string_zero-zero in
    sym (ap (λ (ls : List ℕ). get_or ls 0 0) (sym zero.ensures ∙ words-end zero.result.now 2 c.if-zero-gt3.false))
