-- `rules::string::string_zero` meets its contract. No axiom.
use Rattle.octets.proofs.Vocabulary.{◌≡◌, refl, sym, ◌∙◌, []}
use Rattle.sets.specs.Strings.{words}
use Rattle.sets.proofs.Strings.{zero-some, zero-none, languages-of}
use Rattle.rules.proofs.string.string_zero.Goals as goal
use Rattle.rules.proofs.string.string_zero.Goals.{in-Some, in-None}

no_words : words [] ≡ []
unfolding words
no_words = refl

pub returns : goal.returns
returns c =
    let set = c.args.set.now in
    elim c.match-find_entry.branch [
      | in-Some w ↦ rw w.result-is (rw w.of.ensures.bytes (sym (languages-of set (zero-some set (sym c.find_entry.ensures ∙ w.in-Some.is)))))
      | in-None w ↦ rw w.result-is (no_words ∙ sym (languages-of set (zero-none set (sym c.find_entry.ensures ∙ w.in-None.is))))
    ]
