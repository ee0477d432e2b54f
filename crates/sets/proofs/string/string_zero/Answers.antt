-- `sets::string::string_zero` meets its contract. No axiom.
use Rattle.octets.proofs.Vocabulary.{sym, ◌∙◌}
use Rattle.sets.specs.Strings.{words}
use Rattle.sets.proofs.Strings.{zero-some, zero-none, languages-of}
use Rattle.sets.proofs.string.string_zero.Goals as goal

pub returns-in-Some : goal.returns-in-Some
returns-in-Some c =
    let set = c.args.set.now in
    rw c.body_of.ensures (sym (languages-of set (zero-some set (sym c.find_entry.ensures ∙ c.in-Some.is))))

pub returns-in-None : goal.returns-in-None
unfolding words
returns-in-None c =
    let set = c.args.set.now in
    sym (languages-of set (zero-none set (sym c.find_entry.ensures ∙ c.in-None.is)))
