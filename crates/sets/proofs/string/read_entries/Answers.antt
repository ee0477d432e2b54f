-- `sets::string::read_entries` meets its contract. No axiom.
use Rattle.octets.proofs.Vocabulary.{sym, ◌∙◌}
use Rattle.sets.proofs.Pieces.{none_of}
use Rattle.sets.proofs.Strings.{with_none}
use Rattle.sets.proofs.string.read_entries.Goals as goal

pub returns : goal.returns
returns c =
    let g = sym c.good_languages.ensures ∙ c.if-good_languages.false in (
      rw (g, c.count_of.ensures) (none_of c.args.set.now 3),
      λ p j q. rw (g, c.name_none.ensures) (with_none j),
    )
