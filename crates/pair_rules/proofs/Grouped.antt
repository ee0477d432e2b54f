-- Every rule of a set beside another carries number 24, and so one other than 0. No axiom.
use Rattle.octets.proofs.Vocabulary.{refl, ℕ, ◌+◌, List, [], ◌∷◌}
use Rattle.octets.specs.Sentences.{every}
use Rattle.sets.specs.declared.Entry.{Entry}
use Rattle.sets.specs.Contents.{is_kind, entries, entries_of}
use Rattle.sets.specs.Device.{device_body}
use Rattle.rules.proofs.Grouped.{Of, then, choice}
use Rattle.pair_rules.specs.Pair.{qualifier_entry_findings, beside_findings, later, mirrors_from, pair_findings}

qualifiers : (set device : List ℕ) (es : List Entry) → Of 24 (qualifier_entry_findings set device es)
unfolding every
qualifiers set device [] = refl
qualifiers set device (e ∷ es) = refl

beside : (set other : List ℕ) (at : ℕ) (e : Entry) (fs : List Entry) → Of 24 (beside_findings set other at e fs)
unfolding every
beside set other at e [] = refl
beside set other at e (f ∷ fs) = refl

mirrors : (set other : List ℕ) (at : ℕ) (fs es : List Entry) → Of 24 (mirrors_from set other at fs es)
unfolding every mirrors_from
mirrors set other at fs [] = refl
mirrors set other at fs (e ∷ es) =
    choice 24 (is_kind 7 e) _ _
    (then 24 (beside_findings set other at e fs) _ (beside set other at e fs) (mirrors set other (at + 8) (later fs) es))
    (mirrors set other (at + 8) fs es)

pub group-24 : (set other : List ℕ) → Of 24 (pair_findings set other)
group-24 set other =
    then 24 (qualifier_entry_findings set (device_body other) (entries_of 6 set)) _ (qualifiers set (device_body other) (entries_of 6 set))
    (mirrors set other 4 (entries_of 2 other) (entries set))
