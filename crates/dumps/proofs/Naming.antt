-- The walk of the code collects the places of names in the cut descriptors. No axiom.
use Rattle.octets.proofs.Vocabulary.{◌≡◌, refl, sym, ap, ◌∙◌, ℕ, ◌+◌, List, [], ◌∷◌, ◌++◌, append_assoc, append-nil, Bool, true, false, length}
use Rattle.octets.specs.Sentences.{pick}
use Rattle.descriptors.specs.declared.walk.Stand.{Stand}
use Rattle.descriptors.specs.Cut.{Cutting, whole, broken, descriptor, cut, descriptors_of}
use Rattle.descriptors.specs.Walk.{before, stand_of, walked, collecting, collected}
use Rattle.dumps.specs.Dump.{has_name, names_from}

-- what a descriptor that begins at a place adds to them
abbrev pub name_at : ℕ → Stand → List ℕ → List ℕ
name_at at stand d = pick (has_name d) ((at + 8) ∷ []) []

-- the place of a name before the others
pub name-first : (w : Bool) (p : ℕ) (rest : List ℕ) → pick w (p ∷ []) [] ++ rest ≡ pick w (p ∷ rest) rest
name-first true p rest = refl
name-first false p rest = refl

walks : (c : Cutting) (last : Stand) (at : ℕ) (items : List ℕ) → walked (collecting name_at) (record { at = at; items = items }) last c ≡ items ++ names_from at (descriptors_of c)
unfolding walked descriptors_of names_from
walks whole last at items = sym (append-nil items)
walks broken last at items = sym (append-nil items)
walks (descriptor d ds) last at items =
    let rest = names_from (at + length d) (descriptors_of ds) in
    let stand = stand_of last d in
    walks ds stand (at + length d) (items ++ name_at at stand d)
    ∙ append_assoc items (name_at at stand d) rest
    ∙ ap (λ (l : List ℕ). items ++ l) (name-first (has_name d) (at + 8) rest)

pub names_same : (body : List ℕ) → collected name_at body before 0 ≡ names_from 0 (descriptors_of (cut body))
names_same body = walks (cut body) before 0 []
