-- Limits that ask of a configuration what those of their speed ask. No axiom.
use Rattle.octets.proofs.Vocabulary.{◌≡◌, refl, ap, ℕ, List, [], ◌∷◌, ◌&&◌, length}
use Rattle.descriptors.specs.Limits.{full_speed, paired_full}
use Rattle.descriptors.specs.Cut.{cut, descriptors_of, well_cut}
use Rattle.descriptors.specs.Configuration.{good_descriptors, good_configuration}
use Rattle.single_walk.specs.Passes.{AtSpeed}

-- the two rows differ in the types of entries alone
descriptors-alike : (size : ℕ) (ds : List (List ℕ)) → good_descriptors paired_full size ds ≡ good_descriptors full_speed size ds
unfolding good_descriptors
descriptors-alike size [] = refl
descriptors-alike size (d ∷ ds) = refl

pub paired_at : AtSpeed paired_full
unfolding good_configuration
paired_at body = ap (λ b. well_cut (cut body) && b) (descriptors-alike (length body) (descriptors_of (cut body)))
