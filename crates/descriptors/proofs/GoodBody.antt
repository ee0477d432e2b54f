-- What a good configuration tells: its rules, one by one, for whoever reads a body that was checked. No axiom.
use Rattle.octets.proofs.Vocabulary.{◌≡◌, refl, ℕ, List, [], ◌∷◌, true, false≢true, length}
use Rattle.octets.specs.Sentences.{◌⇒◌, every}
use Rattle.octets.proofs.Sentences.{both, conjunct}
use Rattle.descriptors.specs.declared.limits.Limits.{Limits}
use Rattle.descriptors.specs.Cut.{cut, descriptors_of, well_cut}
use Rattle.descriptors.specs.Descriptor.{good_descriptor}
use Rattle.descriptors.specs.Interfaces.{grouped, good_interfaces}
use Rattle.descriptors.specs.Companion.{good_companions}
use Rattle.descriptors.specs.Configuration.{bNumInterfaces, good_head, good_descriptors, good_configuration, behind}

-- of descriptors: the first, and those behind it
pub record GoodDescriptors (limits : Limits) (size : ℕ) (ds : List (List ℕ)) : Type 0 where
  pub first : List ℕ
  pub begins : ds ≡ first ∷ behind ds
  pub head : good_head size first ≡ true
  pub each : every (good_descriptor limits) (behind ds) ≡ true
  pub interfaces : good_interfaces (bNumInterfaces first) (grouped (behind ds)) ≡ true

pub good-descriptors : (limits : Limits) (size : ℕ) (ds : List (List ℕ)) → good_descriptors limits size ds ≡ true → GoodDescriptors limits size ds
unfolding good_descriptors
good-descriptors limits size [] p = absurd (false≢true p)
good-descriptors limits size (d ∷ ds) p =
    let rules = good_head size d ∷ every (good_descriptor limits) ds ∷ good_interfaces (bNumInterfaces d) (grouped ds) ∷ (limits.companions ⇒ good_companions (d ∷ ds)) ∷ [] in
    record { first = d; begins = refl; head = conjunct 0 rules p; each = conjunct 1 rules p; interfaces = conjunct 2 rules p }

module _ (limits : Limits) (body : List ℕ) (p : good_configuration limits body ≡ true) where
  pub good-cut : well_cut (cut body) ≡ true
  unfolding good_configuration
  good-cut = (both (well_cut (cut body)) (good_descriptors limits (length body) (descriptors_of (cut body))) p).0

  pub good-body : GoodDescriptors limits (length body) (descriptors_of (cut body))
  unfolding good_configuration
  good-body = good-descriptors limits (length body) (descriptors_of (cut body)) (both (well_cut (cut body)) (good_descriptors limits (length body) (descriptors_of (cut body))) p).1
