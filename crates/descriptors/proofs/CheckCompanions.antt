-- The check of a body, as to companions: what a walk asks that keeps whether one is due is what the sentence about all descriptors says. No axiom.
use Rattle.octets.proofs.Vocabulary.{◌≡◌, refl, sym, ◌∙◌, ℕ, List, [], ◌∷◌, Bool, true, false, ◌&&◌, not, and-false, length, leb, arith, ne_eqb}
use Rattle.octets.specs.Sentences.{pick, ◌⇒◌, every, neighbours}
use Rattle.descriptors.specs.Descriptor.{bDescriptorType, is_endpoint}
use Rattle.descriptors.specs.Companion.{is_companion, long_companion, accompanies, ends_with_endpoint, good_companions}
use Rattle.descriptors.specs.Check.{accompanied}

-- the descriptors after one for which a companion is due or not
unfoldable pub after : Bool → List (List ℕ) → Bool
after due [] = not due
after due (d ∷ ds) = accompanied due d && after (is_endpoint d) ds

-- a descriptor, and those after it
pub after_one : (companions due : Bool) (d : List ℕ) (ds : List (List ℕ))
    → (companions ⇒ after due (d ∷ ds)) ≡ ((companions ⇒ accompanied due d) && (companions ⇒ after (pick companions (is_endpoint d) due) ds))
unfolding after
after_one true due d ds = refl
after_one false due d ds = refl

-- ---- as the sentence
one_more : (due companion long every next last : Bool)
    → (pick due (companion && long) (not companion) && (every && next && last)) ≡ (((companion ⇒ long) && every) && (pick due companion (not companion) && next) && last)
one_more true true true every next last = refl
one_more true true false every next last = refl
one_more true false long every next last = rw (and-false every)
one_more false true long every next last = rw (and-false (long && every))
one_more false false long every next last = refl

behind-one : (x : List ℕ) (ds : List (List ℕ)) → after (is_endpoint x) ds ≡ (every long_companion ds && neighbours accompanies (x ∷ ds) && not (ends_with_endpoint (x ∷ ds)))
unfolding after every neighbours ends_with_endpoint
behind-one x [] = refl
behind-one x (d ∷ ds) =
    rw (behind-one d ds)
    (one_more (is_endpoint x) (is_companion d) (leb 6 (length d)) (every long_companion ds) (neighbours accompanies (d ∷ ds)) (not (ends_with_endpoint (d ∷ ds))))

-- a body's first descriptor is neither an endpoint nor a companion
pub companions-same : (d : List ℕ) (ds : List (List ℕ)) → bDescriptorType d ≡ 2 → good_companions (d ∷ ds) ≡ after false ds
unfolding every
companions-same d ds t =
    let e : is_endpoint d ≡ false = ne_eqb (bDescriptorType d) 5 (λ p. omega arith) in
    let c : is_companion d ≡ false = ne_eqb (bDescriptorType d) 48 (λ p. omega arith) in
    rw c (sym (behind-one d ds) ∙ rw e)
