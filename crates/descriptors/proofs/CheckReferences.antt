-- The string references of a body, told beside its check: its own and those that a walk collects. No axiom.
use Rattle.octets.proofs.Vocabulary.{◌≡◌, refl, sym, ap, ◌∙◌, ℕ, ◌≤◌, ◌<◌, List, [], ◌∷◌, ◌++◌, map, flat_map, map-map, Bool, true, false, ◌&&◌, and-true, and-false, and_assoc, length}
use Rattle.octets.specs.Sentences.{pick, ◌⇒◌, every, only}
use Rattle.octets.proofs.Sentences.{every_append}
use Rattle.descriptors.specs.declared.walk.Stand.{Stand}
use Rattle.descriptors.specs.declared.check.Verdict.{Verdict}
use Rattle.descriptors.specs.Cut.{cut, descriptors_of}
use Rattle.descriptors.specs.Descriptor.{is_interface, iInterface}
use Rattle.descriptors.specs.Interfaces.{grouped}
use Rattle.descriptors.specs.Configuration.{iConfiguration, behind, groups_of, configuration_references}
use Rattle.descriptors.specs.Walk.{Pace, before, step_of, collected}
use Rattle.descriptors.specs.Check.{reference_of, referring, verdict}
use Rattle.descriptors.proofs.Walks.{spanned, collect-end, collect-on, collected-flat}
use Rattle.descriptors.proofs.Ahead.{ahead, heads}
use Rattle.descriptors.proofs.CheckWhole.{check-first}

-- ---- the references of a configuration are its own and those that the walk collects behind its first descriptor
only-flat : (ds : List (List ℕ)) → map iInterface (only is_interface ds) ≡ flat_map reference_of ds
unfolding only flat_map
only-flat [] = refl
only-flat (d ∷ ds) = go (is_interface d) (only-flat ds)
  where
    go : (b : Bool) → map iInterface (only is_interface ds) ≡ flat_map reference_of ds
        → map iInterface (pick b (d ∷ only is_interface ds) (only is_interface ds)) ≡ pick b (iInterface d ∷ []) [] ++ flat_map reference_of ds
    go true e = ap (◌∷◌ (iInterface d)) e
    go false e = e

references-flat : (body : List ℕ) → configuration_references body ≡ iConfiguration body ∷ flat_map reference_of (behind (descriptors_of (cut body)))
unfolding configuration_references groups_of
references-flat body =
    let ds = behind (descriptors_of (cut body)) in
    ap (◌∷◌ (iConfiguration body)) (sym (map-map iInterface (λ g. g.head) (grouped ds).groups) ∙ ap (map iInterface) (heads ds) ∙ only-flat ds)

pub references-walked : (body : List ℕ) (at : ℕ) → ahead body at ≡ behind (descriptors_of (cut body)) → configuration_references body ≡ iConfiguration body ∷ collected referring body before at
references-walked body at e =
    references-flat body ∙ ap (λ ds. iConfiguration body ∷ flat_map reference_of ds) (sym e) ∙ ap (◌∷◌ (iConfiguration body)) (sym (collected-flat referring reference_of (λ at last d. refl) body before at))

module _ (f : ℕ → Bool) where
  -- what is asked of a descriptor's own reference
  abbrev pub of_interface : List ℕ → Bool
  of_interface d = is_interface d ⇒ f (iInterface d)

  every-flat : (ds : List (List ℕ)) → every f (flat_map reference_of ds) ≡ every of_interface ds
  unfolding every flat_map
  every-flat [] = refl
  every-flat (d ∷ ds) = go (is_interface d) (every-flat ds)
    where
      go : (b : Bool) → every f (flat_map reference_of ds) ≡ every of_interface ds → every f (pick b (iInterface d ∷ []) [] ++ flat_map reference_of ds) ≡ ((b ⇒ f (iInterface d)) && every of_interface ds)
      go true e = rw e
      go false e = e

  pub references-all : (body : List ℕ) → every f (configuration_references body) ≡ (f (iConfiguration body) && every of_interface (behind (descriptors_of (cut body))))
  unfolding every
  references-all body = ap (every f) (references-flat body) ∙ ap (λ b. f (iConfiguration body) && b) (every-flat (behind (descriptors_of (cut body))))

  -- behind the first descriptor
  pub references-behind : (body : List ℕ) (step : Pace) → step ≡ step_of body 0 before → 0 < step.end
      → every f (configuration_references body) ≡ (f (iConfiguration body) && every f (collected referring body before step.end))
  unfolding descriptors_of every
  references-behind body step e m = ap (every f) (references-walked body step.end (sym (ap (λ cs. behind (descriptors_of cs)) (check-first body step e m))))

-- ---- the loop: `total` is asked of every reference, and the invariant that `sofar` holds and it is asked of those still to collect
module _ (f : ℕ → Bool) (body : List ℕ) (stand : Stand) (at : ℕ) (sofar total : Bool) (inv : total ≡ (sofar && every f (collected referring body stand at))) where
  pub asked-all : length body ≤ at → total ≡ sofar
  unfolding every
  asked-all h = inv ∙ ap (λ rs. sofar && every f rs) (collect-end referring body stand at h) ∙ and-true sofar

  pub asked-on : (step : Pace) → step ≡ step_of body at stand → at < length body → at < step.end
      → total ≡ ((sofar && every f (reference_of (spanned body at step.end))) && every f (collected referring body step.stand step.end))
  asked-on step e h m =
      let d = spanned body at step.end in
      let rest = collected referring body step.stand step.end in
      inv ∙ ap (λ rs. sofar && every f rs) (collect-on referring body stand at e h m) ∙ ap (λ b. sofar && b) (every_append f (reference_of d) rest)
      ∙ sym (and_assoc sofar (every f (reference_of d)) (every f rest))

-- ---- verdicts
pub refused : {good : Bool} (refers : Bool) → false ≡ good → verdict false false ≡ verdict good refers
refused refers p = ap (λ good. verdict good refers) p

-- a good one with one reference more, if companions stand where they are to
pub with-more : (v : Verdict) (good refers companions more : Bool) → v ≡ verdict good refers
    → record { good = v.good && companions; refers = v.good && companions && v.refers && more } ≡ verdict (good && companions) (more && refers)
with-more v good refers companions more p = rw p (ap (λ b. record { good = good && companions; refers = b }) (go good companions refers more))
  where
    go : (a b c d : Bool) → (a && b && (a && c) && d) ≡ (a && b && (d && c))
    go true true true d = sym (and-true d)
    go true true false d = sym (and-false d)
    go true false c d = refl
    go false b c d = refl

-- what a good one tells
pub told : (v : Verdict) (good refers : Bool) → v ≡ verdict good refers → v.good ≡ true → v.refers ≡ refers
told v good refers p q = ap (λ v. v.refers) p ∙ rw (sym (ap (λ v. v.good) p) ∙ q)
