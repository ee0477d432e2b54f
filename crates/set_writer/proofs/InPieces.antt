-- Tests of those for which another test holds; and that two sets with the same device, BOS and configurations are judged alike in groups 3, 4 and 6. No axiom.
use Rattle.octets.proofs.Vocabulary.{◌≡◌, refl, sym, ap, ◌∙◌, ℕ, List, [], ◌∷◌, map, Bool, true}
use Rattle.octets.specs.Sentences.{any, only, first}
use Rattle.octets.proofs.Sentences.{cases, never}
use Rattle.descriptors.specs.declared.limits.Limits.{Limits}
use Rattle.sets.specs.Contents.{bodies}
use Rattle.sets.specs.Pieces.{pieces_in, pieces_of, body_is, head_body}
use Rattle.sets.specs.Device.{device_body}
use Rattle.sets.specs.Strings.{references}
use Rattle.sets.specs.Opening.{good_devices, good_configurations, good_block}
use Rattle.sets.proofs.Pieces.{bodies_of_lem}

-- ---- those for which a test holds
module _ {A : Type 0} (f g : A → Bool) (h : (x : A) → f x ≡ true → g x ≡ true) where
  pub only-only : (xs : List A) → only f (only g xs) ≡ only f xs
  unfolding only
  only-only [] = refl
  only-only (x ∷ xs) = cases (g x)
      (λ p. rw (p, only-only xs))
      (λ p. cases (f x) (λ q. never (h x q) p) (λ q. rw (p, q) (only-only xs)))

  pub any-only : (xs : List A) → any f (only g xs) ≡ any f xs
  unfolding any only
  any-only [] = refl
  any-only (x ∷ xs) = cases (g x)
      (λ p. rw (p, any-only xs))
      (λ p. cases (f x) (λ q. never (h x q) p) (λ q. rw (p, q) (any-only xs)))

  pub first-only : (xs : List A) → first f (only g xs) ≡ first f xs
  unfolding first only
  first-only [] = refl
  first-only (x ∷ xs) = cases (g x)
      (λ p. rw (p, first-only xs))
      (λ p. cases (f x) (λ q. never (h x q) p) (λ q. rw (p, q) (first-only xs)))

-- ---- two sets with the same device, BOS and configurations
pub record Alike (s t : List ℕ) : Type 0 where
  pub device : pieces_of 1 (pieces_in s) ≡ pieces_of 1 (pieces_in t)
  pub configurations : pieces_of 2 (pieces_in s) ≡ pieces_of 2 (pieces_in t)
  pub store : pieces_of 15 (pieces_in s) ≡ pieces_of 15 (pieces_in t)

module _ {s t : List ℕ} (a : Alike s t) where
  pub same-device : device_body s ≡ device_body t
  same-device = ap head_body a.device

  pub same-bodies : bodies 2 s ≡ bodies 2 t
  same-bodies = bodies_of_lem s 2 ∙ ap (map body_is) a.configurations ∙ sym (bodies_of_lem t 2)

  pub same_references : references s ≡ references t
  unfolding references
  same_references = rw (a.device, a.configurations)

  pub same-devices : (limits : Limits) → good_devices limits (pieces_in s) ≡ good_devices limits (pieces_in t)
  unfolding good_devices
  same-devices limits = rw (a.device, a.configurations, a.store)

  pub same-configurations : (limits : Limits) → good_configurations limits (pieces_in s) ≡ good_configurations limits (pieces_in t)
  unfolding good_configurations
  same-configurations limits = rw a.configurations

  pub same_block : (serial : List ℕ) → good_block (pieces_in s) serial ≡ good_block (pieces_in t) serial
  unfolding good_block
  same_block serial = rw a.device
