-- Demand 1 over the step and over events on images: what a refusal leaves.
-- No axiom.
use Rattle.std.specs.Prelude.{ℕ, ◌≡◌, refl, List, length, eqb}
use Rattle.std.proofs.Common.{◌∙◌, eqb-true}
use Rattle.std.proofs.Math.Path.{ap}
use Rattle.octets.proofs.Sentences.{cases}
use Rattle.sets.specs.Opening.{Board}
use Rattle.sets.specs.View.{accepted}
use Rattle.records.specs.declared.Device.{Device}
use Rattle.records.specs.Device.{nothing}
use Rattle.records.specs.Image.{device_of, image_of}
use Rattle.records.proofs.Image.{image-device}
use Rattle.records.specs.Current.{view_at}
use Rattle.records.specs.Fits.{fits_on}
use Rattle.events.specs.declared.Event.{Event}
use Rattle.events.specs.Answer.{number_of}
use Rattle.events.specs.Step.{step, event}
use Rattle.octets.specs.Octets.{Bytes}
use Rattle.promises.specs.Refusal.{after_settling, left_by, image_left_by}
use Rattle.laws.proofs.Outcomes.{responded}
use Rattle.laws.proofs.Refusing.{numbered, nothing-settled, left-image}
use Rattle.promises.specs.Refusals.{keeps}

-- ---- over the step
module _ (b : Board) (d : Device) (e : Event) where
  -- where the number is not 0 the record stays as it was, but that 10 to 14 drop what still waits, and with 17 clear byte 6
  pub step_keeps : (number_of (step b d e).answer ≡ 0 → ⊥) → (step b d e).device ≡ left_by (number_of (step b d e).answer) d
  unfolding step
  step_keeps = cases (accepted b)
      (λ p. cases (fits_on b d) (λ q. rw (p, q) (keeps (numbered (responded (view_at b d) d e)))) (λ q. rw (p, q) (λ z. refl)))
      (λ p. rw p (λ z. refl))

  -- so with nothing waiting, and awake, every refusal leaves all as it was
  pub step_keeps_all : d.waiting ≡ nothing → d.suspended ≡ 0 → (number_of (step b d e).answer ≡ 0 → ⊥) → (step b d e).device ≡ d
  step_keeps_all w a z = step_keeps z ∙ nothing-settled d w a (after_settling (number_of (step b d e).answer))

-- ---- over events on images
module _ (b : Board) (image : List ℕ) (e : Event) where
  -- where the number is not 0 the image stays as it was, but that 10 to 14 drop what still waits, and with 17 clear byte 6
  pub event_keeps : Bytes image → (number_of (event b image e).answer ≡ 0 → ⊥) → (event b image e).image ≡ image_left_by (number_of (event b image e).answer) image
  unfolding event
  event_keeps bytes = cases (eqb (length image) 32)
      (λ p. rw p (λ z. ap image_of (step_keeps b (device_of image) e z) ∙ left-image image (image-device image (eqb-true (length image) 32 p) bytes) (after_settling (number_of (step b (device_of image) e).answer))))
      (λ p. cases (accepted b) (λ q. rw (p, q) (λ z. refl)) (λ q. rw (p, q) (λ z. refl)))
