-- An event on a record's image is the event on the record: the same answer, and the image of the record left. No axiom.
use Rattle.std.specs.Prelude.{ℕ, ◌≡◌, List, length}
use Rattle.std.proofs.Common.{sym, ap, ◌∙◌, eq-eqb}
use Rattle.octets.proofs.Sentences.{cases}
use Rattle.sets.specs.Opening.{Board, BytesOf}
use Rattle.sets.specs.View.{accepted}
use Rattle.records.specs.declared.Device.{Device}
use Rattle.records.specs.Image.{device_of, image_of}
use Rattle.records.specs.Fits.{fits_on}
use Rattle.records.specs.Device.{Sized}
use Rattle.records.proofs.Image.{device-image, image-length}
use Rattle.events.specs.declared.Event.{Event}
use Rattle.events.specs.Step.{step, Reply, reply_of, event}
use Rattle.promises.specs.Keeps.{FitImage, step_fits}

pub on_image : (b : Board) (d : Device) (e : Event) → Sized d → event b (image_of d) e ≡ reply_of (step b d e)
unfolding event
on_image b d e z = rw (eq-eqb (length (image_of d)) 32 (image-length d z.sixteen), device-image d z)

-- a record stays one of the size that the code has, whatever the board and the event
pub step_sized : (b : Board) → BytesOf b → (d : Device) (e : Event) → Sized d → Sized (step b d e).device
unfolding step
step_sized b bytes d e z = cases (accepted b)
    (λ p. cases (fits_on b d) (λ q. (step_fits b bytes p d e z q).1) (λ q. rw (p, q) z))
    (λ p. rw p z)

-- two records with one image are one
pub same_image : (d e : Device) → Sized d → Sized e → image_of d ≡ image_of e → d ≡ e
same_image d e z y p = sym (device-image d z) ∙ ap device_of p ∙ device-image e y

-- ---- on an image that fits: what its record is answered, and the record of the image left
module _ (b : Board) (image : List ℕ) (e : Event) (f : FitImage b image) where
  shown : event b image e ≡ reply_of (step b (device_of image) e)
  shown = ap (λ i. event b i e) (sym f.back) ∙ on_image b (device_of image) e f.sized

  pub answers_as : (event b image e).answer ≡ (step b (device_of image) e).answer
  answers_as = ap (λ (r : Reply). r.answer) shown

  pub leaves_as : BytesOf b → device_of (event b image e).image ≡ (step b (device_of image) e).device
  leaves_as bytes = ap (λ (r : Reply). device_of r.image) shown ∙ device-image _ (step_sized b bytes (device_of image) e f.sized)
