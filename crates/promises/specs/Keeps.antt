-- A record keeps fitting: after opening, and after every event from a fitting record, for every accepted set and serial block.
-- So 8 never follows from the library's own calls. No axiom.
use Rattle.std.specs.Prelude.{ℕ, ◌≡◌, refl, List, true, false, ◌&&◌, length, eqb}
use Rattle.std.proofs.Common.{arith, sym, ap, ◌∙◌, eq-eqb}
use Rattle.std.proofs.lemmas.Bool.{false≢true}
use Rattle.octets.proofs.Sentences.{cases}
use Rattle.sets.specs.Opening.{Board, BytesOf}
use Rattle.sets.specs.View.{accepted}
use Rattle.records.specs.declared.Device.{Device}
use Rattle.records.specs.Device.{fresh, in_test_mode, Sized}
use Rattle.records.specs.Image.{device_of, image_of}
use Rattle.records.specs.Current.{view_at}
use Rattle.records.specs.Fits.{fits_on}
use Rattle.records.proofs.Image.{device-image, image-device, image-length, device-sized}
use Rattle.events.specs.declared.Event.{Event}
use Rattle.events.specs.Answer.{number_of}
use Rattle.events.specs.Step.{respond, step, event, opened}
use Rattle.octets.specs.Octets.{Bytes}
use Rattle.promises.specs.Sound.{sound}
use Rattle.laws.specs.Parts.{drops}
use Rattle.laws.proofs.Outcomes.{responded}
use Rattle.promises.specs.Refusal.{allows_fit}
use Rattle.promises.specs.Refusals.{not_own, step_number}
use Rattle.laws.proofs.Fitting.{fitting, fitted}
use Rattle.laws.proofs.Changes.{Fit, fresh_fits, responded_fits}

-- ---- what the statements say
-- an image of 32 bytes, of a record that fits; it is that record's image (C's 32 bytes always are: `fit_image`)
pub record FitImage (b : Board) (image : List ℕ) : Type 0 where
  pub long : length image ≡ 32
  pub fit : fits_on b (device_of image) ≡ true
  pub sized : Sized (device_of image)
  pub back : image_of (device_of image) ≡ image

pub fit_image : (b : Board) (image : List ℕ) → length image ≡ 32 → Bytes image → fits_on b (device_of image) ≡ true → FitImage b image
fit_image b image long octets fit = record { long = long; fit = fit; sized = device-sized image long octets; back = image-device image long octets }

-- the images that the library's own calls leave, one after the other: opening's, of any 32 bytes, and every event's from such an image
pub data Reached (b : Board) : List ℕ → Type 0 where
  after_opening : (image : List ℕ) → length image ≡ 32 → Reached b (opened b image).image
  after_event : {image : List ℕ} (e : Event) → Reached b image → Reached b (event b image e).image

module _ (b : Board) (bytes : BytesOf b) (ok : accepted b ≡ true) where
  -- ---- over the record
  pub fresh_fit : (fits_on b fresh ≡ true) × Sized fresh
  fresh_fit = let g = fresh_fits b (sound b bytes ok) in (fitted (view_at b fresh) fresh g.fitting, g.sized)

  pub step_fits : (d : Device) (e : Event) → Sized d → fits_on b d ≡ true → (fits_on b (step b d e).device ≡ true) × Sized (step b d e).device
  unfolding step
  step_fits d e z p =
      let left = (respond (view_at b d) d e).device in
      let next : Fit (view_at b left) left = responded_fits b (sound b bytes ok) d (record { fitting = fitting (view_at b d) d p; sized = z }) (responded (view_at b d) d e) in
      rw (ok, p) (fitted (view_at b left) left next.fitting, next.sized)

  -- ---- over images
  pub image_fits : (d : Device) → (fits_on b d ≡ true) × Sized d → FitImage b (image_of d)
  image_fits d (p, z) = record { long = image-length d z.sixteen; fit = rw (device-image d z) p; sized = rw (device-image d z) z; back = ap image_of (device-image d z) }

  pub opened_fits : (image : List ℕ) → length image ≡ 32 → FitImage b (opened b image).image
  unfolding opened
  opened_fits image l = rw (eq-eqb (length image) 32 l) (image_fits fresh fresh_fit)

  pub event_fits : (image : List ℕ) (e : Event) → FitImage b image → FitImage b (event b image e).image
  unfolding event
  event_fits image e f = rw (eq-eqb (length image) 32 f.long) (image_fits (step b (device_of image) e).device (step_fits (device_of image) e f.sized f.fit))

  pub reached_fits : {image : List ℕ} → Reached b image → FitImage b image
  reached_fits (after_opening image l) = opened_fits image l
  reached_fits (after_event {image} e r) = event_fits image e (reached_fits r)

  -- an image that fits gets no 7 and no 8, only 0 and the event's own refusals, or 17 in a test mode
  pub fit_number : (image : List ℕ) (e : Event) → FitImage b image → (let n = number_of (event b image e).answer in allows_fit (device_of image) e n ≡ true)
  unfolding event
  fit_number image e f = rw (eq-eqb (length image) 32 f.long) (rw (ok, f.fit) at (step_number b (device_of image) e))

never-allowed : (d : Device) (e : Event) → allows_fit d e 8 ≡ true → ⊥
never-allowed d e p = cases (in_test_mode d && drops e) (λ t. false≢true (rw t at p)) (λ t. not_own 8 refl refl refl refl refl e (rw t at p))

-- on a board that is not accepted every event gets 7
unaccepted : (b : Board) → accepted b ≡ false → (image : List ℕ) (e : Event) → number_of (event b image e).answer ≡ 7
unfolding event step
unaccepted b p image e = cases (eqb (length image) 32) (λ q. rw (q, p)) (λ q. rw (q, p))

-- whatever the board, whatever 32 bytes were opened and whatever events came: no event is answered 8
pub never_eight : (b : Board) → BytesOf b → {image : List ℕ} → Reached b image → (e : Event) → number_of (event b image e).answer ≡ 8 → ⊥
never_eight b bytes {image} r e p = cases (accepted b)
    (λ ok. never-allowed (device_of image) e (rw p at (fit_number b bytes ok image e (reached_fits b bytes ok r))))
    (λ no-board. let q : ◌≡◌ {A = ℕ} 7 8 = sym (unaccepted b no-board image e) ∙ p in omega arith)
