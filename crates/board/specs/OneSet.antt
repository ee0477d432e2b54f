-- "A board that lends one set keeps every old answer" (L7), "Older kinds keep every answer" (L13): what hk_open, hk_setup and the calls of an event give and leave on a
-- board that lends one set is what they gave and left before, opening in document 01's own numbers included. No axiom.
use Rattle.std.specs.Prelude.{ℕ, ◌≡◌, refl, true, List, length, eqb}
use Rattle.std.proofs.Common.{ap, ◌∙◌}
use Rattle.sets.specs.Opening.{lent}
use Rattle.records.specs.Image.{device_of}
use Rattle.events.specs.declared.Event.{Event}
use Rattle.events.specs.Answer.{number_of}
use Rattle.events.specs.Step.{Reply, setup_event, Opened}
use Rattle.octets.proofs.Sentences.{cases}
use Rattle.promises.specs.Base as base
use Rattle.promises.specs.Before as before
use Rattle.promises.specs.OneSet.{opened_same, one_set_image}
use Rattle.promises.specs.Examples.{computed, S}
use Rattle.promises.specs.InhabitedOrder.{configured_image}
use Rattle.board.specs.Exports.{Opens, Happens, Spot, Spots, Hands, AnswersSetup}

-- a setup of any length is an event that there was
setup-known : (setup : List ℕ) → before.known (setup_event setup) ≡ true
setup-known setup = cases (eqb (length setup) 8) (λ p. rw p) (λ p. rw p)

module _ {set serial image : List ℕ} where
  -- hk_open
  pub opens_before : {n : ℕ} {left : List ℕ} → Opens (lent set serial) image n left → (n ≡ (base.opened set serial image).number) × (left ≡ (base.opened set serial image).image)
  opens_before o = (o.number ∙ ap (λ (x : Opened). x.number) (opened_same set serial image), o.leaves ∙ ap (λ (x : Opened). x.image) (opened_same set serial image))

  -- hk_status_end, hk_bus_reset and the other calls of an event that there was
  pub happens_before : {e : Event} {n : ℕ} {left : List ℕ} → before.known e ≡ true → Happens (lent set serial) image e n left
      → (n ≡ number_of (before.event (lent set serial) image e).answer) × (left ≡ (before.event (lent set serial) image e).image)
  happens_before {e} k h = (h.number ∙ ap (λ (r : Reply). number_of r.answer) (one_set_image set serial image e k), h.leaves ∙ ap (λ (r : Reply). r.image) (one_set_image set serial image e k))

  -- hk_setup: the image left, and the answer handed out
  pub answers_before : {lie : Spots} {setup : List ℕ} {n : ℕ} {left bytes : List ℕ} {count : ℕ} {shown : List ℕ} {spot : Spot}
      → AnswersSetup (lent set serial) lie image setup n left bytes count shown spot
      → (left ≡ (before.event (lent set serial) image (setup_event setup)).image)
      × Hands (lent set serial) (device_of image).speed lie (before.event (lent set serial) image (setup_event setup)).answer n bytes count shown spot
  answers_before {setup = setup} a =
      let same = one_set_image set serial image (setup_event setup) (setup-known setup) in
      (a.leaves ∙ ap (λ (r : Reply). r.image) same, rw same at a.answers)

-- ---- instances: S opens as it did, and GET_STATUS of a Configured S is answered as it was
pub opens_s : {n : ℕ} {left : List ℕ} → Opens S configured_image n left → (n ≡ (base.opened S.set S.serial configured_image).number) × (left ≡ (base.opened S.set S.serial configured_image).image)
opens_s o = opens_before o

pub opens_zero : (base.opened S.set S.serial configured_image).number ≡ 0
unfolding computed base.opening base.opened
opens_zero = refl
