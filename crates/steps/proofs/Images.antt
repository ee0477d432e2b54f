-- The record of an image: its size after a change, and the reaction at it, of 32 bytes and of any length. No axiom.
use Rattle.octets.proofs.Vocabulary.{◌≡◌, refl, ap, ◌∙◌, ℕ, List, Bool, true, false, length, set, length-set, eqb, ltb, arith, eq-eqb}
use mir.Val.{Val}
use denote.Laws.{Is}
use denote.Enum.Laws as EL
use Rattle.octets.specs.Sentences.{pick}
use Rattle.sets.specs.View.{View}
use Rattle.records.specs.declared.Device.{Device}
use Rattle.records.specs.declared.Change.{Change}
use Rattle.records.specs.declared.Change.TheVariants.{Kept, Waiting, Wakeup, Power, Suspended, Address, Configuration, Setting, Endpoints, Passed, Fresh, TestMode}
use Rattle.records.specs.Device.{Sized}
use Rattle.records.specs.Image.{device_of, image_of}
use Rattle.records.specs.Fits.{fits}
use Rattle.records.specs.Change.{with_setting, changed, settled_if, after, misfit, record_in, renewed}
pub use Rattle.records.proofs.Image.{device-image as image_back}
use Rattle.records.specs.contracts.Change as C
use Rattle.records.proofs.Change.TheLaws as C'
use Rattle.events.specs.declared.Event.{Event}
use Rattle.events.specs.declared.reaction.Reaction.{Reaction}
use Rattle.events.specs.Coded.{answer_in}
use Rattle.events.specs.Facts.{outcome_of}
use Rattle.events.specs.Answer.{Refused, Outcome, gives, refused}
use Rattle.steps.specs.Gathering.{step_in, event_in}

-- ---- a change of the types that the code has leaves a record of the size that the code has
resized : (j a : ℕ) (alternates : List ℕ) → length alternates ≡ 16 → length (with_setting j a alternates) ≡ 16
resized j a alternates sixteen = go (ltb j 16)
  where
    go : (t : Bool) → length (pick t (set alternates j a) alternates) ≡ 16
    go true = rw length-set sixteen
    go false = sixteen

changed-sized : (c : Change) (vs : List Val) → Is C.the_row c vs → (d : Device) → Sized d → Sized (changed c d)
changed-sized Kept vs is d z = z
changed-sized (Waiting address) vs is d z = record { sixteen = z.sixteen; halts-fit = z.halts-fit; toggles-fit = z.toggles-fit }
changed-sized (Wakeup on) vs is d z = record { sixteen = z.sixteen; halts-fit = z.halts-fit; toggles-fit = z.toggles-fit }
changed-sized (Power source) vs is d z = record { sixteen = z.sixteen; halts-fit = z.halts-fit; toggles-fit = z.toggles-fit }
changed-sized (Suspended on) vs is d z = record { sixteen = z.sixteen; halts-fit = z.halts-fit; toggles-fit = z.toggles-fit }
changed-sized (Address state address) vs is d z = record { sixteen = z.sixteen; halts-fit = z.halts-fit; toggles-fit = z.toggles-fit }
changed-sized (Configuration state value) vs is d z = record { sixteen = refl; halts-fit = omega arith; toggles-fit = omega arith }
changed-sized (Setting j alternate halts toggles) vs is d z = let fields = EL.owed C.the_type C'.the_laws (Setting j alternate halts toggles) vs is in
    record { sixteen = resized j alternate d.alternates z.sixteen; halts-fit = fields.1.1.0.1; toggles-fit = fields.1.1.1.0.1 }
changed-sized (Endpoints halts toggles) vs is d z = let fields = EL.owed C.the_type C'.the_laws (Endpoints halts toggles) vs is in
    record { sixteen = z.sixteen; halts-fit = fields.0.1; toggles-fit = fields.1.0.1 }
changed-sized (Passed toggles) vs is d z = let fields = EL.owed C.the_type C'.the_laws (Passed toggles) vs is in
    record { sixteen = z.sixteen; halts-fit = z.halts-fit; toggles-fit = fields.0.1 }
changed-sized (Fresh power speed) vs is d z = record { sixteen = refl; halts-fit = omega arith; toggles-fit = omega arith }
changed-sized (TestMode speed) vs is d z = record { sixteen = z.sixteen; halts-fit = z.halts-fit; toggles-fit = z.toggles-fit }

settled-sized : (settles : Bool) (d : Device) → Sized d → Sized (settled_if settles d)
settled-sized true d z = record { sixteen = z.sixteen; halts-fit = z.halts-fit; toggles-fit = z.toggles-fit }
settled-sized false d z = z

pub after-sized : (settles : Bool) (c : Change) (vs : List Val) → Is C.the_row c vs → (d : Device) → Sized d → Sized (after settles c d)
after-sized settles c vs is d z = changed-sized c vs is (settled_if settles d) (settled-sized settles d z)

-- ---- the event, by the reaction at the record that is read, and the record of the renewed image
pub replied : (accepted : Bool) (v : View) (image : List ℕ) (e : Event) (r : Reaction) → length image ≡ 32 → Sized (after r.settles r.next (device_of image))
    → outcome_of r (record_in image) ≡ step_in accepted v (record_in image) e → gives (answer_in r.answer) (device_of (renewed r.settles r.next image)) ≡ step_in accepted v (device_of image) e
unfolding renewed
replied accepted v image e r long z s = rw (eq-eqb (length image) 32 long, image_back (after r.settles r.next (device_of image)) z) (rw (eq-eqb (length image) 32 long) at s)

-- a record that fits no set
misfits : (v : View) → fits v misfit ≡ false
unfolding fits
misfits v = refl

-- an event on an image of any length, with whether what is lent opens and the view of the set in use, by the reaction at the record that is read from it
module _ (accepted : Bool) (v : View) (image : List ℕ) (e : Event) (r : Reaction) (s : outcome_of r (record_in image) ≡ step_in accepted v (record_in image) e) where
  pub answered : answer_in r.answer ≡ (event_in accepted v image e).answer
  answered = go (eqb (length image) 32) refl
    where
      refusals : (t : Bool) → (pick t (refused 8 misfit) (refused 7 misfit)).answer ≡ Refused (pick t 8 7)
      refusals true = refl
      refusals false = refl

      go : (t : Bool) → eqb (length image) 32 ≡ t → answer_in r.answer ≡ (event_in accepted v image e).answer
      go true p = ap (λ (o : Outcome). o.answer) s ∙ rw p
      go false p = ap (λ (o : Outcome). o.answer) s ∙ rw (p, misfits v) (refusals accepted)

  pub left_behind : renewed r.settles r.next image ≡ (event_in accepted v image e).image
  unfolding renewed
  left_behind = go (eqb (length image) 32) refl
    where
      go : (t : Bool) → eqb (length image) 32 ≡ t → renewed r.settles r.next image ≡ (event_in accepted v image e).image
      go true p = rw p (ap (λ (o : Outcome). image_of o.device) (rw p at s))
      go false p = rw p
