-- The step by its order of refusals, and what it knows past them. No axiom.
use Rattle.octets.proofs.Vocabulary.{◌≡◌, refl, ap, subst, ◌∙◌, ℕ, ◌<◌, List, [], ◌∷◌, Bool, true, false, eqb, leb, arith, leb-true}
use Rattle.octets.specs.Sentences.{◌⇒◌, is_some}
use Rattle.octets.proofs.Sentences.{conjunct}
use Rattle.descriptors.specs.Configuration.{Configuration, configuration_of}
use Rattle.sets.specs.Opening.{Board}
use Rattle.sets.specs.View.{View, view_of, has_value, wakes, accepted}
use Rattle.records.specs.declared.Device.{Device}
use Rattle.records.specs.Device.{in_configured}
use Rattle.records.specs.Change.{valued}
use Rattle.records.specs.Image.{device_of}
use Rattle.records.specs.Current.{set_for, selected, current_endpoints}
use Rattle.records.specs.Fits.{good_speed, in_range, good_waiting, good_state, good_alternates, stands_at, fits}
use Rattle.records.proofs.Fitting.{value-selects}
use Rattle.requests.specs.declared.Setup.{Setup}
use Rattle.events.specs.declared.Event.{Event}
use Rattle.events.specs.declared.facts.Facts.{Facts}
use Rattle.events.specs.Facts.{TellsOf, Tells}
use Rattle.events.specs.Answer.{refused}
use Rattle.events.specs.Step.{respond, step, event}
use Rattle.steps.specs.Gathering.{view_in, step_in, event_in, selected_body}
use Rattle.steps.proofs.Configurations.{selected-by-value}

-- the step is that of the set in use
pub step_in_lem : (b : Board) (d : Device) (e : Event) → step b d e ≡ step_in (accepted b) (view_in (is_some b.high) (set_for b d.speed) b.serial) d e
unfolding step view_of
step_in_lem b d e = refl

pub event-in : (b : Board) (image : List ℕ) (e : Event) → event b image e ≡ event_in (accepted b) (view_in (is_some b.high) (set_for b (device_of image).speed) b.serial) image e
unfolding event step view_of
event-in b image e = refl

module _ (accepted : Bool) (v : View) (d : Device) (e : Event) (p : accepted ≡ true) where
  pub record-refused : fits v d ≡ false → step_in accepted v d e ≡ refused 8 d
  record-refused q = rw (p, q)

  pub responds : fits v d ≡ true → step_in accepted v d e ≡ respond v d e
  responds q = rw (p, q)

-- the body that was looked up is, in Configured, the selected configuration's
pub is-selected : (b : Board) (d : Device) {body : List ℕ} → eqb d.state in_configured ≡ true → body ≡ selected_body b.set d.configuration → configuration_of body ≡ selected (view_of b) d
unfolding view_of
is-selected b d s p = rw s (ap configuration_of p ∙ selected-by-value b.set d.configuration)

-- what is told of the configuration with a record's value is told of the selected one, where the record fits
pub told : (v : View) (d : Device) (s : Setup) {f : Facts} → has_value (record { 0 = 0 }) v.configurations ≡ false → fits v d ≡ true → TellsOf v (valued v d) d s f → Tells v d s f
told v d s {f} z p t = subst (λ (c : Configuration). TellsOf v c d s f) (value-selects v d z p) t

-- what a record that fits has: a wakeup and a power source of 0 or 1
pub at-work : (v : View) (d : Device) → fits v d ≡ true → (d.wakeup < 2) × (d.power < 2)
unfolding fits
at-work v d p =
    let es = current_endpoints v d in
    let rules = in_range v.paired d ∷ good_waiting d ∷ good_state v d ∷ good_alternates (selected v d) d ∷ stands_at es d.halts ∷ stands_at es d.toggles ∷ (eqb d.wakeup 1 ⇒ wakes v) ∷ [] in
    let range = conjunct 0 rules p in
    let ranges = leb d.state 2 ∷ leb d.wakeup 1 ∷ leb d.power 1 ∷ leb d.suspended 1 ∷ good_speed v.paired d.speed ∷ [] in
    (omega (arith, leb-true d.wakeup 1 (conjunct 1 ranges range)), omega (arith, leb-true d.power 1 (conjunct 2 ranges range)))
