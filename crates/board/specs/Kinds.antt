-- hk_super_open: on 32 bytes it says exactly which of the six groups hold of a SuperSpeed set; what it accepts hk_open refuses, and every event with it.
-- hk_open is the same call for full speed. No axiom.
use Rattle.std.specs.Prelude.{ℕ, suc, ◌≡◌, refl, List, length, replicate, eqb, ltb}
use Rattle.std.proofs.Common.{sym, ap, ◌∙◌, eq-eqb}
use Rattle.std.proofs.lemmas.List.{set-get_or}
use Rattle.octets.specs.Sentences.{pick}
use Rattle.octets.proofs.Sentences.{cases}
use Rattle.descriptors.specs.declared.limits.Limits.{Limits}
use Rattle.descriptors.specs.Limits.{full_speed, super_speed}
use Rattle.sets.specs.Opening.{Board, lent, lent_two, opening}
use Rattle.records.specs.declared.Device.{Device}
use Rattle.records.specs.Device.{fresh}
use Rattle.events.specs.declared.Event.{Event}
use Rattle.events.specs.declared.Event.TheVariants.{BusReset}
use Rattle.events.specs.Answer.{Outcome, number_of}
use Rattle.events.specs.Step.{opened, setup_event}
use Rattle.promises.specs.Examples.{computed}
use Rattle.promises.specs.Opening.{groups, AllHold, FirstBroken, accepts_exactly, refuses_exactly}
use Rattle.promises.specs.Refusal.{fresh_image}
use Rattle.promises.specs.Kinds.{Lends, as_full, not_opened, refused_steps, refused_events}
use Rattle.promises.specs.Pairs.{pair}
use Rattle.promises.specs.SuperSpeed.{S3}
use Rattle.board.specs.Exports.{Opens, Happens, Spot, Spots, AnswersSetup, AnswersRecordEvent, AnswersImage, AnswersPortEvent, record_at}
use Rattle.board.specs.Makers.{OpensAs}
use Rattle.board.specs.InhabitedRuns.{start}

-- the same call for another kind
pub as_full_speed : {set serial image : List ℕ} {n : ℕ} {left : List ℕ} → OpensAs full_speed (lent set serial) image n left → Opens (lent set serial) image n left
unfolding opened
as_full_speed {image = image} o = cases (eqb (length image) 32)
    (λ p. record { number = o.number ∙ rw p; leaves = o.leaves ∙ rw p })
    (λ p. record { number = o.number ∙ rw p; leaves = o.leaves ∙ rw p })

module _ {limits : Limits} {b : Board} {image : List ℕ} {n : ℕ} {left : List ℕ} (l : length image ≡ 32) (o : OpensAs limits b image n left) where
  numbers : n ≡ opening limits b
  numbers = rw (eq-eqb (length image) 32 l) at o.number

  -- 0 exactly when groups 1 to 6 all hold of this kind
  pub kind_accepts : (n ≡ 0 → AllHold (groups limits b)) × (AllHold (groups limits b) → n ≡ 0)
  kind_accepts = let (p, q) = accepts_exactly limits b in (λ z. p (sym numbers ∙ z), λ h. numbers ∙ q h)

  -- and g = i + 1 exactly when groups 1 to i hold and group g does not
  pub kind_refuses : (i : ℕ) → (n ≡ suc i → FirstBroken i (groups limits b)) × (FirstBroken i (groups limits b) → n ≡ suc i)
  kind_refuses i = let (p, q) = refuses_exactly limits b i in (λ z. p (sym numbers ∙ z), λ h. numbers ∙ q h)

-- a set that hk_super_open accepts, lent alone or as either set of two: hk_open and hk_two_open do not accept it, and "Events refuse this kind with 7", whichever
-- export tells the event
module _ {set serial image : List ℕ} {left : List ℕ} (l : length image ≡ 32) (o : OpensAs super_speed (lent set serial) image 0 left) {b : Board} (lends : Lends set serial b) where
  accepts : opening super_speed (lent set serial) ≡ 0
  accepts = sym (numbers l o)

  pub super_not_opens : {other after : List ℕ} → length other ≡ 32 → Opens b other 0 after → ⊥
  unfolding opened
  super_not_opens {other} m p = not_opened accepts lends (sym (rw (eq-eqb (length other) 32 m) at p.number))

  -- hk_status_end and the other calls without bytes or a part
  pub super_happens : {was after : List ℕ} {n : ℕ} {e : Event} → Happens b was e n after → n ≡ 7
  super_happens {was} {e = e} h = h.number ∙ ap number_of (refused_events accepts lends was e)

  -- hk_setup
  pub super_setup : {lie : Spots} {was setup : List ℕ} {n : ℕ} {after bytes : List ℕ} {count : ℕ} {shown : List ℕ} {spot : Spot}
      → AnswersSetup b lie was setup n after bytes count shown spot → n ≡ 7
  super_setup {was = was} {setup} a = a.answers.number ∙ ap number_of (refused_events accepts lends was (setup_event setup))

  -- hk_record_event, which leaves the record as it was
  pub super_record : {lie : Spots} {d : Device} {e : Event} {n : ℕ} {after : Device} {bytes : List ℕ} {count : ℕ} {shown : List ℕ} {spot : Spot}
      → AnswersRecordEvent b lie d e n after bytes count shown spot → (n ≡ 7) × (after ≡ d)
  super_record {d = d} {e} a =
      let r = refused_steps accepts lends d e in
      (a.answers.number ∙ ap (λ (x : Outcome). number_of x.answer) r, a.leaves ∙ ap (λ (x : Outcome). x.device) r)

  -- hk_two_event, hk_table_event and hk_two_table_event
  pub super_image : {lie : Spots} {was : List ℕ} {e : Event} {n : ℕ} {after bytes : List ℕ} {count : ℕ} {shown : List ℕ} {spot : Spot}
      → AnswersImage b lie was e n after bytes count shown spot → n ≡ 7
  super_image {was = was} {e} a = a.answers.number ∙ ap number_of (refused_events accepts lends was e)

  -- hk_port_event and hk_two_port_event: 18 at a port that is not there, "before 7"; either way the row stays as it was
  pub super_port : {lie : Spots} {row : List Device} {port : ℕ} {e : Event} {n : ℕ} {after : List Device} {bytes : List ℕ} {count : ℕ} {shown : List ℕ} {spot : Spot}
      → AnswersPortEvent b lie row port e n after bytes count shown spot → (n ≡ pick (ltb port (length row)) 7 18) × (after ≡ row)
  super_port {row = row} {port} {e} a =
      let r = refused_steps accepts lends (record_at row port) e in
      cases (ltb port (length row))
      (λ p. rw p (rw (p, r) at a.answers.number, (rw (p, r) at a.leaves) ∙ set-get_or row port fresh))
      (λ p. rw p (rw p at a.answers.number, rw p at a.leaves))

-- ---- inhabited: the bench set as a SuperSpeed device
pub opens_s3 : OpensAs super_speed S3 start 0 fresh_image
unfolding computed
opens_s3 = record { number = refl; leaves = refl }

pub opens_s3_short : OpensAs super_speed S3 (replicate 31 170) 8 (replicate 31 170)
opens_s3_short = record { number = refl; leaves = refl }

pub holds_s3 : AllHold (groups super_speed S3)
holds_s3 = (kind_accepts {image = start} refl opens_s3).0 refl

-- lent as the full-speed set of two it gets 7 too
pub refused_in_pair : {n : ℕ} {after : List ℕ} → Happens (lent_two S3.set pair.set S3.serial) fresh_image (BusReset 1) n after → n ≡ 7
refused_in_pair = super_happens {image = start} refl opens_s3 (as_full pair.set)

pub reset_s3 : Happens S3 fresh_image (BusReset 0) 7 fresh_image
unfolding computed
reset_s3 = record { number = refl; leaves = refl }
