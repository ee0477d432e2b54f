-- The words of demand 3: two runs in which each interface has the same events in the same order, the record after a run, and what each
-- interface's events are answered.
use Rattle.std.specs.Prelude.{ℕ, ◌≡◌, true, List}
use Rattle.octets.specs.Sentences.{every, only}
use Rattle.sets.specs.Opening.{Board}
use Rattle.records.specs.declared.Device.{Device}
use Rattle.records.specs.Image.{device_of}
use Rattle.events.specs.declared.Event.{Event}
use Rattle.events.specs.Answer.{Answer, number_of, bytes_of, Part, part_of}
use Rattle.events.specs.Concerns.{concerns_on}
pub use Rattle.events.specs.Concerns.{is_this}
use Rattle.events.specs.Step.{step, event}
use Rattle.order.specs.Run.{run, answers, log}
use Rattle.laws.specs.Parts.{owned}

-- ---- another order
-- every event of the run concerns an interface that exists. Whom an event concerns hangs on the state and the configuration alone, which
-- no such event changes: it is the same at every record of the run (`concerns_throughout`)
abbrev pub Concerned : Board → Device → List Event → Type 0
Concerned b d xs = every (owned b d) xs ≡ true

-- the events of a run that concern interface k, in their order
abbrev pub events_of : Board → Device → ℕ → List Event → List Event
events_of b d k = only (λ e. is_this k (concerns_on b d e))

pub record Rearranged (b : Board) (d : Device) (xs ys : List Event) : Type 0 where
  pub one : Concerned b d xs
  pub other : Concerned b d ys
  pub same : (k : ℕ) → events_of b d k xs ≡ events_of b d k ys

-- ---- a run over the record
abbrev pub answer_of : Board → Device → Event → Answer
answer_of b d e = (step b d e).answer

abbrev pub next_of : Board → Device → Event → Device
next_of b d e = (step b d e).device

-- the same with byte 7 of the record that the event found: it says of which set a part is (L7)
abbrev pub answer_at : Board → Device → Event → ℕ × Answer
answer_at b d e = (d.speed, answer_of b d e)

-- the record after it
abbrev pub after : Board → Device → List Event → Device
after b = run (next_of b)

-- its answers, in its order
abbrev pub answered : Board → Device → List Event → List Answer
answered b = answers (answer_of b) (next_of b)

-- its events that concern interface k, in their order, each with the answer that it gets
abbrev pub heard : Board → Device → ℕ → List Event → List (Event × Answer)
heard b d k xs = only (λ p. is_this k (concerns_on b d p.0)) (log (answer_of b) (next_of b) d xs)

-- ---- the same over the 32 bytes that C hands over, with document 01's number, bytes and part
pub record Values : Type 0 where
  pub number : ℕ
  pub bytes : List ℕ
  pub part : Part

abbrev pub values_of : Answer → Values
values_of a = record { number = number_of a; bytes = bytes_of a; part = part_of a }

abbrev pub image_answer : Board → List ℕ → Event → Values
image_answer b image e = values_of (event b image e).answer

abbrev pub image_next : Board → List ℕ → Event → List ℕ
image_next b image e = (event b image e).image

abbrev pub image_after : Board → List ℕ → List Event → List ℕ
image_after b = run (image_next b)

abbrev pub image_answered : Board → List ℕ → List Event → List Values
image_answered b = answers (image_answer b) (image_next b)

abbrev pub image_heard : Board → List ℕ → ℕ → List Event → List (Event × Values)
image_heard b image k xs =
    only (λ p. is_this k (concerns_on b (device_of image) p.0)) (log (image_answer b) (image_next b) image xs)
