-- Demand 3: another order of events that concern different interfaces changes no answer and no byte of the record. And, from the same laws,
-- that one interface's driver does not notice the others'. No axiom.
use Rattle.std.specs.Prelude.{ℕ, suc, ◌≡◌, Bool, true, false, not, eqb}
use Rattle.std.proofs.Common.{arith, sym, ◌∙◌}
use Rattle.std.proofs.Math.Path.{refl, ap}
use mathlib.Core.List.{List, [], ◌∷◌, map}
use Rattle.std.proofs.Math.Option
use Rattle.std.proofs.Math.Option.{some}
use Rattle.std.proofs.Math.ListN.{get_elem?}
use Rattle.octets.specs.Sentences.{every, only, is_some}
use Rattle.octets.proofs.Sentences.{both, every-alike}
use Rattle.sets.specs.Opening.{Board, BytesOf}
use Rattle.sets.specs.View.{accepted}
use Rattle.records.specs.declared.Device.{Device}
use Rattle.records.specs.Fits.{fits_on}
use Rattle.records.specs.Image.{device_of, image_of}
use Rattle.records.specs.Device.{test_waits, Sized}
use Rattle.events.specs.Answer.{Answer, Outcome}
use Rattle.events.specs.declared.Event.{Event}
use Rattle.events.specs.Concerns.{concerns_on}
use Rattle.events.specs.Step.{step, Reply, reply_of, event}
use Rattle.order.specs.Run.{log, own}
use Rattle.order.proofs.Run.{run-shown, answers-shown, log-shown}
use Rattle.order.proofs.Shuffle.{all-shuffle}
use Rattle.order.specs.Places.{Permuted}
use Rattle.order.proofs.Places.{shuffle-of, own-places, places-own}
use Rattle.order.specs.Strike.{strike, left, FairRun}
use Rattle.order.specs.Owners.{Owners, others, Idle}
use Rattle.order.proofs.Owners.{along, seen, ordered, ordered-places, unnoticed-by}
use Rattle.order.proofs.Beside.{fair-run}
use Rattle.promises.specs.Sound.{sound}
use Rattle.promises.specs.Keeps.{FitImage, step_fits}
use Rattle.promises.specs.Images.{on_image}
use Rattle.laws.specs.Parts.{Good, Shared, shared, Same, rest, owned, who, drops, kind, settle}
use Rattle.laws.proofs.Locality.{respond_on, concerns-by, idle, locality}
use Rattle.promises.specs.Rearranged.{Concerned, is_this, Rearranged, answer_of, answer_at, next_of, after, answered, heard, Values, values_of, image_answer, image_next, image_after, image_answered, image_heard}
use Rattle.laws.proofs.Picking.{own_is, all_of, of-all, every-log, only-map, map_at, mapped_at}

-- ---- another order, said by each interface's events and said by places, is one thing
module _ (b : Board) (d : Device) (xs ys : List Event) where
  own_same : Rearranged b d xs ys → (k : ℕ) → own (who b d) k xs ≡ own (who b d) k ys
  own_same r k = own_is (concerns_on b d) k xs r.one ∙ r.same k ∙ sym (own_is (concerns_on b d) k ys r.other)

  pub places : Rearranged b d xs ys → Permuted (who b d) xs ys
  places r = places-own xs ys (own_same r)

  pub placed : Concerned b d xs → Permuted (who b d) xs ys → Rearranged b d xs ys
  placed p w =
      let moved = all-shuffle (λ e. owned b d e ≡ true) (shuffle-of (who b d) xs ys w) (all_of (owned b d) xs p) in
      let q : Concerned b d ys = of-all (owned b d) ys moved in
      record { one = p; other = q; same = λ k. sym (own_is (concerns_on b d) k xs p) ∙ own-places xs ys w k ∙ own_is (concerns_on b d) k ys q }

-- an event that arrives in Configured and concerns another interface than k
abbrev pub struck_for : Board → ℕ → Device → Event → Bool
struck_for b = others (owned b) (who b)

-- it may be struck where it has nothing to settle: what waits and the sleep byte stay as they are
abbrev pub Fair : Board → Device → Event → Type 0
Fair b = Idle (answer_of b) rest kind settle

-- "the premise that no struck event arrived while suspended" (L12); and no struck setup, which would drop it, arrived while a test mode waited (L7):
-- of "no struck setup may lie between a test mode request and the next status end" the part that is needed
abbrev pub Quiet : Device → Event → Type 0
Quiet d e = (d.suspended ≡ 0) × (drops e ≡ true → test_waits d ≡ false)

-- every event left of a run gets the answer that it got, with a part of the same set; what interface k can tell (state, address, configuration, wakeup,
-- power, byte 7, k's setting, halts and toggles), and the rest (what waits, and byte 6) end the same
abbrev pub Unnoticed : Board → ℕ → Device → List Event → Type 0
Unnoticed b k d xs = (let kept = strike (next_of b) (struck_for b k) d xs in
    (left (answer_at b) (next_of b) (struck_for b k) d xs ≡ log (answer_at b) (next_of b) d kept)
    × Same b k (after b d xs) (after b d kept)
    × (rest (after b d xs) ≡ rest (after b d kept)))

-- ---- for one accepted set and serial block
module _ (b : Board) (bytes : BytesOf b) (ok : accepted b ≡ true) where
  -- at a record that fits, an event is answered by its own rules
  steps : (d : Device) (e : Event) → Good b d → step b d e ≡ respond_on b d e
  unfolding step
  steps d e g = rw (ok, g.1)

  keeps : (d : Device) (e : Event) → Good b d → Good b (step b d e).device
  keeps d e g = let (f, z) = step_fits b bytes ok d e g.0 g.1 in (z, f)

  -- ---- locality of the step, for every event
  pub step_locality : Owners (answer_of b) (next_of b) (Good b) (owned b) (who b) (Same b) rest kind settle
  step_locality = along
      (locality b (sound b bytes ok) (λ d e g. rw (steps d e g) at (keeps d e g)))
      (λ d e g. ap (λ (o : Outcome). o.answer) (steps d e g))
      (λ d e g. ap (λ (o : Outcome). o.device) (steps d e g))

  -- the same with byte 7 of the record that the event found, which chooses the set that a part is of (L7)
  pub step_locality_at : Owners {A = ℕ × Answer} (answer_at b) (next_of b) (Good b) (owned b) (who b) (Same b) rest (λ e a. kind e a.1) settle
  step_locality_at = seen step_locality (λ d. d.speed) (λ k r s h. ap (λ (x : Shared). x.speed) h.firm)

  -- an event that concerns an interface leaves the shared fields; so an event concerns throughout a run whom it concerns at its start
  pub shared_stay : (d : Device) (e : Event) → Good b d → owned b d e ≡ true → shared (step b d e).device ≡ shared d
  shared_stay d e g o = (step_locality.apart (suc (who b d e)) d e g o (λ p. omega arith)).firm

  concerns-next : (d : Device) (e f : Event) → Good b d → owned b d e ≡ true
      → concerns_on b (step b d e).device f ≡ concerns_on b d f
  concerns-next d e f g o = concerns-by b (step b d e).device d f (shared_stay d e g o)

  pub concerns_throughout : (d : Device) (xs : List Event) → Good b d → Concerned b d xs
      → (f : Event) → concerns_on b (after b d xs) f ≡ concerns_on b d f
  unfolding every
  concerns_throughout d [] g p f = refl
  concerns_throughout d (e ∷ xs) g p f =
      let (o, q) = both (owned b d e) (every (owned b d) xs) p in
      let still = every-alike (owned b (step b d e).device) (owned b d) xs (λ x m. ap is_some (concerns-next d e x g o)) in
      concerns_throughout (step b d e).device xs (keeps d e g) (still ∙ q) f ∙ concerns-next d e f g o

  module _ (d : Device) (sized : Sized d) (fit : fits_on b d ≡ true) where
    -- ---- demand 3: the record after both runs is the same, and so is each interface's list of events and answers: its n-th event is the
    -- same in both and gets the same answer. (That an event concerns an interface says that the record is Configured.)
    pub order : (xs ys : List Event) → Rearranged b d xs ys
        → (after b d xs ≡ after b d ys) × ((k : ℕ) → heard b d k xs ≡ heard b d k ys)
    order xs ys r =
        let (end, logs) = ordered step_locality d (sized, fit) xs ys (all_of (owned b d) xs r.one) (own_same b d xs ys r) in
        (end, λ k. sym (picked k xs r.one) ∙ logs k ∙ picked k ys r.other)
      where
        picked : (k : ℕ) (zs : List Event) → Concerned b d zs
            → own (λ (p : Event × Answer). who b d p.0) k (log (answer_of b) (next_of b) d zs) ≡ heard b d k zs
        picked k zs p = own_is (λ (p : Event × Answer). concerns_on b d p.0) k (log (answer_of b) (next_of b) d zs)
            (every-log (owned b d) (answer_of b) (next_of b) d zs p)

    -- the same place by place: the event at place i of xs, which stands at place `to i` of ys, gets the same answer there
    pub order_places : (xs ys : List Event) → Concerned b d xs → (w : Permuted (who b d) xs ys)
        → (after b d xs ≡ after b d ys)
        × ((i : ℕ) (a : Answer) → get_elem? (answered b d xs) i ≡ some a → get_elem? (answered b d ys) (w.to i) ≡ some a)
    order_places xs ys p w = ordered-places step_locality d (sized, fit) xs ys (all_of (owned b d) xs p) w

    -- ---- one driver does not notice the other: where the run is fair, strike out the events that concern another interface than k, and every
    -- event left gets the same answer; the shared fields, k's setting, halts and toggles, and the rest end the same
    pub unnoticed_fair : (k : ℕ) (xs : List Event) → FairRun (next_of b) (struck_for b k) (Fair b) d xs → Unnoticed b k d xs
    unnoticed_fair k xs fair = unnoticed-by step_locality_at k d (sized, fit) xs fair

    -- a run is, where no struck event arrives while suspended, and no struck setup while a test mode waits
    pub unnoticed : (k : ℕ) (xs : List Event) → FairRun (next_of b) (struck_for b k) Quiet d xs → Unnoticed b k d xs
    unnoticed k xs quiet = unnoticed_fair k xs (fair-run (next_of b) (struck_for b k) Quiet (Fair b) (Good b) keeps
        (λ r e g p z. idle b r e (answer_of b r e) g.1 z.0 z.1 (both (owned b r e) (not (eqb (who b r e) k)) p).0) d (sized, fit) xs quiet)

  -- ---- demand 3 on the 32 bytes that C hands over
  module _ (image : List ℕ) (f : FitImage b image) where
    good : Good b (device_of image)
    good = (f.sized, f.fit)

    shows : (d : Device) (e : Event) → Good b d → event b (image_of d) e ≡ reply_of (step b d e)
    shows d e g = on_image b d e g.0

    same-values : (d : Device) (e : Event) → Good b d → image_answer b (image_of d) e ≡ values_of (answer_of b d e)
    same-values d e g = ap (λ (r : Reply). values_of r.answer) (shows d e g)

    same-image : (d : Device) (e : Event) → Good b d → image_next b (image_of d) e ≡ image_of (next_of b d e)
    same-image d e g = ap (λ (r : Reply). r.image) (shows d e g)

    -- the run of images is the images of the run
    module _ (xs : List Event) where
      after-shown : image_after b image xs ≡ image_of (after b (device_of image) xs)
      after-shown = ap (λ i. image_after b i xs) (sym f.back)
          ∙ run-shown (answer_of b) (next_of b) (image_answer b) (image_next b) (Good b) image_of values_of keeps same-values same-image
          (device_of image) xs good

      answered-shown : image_answered b image xs ≡ map values_of (answered b (device_of image) xs)
      answered-shown = ap (λ i. image_answered b i xs) (sym f.back)
          ∙ answers-shown (answer_of b) (next_of b) (image_answer b) (image_next b) (Good b) image_of values_of keeps same-values same-image
          (device_of image) xs good

      heard-shown : (k : ℕ) → image_heard b image k xs ≡ map (λ p. (p.0, values_of p.1)) (heard b (device_of image) k xs)
      heard-shown k =
          let own : Event × Values → Bool = λ p. is_this k (concerns_on b (device_of image) p.0) in
          ap (λ i. only own (log (image_answer b) (image_next b) i xs)) (sym f.back)
          ∙ ap (only own) (log-shown (answer_of b) (next_of b) (image_answer b) (image_next b) (Good b) image_of values_of keeps
          same-values same-image (device_of image) xs good)
          ∙ only-map own (λ p. (p.0, values_of p.1)) (log (answer_of b) (next_of b) (device_of image) xs)

    pub order_images : (xs ys : List Event) → Rearranged b (device_of image) xs ys
        → (image_after b image xs ≡ image_after b image ys) × ((k : ℕ) → image_heard b image k xs ≡ image_heard b image k ys)
    order_images xs ys r =
        let (end, same) = order (device_of image) f.sized f.fit xs ys r in (
          after-shown xs ∙ ap image_of end ∙ sym (after-shown ys),
          λ k. heard-shown xs k ∙ ap (map (λ p. (p.0, values_of p.1))) (same k) ∙ sym (heard-shown ys k),
        )

    pub order_images_places : (xs ys : List Event) → Concerned b (device_of image) xs → (w : Permuted (who b (device_of image)) xs ys)
        → (image_after b image xs ≡ image_after b image ys)
        × ((i : ℕ) (a : Values) → get_elem? (image_answered b image xs) i ≡ some a → get_elem? (image_answered b image ys) (w.to i) ≡ some a)
    order_images_places xs ys p w =
        let (end, same) = order_places (device_of image) f.sized f.fit xs ys p w in (
          after-shown xs ∙ ap image_of end ∙ sym (after-shown ys),
          λ i a q.
              let (x, r, t) = mapped_at values_of (answered b (device_of image) xs) i (ap (λ l. get_elem? l i) (sym (answered-shown xs)) ∙ q) in
              ap (λ l. get_elem? l (w.to i)) (answered-shown ys) ∙ map_at values_of (answered b (device_of image) ys) (w.to i)
              ∙ ap (Option.map values_of) (same i x r) ∙ ap some t,
        )
