-- Demand 3 from packet to packet: in Configured, with nothing waiting, a status end changes nothing, so that the order of setups that concern different interfaces does not count.
-- No axiom.
use Rattle.octets.proofs.Vocabulary.{◌≡◌, refl, sym, ap, ◌∙◌, ℕ, List, [], ◌∷◌, Bool, true, false, not, false≢true, eq-eqb}
use Rattle.octets.specs.Sentences.{pick, every, only, is_some}
use Rattle.octets.proofs.Sentences.{both, joined, every-alike}
use Rattle.sets.specs.Opening.{Board, BytesOf}
use Rattle.sets.specs.View.{accepted}
use Rattle.records.specs.declared.Device.{Device}
use Rattle.records.specs.Device.{nothing}
use Rattle.records.specs.Image.{device_of}
use Rattle.events.specs.declared.Event.{Event}
use Rattle.events.specs.declared.Event.TheVariants.{Request, Malformed, StatusEnd, BusReset, Halt, PacketPassed, Power, Suspend, Resume, Wake}
use Rattle.events.specs.Answer.{done}
use Rattle.events.specs.Step.{Reply, reply_of, status_end, step, event}
use Rattle.laws.specs.Parts.{Settling, keeps, settles, wakes, rest, owned, kind, settle}
use Rattle.promises.specs.Keeps.{FitImage, event_fits}
use Rattle.promises.specs.Images.{on_image, leaves_as}
use Rattle.promises.specs.Order.{step_locality, concerns_throughout, order_images}
use Rattle.promises.specs.Rearranged.{Concerned, answer_of, image_after}
use Rattle.pipe_runs.specs.Runs.{events_in, device_after, tells_end, waiting_in}
use Rattle.pipe_runs.specs.Promises.{requests_in, OrderDoesNotCount}
use Rattle.pipe_runs.proofs.Moves.{nothing_else_moves}

-- the events that are no status end
abbrev requests : List Event → List Event
requests xs = only (λ (x : Event). not (tells_end x)) xs

-- a status end, by its name
is-end : (e : Event) → tells_end e ≡ true → e ≡ StatusEnd
is-end StatusEnd p = refl
is-end (Request s) p = absurd (false≢true p)
is-end Malformed p = absurd (false≢true p)
is-end (BusReset speed) p = absurd (false≢true p)
is-end (Halt a) p = absurd (false≢true p)
is-end (PacketPassed a) p = absurd (false≢true p)
is-end (Power source) p = absurd (false≢true p)
is-end Suspend p = absurd (false≢true p)
is-end Resume p = absurd (false≢true p)
is-end Wake p = absurd (false≢true p)

-- where nothing waits, nothing waits after a settling
nothing-waits : (m : Settling) (w : ℕ × ℕ) → w.0 ≡ nothing → (settle m w).0 ≡ nothing
nothing-waits keeps w p = p
nothing-waits settles w p = refl
nothing-waits wakes w p = p

module _ (b : Board) (octets : BytesOf b) (ok : accepted b ≡ true) where
  -- a status end with nothing waiting
  still : (image : List ℕ) → FitImage b image → waiting_in image ≡ nothing → (event b image StatusEnd).image ≡ image
  unfolding step status_end
  still image f w =
      let d = device_of image in
      let stays : step b d StatusEnd ≡ done d = rw (ok, f.fit, eq-eqb d.waiting nothing w) in
      ap (λ x. (event b x StatusEnd).image) (sym f.back) ∙ ap (λ (r : Reply). r.image) (on_image b d StatusEnd f.sized ∙ ap reply_of stays) ∙ f.back

  -- an event that concerns an interface
  module _ (image : List ℕ) (e : Event) (f : FitImage b image) (o : owned b (device_of image) e ≡ true) where
    waits-still : waiting_in image ≡ nothing → waiting_in (event b image e).image ≡ nothing
    waits-still w =
        let d = device_of image in
        ap (λ (x : Device). x.waiting) (leaves_as b image e f octets) ∙ ap (λ (x : ℕ × ℕ). x.0) ((step_locality b octets ok).rests d e (f.sized, f.fit) o)
        ∙ nothing-waits (kind e (answer_of b d e)) (rest d) w

    concerns-still : (xs : List Event) → Concerned b (device_of image) xs → Concerned b (device_of (event b image e).image) xs
    unfolding every
    concerns-still xs c =
        rw (leaves_as b image e f octets) (every-alike (owned b (step b (device_of image) e).device) (owned b (device_of image)) xs
        (λ x m. ap is_some (concerns_throughout b octets ok (device_of image) (e ∷ []) (f.sized, f.fit) (joined o refl) x)) ∙ c)

  one-skipped : (e : Event) (es : List Event) (image : List ℕ) → FitImage b image → waiting_in image ≡ nothing → Concerned b (device_of image) (requests (e ∷ es))
      → ((image : List ℕ) → FitImage b image → waiting_in image ≡ nothing → Concerned b (device_of image) (requests es)
      → device_after b image es ≡ image_after b image (requests es))
      → device_after b image (e ∷ es) ≡ image_after b image (requests (e ∷ es))
  unfolding only every
  one-skipped e es image f w c rec = go (tells_end e) refl c
    where
      go : (x : Bool) → tells_end e ≡ x → Concerned b (device_of image) (pick (not x) (e ∷ requests es) (requests es))
          → device_after b image (e ∷ es) ≡ image_after b image (pick (not x) (e ∷ requests es) (requests es))
      go true z q = ap (λ (x : Event). device_after b image (x ∷ es)) (is-end e z) ∙ ap (λ i. device_after b i es) (still image f w) ∙ rec image f w q
      go false z q =
          let (o, rest) = both (owned b (device_of image) e) (every (owned b (device_of image)) (requests es)) q in
          rec (event b image e).image (event_fits b octets ok image e f) (waits-still image e f o w) (concerns-still image e f o (requests es) rest)

  skipped : (es : List Event) (image : List ℕ) → FitImage b image → waiting_in image ≡ nothing → Concerned b (device_of image) (requests es)
      → device_after b image es ≡ image_after b image (requests es)
  unfolding only
  skipped [] image f w c = refl
  skipped (e ∷ es) image f w c = one-skipped e es image f w c (λ image' f' w' c'. skipped es image' f' w' c')

pub order_does_not_count : OrderDoesNotCount
order_does_not_count b octets ok r f w es fs same =
    let (end, alike) = order_images b octets ok r.image f (requests_in b r es) (requests_in b r fs) same in (
      nothing_else_moves b r es ∙ skipped b octets ok (events_in b r es) r.image f w same.one ∙ end
          ∙ sym (skipped b octets ok (events_in b r fs) r.image f w same.other) ∙ sym (nothing_else_moves b r fs),
      alike,
    )
