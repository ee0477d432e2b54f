-- A SETUP drops the transfer under way, whatever the pipe record: no pipe record locks the device out; and one that is refused stalls. No axiom.
use Rattle.octets.proofs.Vocabulary.{◌≡◌, refl, sym, ap, subst, ◌∙◌, ℕ, List, Bool, true, false, ◌&&◌, false≢true, length, eqb, eq-eqb, ne_eqb}
use Rattle.octets.specs.Sentences.{pick}
use Rattle.sets.specs.Opening.{Board}
use Rattle.sets.specs.View.{accepted}
use Rattle.records.specs.declared.Device.{Device}
use Rattle.records.specs.Device.{in_test_mode}
use Rattle.records.specs.Image.{device_of}
use Rattle.records.specs.Fits.{fits_on}
use Rattle.requests.specs.declared.Setup.{Setup}
use Rattle.requests.specs.Table.{setup_of}
use Rattle.events.specs.declared.Event.TheVariants.{Request, Malformed}
use Rattle.events.specs.Answer.{number_of, bytes_of}
use Rattle.events.specs.Step.{Reply, setup_event, event}
use Rattle.laws.proofs.Outcomes.{chosen}
use Rattle.promises.specs.Refusal.{allows_fit, allows_image}
use Rattle.promises.specs.Refusals.{event_number}
use Rattle.pipes.specs.Transfer.{idle, stalled, stall}
use Rattle.pipes.specs.Image.{image_of}
use Rattle.pipes.specs.Turns.{Turn, reply_at, started, stalls, begun}
use Rattle.pipes.specs.Pipe.{Records, Heard, packet_size, heard}
use Rattle.pipe_runs.specs.Runs.{a_setup, answered_with}

-- ---- a setup of 8 bytes is never malformed
not-nine : (d : Device) (s : Setup) → allows_fit d (Request s) 9 ≡ false
not-nine d s = go (in_test_mode d && true)
  where
    go : (t : Bool) → pick t (eqb 9 17) false ≡ false
    go true = refl
    go false = refl

never_nine : (b : Board) (image setup : List ℕ) → length setup ≡ 8 → answered_with b image setup ≡ 9 → ⊥
never_nine b image setup long nine = false≢true (sym refuse ∙ allow)
  where
    s : Setup
    s = setup_of setup

    allow : allows_image b image (Request s) 9 ≡ true
    allow =
        let e : number_of (event b image (Request s)).answer ≡ 9 =
        ap (λ (t : Bool). number_of (event b image (pick t (Request s) Malformed)).answer) (sym (eq-eqb (length setup) 8 long)) ∙ nine in
        subst (λ n. allows_image b image (Request s) n ≡ true) e (event_number b image (Request s))

    refuse : allows_image b image (Request s) 9 ≡ false
    refuse =
        chosen (λ (t : Bool). t ≡ false) (accepted b)
        (λ _. chosen (λ (t : Bool). t ≡ false) (eqb (length image) 32 && fits_on b (device_of image)) (λ _. not-nine (device_of image) s) (λ _. refl))
        (λ _. refl)

-- ---- what a setup of 8 bytes gets, from a pipe record of 16 bytes
module _ (b : Board) (r : Records) (setup reply : List ℕ) (long : length r.pipe ≡ 16) (eight : length setup ≡ 8) where
  abbrev w : Reply
  w = event b r.image (setup_event setup)

  abbrev turn : Turn
  turn = begun (number_of w.answer) (started (reply_at w.answer) (setup_of setup) (packet_size b r.image))

  pub begun-by : heard b r (a_setup setup reply) ≡
      record { number = number_of w.answer; order = turn.order; bytes = bytes_of w.answer; left = record { image = w.image; pipe = image_of turn.transfer } }
  unfolding heard
  begun-by = rw (eq-eqb (length r.pipe) 16 long, ne_eqb (number_of w.answer) 9 (never_nine b r.image setup eight))

  -- "A refused setup sends nothing": it stalls
  pub refused_stalls : (answered_with b r.image setup ≡ 0 → ⊥) → (answered_with b r.image setup ≡ 10 → ⊥)
      → ((heard b r (a_setup setup reply)).order ≡ stall) × ((heard b r (a_setup setup reply)).left.pipe ≡ image_of stalled)
  refused_stalls p q =
      let e : turn ≡ stalls = rw (ne_eqb (number_of w.answer) 0 p, ne_eqb (number_of w.answer) 10 q) in
      (ap (λ (h : Heard). h.order) begun-by ∙ ap (λ (t : Turn). t.order) e, ap (λ (h : Heard). h.left.pipe) begun-by ∙ ap (λ (t : Turn). image_of t.transfer) e)

-- "whatever the sixteen bytes, the next SETUP is answered as from idle"
idle-long : length (image_of idle) ≡ 16
unfolding image_of
idle-long = refl

pub no_lock_out : (b : Board) (image pipe setup reply : List ℕ) → length pipe ≡ 16 → length setup ≡ 8
    → heard b (record { image = image; pipe = pipe }) (a_setup setup reply) ≡ heard b (record { image = image; pipe = image_of idle }) (a_setup setup reply)
no_lock_out b image pipe setup reply long eight =
    begun-by b (record { image = image; pipe = pipe }) setup reply long eight
    ∙ sym (begun-by b (record { image = image; pipe = image_of idle }) setup reply idle-long eight)
