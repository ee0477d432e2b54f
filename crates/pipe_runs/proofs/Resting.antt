-- A pipe at rest: idle or stalled. Until the next SETUP or reset nothing goes out, nothing may come in, and no status end is told. No axiom.
use Rattle.octets.proofs.Vocabulary.{◌≡◌, refl, ℕ, List, [], ◌∷◌, ◌++◌, true, false, false≢true, length, eqb, arith, eq-eqb}
use Rattle.sets.specs.Opening.{Board}
use Rattle.sets.specs.View.{accepted}
use Rattle.records.specs.Image.{device_of}
use Rattle.records.specs.Fits.{fits_on}
use Rattle.requests.specs.Table.{setup_of}
use Rattle.events.specs.declared.Event.TheVariants.{Malformed}
use Rattle.laws.proofs.Outcomes.{chosen}
use Rattle.events.specs.Answer.{Outcome, number_of, bytes_of}
use Rattle.events.specs.Step.{Reply, step, event}
use Rattle.order.specs.Run.{All}
use Rattle.pipes.specs.declared.Lengths.{Lengths}
use Rattle.pipes.specs.declared.Transfer.{Transfer}
use Rattle.pipes.specs.declared.Wire.{Wire}
use Rattle.pipes.specs.declared.Wire.TheVariants.{Setup, Taken, Received, Reset, Reply as Replies, Room, Accept, Refuse, Unknown}
use Rattle.pipes.specs.Transfer.{idle, stalled, send, receive, await, fits}
use Rattle.pipes.specs.Image.{transfer_of, image_of, fits_in}
use Rattle.pipes.specs.Turns.{stays, taken, received, replied, roomed, accepted as accepts, refused as refuses, turned, begun, started, reply_at}
use Rattle.pipes.specs.Pipe.{Told, Records, Heard, lengths_of, order_begun, pipe_begun, on_transfer, heard_as, heard, packet_size}
use Rattle.pipe_runs.specs.Runs.{Other, halt, packet_passed, power, suspend, resume, wake, other_event, Happening, on_wire, beside, leaves, leaves_by, after, heard_in, Resting, is_idle, is_stalled, quiet, is_quiet, ends_at, events_by, events_at, events_in, tells_end, no_end}

-- ---- an event number that is none gets 7, 8 or 9
pub data Malforms : ℕ → Type 0 where
  with7 : Malforms 7
  with8 : Malforms 8
  with9 : Malforms 9

pub malforms : (b : Board) (image : List ℕ) → Malforms (number_of (event b image Malformed).answer)
unfolding event step
malforms b image =
    chosen (λ (r : Reply). Malforms (number_of r.answer)) (eqb (length image) 32)
    (λ _. chosen (λ (o : Outcome). Malforms (number_of o.answer)) (accepted b)
    (λ _. chosen (λ (o : Outcome). Malforms (number_of o.answer)) (fits_on b (device_of image)) (λ _. with9) (λ _. with8)) (λ _. with7))
    (λ _. chosen Malforms (accepted b) (λ _. with8) (λ _. with7))

-- ---- what an event makes of a pipe at rest: nothing goes out, nothing may come in, and it stays at rest
pub record Rests (h : Heard) : Type 0 where
  pub sends_nothing : h.order ≡ send → ⊥
  pub receives_nothing : h.order ≡ receive → ⊥
  pub awaits_nothing : h.order ≡ await → ⊥
  pub resting : Resting h.left.pipe

rests-with : {order number : ℕ} {bytes : List ℕ} {r : Records} → (order ≡ send → ⊥) → (order ≡ receive → ⊥) → (order ≡ await → ⊥) → Resting r.pipe
    → Rests (record { number = number; order = order; bytes = bytes; left = r })
rests-with s t u p = record { sends_nothing = s; receives_nothing = t; awaits_nothing = u; resting = p }

malformed-rests : (n : ℕ) → Malforms n → (bytes image pipe : List ℕ) (t : Transfer) → Resting pipe
    → Rests (record { number = n; order = order_begun n (begun n t); bytes = bytes; left = record { image = image; pipe = pipe_begun n pipe (begun n t) } })
malformed-rests n with7 bytes image pipe t p = rests-with (λ e. omega arith) (λ e. omega arith) (λ e. omega arith) is_stalled
malformed-rests n with8 bytes image pipe t p = rests-with (λ e. omega arith) (λ e. omega arith) (λ e. omega arith) is_stalled
malformed-rests n with9 bytes image pipe t p = rests-with (λ e. omega arith) (λ e. omega arith) (λ e. omega arith) p

idle-fits : (l : Lengths) → fits_in l (image_of idle) ≡ true
unfolding transfer_of image_of fits
idle-fits l = refl

stalled-fits : (l : Lengths) → fits_in l (image_of stalled) ≡ true
unfolding transfer_of image_of fits
stalled-fits l = refl

idle-stays : (n : ℕ) (w : Wire) → turned n w (transfer_of (image_of idle)) ≡ stays idle
unfolding transfer_of image_of turned taken received replied roomed accepts refuses
idle-stays n Setup = refl
idle-stays n (Reset speed) = refl
idle-stays n Unknown = refl
idle-stays n Taken = refl
idle-stays n (Received m) = refl
idle-stays n Replies = refl
idle-stays n (Room m) = refl
idle-stays n Accept = refl
idle-stays n Refuse = refl

stalled-stays : (n : ℕ) (w : Wire) → turned n w (transfer_of (image_of stalled)) ≡ stays stalled
unfolding transfer_of image_of turned taken received replied roomed accepts refuses
stalled-stays n Setup = refl
stalled-stays n (Reset speed) = refl
stalled-stays n Unknown = refl
stalled-stays n Taken = refl
stalled-stays n (Received m) = refl
stalled-stays n Replies = refl
stalled-stays n (Room m) = refl
stalled-stays n Accept = refl
stalled-stays n Refuse = refl

module _ (b : Board) (image : List ℕ) (e : Told) where
  on-transfer : (pipe : List ℕ) → Resting pipe → Rests (on_transfer b (record { image = image; pipe = pipe }) e)
  on-transfer pipe is_idle = rw (idle-fits (lengths_of b image e.reply), idle-stays (length e.reply) e.wire) (rests-with (λ e. omega arith) (λ e. omega arith) (λ e. omega arith) is_idle)
  on-transfer pipe is_stalled = rw (stalled-fits (lengths_of b image e.reply), stalled-stays (length e.reply) e.wire) (rests-with (λ e. omega arith) (λ e. omega arith) (λ e. omega arith) is_stalled)

  by-wire : (pipe : List ℕ) → Resting pipe → (w : Wire) → quiet w ≡ true → Rests (heard_as b (record { image = image; pipe = pipe }) e w)
  by-wire pipe p Setup q = absurd (false≢true q)
  by-wire pipe p (Reset speed) q = absurd (false≢true q)
  by-wire pipe p Unknown q =
      let w = event b image Malformed in
      malformed-rests (number_of w.answer) (malforms b image) (bytes_of w.answer) w.image pipe (started (reply_at w.answer) (setup_of e.setup) (packet_size b image)) p
  by-wire pipe p Taken q = on-transfer pipe p
  by-wire pipe p (Received n) q = on-transfer pipe p
  by-wire pipe p Replies q = on-transfer pipe p
  by-wire pipe p (Room n) q = on-transfer pipe p
  by-wire pipe p Accept q = on-transfer pipe p
  by-wire pipe p Refuse q = on-transfer pipe p

  pub resting-long : (pipe : List ℕ) → Resting pipe → length pipe ≡ 16
  unfolding image_of
  resting-long pipe is_idle = refl
  resting-long pipe is_stalled = refl

  rests : (pipe : List ℕ) → Resting pipe → quiet e.wire ≡ true → Rests (heard b (record { image = image; pipe = pipe }) e)
  unfolding heard
  rests pipe p q = rw (eq-eqb (length pipe) 16 (resting-long pipe p)) (by-wire pipe p e.wire q)

  -- no transfer ends
  pub no_end_lem : (pipe : List ℕ) → Resting pipe → ends_at b (record { image = image; pipe = pipe }) e ≡ false
  no_end_lem pipe is_idle = rw (idle-fits (lengths_of b image e.reply), idle-stays (length e.reply) e.wire)
  no_end_lem pipe is_stalled = rw (stalled-fits (lengths_of b image e.reply), stalled-stays (length e.reply) e.wire)

-- ---- at rest, one event
pub rests_at : (b : Board) (r : Records) (e : Told) → Resting r.pipe → quiet e.wire ≡ true → Rests (heard b r e)
rests_at b r e p q = rests b r.image e r.pipe p q

-- ---- a run: "from stalled on, no packet until the next SETUP or reset"
pub rests_in : (b : Board) (r : Records) (es : List Happening) → Resting r.pipe → All is_quiet es
    → All Rests (heard_in b r es) × Resting (after b r es).pipe
rests_in b r [] p q = (tt, p)
rests_in b r (beside x ∷ es) p (q, qs) = rests_in b (leaves_by b r (beside x)) es p qs
rests_in b r (on_wire e ∷ es) p (q, qs) =
    let h = rests_at b r e p q in
    let (hs, last) = rests_in b (leaves b r e) es h.resting qs in
    ((h, hs), last)

-- ---- no status end is told
no-end-by : (b : Board) (r : Records) (e : Told) → Resting r.pipe → (w : Wire) → quiet w ≡ true → All no_end (events_by b r e w)
no-end-by b r e p Setup q = absurd (false≢true q)
no-end-by b r e p (Reset speed) q = absurd (false≢true q)
no-end-by b r e p Unknown q = (refl, tt)
no-end-by b r e p Taken q = rw (no_end_lem b r.image e r.pipe p) tt
no-end-by b r e p (Received n) q = rw (no_end_lem b r.image e r.pipe p) tt
no-end-by b r e p Replies q = rw (no_end_lem b r.image e r.pipe p) tt
no-end-by b r e p (Room n) q = rw (no_end_lem b r.image e r.pipe p) tt
no-end-by b r e p Accept q = rw (no_end_lem b r.image e r.pipe p) tt
no-end-by b r e p Refuse q = rw (no_end_lem b r.image e r.pipe p) tt

all_append : {E : Type 0} (P : E → Type 0) (xs ys : List E) → All P xs → All P ys → All P (xs ++ ys)
all_append P [] ys p q = q
all_append P (x ∷ xs) ys (p, ps) q = (p, all_append P xs ys ps q)

pub other_no_end : (x : Other) → tells_end (other_event x) ≡ false
other_no_end (halt a) = refl
other_no_end (packet_passed a) = refl
other_no_end (power source) = refl
other_no_end suspend = refl
other_no_end resume = refl
other_no_end wake = refl

pub no_end_in : (b : Board) (r : Records) (es : List Happening) → Resting r.pipe → All is_quiet es → All no_end (events_in b r es)
no_end_in b r [] p q = tt
no_end_in b r (beside x ∷ es) p (q, qs) = (other_no_end x, no_end_in b (leaves_by b r (beside x)) es p qs)
no_end_in b r (on_wire e ∷ es) p (q, qs) =
    all_append no_end (events_at b r e) (events_in b (leaves b r e) es)
    (chosen (All no_end) (eqb (length r.pipe) 16) (λ _. no-end-by b r e p e.wire q) (λ _. tt))
    (no_end_in b (leaves b r e) es (rests_at b r e p q).resting qs)
