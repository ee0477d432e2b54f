-- An address is taken at the end of its own status stage, and never otherwise: the address byte changes only at a packet taken in status in, after a
-- SET_ADDRESS that was answered with 0 and no SETUP or reset since, or at a reset. No axiom.
use Rattle.octets.proofs.Vocabulary.{◌≡◌, refl, sym, ap, subst, ◌∙◌, ℕ, ◌≤◌, List, [], ◌∷◌, Bool, true, false, false≢true, ◌⊎◌, inl, inr, length, eqb, arith, eq-eqb, eqb-true, eqb-false}
use Rattle.octets.specs.Sentences.{pick}
use Rattle.octets.proofs.Sentences.{cases}
use Rattle.sets.specs.Opening.{Board}
use Rattle.requests.specs.declared.Setup.{Setup}
use Rattle.requests.specs.Table.{setup_of}
use Rattle.events.specs.declared.Event.{Event}
use Rattle.events.specs.declared.Event.TheVariants.{Request, Malformed, StatusEnd, BusReset}
use Rattle.events.specs.Answer.{number_of}
use Rattle.events.specs.Step.{Reply, setup_event, event}
use Rattle.pipes.specs.declared.Transfer.{Transfer}
use Rattle.pipes.specs.declared.Wire.{Wire}
use Rattle.pipes.specs.declared.Wire.TheVariants.{Setup as ASetup, Taken, Received, Reset, Reply as Replies, Room, Accept, Refuse, Unknown}
use Rattle.pipes.specs.Transfer.{idle, status_in, with_stage}
use Rattle.pipes.specs.Image.{transfer_of, image_of, fits_in}
use Rattle.pipes.specs.Turns.{Turn, reply_at, started, begun, sends_status, stalls, taken, received, replied, roomed, accepted, refused, turned}
use Rattle.pipes.specs.Pipe.{Told, Records, Heard, lengths_of, packet_size, unheard, begins, moves, on_transfer, heard_as, heard}
use Rattle.pipe_runs.specs.Runs.{Other, Happening, on_wire, beside, leaves, leaves_by, after, a_setup, quiet, Resting, is_idle, is_stalled, ends_at, if_ended, events_by, device_after, address_in, waiting_in}
use Rattle.pipe_runs.specs.Addresses.{drops, Addressed, asks, waits, Readdresses, stays, resets, takes}
use Rattle.pipe_runs.specs.Promises.{EndsBy, by_taken, by_empty}
use Rattle.pipe_runs.proofs.Moves.{moved}
use Rattle.pipe_runs.proofs.Resting.{Malforms, with7, with8, with9, malforms, rests_at, no_end_lem}
use Rattle.pipe_runs.proofs.Setups.{begun-by}
use Rattle.pipe_runs.proofs.Ends.{turned-ends, ends_how, told_once}
use Rattle.pipe_runs.proofs.Waiting.{WaitsIn, late, own, refused as refused_with, setup_leaves, malformed_same, reset_same, other_same, Applies, stays as address_stays, takes as address_takes, status_end_applies}

-- what is kept by every event: no address waits, or the pipe is at rest, or the address waits in its own status stage
pub data Pending (b : Board) (r : Records) : Type 0 where
  none : 128 ≤ waiting_in r.image → Pending b r
  rests : Resting r.pipe → Pending b r
  in_status : (transfer_of r.pipe).stage ≡ status_in → Addressed b (waiting_in r.image) r → Pending b r

-- ---- the address at an event
in-status : {t : Transfer} {w : Wire} → t.stage ≡ status_in → EndsBy t w → w ≡ Taken
in-status s (by_taken z) = refl
in-status s (by_empty (inl z)) = absurd (omega arith)
in-status s (by_empty (inr z)) = absurd (omega arith)

module _ (b : Board) (r : Records) (e : Told) (p : Pending b r) where
  quiet-wire : events_by b r e e.wire ≡ if_ended (ends_at b r e) → Readdresses b r (on_wire e)
  quiet-wire told = go (ends_at b r e) refl
    where
      after-end : ends_at b r e ≡ true → (leaves b r e).image ≡ (event b r.image StatusEnd).image
      after-end t = moved b r e ∙ ap (device_after b r.image) (told_once b r e t)

      applied : ends_at b r e ≡ true → Applies r.image (event b r.image StatusEnd) → Pending b r → Readdresses b r (on_wire e)
      applied t (address_stays z) k = stays (on_wire e) (ap address_in (after-end t) ∙ z)
      applied t (address_takes z l) (none m) = absurd (omega arith)
      applied t (address_takes z l) (rests k) = absurd (false≢true (sym (no_end_lem b r.image e r.pipe k) ∙ t))
      applied t (address_takes z l) (in_status s a) =
          takes e (in-status s (ends_how b r e t)) s
          (subst (λ n. Addressed b n r) (sym (ap address_in (after-end t) ∙ z)) a)

      go : (t : Bool) → ends_at b r e ≡ t → Readdresses b r (on_wire e)
      go true t = applied t (status_end_applies b r.image) p
      go false t = stays (on_wire e) (ap address_in (moved b r e ∙ unended (eqb (length r.pipe) 16)))
        where
          unended : (l : Bool) → device_after b r.image (pick l (events_by b r e e.wire) []) ≡ r.image
          unended true = ap (device_after b r.image) (told ∙ ap if_ended t)
          unended false = refl

  heard-image : (x : Event) → events_by b r e e.wire ≡ x ∷ [] → address_in (event b r.image x).image ≡ address_in r.image → Readdresses b r (on_wire e)
  heard-image x told same = stays (on_wire e) (ap address_in (moved b r e) ∙ go (eqb (length r.pipe) 16))
    where
      go : (l : Bool) → address_in (device_after b r.image (pick l (events_by b r e e.wire) [])) ≡ address_in r.image
      go true = rw told same
      go false = refl

  setup-image : (l : Bool) → address_in (event b r.image (pick l (Request (setup_of e.setup)) Malformed)).image ≡ address_in r.image
  setup-image true = (setup_leaves b r.image (setup_of e.setup)).address
  setup-image false = (malformed_same b r.image).address

  by-wire : (w : Wire) → e.wire ≡ w → Readdresses b r (on_wire e)
  by-wire ASetup q = heard-image (setup_event e.setup) (ap (events_by b r e) q) (setup-image (eqb (length e.setup) 8))
  by-wire Unknown q = heard-image Malformed (ap (events_by b r e) q) (malformed_same b r.image).address
  by-wire (Reset speed) q = resets e speed q
  by-wire Taken q = quiet-wire (ap (events_by b r e) q)
  by-wire (Received n) q = quiet-wire (ap (events_by b r e) q)
  by-wire Replies q = quiet-wire (ap (events_by b r e) q)
  by-wire (Room n) q = quiet-wire (ap (events_by b r e) q)
  by-wire Accept q = quiet-wire (ap (events_by b r e) q)
  by-wire Refuse q = quiet-wire (ap (events_by b r e) q)

  -- "the address byte changes only at a taken in status in after a SET_ADDRESS that was answered with 0 and no SETUP or reset since, or at a reset"
  readdresses : Readdresses b r (on_wire e)
  readdresses = by-wire e.wire refl

-- ---- what is kept
-- a stage is kept in a pipe record
stage-back : (t : Transfer) → (transfer_of (image_of t)).stage ≡ t.stage
unfolding transfer_of image_of
stage-back t = refl

-- in status in, a transfer that does not end stays as it is
status-stays : (n : ℕ) (w : Wire) (t : Transfer) → t.stage ≡ status_in → (turned n w t).ended ≡ false → (turned n w t).transfer.stage ≡ status_in
unfolding turned taken received replied roomed accepted refused
status-stays n Taken t s z = absurd (false≢true (sym z ∙ rw s))
status-stays n (Received m) t s z = rw s
status-stays n Replies t s z = rw s
status-stays n (Room m) t s z = rw s
status-stays n Accept t s z = rw s
status-stays n Refuse t s z = rw s
status-stays n ASetup t s z = s
status-stays n (Reset speed) t s z = s
status-stays n Unknown t s z = s

module _ (b : Board) (r : Records) (e : Told) where
  carried : drops b r e e.wire ≡ false → waiting_in (leaves b r e).image ≡ waiting_in r.image
      → ((transfer_of r.pipe).stage ≡ status_in → (transfer_of (leaves b r e).pipe).stage ≡ status_in) → (Resting r.pipe → Resting (leaves b r e).pipe)
      → Pending b r → Pending b (leaves b r e)
  carried q w s k (none l) = none (rw w l)
  carried q w s k (rests p) = rests (k p)
  carried q w s k (in_status p a) = in_status (s p) (subst (λ n. Addressed b n (leaves b r e)) (sym w) (waits r (on_wire e) q a))

  -- the same pipe record, and what waits
  carried_on : drops b r e e.wire ≡ false → (leaves b r e).pipe ≡ r.pipe → waiting_in (leaves b r e).image ≡ waiting_in r.image → Pending b r → Pending b (leaves b r e)
  carried_on q same w = carried q w (λ s. rw same s) (λ k. rw same k)

  -- a pipe record that is not 16 bytes
  short : eqb (length r.pipe) 16 ≡ false → Pending b r → Pending b (leaves b r e)
  unfolding heard
  short z p = let same : (heard b r e).left ≡ r = rw z in subst (Pending b) (sym same) p

  long : eqb (length r.pipe) 16 ≡ true → heard b r e ≡ heard_as b r e e.wire
  unfolding heard
  long z = rw z

  -- a setup that is not 8 bytes
  malformed : drops b r e e.wire ≡ false → heard b r e ≡ begins (packet_size b r.image) e.setup r.pipe (event b r.image Malformed) → Pending b r → Pending b (leaves b r e)
  malformed q h p = go (number_of w.answer) refl (malforms b r.image)
    where
      w : Reply
      w = event b r.image Malformed

      stalls-with : (n : ℕ) → number_of w.answer ≡ n → eqb n 9 ≡ false → begun n (started (reply_at w.answer) (setup_of e.setup) (packet_size b r.image)) ≡ stalls → Pending b (leaves b r e)
      stalls-with n z m s = rests (rw (leaves, h, z, m, s) is_stalled)

      go : (n : ℕ) → number_of w.answer ≡ n → Malforms n → Pending b (leaves b r e)
      go n z with7 = stalls-with 7 z refl refl
      go n z with8 = stalls-with 8 z refl refl
      go n z with9 = carried_on q (rw (leaves, h, z) refl) (rw (leaves, h) (malformed_same b r.image).waiting) p

  -- a SETUP packet
  begins-anew : e.wire ≡ ASetup → length r.pipe ≡ 16 → length e.setup ≡ 8 → Pending b (leaves b r e)
  begins-anew q l eight = go (setup_leaves b r.image s).waits
    where
      s : Setup
      s = setup_of e.setup

      w : Reply
      w = event b r.image (Request s)

      same : event b r.image (setup_event e.setup) ≡ w
      same = ap (λ (t : Bool). event b r.image (pick t (Request s) Malformed)) (eq-eqb (length e.setup) 8 eight)

      turn : Turn
      turn = begun (number_of w.answer) (started (reply_at w.answer) s (packet_size b r.image))

      told : e ≡ a_setup e.setup e.reply
      told = rw (← q)

      left : leaves b r e ≡ record { image = w.image; pipe = image_of turn.transfer }
      left =
          ap (leaves b r) told ∙ ap (λ (h : Heard). h.left) (begun-by b r e.setup e.reply l eight)
          ∙ ap (λ (x : Reply). record { image = x.image; pipe = image_of (begun (number_of x.answer) (started (reply_at x.answer) s (packet_size b r.image))).transfer }) same

      stalls-with : (number_of w.answer ≡ 7) ⊎ (number_of w.answer ≡ 8) → turn ≡ stalls
      stalls-with (inl z) = rw z
      stalls-with (inr z) = rw z

      sends : s.wLength ≡ 0 → number_of w.answer ≡ 0 → turn ≡ sends_status (started (reply_at w.answer) s (packet_size b r.image))
      sends z n = rw (n, eq-eqb s.wLength 0 z)

      go : WaitsIn s w → Pending b (leaves b r e)
      go (late m) = none (rw left m)
      go (refused_with n) = rests (rw (left, stalls-with n) is_stalled)
      go (own five z n a) =
          in_status (rw (left, sends z n) (stage-back (with_stage status_in (started (reply_at w.answer) s (packet_size b r.image)))))
          (subst (λ n. Addressed b n (leaves b r e)) (sym (ap (λ (x : Records). waiting_in x.image) left ∙ a))
          (subst (λ (x : Told). Addressed b s.wValue (leaves b r x)) (sym told) (asks r e.setup e.reply eight five refl (ap (λ (x : Reply). number_of x.answer) same ∙ n))))

  setup : e.wire ≡ ASetup → eqb (length r.pipe) 16 ≡ true → Pending b r → Pending b (leaves b r e)
  setup q l p = go (eqb (length e.setup) 8) refl
    where
      go : (t : Bool) → eqb (length e.setup) 8 ≡ t → Pending b (leaves b r e)
      go true z = begins-anew q (eqb-true (length r.pipe) 16 l) (eqb-true (length e.setup) 8 z)
      go false z = malformed (ap (drops b r e) q ∙ z)
          (long l ∙ ap (heard_as b r e) q
          ∙ ap (λ (t : Bool). begins (packet_size b r.image) e.setup r.pipe (event b r.image (pick t (Request (setup_of e.setup)) Malformed))) z) p

  reset : (speed : ℕ) → e.wire ≡ Reset speed → eqb (length r.pipe) 16 ≡ true → Pending b r → Pending b (leaves b r e)
  reset speed q l p = go (eqb n 0) refl
    where
      w : Reply
      w = event b r.image (BusReset speed)

      n : ℕ
      n = number_of w.answer

      h : leaves b r e ≡ record { image = w.image; pipe = pick (eqb n 0) (image_of idle) r.pipe }
      h = ap (λ (x : Heard). x.left) (long l ∙ ap (heard_as b r e) q)

      go : (t : Bool) → eqb n 0 ≡ t → Pending b (leaves b r e)
      go true z = rests (rw (h, z) is_idle)
      go false z =
          carried_on (ap (drops b r e) q ∙ z) (ap (λ (x : Records). x.pipe) h ∙ ap (λ (t : Bool). pick t (image_of idle) r.pipe) z)
          (ap (λ (x : Records). waiting_in x.image) h ∙ (reset_same b r.image speed (eqb-false n 0 z)).waiting) p

  -- an event that looks at the transfer
  on-transfer : quiet e.wire ≡ true → drops b r e e.wire ≡ false → heard b r e ≡ on_transfer b r e → Pending b r → Pending b (leaves b r e)
  on-transfer q d h p = go (fits_in (lengths_of b r.image e.reply) r.pipe) refl
    where
      t : Transfer
      t = transfer_of r.pipe

      turn : Turn
      turn = turned (length e.reply) e.wire t

      ended : (x : Bool) → turn.ended ≡ x → leaves b r e ≡ (moves b r.image turn).left → Pending b (leaves b r e)
      ended true z left = rests (rw (left, z, (turned-ends (length e.reply) t e.wire).rests z) is_idle)
      ended false z left =
          let kept : leaves b r e ≡ record { image = r.image; pipe = image_of turn.transfer } = left ∙ rw z in
          carried d (ap (λ (x : Records). waiting_in x.image) kept)
          (λ s. ap (λ (x : Records). (transfer_of x.pipe).stage) kept ∙ stage-back turn.transfer ∙ status-stays (length e.reply) e.wire t s z)
          (λ k. (rests_at b r e k q).resting) p

      go : (x : Bool) → fits_in (lengths_of b r.image e.reply) r.pipe ≡ x → Pending b (leaves b r e)
      go true z = let m : on_transfer b r e ≡ moves b r.image turn = rw z in ended turn.ended refl (ap (λ (x : Heard). x.left) (h ∙ m))
      go false z = let m : on_transfer b r e ≡ unheard 8 r = rw z in subst (Pending b) (sym (ap (λ (x : Heard). x.left) (h ∙ m))) p

  by-wire-kept : eqb (length r.pipe) 16 ≡ true → Pending b r → (w : Wire) → e.wire ≡ w → Pending b (leaves b r e)
  by-wire-kept l p ASetup q = setup q l p
  by-wire-kept l p Unknown q = malformed (ap (drops b r e) q) (long l ∙ ap (heard_as b r e) q) p
  by-wire-kept l p (Reset speed) q = reset speed q l p
  by-wire-kept l p Taken q = on-transfer (ap quiet q) (ap (drops b r e) q) (long l ∙ ap (heard_as b r e) q) p
  by-wire-kept l p (Received n) q = on-transfer (ap quiet q) (ap (drops b r e) q) (long l ∙ ap (heard_as b r e) q) p
  by-wire-kept l p Replies q = on-transfer (ap quiet q) (ap (drops b r e) q) (long l ∙ ap (heard_as b r e) q) p
  by-wire-kept l p (Room n) q = on-transfer (ap quiet q) (ap (drops b r e) q) (long l ∙ ap (heard_as b r e) q) p
  by-wire-kept l p Accept q = on-transfer (ap quiet q) (ap (drops b r e) q) (long l ∙ ap (heard_as b r e) q) p
  by-wire-kept l p Refuse q = on-transfer (ap quiet q) (ap (drops b r e) q) (long l ∙ ap (heard_as b r e) q) p

  pending_kept : Pending b r → Pending b (leaves b r e)
  pending_kept p = cases (eqb (length r.pipe) 16) (λ l. by-wire-kept l p e.wire refl) (λ z. short z p)

-- ---- the other events
module _ (b : Board) (r : Records) (x : Other) where
  beside_kept : Pending b r → Pending b (leaves_by b r (beside x))
  beside_kept (none l) = none (rw (other_same b r.image x).waiting l)
  beside_kept (rests p) = rests p
  beside_kept (in_status p a) = in_status p (subst (λ n. Addressed b n (leaves_by b r (beside x))) (sym (other_same b r.image x).waiting) (waits r (beside x) refl a))

-- ---- a run: from a pipe at rest, whatever the device record, at every event of every run
pending_in : (b : Board) (r : Records) (es : List Happening) → Pending b r → Pending b (after b r es)
pending_in b r [] p = p
pending_in b r (on_wire e ∷ es) p = pending_in b (leaves b r e) es (pending_kept b r e p)
pending_in b r (beside x ∷ es) p = pending_in b (leaves_by b r (beside x)) es (beside_kept b r x p)

readdressed : (b : Board) (r : Records) (h : Happening) → Pending b r → Readdresses b r h
readdressed b r (on_wire e) p = readdresses b r e p
readdressed b r (beside x) p = stays (beside x) (other_same b r.image x).address

pub own_address : (b : Board) (r : Records) (es : List Happening) (h : Happening) → Resting r.pipe → Readdresses b (after b r es) h
own_address b r es h p = readdressed b (after b r es) h (pending_in b r es (rests p))
