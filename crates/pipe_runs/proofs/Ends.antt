-- A status end is told once for each transfer that ended, and never for one that was dropped. No axiom.
use Rattle.octets.proofs.Vocabulary.{◌≡◌, refl, sym, ap, ◌∙◌, ℕ, ◌+◌, List, [], ◌∷◌, Bool, true, false, ◌||◌, false≢true, ◌⊎◌, inl, inr, length, eqb, ltb, eq-eqb, eqb-true}
use Rattle.octets.specs.Sentences.{pick}
use Rattle.octets.proofs.Sentences.{either, conjunct}
use Rattle.laws.proofs.Outcomes.{chosen}
use Rattle.sets.specs.Opening.{Board}
use Rattle.events.specs.declared.Event.TheVariants.{StatusEnd}
use Rattle.order.specs.Run.{All}
use Rattle.packets.specs.Packets.{packet}
use Rattle.pipes.specs.declared.Transfer.{Transfer}
use Rattle.pipes.specs.declared.Wire.{Wire}
use Rattle.pipes.specs.declared.Wire.TheVariants.{Setup, Taken, Received, Reset, Reply as Replies, Room, Accept, Refuse, Unknown}
use Rattle.pipes.specs.Transfer.{idle, data_in, status_out, data_out, status_in}
use Rattle.pipes.specs.Image.{transfer_of, image_of, fits_in}
use Rattle.pipes.specs.Turns.{Turn, stays, stalls, asked, due, may_reply, sends_reply, may_write, receives, may_accept, sends_status, taken, received, replied, roomed, accepted, refused, turned}
use Rattle.pipes.specs.Pipe.{Told, Records, lengths_of, on_transfer, heard_as, heard}
use Rattle.pipe_runs.specs.Runs.{Happening, leaves, is_quiet, is_idle, ends_at, if_ended, events_by, events_at, events_in, no_end}
use Rattle.pipe_runs.specs.Promises.{EndsBy, by_taken, by_empty}
use Rattle.pipe_runs.proofs.Resting.{no_end_in}

-- ---- where a transfer ends: at a packet taken in status in, or at an empty packet in data in and status out; and the pipe is idle then
-- a turn that has ended is `ends`, and comes about so
pub record Ended (t : Transfer) (w : Wire) (turn : Turn) : Type 0 where
  pub how : turn.ended ≡ true → EndsBy t w
  pub rests : turn.ended ≡ true → turn.transfer ≡ idle

goes : {t : Transfer} {w : Wire} (turn : Turn) → turn.ended ≡ false → Ended t w turn
goes turn p = record { how = λ q. absurd (false≢true (sym p ∙ q)); rests = λ q. absurd (false≢true (sym p ∙ q)) }

asked-goes : {t : Transfer} {w : Wire} (may : Bool) (turn : Turn) → turn.ended ≡ false → Ended t w (asked t may turn)
asked-goes {t} {w} may turn p =
    chosen (Ended t w) (eqb t.stage 1 || eqb t.stage 5)
    (λ _. chosen (Ended t w) may (λ _. goes turn p) (λ _. goes stalls refl))
    (λ _. goes (stays t) refl)

module _ (n : ℕ) (t : Transfer) where
  taken-ends : Ended t Taken (taken t)
  unfolding taken
  taken-ends =
      chosen (Ended t Taken) (eqb t.stage data_in)
      (λ _. chosen (Ended t Taken) (eqb (packet t.length t.asked t.size (t.moved + 1)).number 0) (λ _. goes _ refl) (λ _. goes _ refl))
      (λ _. chosen (Ended t Taken) (eqb t.stage status_in)
      (λ p. record { how = λ _. by_taken (eqb-true t.stage status_in p); rests = λ _. refl }) (λ _. goes (stays t) refl))

  received-ends : (size : ℕ) → Ended t (Received size) (received size t)
  unfolding received
  received-ends size =
      chosen (Ended t (Received size)) (eqb t.stage data_in || eqb t.stage status_out)
      (λ p. chosen (Ended t (Received size)) (eqb size 0)
      (λ z. record { how = λ _. rw (eqb-true size 0 z) (by_empty (which p)); rests = λ _. refl }) (λ _. goes stalls refl))
      (λ _. chosen (Ended t (Received size)) (eqb t.stage data_out)
      (λ _. chosen (Ended t (Received size)) (eqb size (due t))
      (λ _. chosen (Ended t (Received size)) (ltb (t.moved + size) t.asked) (λ _. goes _ refl) (λ _. goes _ refl)) (λ _. goes stalls refl)) (λ _. goes (stays t) refl))
    where
      which : (eqb t.stage data_in || eqb t.stage status_out) ≡ true → (t.stage ≡ data_in) ⊎ (t.stage ≡ status_out)
      which p = go (either (eqb t.stage data_in) (eqb t.stage status_out) p)
        where
          go : (eqb t.stage data_in ≡ true) ⊎ (eqb t.stage status_out ≡ true) → (t.stage ≡ data_in) ⊎ (t.stage ≡ status_out)
          go (inl q) = inl (eqb-true t.stage data_in q)
          go (inr q) = inr (eqb-true t.stage status_out q)

  pub turned-ends : (w : Wire) → Ended t w (turned n w t)
  unfolding turned replied roomed accepted refused
  turned-ends Taken = taken-ends
  turned-ends (Received size) = received-ends size
  turned-ends Replies = asked-goes (may_reply t) (sends_reply n t) refl
  turned-ends (Room size) = asked-goes (may_write size t) (receives t) refl
  turned-ends Accept = asked-goes (may_accept t) (sends_status t) refl
  turned-ends Refuse = asked-goes false stalls refl
  turned-ends Setup = goes (stays t) refl
  turned-ends (Reset speed) = goes (stays t) refl
  turned-ends Unknown = goes (stays t) refl

-- ---- the rest of this page: a transfer that ends at an event, on a board
-- so at an event at which a transfer ends the pipe becomes idle
module _ (b : Board) (r : Records) (e : Told) (ends : ends_at b r e ≡ true) where
  record-fits : fits_in (lengths_of b r.image e.reply) r.pipe ≡ true
  record-fits = go (fits_in (lengths_of b r.image e.reply) r.pipe) ends
    where
      go : (t : Bool) → pick t (turned (length e.reply) e.wire (transfer_of r.pipe)).ended false ≡ true → t ≡ true
      go true p = refl
      go false p = p

  turn-ended : (turned (length e.reply) e.wire (transfer_of r.pipe)).ended ≡ true
  turn-ended = rw record-fits at ends

  pub ends_how : EndsBy (transfer_of r.pipe) e.wire
  ends_how = (turned-ends (length e.reply) (transfer_of r.pipe) e.wire).how turn-ended

  long : length r.pipe ≡ 16
  long = eqb-true (length r.pipe) 16 (conjunct 0 (eqb (length r.pipe) 16 ∷ _ ∷ _ ∷ []) record-fits)

  on-transfer : (on_transfer b r e).left.pipe ≡ image_of idle
  on-transfer = rw (record-fits, turn-ended, (turned-ends (length e.reply) (transfer_of r.pipe) e.wire).rests turn-ended)

  by-wire : (w : Wire) → EndsBy (transfer_of r.pipe) w → (heard_as b r e w).left.pipe ≡ image_of idle
  by-wire _ (by_taken p) = on-transfer
  by-wire _ (by_empty p) = on-transfer

  pub idle_then : (leaves b r e).pipe ≡ image_of idle
  unfolding heard
  idle_then = rw (leaves, eq-eqb (length r.pipe) 16 long) (by-wire e.wire ends_how)

  -- the one library event at it is the status end
  by-wire-told : (w : Wire) → EndsBy (transfer_of r.pipe) w → events_by b r e w ≡ if_ended (ends_at b r e)
  by-wire-told _ (by_taken p) = refl
  by-wire-told _ (by_empty p) = refl

  pub told_once : events_at b r e ≡ StatusEnd ∷ []
  told_once = rw (eq-eqb (length r.pipe) 16 long, by-wire-told e.wire ends_how) (ap if_ended ends)

  -- and until the next SETUP or reset no other is told
  pub once_only : (es : List Happening) → All is_quiet es → All no_end (events_in b (leaves b r e) es)
  once_only es q = no_end_in b (leaves b r e) es (rw idle_then is_idle) q
