-- Nothing else moves the device: the device record after a run of pipe events is that of the library's own events. No axiom.
use Rattle.octets.proofs.Vocabulary.{◌≡◌, refl, sym, ap, ◌∙◌, List, [], ◌∷◌, ◌++◌, Bool, true, false, length, eqb}
use Rattle.octets.specs.Sentences.{pick}
use Rattle.sets.specs.Opening.{Board}
use Rattle.events.specs.Step.{event}
use Rattle.order.specs.Run.{run}
use Rattle.pipes.specs.declared.Wire.{Wire}
use Rattle.pipes.specs.declared.Wire.TheVariants.{Setup, Taken, Received, Reset, Reply as Replies, Room, Accept, Refuse, Unknown}
use Rattle.pipes.specs.Image.{transfer_of, fits_in}
use Rattle.pipes.specs.Turns.{Turn, turned}
use Rattle.pipes.specs.Pipe.{Told, Records, unheard, moves, lengths_of, on_transfer, heard_as, heard}
use Rattle.pipe_runs.specs.Runs.{Happening, on_wire, beside, leaves, leaves_by, after, ends_at, if_ended, events_by, events_at, events_in, device_after}

-- ---- one event
module _ (b : Board) (r : Records) (e : Told) where
  by_turn : (turn : Turn) → (moves b r.image turn).left.image ≡ device_after b r.image (if_ended turn.ended)
  by_turn turn = go turn.ended refl
    where
      go : (t : Bool) → turn.ended ≡ t → (moves b r.image turn).left.image ≡ device_after b r.image (if_ended t)
      go true p = rw p
      go false p = rw p

  by-transfer : (on_transfer b r e).left.image ≡ device_after b r.image (if_ended (ends_at b r e))
  by-transfer = go (fits_in (lengths_of b r.image e.reply) r.pipe) refl
    where
      go : (t : Bool) → fits_in (lengths_of b r.image e.reply) r.pipe ≡ t → (on_transfer b r e).left.image ≡ device_after b r.image (if_ended (ends_at b r e))
      go true p = rw p (by_turn (turned (length e.reply) e.wire (transfer_of r.pipe)))
      go false p = rw p

  by-wire : (w : Wire) → (heard_as b r e w).left.image ≡ device_after b r.image (events_by b r e w)
  by-wire Setup = refl
  by-wire Unknown = refl
  by-wire (Reset speed) = refl
  by-wire Taken = by-transfer
  by-wire (Received n) = by-transfer
  by-wire Replies = by-transfer
  by-wire (Room n) = by-transfer
  by-wire Accept = by-transfer
  by-wire Refuse = by-transfer

  -- "a setup at each SETUP, a status end at each transfer that has ended, a reset at each reset, and no other"
  pub moved : (leaves b r e).image ≡ device_after b r.image (events_at b r e)
  unfolding heard
  moved = go (eqb (length r.pipe) 16)
    where
      go : (t : Bool) → (pick t (heard_as b r e e.wire) (unheard 8 r)).left.image ≡ device_after b r.image (pick t (events_by b r e e.wire) [])
      go true = by-wire e.wire
      go false = refl

-- ---- a run
run-append : {R E : Type 0} (next : R → E → R) (r : R) (xs ys : List E) → run next r (xs ++ ys) ≡ run next (run next r xs) ys
run-append next r [] ys = refl
run-append next r (x ∷ xs) ys = run-append next (next r x) xs ys

-- "The device record after a run is that of the library's own events"
pub nothing_else_moves : (b : Board) (r : Records) (es : List Happening) → (after b r es).image ≡ device_after b r.image (events_in b r es)
nothing_else_moves b r [] = refl
nothing_else_moves b r (beside x ∷ es) = nothing_else_moves b (leaves_by b r (beside x)) es
nothing_else_moves b r (on_wire e ∷ es) =
    nothing_else_moves b (leaves b r e) es ∙ ap (λ image. device_after b image (events_in b (leaves b r e) es)) (moved b r e)
    ∙ sym (run-append (λ image x. (event b image x).image) r.image (events_at b r e) (events_in b (leaves b r e) es))
