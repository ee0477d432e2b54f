-- The numbers of a run are the library's, a status end is told at the end of a transfer alone, and there are never more of them than SETUPs. No axiom.
use Rattle.octets.proofs.Vocabulary.{◌≡◌, refl, ap, ◌∙◌, ℕ, suc, ◌+◌, ◌≤◌, List, [], ◌∷◌, ◌++◌, Bool, true, false, length, eqb, arith, eq-eqb}
use Rattle.octets.specs.Sentences.{pick}
use Rattle.octets.proofs.Sentences.{conjunct, cases}
use Rattle.sets.specs.Opening.{Board}
use Rattle.events.specs.declared.Event.{Event}
use Rattle.events.specs.declared.Event.TheVariants.{BusReset}
use Rattle.events.specs.Answer.{number_of}
use Rattle.events.specs.Step.{setup_event, event}
use Rattle.order.specs.Run.{All}
use Rattle.laws.proofs.Outcomes.{chosen}
use Rattle.pipes.specs.declared.Wire.{Wire}
use Rattle.pipes.specs.declared.Wire.TheVariants.{Setup, Taken, Received, Reset, Reply as Replies, Room, Accept, Refuse, Unknown}
use Rattle.pipes.specs.Transfer.{idle, fits}
use Rattle.pipes.specs.Image.{transfer_of, image_of, ends_in_zeros, fits_in}
use Rattle.pipes.specs.Turns.{Turn, turned}
use Rattle.pipes.specs.Pipe.{Told, Records, Heard, lengths_of, moves, on_transfer, heard_as, heard}
use Rattle.pipe_runs.specs.Runs.{Happening, on_wire, beside, leaves, leaves_by, Resting, is_idle, is_setup_packet, quiet, ends_at, if_ended, events_by, events_at, events_in, number_after, no_end}
use Rattle.pipe_runs.specs.Promises.{NumbersAreTheLibrarys, NeverForADropped, AtMostOnePerSetup, ends_in, setups_in}
use Rattle.pipe_runs.proofs.Resting.{no_end_lem, rests_at, resting-long, other_no_end}
use Rattle.pipe_runs.proofs.Ends.{idle_then}

-- ---- numbers
module _ (b : Board) (r : Records) (e : Told) (f : fits_in (lengths_of b r.image e.reply) r.pipe ≡ true) where
  by_turn : (turn : Turn) → (moves b r.image turn).number ≡ number_after b r.image (if_ended turn.ended)
  by_turn turn = go turn.ended refl
    where
      go : (t : Bool) → turn.ended ≡ t → (moves b r.image turn).number ≡ number_after b r.image (if_ended t)
      go true p = rw p
      go false p = rw p

  by-transfer : (on_transfer b r e).number ≡ number_after b r.image (if_ended (ends_at b r e))
  by-transfer = rw f (by_turn (turned (length e.reply) e.wire (transfer_of r.pipe)))

  by-wire : (w : Wire) → (heard_as b r e w).number ≡ number_after b r.image (events_by b r e w)
  by-wire Setup = refl
  by-wire Unknown = refl
  by-wire (Reset speed) = refl
  by-wire Taken = by-transfer
  by-wire (Received n) = by-transfer
  by-wire Replies = by-transfer
  by-wire (Room n) = by-transfer
  by-wire Accept = by-transfer
  by-wire Refuse = by-transfer

  number_is : (heard b r e).number ≡ number_after b r.image (events_at b r e)
  unfolding heard
  number_is = rw (conjunct 0 (eqb (length r.pipe) 16 ∷ ends_in_zeros r.pipe ∷ fits (lengths_of b r.image e.reply) (transfer_of r.pipe) ∷ []) f) (by-wire e.wire)

pub numbers_are_the_librarys : NumbersAreTheLibrarys
numbers_are_the_librarys b r e f = number_is b r e f

-- ---- status ends
no-end-setup : (setup : List ℕ) → All no_end (setup_event setup ∷ [])
no-end-setup setup = (chosen no_end (eqb (length setup) 8) (λ _. refl) (λ _. refl), tt)

none-by : (b : Board) (r : Records) (e : Told) → ends_at b r e ≡ false → (w : Wire) → All no_end (events_by b r e w)
none-by b r e z Setup = no-end-setup e.setup
none-by b r e z Unknown = (refl, tt)
none-by b r e z (Reset speed) = (refl, tt)
none-by b r e z Taken = rw z tt
none-by b r e z (Received n) = rw z tt
none-by b r e z Replies = rw z tt
none-by b r e z (Room n) = rw z tt
none-by b r e z Accept = rw z tt
none-by b r e z Refuse = rw z tt

pub never_for_a_dropped : NeverForADropped
never_for_a_dropped b r e z = chosen (All no_end) (eqb (length r.pipe) 16) (λ _. none-by b r e z e.wire) (λ _. tt)

-- ---- counted
ends-append : (xs ys : List Event) → ends_in (xs ++ ys) ≡ ends_in xs + ends_in ys
ends-append [] ys = omega arith
ends-append (x ∷ xs) ys = let i = ends-append xs ys in omega arith

none_in : (xs : List Event) → All no_end xs → ends_in xs ≡ 0
none_in [] p = refl
none_in (x ∷ xs) (p, ps) = let i = none_in xs ps in rw p (omega arith)

-- at most one at an event; at a SETUP and a reset none
at_most_one : (b : Board) (r : Records) (e : Told) → ends_in (events_at b r e) ≤ 1
at_most_one b r e = cases (ends_at b r e)
    (λ z. chosen (λ xs. ends_in xs ≤ 1) (eqb (length r.pipe) 16) (λ _. by e.wire) (λ _. omega arith))
    (λ z. let n = none_in (events_at b r e) (never_for_a_dropped b r e z) in omega arith)
  where
    one : ends_in (if_ended (ends_at b r e)) ≤ 1
    one = chosen (λ xs. ends_in xs ≤ 1) (ends_at b r e) (λ _. omega arith) (λ _. omega arith)

    by : (w : Wire) → ends_in (events_by b r e w) ≤ 1
    by Setup = let n = none_in (setup_event e.setup ∷ []) (no-end-setup e.setup) in omega arith
    by Unknown = omega arith
    by (Reset speed) = omega arith
    by Taken = one
    by (Received n) = one
    by Replies = one
    by (Room n) = one
    by Accept = one
    by Refuse = one

-- a reset leaves a pipe at rest
reset-rests : (b : Board) (r : Records) (e : Told) (speed : ℕ) → e.wire ≡ Reset speed → Resting r.pipe → Resting (leaves b r e).pipe
unfolding heard
reset-rests b r e speed q p =
    let n = number_of (event b r.image (BusReset speed)).answer in
    let one : heard b r e ≡ heard_as b r e e.wire = rw (eq-eqb (length r.pipe) 16 (resting-long b r.image e r.pipe p)) in
    let left : (leaves b r e).pipe ≡ pick (eqb n 0) (image_of idle) r.pipe = ap (λ (x : Heard). x.left.pipe) (one ∙ ap (heard_as b r e) q) in
    rw left (chosen Resting (eqb n 0) (λ _. is_idle) (λ _. p))

-- from a pipe at rest as many SETUPs as status ends at least, from any other one less
module _ (b : Board) (r : Records) (e : Told) (es : List Happening)
    (free : (r : Records) → ends_in (events_in b r es) ≤ suc (setups_in es)) (rest : (r : Records) → Resting r.pipe → ends_in (events_in b r es) ≤ setups_in es) where
  split : ends_in (events_in b r (on_wire e ∷ es)) ≡ ends_in (events_at b r e) + ends_in (events_in b (leaves b r e) es)
  split = ends-append (events_at b r e) (events_in b (leaves b r e) es)

  free_step : ends_in (events_in b r (on_wire e ∷ es)) ≤ suc (setups_in (on_wire e ∷ es))
  free_step = go (ends_at b r e) refl
    where
      go : (x : Bool) → ends_at b r e ≡ x → ends_in (events_in b r (on_wire e ∷ es)) ≤ suc (setups_in (on_wire e ∷ es))
      go true z = let i = rest (leaves b r e) (rw (idle_then b r e z) is_idle) in let n = at_most_one b r e in rw split (omega arith)
      go false z = let i = free (leaves b r e) in let n = none_in (events_at b r e) (never_for_a_dropped b r e z) in rw split (omega arith)

  rest-step : Resting r.pipe → ends_in (events_in b r (on_wire e ∷ es)) ≤ setups_in (on_wire e ∷ es)
  rest-step p = go e.wire refl
    where
      none : ends_in (events_at b r e) ≡ 0
      none = none_in (events_at b r e) (never_for_a_dropped b r e (no_end_lem b r.image e r.pipe p))

      on : quiet e.wire ≡ true → ends_in (events_in b r (on_wire e ∷ es)) ≤ setups_in (on_wire e ∷ es)
      on q = let n = none in let i = rest (leaves b r e) (rests_at b r e p q).resting in rw split (omega arith)

      go : (w : Wire) → e.wire ≡ w → ends_in (events_in b r (on_wire e ∷ es)) ≤ setups_in (on_wire e ∷ es)
      go Setup q = let n = none in let i = free (leaves b r e) in let s : pick {A = ℕ} (is_setup_packet e.wire) 1 0 ≡ 1 = rw q in rw split (omega arith)
      go (Reset speed) q = let n = none in let i = rest (leaves b r e) (reset-rests b r e speed q p) in rw split (omega arith)
      go Unknown q = on (ap quiet q)
      go Taken q = on (ap quiet q)
      go (Received n) q = on (ap quiet q)
      go Replies q = on (ap quiet q)
      go (Room n) q = on (ap quiet q)
      go Accept q = on (ap quiet q)
      go Refuse q = on (ap quiet q)

counted : (b : Board) (es : List Happening) → ((r : Records) → ends_in (events_in b r es) ≤ suc (setups_in es)) × ((r : Records) → Resting r.pipe → ends_in (events_in b r es) ≤ setups_in es)
counted b [] = ((λ r. omega arith), (λ r p. omega arith))
counted b (beside x ∷ es) =
    let (free, rest) = counted b es in
    ((λ r. rw (other_no_end x) (let i = free (leaves_by b r (beside x)) in omega arith)), (λ r p. rw (other_no_end x) (let i = rest (leaves_by b r (beside x)) p in omega arith)))
counted b (on_wire e ∷ es) = let (free, rest) = counted b es in ((λ r. free_step b r e es free rest), (λ r p. rest-step b r e es free rest p))

pub at_most_one_per_setup : AtMostOnePerSetup
at_most_one_per_setup b r p es = (counted b es).1 r p
