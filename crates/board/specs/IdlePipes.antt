-- The idle builds of the pipe: a device that refuses every setup, gives every setup one order, never touches the pipe record or never takes the address does
-- not meet the exports' statement, whatever it keeps to itself. No axiom.
use Rattle.std.specs.Prelude.{ℕ, ◌≡◌, List, [], Bool, true, false, length, eqb}
use Rattle.std.proofs.Common.{arith, sym, ap, ◌∙◌, eqb-true}
use Rattle.std.proofs.Math.Path.{refl}
use Rattle.octets.specs.Octets.{byte}
use Rattle.octets.specs.Sentences.{pick}
use Rattle.sets.specs.Opening.{Board, BytesOf}
use Rattle.sets.specs.View.{accepted}
use Rattle.requests.specs.Table.{setup_of}
use Rattle.events.specs.Answer.{number_of}
use Rattle.events.specs.Step.{event, setup_event}
use Rattle.promises.specs.Examples.{computed, S}
use Rattle.promises.specs.Inhabited.{accepted_s, bytes_s}
use Rattle.pipes.specs.declared.Transfer.{Transfer}
use Rattle.pipes.specs.declared.Wire.TheVariants.{Setup}
use Rattle.pipes.specs.Transfer.{asking_setup, send, ask, with_stage}
use Rattle.pipes.specs.Image.{image_of}
use Rattle.pipes.specs.Turns.{goes_on, stalls, sends_status, reply_at, started, begun}
use Rattle.pipes.specs.Pipe.{Records, unheard, packet_size, order_begun, heard_as, heard, wire_of}
use Rattle.board.specs.Exports.{Spot, Spots}
use Rattle.board.specs.Pipes.{AnswersPipe}
use Rattle.board.specs.PipeRuns.{PipeGiven, PipeRuns, told_by}
use Rattle.board.specs.InhabitedRuns.{lie}
use Rattle.board.specs.InhabitedPipes.{power_on, sets_address, address_decided}
use Rattle.board.specs.Idle.{set_address_five, unknown, unknown-refused, five-done}

-- a setup that is refused is not sent anything
refused-sends-not : (n : ℕ) (t : Transfer) → (n ≡ 0 → ⊥) → order_begun n (begun n t) ≡ send → ⊥
refused-sends-not n t nonzero = go (eqb n 9) (eqb n 0) refl (eqb n 10)
  where
    go : (x y : Bool) → eqb n 0 ≡ y → (z : Bool) → pick x 0 (pick y (pick (eqb t.asked 0) (sends_status t) (goes_on t send)) (pick z (goes_on (with_stage asking_setup t) ask) stalls)).order ≡ 1 → ⊥
    go true y p z q = omega arith
    go false true p z q = nonzero (eqb-true n 0 p)
    go false false p true q = omega arith
    go false false p false q = omega arith

-- FF FF is never ordered to be sent anything, on any board, from any records
pub unknown_sends_not : (b : Board) (r : Records) → (heard b r (told_by 0 0 unknown [])).order ≡ send → ⊥
unfolding heard wire_of
unknown_sends_not b r = go (eqb (length r.pipe) 16)
  where
    go : (x : Bool) → (pick x (heard_as b r (told_by 0 0 unknown []) Setup) (unheard 8 r)).order ≡ 1 → ⊥
    go false q = omega arith
    go true q =
        let a = (event b r.image (setup_event unknown)).answer in
        refused-sends-not (number_of a) (started (reply_at a) (setup_of unknown) (packet_size b r.image)) (unknown-refused b r.image) q

-- ---- on every accepted board, the first event after power-on
module _ (b : Board) (small : BytesOf b) (opens : accepted b ≡ true) (lies : Spots) (at : Spot) where
  -- SET_ADDRESS 5 gets 0, an empty packet, and is remembered
  five-number : (heard b power_on (told_by 0 0 set_address_five [])).number ≡ 0
  unfolding heard wire_of computed
  five-number = (five-done b small opens).0

  five-order : (heard b power_on (told_by 0 0 set_address_five [])).order ≡ send
  unfolding heard wire_of computed
  five-order = rw (five-done b small opens).0 refl

  five-stage : byte (heard b power_on (told_by 0 0 set_address_five [])).left.pipe 0 ≡ 6
  unfolding heard wire_of image_of computed
  five-stage = rw (five-done b small opens).0 refl

  pub not_refusing : {n : ℕ} {left : Records} {out shown : List ℕ} {spot : Spot} → AnswersPipe b lies at power_on (told_by 0 0 set_address_five []) n left out shown spot → n ≡ 0
  not_refusing a = a.number ∙ five-number

  -- not every setup is given one order
  pub not_repeating : {n m : ℕ} {left other : Records} {out block shown part : List ℕ} {spot place : Spot} → AnswersPipe b lies at power_on (told_by 0 0 set_address_five []) n left out shown spot
      → AnswersPipe b lies at power_on (told_by 0 0 unknown []) m other block part place → byte out 0 ≡ byte block 0 → ⊥
  not_repeating p q same = unknown_sends_not b power_on (sym (ap (λ (l : List ℕ). byte l 0) q.writes) ∙ sym same ∙ ap (λ (l : List ℕ). byte l 0) p.writes ∙ five-order)

  -- the pipe record is changed
  pub not_still : {n : ℕ} {left : Records} {out shown : List ℕ} {spot : Spot} → AnswersPipe b lies at power_on (told_by 0 0 set_address_five []) n left out shown spot → left.pipe ≡ power_on.pipe → ⊥
  not_still a still =
      let p : ◌≡◌ {A = ℕ} 6 0 = sym five-stage ∙ ap (λ (r : Records). byte r.pipe 0) (sym a.leaves) ∙ ap (λ (l : List ℕ). byte l 0) still in
      omega arith

-- ---- inhabited by S; and there the second event counts: taken, it puts the address into force
pub bench_set : (lies : Spots) (at : Spot) {n : ℕ} {left : Records} {out shown : List ℕ} {spot : Spot} → AnswersPipe S lies at power_on (told_by 0 0 set_address_five []) n left out shown spot → n ≡ 0
bench_set lies at a = not_refusing S bytes_s accepted_s lies at a

pub second_counts : {gs : List PipeGiven} {last : Records} → PipeRuns S lie power_on sets_address gs last → byte last.image 1 ≡ 0 → ⊥
second_counts r z =
    let p : ◌≡◌ {A = ℕ} 5 0 = ap (λ (x : Records). byte x.image 1) (sym (address_decided r)) ∙ z in
    omega arith
