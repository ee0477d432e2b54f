-- Runs of exported calls on a board that uses the pipe: its events, and other calls beside them, over the device record and the pipe record. Each run's
-- device record is that of a run of the library's own calls, so that demands 1 to 3 hold from packet to packet. No axiom.
use Rattle.std.specs.Prelude.{ℕ, ◌≡◌, refl, List, [], ◌∷◌, ◌++◌, false, length, eqb}
use Rattle.std.proofs.Common.{sym, ap, subst, ◌∙◌}
use Rattle.std.proofs.Math.Bool.{Bool, true}
use Rattle.octets.specs.Sentences.{pick}
use Rattle.sets.specs.Opening.{Board}
use Rattle.records.specs.Image.{device_of}
use Rattle.events.specs.declared.Event.{Event}
use Rattle.events.specs.declared.Event.TheVariants.{StatusEnd}
use Rattle.events.specs.Step.{event}
use Rattle.order.specs.Run.{run, answers}
use Rattle.pipes.specs.declared.Wire.{Wire}
use Rattle.pipes.specs.declared.Wire.TheVariants.{Setup, Taken, Received, Reset, Reply, Room, Accept, Refuse, Unknown}
use Rattle.pipes.specs.Image.{transfer_of, fits_in}
use Rattle.pipes.specs.Turns.{Turn, turned}
use Rattle.pipes.specs.Pipe.{Told, Records, lengths_of, unheard, moves, on_transfer, heard_as, heard, hands_over, wire_of, tells, library_event, out_of}
use Rattle.board.specs.Exports.{Spot, Spots}
use Rattle.board.specs.Pipes.{AnswersPipe, piece_bytes, spot_of_piece}
use Rattle.board.specs.Runs.{Call, setup, tell, record_event, status_end, bus_reset_to, event_of, Given, Meets, Runs, ends, calls}
use Rattle.board.specs.Runs as library

-- a call as C makes it, but for sets, serial block and records: an event of the pipe by number, value, setup and the reply that is lent, with where that
-- lies; or any other call on the device record
pub data PipeCall : Type 0 where
  pipe_event : ℕ → ℕ → List ℕ → List ℕ → Spot → PipeCall
  beside : Call → PipeCall

-- what it gives back: of an event of the pipe the number, the block of six bytes, the part's bytes and where they lie
pub data PipeGiven : Type 0 where
  ordered : ℕ → List ℕ → List ℕ → Spot → PipeGiven
  given : Given → PipeGiven

abbrev pub told_by : ℕ → ℕ → List ℕ → List ℕ → Told
told_by kind value bytes reply = record { wire = wire_of kind value; setup = bytes; reply = reply }

-- ---- a call meets its export's statement; a call beside the pipe leaves the pipe record
pub data PipeMeets (b : Board) (lie : Spots) (r : Records) : PipeCall → PipeGiven → Records → Type 0 where
  by_pipe : {kind value : ℕ} {bytes reply : List ℕ} {at : Spot} {n : ℕ} {left : Records} {out shown : List ℕ} {spot : Spot}
      → AnswersPipe b lie at r (told_by kind value bytes reply) n left out shown spot → PipeMeets b lie r (pipe_event kind value bytes reply at) (ordered n out shown spot) left
  by_call : {c : Call} {g : Given} {left : List ℕ} → Meets b lie r.image c g left → PipeMeets b lie r (beside c) (given g) (record { image = left; pipe = r.pipe })

-- ---- a run: each call meets its statement, and the records that it leaves are lent to the next
pub data PipeRuns (b : Board) (lie : Spots) : Records → List PipeCall → List PipeGiven → Records → Type 0 where
  over : {r : Records} → PipeRuns b lie r [] [] r
  next : {r : Records} {c : PipeCall} {g : PipeGiven} {left : Records} {cs : List PipeCall} {gs : List PipeGiven} {last : Records}
      → PipeMeets b lie r c g left → PipeRuns b lie left cs gs last → PipeRuns b lie r (c ∷ cs) (g ∷ gs) last

module _ (b : Board) (lie : Spots) where
  -- what the statements say of a call, as functions of the records
  abbrev pub gives : Records → PipeCall → PipeGiven
  gives r (pipe_event kind value bytes reply at) =
      let e = told_by kind value bytes reply in
      ordered (heard b r e).number (out_of (heard b r e)) (piece_bytes b (device_of r.image).speed reply (hands_over b r e)) (spot_of_piece b (device_of r.image).speed lie at (hands_over b r e))
  gives r (beside c) = given (library.gives b lie r.image c)

  abbrev pub leaves : Records → PipeCall → Records
  leaves r (pipe_event kind value bytes reply at) = (heard b r (told_by kind value bytes reply)).left
  leaves r (beside c) = record { image = library.leaves b lie r.image c; pipe = r.pipe }

  pub met : {r : Records} {c : PipeCall} {g : PipeGiven} {left : Records} → PipeMeets b lie r c g left → (g ≡ gives r c) × (left ≡ leaves r c)
  met (by_pipe a) = (rw (a.number, a.writes, a.shows, a.lies), a.leaves)
  met {r} (by_call m) = let (p, q) = library.met b lie m in (ap given p, ap (λ (i : List ℕ). record { image = i; pipe = r.pipe }) q)

  pub meets : (r : Records) (c : PipeCall) → PipeMeets b lie r c (gives r c) (leaves r c)
  meets r (pipe_event kind value bytes reply at) = by_pipe (record { number = refl; leaves = refl; writes = refl; shows = refl; lies = refl })
  meets r (beside c) = by_call (library.meets b lie r.image c)

  -- ---- so from any records every list of calls has a run, and one alone
  pub ran : {r : Records} {cs : List PipeCall} {gs : List PipeGiven} {last : Records} → PipeRuns b lie r cs gs last → (gs ≡ answers gives leaves r cs) × (last ≡ run leaves r cs)
  ran over = (refl, refl)
  ran (next {r} {c} {g} {left} {cs} {gs} {last} m rest) =
      let (p, q) = met m in
      let (s, t) = ran rest in
      (rw (p, ← q, s), rw (← q) t)

  pub runs : (r : Records) (cs : List PipeCall) → PipeRuns b lie r cs (answers gives leaves r cs) (run leaves r cs)
  runs r [] = over
  runs r (c ∷ cs) = next (meets r c) (runs (leaves r c) cs)

  -- ---- the statements decide a run: two runs of the same calls from the same records give the same and leave the same
  pub decided : {r : Records} {cs : List PipeCall} {gs others : List PipeGiven} {last other : Records} → PipeRuns b lie r cs gs last → PipeRuns b lie r cs others other → (gs ≡ others) × (last ≡ other)
  decided one two =
      let (p, q) = ran one in
      let (s, t) = ran two in
      (p ∙ sym s, q ∙ sym t)

-- ---- PIPE 51 over calls: which of the library's calls an event of the pipe is
abbrev pub told_as : Wire → List ℕ → Call
told_as Setup bytes = setup bytes
told_as Unknown bytes = record_event 9 0 []
told_as (Reset speed) bytes = tell (bus_reset_to speed)
told_as Taken bytes = tell status_end
told_as (Received n) bytes = tell status_end
told_as Reply bytes = tell status_end
told_as (Room n) bytes = tell status_end
told_as Accept bytes = tell status_end
told_as Refuse bytes = tell status_end

-- a setup and a reset, and an event that ends a transfer of a pipe record that fits
abbrev pub hears : Board → Records → Told → Bool
hears b r e = pick (eqb (length r.pipe) 16) (pick (tells e.wire) true
    (pick (fits_in (lengths_of b r.image e.reply) r.pipe) (turned (length e.reply) e.wire (transfer_of r.pipe)).ended false)) false

abbrev pub calls_at : Board → Records → PipeCall → List Call
calls_at b r (pipe_event kind value bytes reply at) = pick (hears b r (told_by kind value bytes reply)) (told_as (wire_of kind value) bytes ∷ []) []
calls_at b r (beside c) = c ∷ []

abbrev pub calls_in : Board → Spots → Records → List PipeCall → List Call
calls_in b lie r [] = []
calls_in b lie r (c ∷ cs) = calls_at b r c ++ calls_in b lie (leaves b lie r c) cs

same-event : (w : Wire) (bytes : List ℕ) → event_of (told_as w bytes) ≡ library_event w bytes
same-event Setup bytes = refl
same-event Unknown bytes = refl
same-event (Reset speed) bytes = refl
same-event Taken bytes = refl
same-event (Received n) bytes = refl
same-event Reply bytes = refl
same-event (Room n) bytes = refl
same-event Accept bytes = refl
same-event Refuse bytes = refl

-- the device record that an event leaves
module _ (b : Board) (r : Records) (bytes reply : List ℕ) where
  abbrev told : Wire → Told
  told w = record { wire = w; setup = bytes; reply = reply }

  abbrev left_by : Wire → List ℕ
  left_by w = (event b r.image (library_event w bytes)).image

  -- of one that looks at the transfer
  on-transfer : (w : Wire) → library_event w bytes ≡ StatusEnd → (on_transfer b r (told w)).left.image
      ≡ pick (pick (fits_in (lengths_of b r.image reply) r.pipe) (turned (length reply) w (transfer_of r.pipe)).ended false) (left_by w) r.image
  on-transfer w e = go (fits_in (lengths_of b r.image reply) r.pipe) (turned (length reply) w (transfer_of r.pipe))
      ∙ ap (λ (x : Event). pick (pick (fits_in (lengths_of b r.image reply) r.pipe) (turned (length reply) w (transfer_of r.pipe)).ended false) (event b r.image x).image r.image) (sym e)
    where
      go : (f : Bool) (t : Turn) → (pick f (moves b r.image t) (unheard 8 r)).left.image ≡ pick (pick f t.ended false) (event b r.image StatusEnd).image r.image
      go false t = refl
      go true t = ended t.ended refl
        where
          ended : (x : Bool) → t.ended ≡ x → (moves b r.image t).left.image ≡ pick t.ended (event b r.image StatusEnd).image r.image
          ended true p = rw p
          ended false p = rw p

  heard-as : (w : Wire) → (heard_as b r (told w) w).left.image
      ≡ pick (pick (tells w) true (pick (fits_in (lengths_of b r.image reply) r.pipe) (turned (length reply) w (transfer_of r.pipe)).ended false)) (left_by w) r.image
  heard-as Setup = refl
  heard-as Unknown = refl
  heard-as (Reset speed) = refl
  heard-as Taken = on-transfer Taken refl
  heard-as (Received n) = on-transfer (Received n) refl
  heard-as Reply = on-transfer Reply refl
  heard-as (Room n) = on-transfer (Room n) refl
  heard-as Accept = on-transfer Accept refl
  heard-as Refuse = on-transfer Refuse refl

  pub moved : (w : Wire) → (heard b r (told w)).left.image ≡ pick (hears b r (told w)) (left_by w) r.image
  unfolding heard
  moved w = go (eqb (length r.pipe) 16)
    where
      inner : Bool
      inner = pick (tells w) true (pick (fits_in (lengths_of b r.image reply) r.pipe) (turned (length reply) w (transfer_of r.pipe)).ended false)

      go : (x : Bool) → (pick x (heard_as b r (told w) w) (unheard 8 r)).left.image ≡ pick (pick x inner false) (left_by w) r.image
      go true = heard-as w
      go false = refl

-- two runs one after the other
joined : {b : Board} {lie : Spots} {image middle last : List ℕ} {cs ds : List Call} {gs hs : List Given} → Runs b lie image cs gs middle → Runs b lie middle ds hs last → Runs b lie image (cs ++ ds) (gs ++ hs) last
joined ends two = two
joined (calls m one) two = calls m (joined one two)

module _ (b : Board) (lie : Spots) where
  abbrev given_at : Records → PipeCall → List Given
  given_at r c = answers (library.gives b lie) (library.leaves b lie) r.image (calls_at b r c)

  step-runs : (r : Records) (c : PipeCall) → Runs b lie r.image (calls_at b r c) (given_at r c) (leaves b lie r c).image
  step-runs r (beside c) = library.runs b lie r.image (c ∷ [])
  step-runs r (pipe_event kind value bytes reply at) =
      subst (λ (i : List ℕ). Runs b lie r.image (calls_at b r (pipe_event kind value bytes reply at)) (given_at r (pipe_event kind value bytes reply at)) i)
      (sym (moved b r bytes reply (wire_of kind value))) (go (hears b r (told_by kind value bytes reply)))
    where
      w : Wire
      w = wire_of kind value

      go : (t : Bool) → Runs b lie r.image (pick t (told_as w bytes ∷ []) []) (answers (library.gives b lie) (library.leaves b lie) r.image (pick t (told_as w bytes ∷ []) []))
          (pick t (event b r.image (library_event w bytes)).image r.image)
      go true = subst (λ (x : Event). Runs b lie r.image (told_as w bytes ∷ []) (answers (library.gives b lie) (library.leaves b lie) r.image (told_as w bytes ∷ [])) (event b r.image x).image)
          (same-event w bytes) (library.runs b lie r.image (told_as w bytes ∷ []))
      go false = ends

  -- every run of the pipe's calls is, for the device record, a run of the library's own: a setup at each SETUP, a status end at each transfer that has
  -- ended, a reset at each reset, the calls beside, and no other. So what is said of Runs is said of it
  pub nothing_else : (r : Records) (cs : List PipeCall) → (gs : List Given) × Runs b lie r.image (calls_in b lie r cs) gs (run (leaves b lie) r cs).image
  nothing_else r [] = ([], ends)
  nothing_else r (c ∷ cs) = let (gs, rest) = nothing_else (leaves b lie r c) cs in (given_at r c ++ gs, joined (step-runs r c) rest)

  pub pipe_moves : {r last : Records} {cs : List PipeCall} {gs : List PipeGiven} → PipeRuns b lie r cs gs last → (hs : List Given) × Runs b lie r.image (calls_in b lie r cs) hs last.image
  pipe_moves {r} {last} {cs} p = let (hs, q) = nothing_else r cs in (hs, subst (λ (x : Records). Runs b lie r.image (calls_in b lie r cs) hs x.image) (sym (ran b lie p).1) q)
