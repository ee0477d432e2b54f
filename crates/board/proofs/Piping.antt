-- What the parts of the pipe event give is what an event gets: for the proofs of src/pipe.rt, over any board. No axiom.
use Rattle.octets.proofs.Vocabulary.{◌≡◌, refl, sym, ap, subst, ◌∙◌, ℕ, ◌+◌, List, [], Bool, true, false, false≢true, length, eqb, eq-eqb, eqb-true}
use Rattle.octets.specs.Octets.{byte}
use Rattle.octets.specs.Sentences.{pick}
use Rattle.sets.specs.Opening.{Board}
use Rattle.records.specs.Image.{device_of}
use Rattle.records.specs.Current.{set_for, in_use}
use Rattle.requests.specs.declared.Setup.{Setup}
use Rattle.requests.specs.Table.{setup_of}
use Rattle.events.specs.declared.Event.{Event}
use Rattle.events.specs.declared.Event.TheVariants.{Malformed, StatusEnd}
use Rattle.events.specs.Answer.{Answer, number_of, bytes_of}
use Rattle.events.specs.Step.{Reply, setup_event, event}
use Rattle.pipes.specs.declared.Lengths.{Lengths}
use Rattle.pipes.specs.declared.Piece.{Piece}
use Rattle.pipes.specs.declared.Wire.{Wire}
use Rattle.pipes.specs.declared.Wire.TheVariants.{Setup as ASetup, Taken, Received, Reset, Reply as Replies, Room, Accept, Refuse, Unknown}
use Rattle.pipes.specs.Transfer.{idle, nothing}
use Rattle.pipes.specs.Image.{transfer_of, image_of, fits_in}
use Rattle.pipes.specs.Turns.{Turn, turned}
use Rattle.pipes.specs.Sending.{room_for, sent, in_block, bytes_in}
use Rattle.pipes.specs.Pipe.{Told, Records, Heard, lengths_in, lengths_of, packet_size, unheard, order_begun, pipe_begun, turn_begun, begins, pipe_reset, restarts, on_transfer, heard_as, heard, room, hands_over, tells, library_event, out_of}
use Rattle.pipes.specs.Hearing.{Moved, Response, HandsPiece, is_setup, unheard_moved, moved_by, pipe_moved, looked, pipe_looked, bare, with_bytes, responds, settles, out_bytes, Gets}
use Rattle.pipes.proofs.Looking.{looked-moves, pipe-looked-moves}
use Rattle.pipes.proofs.Ending.{turned-rests}
use Rattle.board.specs.Exports.{Spot, spot_of, spots_two}
use Rattle.board.specs.Pipes.{AnswersPipe}

-- ---- what a setup and a reset get
as-heard : {h g : Heard} {r : Response} {image pipe : List ℕ} → h ≡ g → Gets g r image pipe → Gets h r image pipe
as-heard {h} {g} {r} {image} {pipe} e p = subst (λ (x : Heard). Gets x r image pipe) (sym e) p

begun-gets : (setup pipe : List ℕ) (size : ℕ) (w : Reply) (a : Answer) (s : Setup) (k : ℕ) {resp : Response} {image left : List ℕ} → a ≡ w.answer → s ≡ setup_of setup → k ≡ size → image ≡ w.image
    → left ≡ pipe_begun (number_of a) pipe (turn_begun a s k) → resp ≡ with_bytes a (order_begun (number_of a) (turn_begun a s k)) → Gets (begins size setup pipe w) resp image left
begun-gets setup pipe size w a s k e f g i p r = record {
  number = ap (λ (x : Response). x.number) r ∙ ap number_of e;
  order = ap (λ (x : Response). x.order) r ∙ ap (λ (x : Answer). order_begun (number_of x) (turn_begun x s k)) e ∙ ap (order_begun (number_of w.answer)) same_turn;
  count = ap (λ (x : Response). x.count) r ∙ ap (λ (x : Answer). length (bytes_of x)) e;
  first = ap (λ (x : Response). x.first) r ∙ ap (λ (x : Answer). byte (bytes_of x) 0) e;
  second = ap (λ (x : Response). x.second) r ∙ ap (λ (x : Answer). byte (bytes_of x) 1) e;
  image_left = i;
  pipe_left = p ∙ ap (λ (x : Answer). pipe_begun (number_of x) pipe (turn_begun x s k)) e ∙ ap (pipe_begun (number_of w.answer) pipe) same_turn;
}
  where
    same_turn : turn_begun w.answer s k ≡ turn_begun w.answer (setup_of setup) size
    same_turn = ap (λ (x : Setup). turn_begun w.answer x k) f ∙ ap (turn_begun w.answer (setup_of setup)) g

bare-gets : (n order : ℕ) (r : Records) {resp : Response} {image left : List ℕ} → resp ≡ bare n order → image ≡ r.image → left ≡ r.pipe
    → Gets (record { number = n; order = order; bytes = []; left = r }) resp image left
bare-gets n order r e i p = record {
  number = ap (λ (x : Response). x.number) e;
  order = ap (λ (x : Response). x.order) e;
  count = ap (λ (x : Response). x.count) e;
  first = ap (λ (x : Response). x.first) e;
  second = ap (λ (x : Response). x.second) e;
  image_left = i;
  pipe_left = p;
}

restart-gets : (pipe : List ℕ) (w : Reply) (a : Answer) {resp : Response} {image left : List ℕ} → a ≡ w.answer → image ≡ w.image → left ≡ pipe_reset (number_of a) pipe → resp ≡ bare (number_of a) 0
    → Gets (restarts pipe w) resp image left
restart-gets pipe w a e i p r =
    let z : number_of a ≡ number_of w.answer = ap number_of e in
    bare-gets (number_of w.answer) 0 (record { image = w.image; pipe = pipe_reset (number_of w.answer) pipe })
    (r ∙ ap (λ (k : ℕ). bare k 0) z) i (p ∙ ap (λ (k : ℕ). pipe_reset k pipe) z)

-- an idle pipe stays idle, whatever the status end's number
reset-idle : (n : ℕ) → pipe_reset n (image_of idle) ≡ image_of idle
reset-idle n = go (eqb n 0)
  where
    go : (t : Bool) → pick t (image_of idle) (image_of idle) ≡ image_of idle
    go true = refl
    go false = refl

-- ---- an event
module _ (b : Board) (image pipe setup reply : List ℕ) where
  abbrev r : Records
  r = record { image = image; pipe = pipe }

  abbrev told : Wire → Told
  told w = record { wire = w; setup = setup; reply = reply }

  abbrev l : Lengths
  l = lengths_of b image reply

  abbrev turn : Wire → Turn
  turn w = turned (length reply) w (transfer_of pipe)

  heard-by : (w : Wire) → length pipe ≡ 16 → heard b r (told w) ≡ heard_as b r (told w) w
  unfolding heard
  heard-by w z = ap (λ (t : Bool). pick t (heard_as b r (told w) w) (unheard 8 r)) (eq-eqb (length pipe) 16 z)

  -- the library hears of it only where the pipe record has 16 bytes
  pub long : (w : Wire) → (looked l w pipe).ended ≡ true → length pipe ≡ 16
  long w = go (eqb (length pipe) 16) refl
    where
      go : (t : Bool) → eqb (length pipe) 16 ≡ t → (pick {A = Moved} t (pick (tells w) (record { number = 0; order = nothing; ended = true }) (moved_by l w pipe)) unheard_moved).ended ≡ true → length pipe ≡ 16
      go true p q = eqb-true (length pipe) 16 p
      go false p q = absurd (false≢true q)

  -- and what is left then has 16 too
  pub still-long : (w : Wire) → (looked l w pipe).ended ≡ true → length (pipe_looked l w pipe) ≡ 16
  unfolding image_of
  still-long w t = go (eqb (length pipe) 16) (tells w) (fits_in l pipe)
    where
      go : (x y z : Bool) → length (pick x (pick y pipe (pick z (image_of (turn w).transfer) pipe)) pipe) ≡ 16
      go true true z = long w t
      go true false true = refl
      go true false false = long w t
      go false y z = long w t

  -- an event that looks at the transfer
  pub record Looks (w : Wire) : Type 0 where
    pub setup_not : is_setup w ≡ false
    pub same : heard_as b r (told w) w ≡ on_transfer b r (told w)
    pub ends : library_event w setup ≡ StatusEnd

  looks : (w : Wire) → tells w ≡ false → Looks w
  looks ASetup p = absurd (false≢true (sym p))
  looks Unknown p = absurd (false≢true (sym p))
  looks (Reset speed) p = absurd (false≢true (sym p))
  looks Taken p = record { setup_not = refl; same = refl; ends = refl }
  looks (Received n) p = record { setup_not = refl; same = refl; ends = refl }
  looks Replies p = record { setup_not = refl; same = refl; ends = refl }
  looks (Room n) p = record { setup_not = refl; same = refl; ends = refl }
  looks Accept p = record { setup_not = refl; same = refl; ends = refl }
  looks Refuse p = record { setup_not = refl; same = refl; ends = refl }

  module _ (w : Wire) (is-long : length pipe ≡ 16) (not-told : tells w ≡ false) where
    by : heard b r (told w) ≡ on_transfer b r (told w)
    by = heard-by w is-long ∙ (looks w not-told).same

    -- one that has ended
    ended_same : (looked l w pipe).ended ≡ true → heard b r (told w) ≡ restarts (pipe_looked l w pipe) (event b image StatusEnd)
    ended_same t = go (fits_in l pipe) refl
      where
        over : (moved_by l w pipe).ended ≡ true
        over = ap (λ (m : Moved). m.ended) (sym (looked-moves l w pipe is-long not-told)) ∙ t

        go : (f : Bool) → fits_in l pipe ≡ f → heard b r (told w) ≡ restarts (pipe_looked l w pipe) (event b image StatusEnd)
        go true f =
            let ended : (turn w).ended ≡ true = rw f at over in
            let rests : (turn w).transfer ≡ idle = turned-rests (length reply) (transfer_of pipe) w ended in
            let there : on_transfer b r (told w) ≡ record { number = number_of (event b image StatusEnd).answer; order = 0; bytes = []; left = record { image = (event b image StatusEnd).image; pipe = image_of (turn w).transfer } } = rw (f, ended) in
            let idles : record { number = number_of (event b image StatusEnd).answer; order = 0; bytes = []; left = record { image = (event b image StatusEnd).image; pipe = image_of (turn w).transfer } } ≡ restarts (image_of idle) (event b image StatusEnd) =
            ap (λ (p : List ℕ). record { number = number_of (event b image StatusEnd).answer; order = 0; bytes = []; left = record { image = (event b image StatusEnd).image; pipe = p } }) (ap image_of rests ∙ sym (reset-idle (number_of (event b image StatusEnd).answer))) in
            let left : pipe_looked l w pipe ≡ image_of idle = pipe-looked-moves l w pipe is-long not-told ∙ ap (λ (z : Bool). pick z (image_of (turn w).transfer) pipe) f ∙ ap image_of rests in
            by ∙ there ∙ idles ∙ sym (ap (λ (p : List ℕ). restarts p (event b image StatusEnd)) left)
        go false f = absurd (false≢true (rw f at over))

    -- one that goes on, or does not fit
    going : {resp : Response} {left : List ℕ} → (looked l w pipe).ended ≡ false → left ≡ pipe_looked l w pipe → resp ≡ bare (looked l w pipe).number (looked l w pipe).order
        → Gets (heard b r (told w)) resp image left
    going {resp} {left} t p y = as-heard by (go (fits_in l pipe) refl)
      where
        m : looked l w pipe ≡ moved_by l w pipe
        m = looked-moves l w pipe is-long not-told

        on : (moved_by l w pipe).ended ≡ false
        on = ap (λ (z : Moved). z.ended) (sym m) ∙ t

        said : resp ≡ bare (moved_by l w pipe).number (moved_by l w pipe).order
        said = y ∙ ap (λ (z : Moved). bare z.number z.order) m

        left_as : left ≡ pipe_moved l w pipe
        left_as = p ∙ pipe-looked-moves l w pipe is-long not-told

        go : (f : Bool) → fits_in l pipe ≡ f → Gets (on_transfer b r (told w)) resp image left
        go true f =
            let goes : (turn w).ended ≡ false = rw f at on in
            let there : on_transfer b r (told w) ≡ record { number = 0; order = (turn w).order; bytes = []; left = record { image = image; pipe = image_of (turn w).transfer } } = rw (f, goes) in
            as-heard there (bare-gets 0 (turn w).order _ (said ∙ rw f) refl (left_as ∙ rw f))
        go false f =
            let there : on_transfer b r (told w) ≡ unheard 8 r = rw f in
            as-heard there (bare-gets 8 0 r (said ∙ rw f) refl (left_as ∙ rw f))

  -- what is left for a setup or a reset is what was there
  kept : (w : Wire) → tells w ≡ true → length pipe ≡ 16 → pipe_looked l w pipe ≡ pipe
  kept w n z = ap (λ (t : Bool). pick t (pick (tells w) pipe (pipe_moved l w pipe)) pipe) (eq-eqb (length pipe) 16 z) ∙ ap (λ (t : Bool). pick t pipe (pipe_moved l w pipe)) n

  -- an event that the library hears
  module _ (a : Answer) (s : Setup) (k : ℕ) (se : s ≡ setup_of setup) (ke : k ≡ packet_size b image) {resp : Response} {after left : List ℕ} where
    begins-as : (w : Wire) (x : Event) → is_setup w ≡ true → heard b r (told w) ≡ begins (packet_size b image) setup pipe (event b image x) → a ≡ (event b image x).answer → after ≡ (event b image x).image
        → resp ≡ responds k w s a → left ≡ settles k w s a pipe → Gets (heard b r (told w)) resp after left
    begins-as w x is h e i y p = as-heard h (begun-gets setup pipe (packet_size b image) (event b image x) a s k e se ke i
        (p ∙ ap (λ (t : Bool). pick t (pipe_begun (number_of a) pipe (turn_begun a s k)) (pipe_reset (number_of a) pipe)) is)
        (y ∙ ap (λ (t : Bool). pick t (with_bytes a (order_begun (number_of a) (turn_begun a s k))) (bare (number_of a) 0)) is))

    restarts-as : (w : Wire) (x : Event) (at : List ℕ) → is_setup w ≡ false → heard b r (told w) ≡ restarts at (event b image x) → a ≡ (event b image x).answer → after ≡ (event b image x).image
        → resp ≡ responds k w s a → left ≡ settles k w s a at → Gets (heard b r (told w)) resp after left
    restarts-as w x at is h e i y p = as-heard h (restart-gets at (event b image x) a e i
        (p ∙ ap (λ (t : Bool). pick t (pipe_begun (number_of a) at (turn_begun a s k)) (pipe_reset (number_of a) at)) is)
        (y ∙ ap (λ (t : Bool). pick t (with_bytes a (order_begun (number_of a) (turn_begun a s k))) (bare (number_of a) 0)) is))

    -- one that looks at the transfer has ended it
    ends_as : (w : Wire) → tells w ≡ false → (looked l w pipe).ended ≡ true → a ≡ (event b image (library_event w setup)).answer → after ≡ (event b image (library_event w setup)).image
        → resp ≡ responds k w s a → left ≡ settles k w s a (pipe_looked l w pipe) → Gets (heard b r (told w)) resp after left
    ends_as w n t e i y p =
        let at = looks w n in
        restarts-as w StatusEnd (pipe_looked l w pipe) at.setup_not (ended_same w (long w t) n t) (e ∙ ap (λ (x : Event). (event b image x).answer) at.ends) (i ∙ ap (λ (x : Event). (event b image x).image) at.ends) y p

    told-as : (w : Wire) → (looked l w pipe).ended ≡ true → a ≡ (event b image (library_event w setup)).answer → after ≡ (event b image (library_event w setup)).image → resp ≡ responds k w s a
        → left ≡ settles k w s a (pipe_looked l w pipe) → Gets (heard b r (told w)) resp after left
    told-as ASetup t e i y p = begins-as ASetup (setup_event setup) refl (heard-by ASetup (long ASetup t)) e i y (p ∙ ap (settles k ASetup s a) (kept ASetup refl (long ASetup t)))
    told-as Unknown t e i y p = begins-as Unknown Malformed refl (heard-by Unknown (long Unknown t)) e i y (p ∙ ap (settles k Unknown s a) (kept Unknown refl (long Unknown t)))
    told-as (Reset speed) t e i y p =
        restarts-as (Reset speed) (library_event (Reset speed) setup) pipe refl (heard-by (Reset speed) (long (Reset speed) t)) e i y (p ∙ ap (settles k (Reset speed) s a) (kept (Reset speed) refl (long (Reset speed) t)))
    told-as Taken t e i y p = ends_as Taken refl t e i y p
    told-as (Received n) t e i y p = ends_as (Received n) refl t e i y p
    told-as Replies t e i y p = ends_as Replies refl t e i y p
    told-as (Room n) t e i y p = ends_as (Room n) refl t e i y p
    told-as Accept t e i y p = ends_as Accept refl t e i y p
    told-as Refuse t e i y p = ends_as Refuse refl t e i y p

  -- the same from what the code has
  pub told-gets : (w : Wire) (m : Moved) (x : Event) (a : Answer) (s : Setup) (k : ℕ) {resp : Response} {after at left : List ℕ} → m ≡ looked l w pipe → m.ended ≡ true → at ≡ pipe_looked l w pipe
      → x ≡ library_event w setup → a ≡ (event b image x).answer → after ≡ (event b image x).image → s ≡ setup_of setup → k ≡ packet_size b image → resp ≡ responds k w s a → left ≡ settles k w s a at
      → Gets (heard b r (told w)) resp after left
  told-gets w m x a s k q t p xe e i se ke y z = told-as a s k se ke w (ap (λ (v : Moved). v.ended) (sym q) ∙ t) (e ∙ ap (λ (v : Event). (event b image v).answer) xe)
      (i ∙ ap (λ (v : Event). (event b image v).image) xe) y (z ∙ ap (settles k w s a) p)

  -- one of which the library does not hear
  pub going-gets : (w : Wire) (m : Moved) {resp : Response} {left : List ℕ} → m ≡ looked l w pipe → m.ended ≡ false → left ≡ pipe_looked l w pipe → resp ≡ bare m.number m.order
      → Gets (heard b r (told w)) resp image left
  unfolding heard
  going-gets w m {resp} {left} q t p y = go (eqb (length pipe) 16) refl (tells w) refl
    where
      quiet : (looked l w pipe).ended ≡ false
      quiet = ap (λ (v : Moved). v.ended) (sym q) ∙ t

      said : resp ≡ bare (looked l w pipe).number (looked l w pipe).order
      said = y ∙ ap (λ (v : Moved). bare v.number v.order) q

      go : (x : Bool) → eqb (length pipe) 16 ≡ x → (n : Bool) → tells w ≡ n → Gets (heard b r (told w)) resp image left
      go true x false n = going w (eqb-true (length pipe) 16 x) n quiet p said
      go true x true n =
          let hears : looked l w pipe ≡ record { number = 0; order = nothing; ended = true } =
          ap (λ (u : Bool). pick u (pick (tells w) (record { number = 0; order = nothing; ended = true }) (moved_by l w pipe)) unheard_moved) x ∙ ap (λ (u : Bool). pick {A = Moved} u (record { number = 0; order = nothing; ended = true }) (moved_by l w pipe)) n in
          absurd (false≢true (sym quiet ∙ ap (λ (v : Moved). v.ended) hears))
      go false x v n =
          let unheard-moved : looked l w pipe ≡ unheard_moved = ap (λ (u : Bool). pick u (pick (tells w) (record { number = 0; order = nothing; ended = true }) (moved_by l w pipe)) unheard_moved) x in
          let there : heard b r (told w) ≡ unheard 8 r = ap (λ (u : Bool). pick u (heard_as b r (told w) w) (unheard 8 r)) x in
          as-heard there (bare-gets 8 0 r (said ∙ ap (λ (u : Moved). bare u.number u.order) unheard-moved) refl
          (p ∙ ap (λ (u : Bool). pick u (pick (tells w) pipe (pipe_moved l w pipe)) pipe) x))

-- ---- the exports: what was heard, handed out
lies-piece : (first used serial reply p : ℕ × ℕ) (k offset : ℕ) → p.0 ≡ in_block first.0 used.0 serial.0 reply.0 k
    → p.1 ≡ in_block first.1 used.1 serial.1 reply.1 k + offset
    → (let s = in_block (spot_of first) (spot_of used) (spot_of serial) (spot_of reply) k in spot_of p ≡ record { block = s.block; offset = s.offset + offset })
lies-piece first used serial reply p k offset e f = rw (e, f) (go (eqb k 0) (eqb k 1) (eqb k 2))
  where
    go : (s u v : Bool) → ◌≡◌ {A = Spot} (record { block = pick s first.0 (pick u used.0 (pick v serial.0 reply.0)); offset = pick s first.1 (pick u used.1 (pick v serial.1 reply.1)) + offset })
        (record { block = (pick s (spot_of first) (pick u (spot_of used) (pick v (spot_of serial) (spot_of reply)))).block; offset = (pick s (spot_of first) (pick u (spot_of used) (pick v (spot_of serial) (spot_of reply)))).offset + offset })
    go true u v = refl
    go false true v = refl
    go false false true = refl
    go false false false = refl

module _ (b : Board) (image pipe setup reply : List ℕ) (first_at used_at serial_at reply_at : ℕ × ℕ) (high : Spot) (used : List ℕ) (u : used ≡ set_for b (device_of image).speed)
    (us : spot_of used_at ≡ in_use b.high (device_of image).speed (spot_of first_at) high) where
  abbrev was : Records
  was = record { image = image; pipe = pipe }

  abbrev tells-of : Wire → Told
  tells-of w = record { wire = w; setup = setup; reply = reply }

  pub answers-pipe : (x w : Wire) (g : Response) (image' pipe' : List ℕ) {n : ℕ} {out shown : List ℕ} {at : ℕ × ℕ} → x ≡ w → Gets (heard b was (tells-of x)) g image' pipe' → n ≡ g.number
      → out ≡ out_bytes g (room_for g.order (transfer_of pipe'))
      → HandsPiece b.set used b.serial reply first_at used_at serial_at reply_at (sent (lengths_in used b.serial reply) g.order (transfer_of pipe')) shown at
      → AnswersPipe b (spots_two (spot_of first_at) high (spot_of serial_at)) (spot_of reply_at) was (tells-of w) n (record { image = image'; pipe = pipe' }) out shown (spot_of at)
  answers-pipe x w g image' pipe' {n} {out} {shown} {at} xe gets ne oe hands = record {
    number = ne ∙ h.number;
    leaves = rw (h.image_left, h.pipe_left);
    writes = oe ∙ same_out;
    shows = hands.shows ∙ ap (bytes_in b.set used b.serial reply) same-piece ∙ ap (λ (y : List ℕ). bytes_in b.set y b.serial reply (hands_over b was (tells-of w))) u;
    lies = lies-piece first_at used_at serial_at reply_at at piece.block piece.offset hands.block hands.offset ∙ ap (placed (spot_of used_at)) same-piece
        ∙ ap (λ (y : Spot). placed y (hands_over b was (tells-of w))) us;
  }
    where
      piece : Piece
      piece = sent (lengths_in used b.serial reply) g.order (transfer_of pipe')

      placed : Spot → Piece → Spot
      placed y p = let s = in_block (spot_of first_at) y (spot_of serial_at) (spot_of reply_at) p.block in record { block = s.block; offset = s.offset + p.offset }

      h : Gets (heard b was (tells-of w)) g image' pipe'
      h = subst (λ (y : Wire). Gets (heard b was (tells-of y)) g image' pipe') xe gets

      same-piece : piece ≡ hands_over b was (tells-of w)
      same-piece = ap (λ (y : List ℕ). sent (lengths_in y b.serial reply) g.order (transfer_of pipe')) u
          ∙ ap (λ (p : List ℕ). sent (lengths_of b image reply) g.order (transfer_of p)) h.pipe_left
          ∙ ap (λ (o : ℕ). sent (lengths_of b image reply) o (transfer_of (heard b was (tells-of w)).left.pipe)) h.order

      same-room : room_for g.order (transfer_of pipe') ≡ room (heard b was (tells-of w))
      same-room = ap (λ (p : List ℕ). room_for g.order (transfer_of p)) h.pipe_left ∙ ap (λ (o : ℕ). room_for o (transfer_of (heard b was (tells-of w)).left.pipe)) h.order

      same_out : out_bytes g (room_for g.order (transfer_of pipe')) ≡ out_of (heard b was (tells-of w))
      same_out = ap (out_bytes g) same-room ∙ rw (h.order, h.count, h.first, h.second)
