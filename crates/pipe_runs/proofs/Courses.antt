-- What the host reads is the reply: of a transfer's packets the k-th that is handed over is the cutter's packet k, each once, in order, none after the
-- last, and all of them were when the host's empty packet is awaited. No axiom.
use Rattle.octets.proofs.Vocabulary.{◌≡◌, refl, sym, ap, subst, ◌∙◌, ℕ, zero, suc, ◌+◌, ◌-◌, ◌/◌, ◌≤◌, ◌<◌, List, [], ◌∷◌, ◌++◌, map, Bool, true, false, ◌&&◌, ◌||◌, false≢true, ◌⊎◌, inl, inr, length, take, drop, eqb, leb, ltb, drop-drop, take-take, arith, eq-eqb, ne_eqb, eqb-true, eqb-false, ltb-false, leb-true, le-leb}
use Rattle.octets.specs.Octets.{part}
use Rattle.octets.specs.Sentences.{pick, from}
use Rattle.octets.proofs.Sentences.{both, either, neither, conjunct}
use Rattle.sets.specs.Opening.{Board}
use Rattle.records.specs.Image.{device_of}
use Rattle.records.specs.Current.{set_for}
use Rattle.events.specs.declared.Event.TheVariants.{Malformed}
use Rattle.events.specs.Answer.{number_of}
use Rattle.events.specs.Step.{Reply, event}
use Rattle.laws.proofs.Outcomes.{chosen}
use Rattle.promises.specs.Refusals.{refusal_empty}
use Rattle.order.specs.Run.{All}
use Rattle.packets.proofs.Sizes.{by_size, inside}
use Rattle.packets.specs.Packets.{packet_count, can_cut, packet_where, packet}
use Rattle.pipes.specs.declared.Lengths.{Lengths}
use Rattle.pipes.specs.declared.Piece.{Piece}
use Rattle.pipes.specs.declared.Transfer.{Transfer}
use Rattle.pipes.specs.declared.Wire.{Wire}
use Rattle.pipes.specs.declared.Wire.TheVariants.{Setup, Taken, Received, Reset, Reply as Replies, Room, Accept, Refuse, Unknown}
use Rattle.pipes.specs.Transfer.{data_in, status_out, status_in, send, await, with_stage, with_moved, good_size, good_reply, good_moved, block_length, fits}
use Rattle.pipes.specs.Image.{transfer_of, image_of, fits_in}
use Rattle.pipes.specs.Turns.{Turn, goes_on, stays, stalls, ends, asked, may_reply, sends_reply, may_write, receives, may_accept, sends_status, taken, received, replied, roomed, accepted, refused, turned}
use Rattle.pipes.specs.Sending.{piece_of, sent, in_block, bytes_in}
use Rattle.pipes.specs.Pipe.{Told, Records, Heard, lengths_of, packet_size, unheard, begins, moves, on_transfer, heard_as, heard}
use Rattle.pipes.proofs.Inverse.{Sized, transfer-image}
use Rattle.pipes.proofs.Packets.{given, small}
use Rattle.pipe_runs.proofs.Waiting.{malformed_same, other_same}
use Rattle.pipe_runs.specs.Runs.{Other, other_event, Happening, on_wire, beside, leaves, leaves_by, quiet, is_quiet, Resting, is_idle, is_stalled}
use Rattle.pipe_runs.specs.Packets.{sent_in, awaits_in, packet_of, Within}
use Rattle.pipe_runs.proofs.Resting.{Malforms, with7, with8, with9, malforms, rests_at}

-- ---- the words
abbrev pub many : Transfer → ℕ
many t = packet_count t.length t.asked t.size

-- the reply of a transfer is these bytes: as long as the pipe record says, and, where it lies in a block that is lent, they are the part there
pub record Lies (b : Board) (image reply : List ℕ) (t : Transfer) (bytes : List ℕ) : Type 0 where
  pub long : length bytes ≡ t.length
  pub at : leb 1 t.block ≡ true → bytes ≡ part (in_block b.set (set_for b (device_of image).speed) b.serial reply t.block) t.place t.length

-- a transfer in data in that fits the blocks that are lent
pub record Fit (l : Lengths) (t : Transfer) : Type 0 where
  pub stage : t.stage ≡ data_in
  pub fit : fits l t ≡ true
  pub sized : Sized t

-- what follows packet k of a transfer: so many more packets, each once and in order, none after the last, and all when the empty packet is awaited
pub record Course (b : Board) (r : Records) (es : List Happening) (t : Transfer) (bytes : List ℕ) (k : ℕ) : Type 0 where
  pub more : ℕ
  pub before_last : k + more < many t
  pub packets : sent_in b r es ≡ map (packet_of bytes t.asked t.size) (from (suc k) more)
  pub whole : awaits_in b r es ≡ true → suc (k + more) ≡ many t

-- ---- the bytes: a part of a part
within : (n at size : ℕ) (l : List ℕ) → at + size ≤ n → part (take n l) at size ≡ part l at size
within n zero size l h = take-take size n l (omega arith)
within zero (suc at) size l h = absurd (omega arith)
within (suc n) (suc at) size [] h = refl
within (suc n) (suc at) size (x ∷ l) h = within n at size l (omega arith)

part-part : (block : List ℕ) (offset n at size : ℕ) → at + size ≤ n → part (part block offset n) at size ≡ part block (offset + at) size
part-part block offset n at size h = within n at size (drop offset block) h ∙ rw drop-drop

-- packet k of the reply, as a part of its block
pub piece_bytes : (b : Board) (image reply : List ℕ) (t : Transfer) (bytes : List ℕ) (k : ℕ) → Lies b image reply t bytes → leb 1 t.block ≡ true
    → bytes_in b.set (set_for b (device_of image).speed) b.serial reply (piece_of (with_moved k t)) ≡ packet_of bytes t.asked t.size k
piece_bytes b image reply t bytes k l c =
    let q = packet t.length t.asked t.size k in
    let block = in_block b.set (set_for b (device_of image).speed) b.serial reply t.block in
    sym (part-part block t.place t.length q.offset q.length (inside t.length t.asked t.size k))
    ∙ ap (λ (x : List ℕ). part x q.offset q.length) (sym (l.at c))
    ∙ ap (λ (n : ℕ). part bytes (packet n t.asked t.size k).offset (packet n t.asked t.size k).length) (sym l.long)

-- ---- a transfer that fits can be cut
left-of-or : (x y : Bool) → (x || (y && false)) ≡ true → x ≡ true
left-of-or true y z = refl
left-of-or false true z = z
left-of-or false false z = z

pub cuttable : (l : Lengths) (t : Transfer) → Fit l t → can_cut t.length t.asked t.size ≡ true
unfolding fits
cuttable l t f =
    let row = leb t.stage 7 ∷ leb t.block 3 ∷ leb t.reads 1 ∷ good_size t ∷ good_reply l t ∷ good_moved t ∷ [] in
    let size = left-of-or (eqb t.size 8 || eqb t.size 16 || eqb t.size 32 || eqb t.size 64) (eqb t.size 0) (rw f.stage at (conjunct 3 row f.fit)) in
    rw (size, (both (leb t.length t.asked) _ (conjunct 4 row f.fit)).0)

-- the next packet is given exactly below the count
pub next-number : (r w p k : ℕ) → can_cut r w p ≡ true → eqb (packet r w p k).number 0 ≡ ltb k (packet_count r w p)
unfolding packet
next-number r w p k can = go (ltb k (packet_count r w p)) refl
  where
    go : (t : Bool) → ltb k (packet_count r w p) ≡ t → eqb (packet_where (can_cut r w p && ltb k (packet_count r w p)) r p k).number 0 ≡ t
    go true z = rw (can, z)
    go false z = rw (can, z)

-- two bytes are one packet
One : ℕ → ℕ → ℕ → Type 0
One r w p = r ≤ 2 → packet_count r w p ≤ 1

one_at : (r w p : ℕ) → (r ≤ 2 → (r + p - 1) / p ≤ 1) → (r ≤ 2 → r / p + 1 ≤ 1) → One r w p
unfolding One
one_at r w p f g = go (eqb r w)
  where
    go : (b : Bool) → r ≤ 2 → pick b ((r + p - 1) / p) (r / p + 1) ≤ 1
    go true = f
    go false = g

one-packet : (r w p : ℕ) → can_cut r w p ≡ true → r ≤ 2 → packet_count r w p ≤ 1
unfolding One
one-packet r w p h =
    by_size (One r w)
    (one_at r w 8 (λ l. omega arith) (λ l. omega arith))
    (one_at r w 16 (λ l. omega arith) (λ l. omega arith))
    (one_at r w 32 (λ l. omega arith) (λ l. omega arith))
    (one_at r w 64 (λ l. omega arith) (λ l. omega arith))
    r w p h

-- so a reply of more than one packet lies in a block
pub in_a_block : (l : Lengths) (t : Transfer) → Fit l t → 1 < many t → leb 1 t.block ≡ true
unfolding fits
in_a_block l t f m = go (eqb t.block 0) refl
  where
    go : (x : Bool) → eqb t.block 0 ≡ x → leb 1 t.block ≡ true
    go true z =
        let row = leb t.stage 7 ∷ leb t.block 3 ∷ leb t.reads 1 ∷ good_size t ∷ good_reply l t ∷ good_moved t ∷ [] in
        let inside : leb (t.place + t.length) (block_length l t.block) ≡ true = (both (leb t.length t.asked) _ (conjunct 4 row f.fit)).1 in
        let short = leb-true (t.place + t.length) 2 (rw z at inside) in
        absurd (omega (arith, one-packet t.length t.asked t.size (cuttable l t f) (omega arith)))
    go false z = let n = eqb-false t.block 0 z in le-leb 1 t.block (omega arith)

-- ---- the transfer with another packet under way fits as well
pub moved-fits : (l : Lengths) (t : Transfer) (k : ℕ) → Fit l t → k < 65536 → Fit l (with_moved k t)
unfolding fits
moved-fits l t k f s = record {
  stage = f.stage;
  fit = rw f.stage (rw f.stage at f.fit);
  sized = record { place-fits = f.sized.place-fits; length-fits = f.sized.length-fits; asked-fits = f.sized.asked-fits; moved-fits = s };
}

-- the pipe record of a transfer that fits, fits
pub record-fits : (l : Lengths) (t : Transfer) → Sized t → fits l t ≡ true → fits_in l (image_of t) ≡ true
unfolding image_of
record-fits l t s f = ap (fits l) (transfer-image t s) ∙ f

-- ---- one event
-- an event that looks at the transfer
abbrev pub looks : Wire → Bool
looks Unknown = false
looks Setup = false
looks (Reset speed) = false
looks Taken = true
looks (Received n) = true
looks Replies = true
looks (Room n) = true
looks Accept = true
looks Refuse = true

looked-by : (b : Board) (r : Records) (e : Told) (w : Wire) → looks w ≡ true → heard_as b r e w ≡ on_transfer b r e
looked-by b r e Setup q = absurd (false≢true q)
looked-by b r e (Reset speed) q = absurd (false≢true q)
looked-by b r e Unknown q = absurd (false≢true q)
looked-by b r e Taken q = refl
looked-by b r e (Received n) q = refl
looked-by b r e Replies q = refl
looked-by b r e (Room n) q = refl
looked-by b r e Accept q = refl
looked-by b r e Refuse q = refl

module _ (b : Board) (image : List ℕ) (e : Told) (t : Transfer) (s : Sized t) (f : fits (lengths_of b image e.reply) t ≡ true) where
  abbrev here : Records
  here = record { image = image; pipe = image_of t }

  pub hears : looks e.wire ≡ true → heard b here e ≡ moves b image (turned (length e.reply) e.wire t)
  unfolding heard
  hears q =
      let long : eqb (length (image_of t)) 16 ≡ true = conjunct 0 (eqb (length (image_of t)) 16 ∷ _ ∷ _ ∷ []) (record-fits (lengths_of b image e.reply) t s f) in
      let one : heard b here e ≡ on_transfer b here e = ap (λ (x : Bool). pick x (heard_as b here e e.wire) (unheard 8 here)) long ∙ looked-by b here e e.wire q in
      one ∙ rw (record-fits (lengths_of b image e.reply) t s f, transfer-image t s)

  -- a setup that is not 8 bytes: the pipe stays, or stalls
  malformed : e.wire ≡ Unknown → (heard b here e ≡ unheard 9 (record { image = (event b image Malformed).image; pipe = image_of t }))
      ⊎ ((eqb (heard b here e).order send ≡ false) × (eqb (heard b here e).order await ≡ false) × Resting (heard b here e).left.pipe)
  unfolding heard
  malformed q = go (number_of w.answer) refl (malforms b image)
    where
      w : Reply
      w = event b image Malformed

      one : heard b here e ≡ begins (packet_size b image) e.setup (image_of t) w
      one =
          let long : eqb (length (image_of t)) 16 ≡ true = conjunct 0 (eqb (length (image_of t)) 16 ∷ _ ∷ _ ∷ []) (record-fits (lengths_of b image e.reply) t s f) in
          rw (long, q)

      go : (n : ℕ) → number_of w.answer ≡ n → Malforms n → (heard b here e ≡ unheard 9 (record { image = w.image; pipe = image_of t }))
          ⊎ ((eqb (heard b here e).order send ≡ false) × (eqb (heard b here e).order await ≡ false) × Resting (heard b here e).left.pipe)
      go n z with7 = inr (rw (one, z), rw (one, z), rw (one, z) is_stalled)
      go n z with8 = inr (rw (one, z), rw (one, z), rw (one, z) is_stalled)
      go n z with9 = inl (one ∙ rw ((refusal_empty w.answer (λ y. absurd (omega arith))).0, z))

-- ---- nothing goes out any more
Silent : Board → Records → List Happening → Type 0
Silent b r es = (sent_in b r es ≡ []) × (awaits_in b r es ≡ false)

silent-then : (b : Board) (r : Records) (e : Told) (es : List Happening) → eqb (heard b r e).order send ≡ false → eqb (heard b r e).order await ≡ false
    → Silent b (leaves b r e) es → Silent b r (on_wire e ∷ es)
unfolding Silent
silent-then b r e es p q (s, t) = (rw p s, rw q t)

-- at rest
at_rest : (b : Board) (r : Records) (es : List Happening) → Resting r.pipe → All is_quiet es → Silent b r es
unfolding Silent
at_rest b r [] p q = (refl, refl)
at_rest b r (beside x ∷ es) p (q, qs) = at_rest b (leaves_by b r (beside x)) es p qs
at_rest b r (on_wire e ∷ es) p (q, qs) =
    let h = rests_at b r e p q in
    silent-then b r e es (ne_eqb _ _ h.sends_nothing) (ne_eqb _ _ h.awaits_nothing) (at_rest b (leaves b r e) es h.resting qs)

-- ---- what becomes of a transfer in data in, and in status out
data DataTurn (t : Transfer) : Turn → Type 0 where
  next : (packet t.length t.asked t.size (t.moved + 1)).number ≡ 0 → DataTurn t (goes_on (with_moved (t.moved + 1) t) send)
  last : ((packet t.length t.asked t.size (t.moved + 1)).number ≡ 0 → ⊥) → DataTurn t (goes_on (with_stage status_out t) await)
  same : DataTurn t (stays t)
  over : DataTurn t ends
  wrong : DataTurn t stalls

not-asking : (P : Turn → Type 0) (t : Transfer) (may : Bool) (turn : Turn) → (t.stage ≡ 1 → ⊥) → (t.stage ≡ 5 → ⊥) → P (stays t) → P (asked t may turn)
not-asking P t may turn p q s =
    chosen P (eqb t.stage 1 || eqb t.stage 5)
    (λ z. absurd (no (either (eqb t.stage 1) (eqb t.stage 5) z))) (λ _. s)
  where
    no : (eqb t.stage 1 ≡ true) ⊎ (eqb t.stage 5 ≡ true) → ⊥
    no (inl z) = p (eqb-true t.stage 1 z)
    no (inr z) = q (eqb-true t.stage 5 z)

module _ (n : ℕ) (t : Transfer) (s : t.stage ≡ data_in) where
  no1 : t.stage ≡ 1 → ⊥
  no1 z = absurd (omega arith)

  no5 : t.stage ≡ 5 → ⊥
  no5 z = absurd (omega arith)

  taken-data : DataTurn t (taken t)
  unfolding taken
  taken-data =
      chosen (DataTurn t) (eqb t.stage data_in)
      (λ _. chosen (DataTurn t) (eqb (packet t.length t.asked t.size (t.moved + 1)).number 0) (λ z. next (eqb-true _ 0 z)) (λ z. last (eqb-false _ 0 z)))
      (λ z. absurd (eqb-false t.stage data_in z s))

  received-data : (size : ℕ) → DataTurn t (received size t)
  unfolding received
  received-data size =
      chosen (DataTurn t) (eqb t.stage data_in || eqb t.stage status_out)
      (λ _. chosen (DataTurn t) (eqb size 0) (λ _. over) (λ _. wrong))
      (λ z. absurd (eqb-false t.stage data_in (neither (eqb t.stage data_in) (eqb t.stage status_out) z).0 s))

  data-turn : (w : Wire) → DataTurn t (turned n w t)
  unfolding turned replied roomed accepted refused
  data-turn Taken = taken-data
  data-turn (Received size) = received-data size
  data-turn Replies = not-asking (DataTurn t) t (may_reply t) (sends_reply n t) no1 no5 same
  data-turn (Room size) = not-asking (DataTurn t) t (may_write size t) (receives t) no1 no5 same
  data-turn Accept = not-asking (DataTurn t) t (may_accept t) (sends_status t) no1 no5 same
  data-turn Refuse = not-asking (DataTurn t) t false stalls no1 no5 same
  data-turn Setup = same
  data-turn (Reset speed) = same
  data-turn Unknown = same

data OutTurn (t : Transfer) : Turn → Type 0 where
  same : OutTurn t (stays t)
  over : OutTurn t ends
  wrong : OutTurn t stalls

module _ (n : ℕ) (t : Transfer) (s : t.stage ≡ status_out) where
  out1 : t.stage ≡ 1 → ⊥
  out1 z = absurd (omega arith)

  out5 : t.stage ≡ 5 → ⊥
  out5 z = absurd (omega arith)

  taken_out : OutTurn t (taken t)
  unfolding taken
  taken_out = chosen (OutTurn t) (eqb t.stage data_in) (λ z. let q = eqb-true t.stage data_in z in absurd (omega arith))
      (λ _. chosen (OutTurn t) (eqb t.stage status_in) (λ z. let q = eqb-true t.stage status_in z in absurd (omega arith)) (λ _. same))

  received-out : (size : ℕ) → OutTurn t (received size t)
  unfolding received
  received-out size =
      chosen (OutTurn t) (eqb t.stage data_in || eqb t.stage status_out)
      (λ _. chosen (OutTurn t) (eqb size 0) (λ _. over) (λ _. wrong))
      (λ z. absurd (eqb-false t.stage status_out (neither (eqb t.stage data_in) (eqb t.stage status_out) z).1 s))

  out-turn : (w : Wire) → OutTurn t (turned n w t)
  unfolding turned replied roomed accepted refused
  out-turn Taken = taken_out
  out-turn (Received size) = received-out size
  out-turn Replies = not-asking (OutTurn t) t (may_reply t) (sends_reply n t) out1 out5 same
  out-turn (Room size) = not-asking (OutTurn t) t (may_write size t) (receives t) out1 out5 same
  out-turn Accept = not-asking (OutTurn t) t (may_accept t) (sends_status t) out1 out5 same
  out-turn Refuse = not-asking (OutTurn t) t false stalls out1 out5 same
  out-turn Setup = same
  out-turn (Reset speed) = same
  out-turn Unknown = same

quiet-looks : (w : Wire) → quiet w ≡ true → (looks w ≡ true) ⊎ (w ≡ Unknown)
quiet-looks Setup q = absurd (false≢true q)
quiet-looks (Reset speed) q = absurd (false≢true q)
quiet-looks Unknown q = inr refl
quiet-looks Taken q = inl refl
quiet-looks (Received n) q = inl refl
quiet-looks Replies q = inl refl
quiet-looks (Room n) q = inl refl
quiet-looks Accept q = inl refl
quiet-looks Refuse q = inl refl

-- ---- runs in which the same reply is lent
module _ (b : Board) (reply : List ℕ) where
  abbrev pub lens : List ℕ → Lengths
  lens image = lengths_of b image reply

  all_quiet : (es : List Happening) → All (Within reply) es → All is_quiet es
  all_quiet [] q = tt
  all_quiet (on_wire e ∷ es) (q, qs) = (q.0, all_quiet es qs)
  all_quiet (beside x ∷ es) (q, qs) = (tt, all_quiet es qs)

  -- after an event that leaves the pipe at rest and orders neither
  rests-then : (r : Records) (e : Told) (es : List Happening) {h : Heard} → heard b r e ≡ h
      → eqb h.order send ≡ false → eqb h.order await ≡ false → Resting h.left.pipe → All (Within reply) es → Silent b r (on_wire e ∷ es)
  rests-then r e es z p q k qs = silent-then b r e es (rw z p) (rw z q) (at_rest b (leaves b r e) es (subst (λ (x : Heard). Resting x.left.pipe) (sym z) k) (all_quiet es qs))

  -- a setup that is not 8 bytes leaves the set in use
  same-lens : (image : List ℕ) → lens (event b image Malformed).image ≡ lens image
  same-lens image = ap (λ speed. record { set = length (set_for b speed); serial = length b.serial; reply = length reply }) (malformed_same b image).speed

  same_place : (image : List ℕ) (t : Transfer) (bytes : List ℕ) → Lies b image reply t bytes → Lies b (event b image Malformed).image reply t bytes
  same_place image t bytes l = record {
    long = l.long;
    at = λ c. l.at c ∙ ap (λ speed. part (in_block b.set (set_for b speed) b.serial reply t.block) t.place t.length) (sym (malformed_same b image).speed);
  }

  -- nor do the other events
  other-lens : (image : List ℕ) (x : Other) → lens (event b image (other_event x)).image ≡ lens image
  other-lens image x = ap (λ speed. record { set = length (set_for b speed); serial = length b.serial; reply = length reply }) (other_same b image x).speed

  other_place : (image : List ℕ) (x : Other) (t : Transfer) (bytes : List ℕ) → Lies b image reply t bytes → Lies b (event b image (other_event x)).image reply t bytes
  other_place image x t bytes l = record {
    long = l.long;
    at = λ c. l.at c ∙ ap (λ speed. part (in_block b.set (set_for b speed) b.serial reply t.block) t.place t.length) (sym (other_same b image x).speed);
  }

  -- ---- status out
  out_step : (e : Told) (es : List Happening) (image : List ℕ) (t : Transfer) → t.stage ≡ status_out → Sized t → fits (lens image) t ≡ true → Within reply (on_wire e) → All (Within reply) es
      → ((image : List ℕ) → fits (lens image) t ≡ true → Silent b (record { image = image; pipe = image_of t }) es)
      → Silent b (record { image = image; pipe = image_of t }) (on_wire e ∷ es)
  out_step e es image t s z f (q, y) qs rec = go (quiet-looks e.wire q)
    where
      r : Records
      r = record { image = image; pipe = image_of t }

      f' : fits (lengths_of b image e.reply) t ≡ true
      f' = rw y f

      on : (h : Heard) → heard b r e ≡ h → eqb h.order send ≡ false → eqb h.order await ≡ false → Silent b h.left es → Silent b r (on_wire e ∷ es)
      on h w p a k = silent-then b r e es (rw w p) (rw w a) (subst (λ (x : Heard). Silent b x.left es) (sym w) k)

      turn : (u : Turn) → OutTurn t u → heard b r e ≡ moves b image u → Silent b r (on_wire e ∷ es)
      turn u same h = on _ h refl refl (rec image f)
      turn u over h = rests-then r e es h refl refl is_idle qs
      turn u wrong h = rests-then r e es h refl refl is_stalled qs

      go : (looks e.wire ≡ true) ⊎ (e.wire ≡ Unknown) → Silent b r (on_wire e ∷ es)
      go (inl l) = turn _ (out-turn (length e.reply) t s e.wire) (hears b image e t z f' l)
      go (inr u) = bad (malformed b image e t z f' u)
        where
          bad : (heard b r e ≡ unheard 9 (record { image = (event b image Malformed).image; pipe = image_of t }))
              ⊎ ((eqb (heard b r e).order send ≡ false) × (eqb (heard b r e).order await ≡ false) × Resting (heard b r e).left.pipe) → Silent b r (on_wire e ∷ es)
          bad (inl h) = on _ h refl refl (rec (event b image Malformed).image (rw (same-lens image) f))
          bad (inr (p, a, k)) = rests-then r e es refl p a k qs

  out : (es : List Happening) (image : List ℕ) (t : Transfer) → t.stage ≡ status_out → Sized t → fits (lens image) t ≡ true → All (Within reply) es
      → Silent b (record { image = image; pipe = image_of t }) es
  unfolding Silent
  out [] image t s z f q = (refl, refl)
  out (beside x ∷ es) image t s z f (q, qs) = out es (event b image (other_event x)).image t s z (rw (other-lens image x) f) qs
  out (on_wire e ∷ es) image t s z f (q, qs) = out_step e es image t s z f q qs (λ image' f'. out es image' t s z f' qs)

  -- ---- data in
  module _ (e : Told) (es : List Happening) (image : List ℕ) (t : Transfer) (bytes : List ℕ) (k : ℕ) (f : Fit (lens image) (with_moved k t)) (l : k < many t)
      (y : Lies b image reply t bytes) (q : Within reply (on_wire e)) (qs : All (Within reply) es) where
    abbrev tk : Transfer
    tk = with_moved k t

    abbrev r : Records
    r = record { image = image; pipe = image_of tk }

    abbrev blocks : List ℕ → Piece → List ℕ
    blocks y p = bytes_in b.set (set_for b (device_of image).speed) b.serial y p

    finished : Silent b r (on_wire e ∷ es) → Course b r (on_wire e ∷ es) t bytes k
    unfolding Silent from
    finished s = record { more = 0; before_last = omega arith; packets = s.0; whole = λ w. absurd (false≢true (sym s.1 ∙ w)) }

    -- an event at which no packet is handed over
    sent-on : (h : Heard) → heard b r e ≡ h → eqb h.order send ≡ false → sent_in b r (on_wire e ∷ es) ≡ sent_in b h.left es
    sent-on h w p = ap (λ (x : Heard). pick (eqb x.order send) ((x.bytes ++ blocks e.reply (sent (lengths_of b image e.reply) x.order (transfer_of x.left.pipe))) ∷ []) [] ++ sent_in b x.left es) w ∙ rw p

    awaits-on : (h : Heard) → heard b r e ≡ h → awaits_in b r (on_wire e ∷ es) ≡ (eqb h.order await || awaits_in b h.left es)
    awaits-on h w = ap (λ (x : Heard). eqb x.order await || awaits_in b x.left es) w

    continued : (h : Heard) → heard b r e ≡ h → eqb h.order send ≡ false → eqb h.order await ≡ false → Course b h.left es t bytes k → Course b r (on_wire e ∷ es) t bytes k
    continued h w p a c = record {
      more = c.more;
      before_last = c.before_last;
      packets = sent-on h w p ∙ c.packets;
      whole = λ z. c.whole (ap (λ (x : Bool). x || awaits_in b h.left es) (sym a) ∙ sym (awaits-on h w) ∙ z);
    }

    -- the next packet is handed over
    handed : (h : Heard) → heard b r e ≡ h
        → sent_in b r (on_wire e ∷ es) ≡ pick (eqb h.order send) ((h.bytes ++ blocks reply (sent (lens image) h.order (transfer_of h.left.pipe))) ∷ []) [] ++ sent_in b h.left es
    handed h w =
        ap (λ (x : Heard). pick (eqb x.order send) ((x.bytes ++ blocks e.reply (sent (lengths_of b image e.reply) x.order (transfer_of x.left.pipe))) ∷ []) [] ++ sent_in b x.left es) w
        ∙ ap (λ (z : List ℕ). pick (eqb h.order send) ((h.bytes ++ blocks z (sent (lengths_of b image z) h.order (transfer_of h.left.pipe))) ∷ []) [] ++ sent_in b h.left es) q.1

    sends-piece : (u : Transfer) → Fit (lens image) u → leb 1 u.block ≡ true → sent (lens image) send (transfer_of (image_of u)) ≡ piece_of u
    unfolding sent
    sends-piece u g c = ap (sent (lens image) send) (transfer-image u g.sized) ∙ rw (eq-eqb u.stage data_in g.stage, c, g.fit)

    next-on : suc k < many t → heard b r e ≡ record { number = 0; order = send; bytes = []; left = record { image = image; pipe = image_of (with_moved (suc k) t) } }
        → Course b (record { image = image; pipe = image_of (with_moved (suc k) t) }) es t bytes (suc k) → Fit (lens image) (with_moved (suc k) t) → Course b r (on_wire e ∷ es) t bytes k
    unfolding from
    next-on m h c g = record {
      more = suc c.more;
      before_last = let x = c.before_last in omega arith;
      packets =
          let there = in_a_block (lens image) (with_moved (suc k) t) g (omega arith) in
          let rest = sent_in b (record { image = image; pipe = image_of (with_moved (suc k) t) }) es in
          handed _ h ∙ ap (λ (x : Piece). blocks reply x ∷ rest) (sends-piece (with_moved (suc k) t) g there)
          ∙ ap (λ (x : List ℕ). x ∷ rest) (piece_bytes b image reply t bytes (suc k) y there) ∙ ap (λ (x : List (List ℕ)). packet_of bytes t.asked t.size (suc k) ∷ x) c.packets;
      whole = λ z. let w = c.whole (sym (awaits-on _ h) ∙ z) in omega arith;
    }

    -- it was the last, and the host's empty packet is awaited
    out-fits : fits (lens image) (with_stage status_out tk) ≡ true
    unfolding fits
    out-fits = rw f.stage at f.fit

    out-sized : Sized (with_stage status_out tk)
    out-sized = record { place-fits = f.sized.place-fits; length-fits = f.sized.length-fits; asked-fits = f.sized.asked-fits; moved-fits = f.sized.moved-fits }

    last_on : many t ≤ suc k → heard b r e ≡ record { number = 0; order = await; bytes = []; left = record { image = image; pipe = image_of (with_stage status_out tk) } } → Course b r (on_wire e ∷ es) t bytes k
    unfolding Silent from
    last_on m h = record {
      more = 0;
      before_last = omega arith;
      packets = sent-on _ h refl ∙ (out es image (with_stage status_out tk) refl out-sized out-fits qs).0;
      whole = λ _. omega arith;
    }

    can : can_cut t.length t.asked t.size ≡ true
    can = cuttable (lens image) tk f

    one_more : (m : ℕ) → m ≡ suc k → (packet t.length t.asked t.size m).number ≡ 0 → (suc k < many t) × (suc k < 65536)
    one_more m p z =
        let (c, x) = given t.length t.asked t.size m z in
        let y = small t.length t.asked t.size m z in
        let w = f.sized.asked-fits in
        (omega arith, omega arith)

    no_more : (m : ℕ) → m ≡ suc k → ((packet t.length t.asked t.size m).number ≡ 0 → ⊥) → many t ≤ suc k
    no_more m p z = go (ltb m (many t)) refl
      where
        go : (x : Bool) → ltb m (many t) ≡ x → many t ≤ suc k
        go true w = absurd (z (eqb-true _ 0 (next-number t.length t.asked t.size m can ∙ w)))
        go false w = let y = ltb-false m (many t) w in omega arith

    step : ((image' : List ℕ) (k' : ℕ) → Fit (lens image') (with_moved k' t) → k' < many t → Lies b image' reply t bytes → Course b (record { image = image'; pipe = image_of (with_moved k' t) }) es t bytes k')
        → Course b r (on_wire e ∷ es) t bytes k
    step rec = go (quiet-looks e.wire q.0)
      where
        plus : k + 1 ≡ suc k
        plus = omega arith

        f' : fits (lengths_of b image e.reply) tk ≡ true
        f' = rw q.1 f.fit

        turn : (u : Turn) → DataTurn tk u → heard b r e ≡ moves b image u → Course b r (on_wire e ∷ es) t bytes k
        turn u (next z) h =
            let (x, small-k) = one_more (k + 1) plus z in
            let g = moved-fits (lens image) tk (suc k) f small-k in
            next-on x (h ∙ ap (λ m. record { number = 0; order = send; bytes = []; left = record { image = image; pipe = image_of (with_moved m t) } }) plus) (rec image (suc k) g x y) g
        turn u (last z) h = last_on (no_more (k + 1) plus z) h
        turn u same h = continued _ h refl refl (rec image k f l y)
        turn u over h = finished (rests-then r e es h refl refl is_idle qs)
        turn u wrong h = finished (rests-then r e es h refl refl is_stalled qs)

        bad : (heard b r e ≡ unheard 9 (record { image = (event b image Malformed).image; pipe = image_of tk }))
            ⊎ ((eqb (heard b r e).order send ≡ false) × (eqb (heard b r e).order await ≡ false) × Resting (heard b r e).left.pipe) → Course b r (on_wire e ∷ es) t bytes k
        bad (inl h) = continued _ h refl refl (rec (event b image Malformed).image k (record { stage = f.stage; fit = rw (same-lens image) f.fit; sized = f.sized }) l (same_place image t bytes y))
        bad (inr (p, a, z)) = finished (rests-then r e es refl p a z qs)

        go : (looks e.wire ≡ true) ⊎ (e.wire ≡ Unknown) → Course b r (on_wire e ∷ es) t bytes k
        go (inl w) = turn _ (data-turn (length e.reply) tk f.stage e.wire) (hears b image e tk f.sized f' w)
        go (inr u) = bad (malformed b image e tk f.sized f' u)

  -- what follows packet k, in every run without a SETUP and a reset
  pub course : (es : List Happening) (image : List ℕ) (t : Transfer) (bytes : List ℕ) (k : ℕ) → Fit (lens image) (with_moved k t) → k < many t → Lies b image reply t bytes
      → All (Within reply) es → Course b (record { image = image; pipe = image_of (with_moved k t) }) es t bytes k
  unfolding from
  course [] image t bytes k f l y q = record { more = 0; before_last = omega arith; packets = refl; whole = λ z. absurd (false≢true z) }
  course (beside x ∷ es) image t bytes k f l y (q, qs) =
      let c = course es (event b image (other_event x)).image t bytes k (record { stage = f.stage; fit = rw (other-lens image x) f.fit; sized = f.sized }) l (other_place image x t bytes y) qs in
      record { more = c.more; before_last = c.before_last; packets = c.packets; whole = c.whole }
  course (on_wire e ∷ es) image t bytes k f l y (q, qs) = step e es image t bytes k f l y q qs (λ image' k' f' l' y'. course es image' t bytes k' f' l' y' qs)
