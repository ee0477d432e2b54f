-- What the host reads is the reply (PIPE 52): of the library's answer to a SETUP, and of the application's. No axiom.
use Rattle.octets.proofs.Vocabulary.{◌≡◌, refl, sym, ap, subst, ◌∙◌, ℕ, suc, ◌+◌, ◌≤◌, ◌<◌, List, [], ◌∷◌, ◌++◌, flat_map, Bool, true, false, false≢true, length, length-take, length-drop, eqb, leb, arith, eq-eqb, ne_eqb, leb-true}
use Rattle.octets.specs.Octets.{part, Bytes}
use Rattle.octets.specs.Sentences.{pick, from, up_to}
use Rattle.sets.specs.Opening.{Board}
use Rattle.records.specs.Image.{device_of}
use Rattle.records.specs.Current.{set_for}
use Rattle.requests.specs.Table.{setup_of}
use Rattle.events.specs.Answer.{Answer, Done, OneByte, TwoBytes, SetPart, SerialPart, Refused, bytes_of, part_of, InsideAt}
use Rattle.events.specs.Step.{Reply, setup_event, event}
use Rattle.order.specs.Run.{All}
use Rattle.packets.specs.Packets.{can_cut}
use Rattle.promises.specs.Refusals.{event_inside}
use Rattle.promises.specs.Replies.{event_within}
use Rattle.pipes.specs.declared.Lengths.{Lengths}
use Rattle.pipes.specs.declared.Piece.{Piece}
use Rattle.pipes.specs.declared.Transfer.{Transfer}
use Rattle.pipes.specs.Transfer.{status_in, send, await, with_stage}
use Rattle.pipes.specs.Image.{transfer_of, image_of}
use Rattle.pipes.specs.Turns.{reply_at, started}
use Rattle.pipes.specs.Sending.{piece_of, no_piece, sent, in_block, bytes_in}
use Rattle.pipes.specs.Pipe.{Told, Records, Heard, lengths_of, packet_size, heard, hands_over}
use Rattle.pipes.proofs.Inverse.{transfer-image}
use Rattle.pipe_runs.specs.Runs.{Happening, on_wire, leaves, a_setup, answered_with}
use Rattle.pipe_runs.specs.Packets.{packet_at, awaits_in, packet_of, packets_of, given, reply_to, Within, Begins}
use Rattle.pipe_runs.proofs.Setups.{begun-by}
use Rattle.pipe_runs.proofs.Waiting.{setup_leaves}
use Rattle.pipe_runs.proofs.Courses.{Fit, Lies, Course, many, cuttable, piece_bytes, course}
use Rattle.pipe_runs.proofs.Cutting.{beginning, whole, some-packet, one-whole}
use Rattle.pipe_runs.proofs.Starts.{started_fits}

-- ---- an answer's bytes lie where its transfer says
part_length : (l : List ℕ) (offset size : ℕ) → offset + size ≤ length l → length (part l offset size) ≡ size
part_length l offset size h = rw (length-take, length-drop) (omega arith)

given-long : (b : Board) (speed : ℕ) (a : Answer) → InsideAt b speed (part_of a) → length (given b speed a) ≡ (reply_at a).length
given-long b speed Done h = refl
given-long b speed (OneByte x) h = refl
given-long b speed (TwoBytes x y) h = refl
given-long b speed (SetPart offset size) h = part_length (set_for b speed) offset size h
given-long b speed (SerialPart size) h = part_length b.serial 0 size h
given-long b speed (Refused n) h = refl

given-at : (b : Board) (speed : ℕ) (reply : List ℕ) (a : Answer) → leb 1 (reply_at a).block ≡ true
    → given b speed a ≡ part (in_block b.set (set_for b speed) b.serial reply (reply_at a).block) (reply_at a).offset (reply_at a).length
given-at b speed reply Done c = refl
given-at b speed reply (OneByte x) c = absurd (omega (arith, leb-true 1 0 c))
given-at b speed reply (TwoBytes x y) c = absurd (omega (arith, leb-true 1 0 c))
given-at b speed reply (SetPart offset size) c = refl
given-at b speed reply (SerialPart size) c = refl
given-at b speed reply (Refused n) c = refl

-- a reply in no block is the bytes handed back, at most two
given-bytes : (b : Board) (speed : ℕ) (a : Answer) → leb 1 (reply_at a).block ≡ false → (given b speed a ≡ bytes_of a ++ []) × (length (given b speed a) ≤ 2)
given-bytes b speed Done c = (refl, omega arith)
given-bytes b speed (OneByte x) c = (refl, omega arith)
given-bytes b speed (TwoBytes x y) c = (refl, omega arith)
given-bytes b speed (SetPart offset size) c = absurd (false≢true (sym c))
given-bytes b speed (SerialPart size) c = absurd (false≢true (sym c))
given-bytes b speed (Refused n) c = (refl, omega arith)

no_bytes : (a : Answer) → leb 1 (reply_at a).block ≡ true → bytes_of a ≡ []
no_bytes Done c = refl
no_bytes (OneByte x) c = absurd (omega (arith, leb-true 1 0 c))
no_bytes (TwoBytes x y) c = absurd (omega (arith, leb-true 1 0 c))
no_bytes (SetPart offset size) c = refl
no_bytes (SerialPart size) c = refl
no_bytes (Refused n) c = refl

-- ---- packet 0 at an event, and the course of the others, are the reply's beginning
module _ (b : Board) (r : Records) (e : Told) (es : List Happening) (t : Transfer) (bytes : List ℕ) (can : can_cut t.length t.asked t.size ≡ true) (long : length bytes ≡ t.length) where
  pub begins-so : eqb (heard b r e).order send ≡ true → eqb (heard b r e).order await ≡ false → packet_at b r e ≡ packet_of bytes t.asked t.size 0
      → Course b (leaves b r e) es t bytes 0 → Begins b r (on_wire e ∷ es) bytes t.asked t.size
  unfolding from
  begins-so s a first c =
      let enough : suc c.more ≤ packets_of bytes t.asked t.size = let x = c.before_last in rw long (omega arith) in
      let can' : can_cut (length bytes) t.asked t.size ≡ true = rw long can in
      let all : awaits_in b r (on_wire e ∷ es) ≡ true → suc c.more ≡ packets_of bytes t.asked t.size = (λ z. let x = c.whole (rw a at z) in rw long (omega arith)) in
      record {
        many = suc c.more;
        some = omega arith;
        no_more = enough;
        packets = rw (s, first) (ap (λ (x : List (List ℕ)). packet_of bytes t.asked t.size 0 ∷ x) c.packets);
        beginning = beginning bytes t.asked t.size can' (suc c.more) enough;
        all = all;
        whole = λ z. ap (λ (n : ℕ). flat_map (packet_of bytes t.asked t.size) (up_to n)) (all z) ∙ whole bytes t.asked t.size can';
      }

-- ---- the library's reply to a SETUP
module _ (b : Board) (r : Records) (setup reply : List ℕ) (long : length r.pipe ≡ 16) (eight : length setup ≡ 8) (octets : Bytes setup)
    (done : answered_with b r.image setup ≡ 0) where
  abbrev pub w : Reply
  w = event b r.image (setup_event setup)

  -- the transfer: where the reply lies, how long it is, wLength and bMaxPacketSize0
  abbrev pub t : Transfer
  t = started (reply_at w.answer) (setup_of setup) (packet_size b r.image)

  abbrev e : Told
  e = a_setup setup reply

  abbrev bytes : List ℕ
  bytes = reply_to b r.image setup

  first-fit : Fit (lengths_of b r.image reply) t
  first-fit = started_fits b r.image setup reply octets done

  same-speed : (device_of w.image).speed ≡ (device_of r.image).speed
  same-speed = rw (eq-eqb (length setup) 8 eight) (setup_leaves b r.image (setup_of setup)).speed

  same-lens : lengths_of b w.image reply ≡ lengths_of b r.image reply
  same-lens = ap (λ speed. record { set = length (set_for b speed); serial = length b.serial; reply = length reply }) same-speed

  pub fit : Fit (lengths_of b w.image reply) t
  fit = subst (λ (l : Lengths). Fit l t) (sym same-lens) first-fit

  pub lies : Lies b w.image reply t bytes
  lies = record {
    long = given-long b (device_of r.image).speed w.answer (event_inside b r.image (setup_event setup));
    at = λ c. given-at b (device_of r.image).speed reply w.answer c
        ∙ ap (λ speed. part (in_block b.set (set_for b speed) b.serial reply t.block) t.place t.length) (sym same-speed);
  }

  pub can : can_cut t.length t.asked t.size ≡ true
  can = cuttable (lengths_of b r.image reply) t first-fit

  -- ---- with wLength 0: "status in, send an empty packet"
  pub begins_status : (setup_of setup).wLength ≡ 0
      → heard b r e ≡ record { number = 0; order = send; bytes = []; left = record { image = w.image; pipe = image_of (with_stage status_in t) } }
  begins_status z = begun-by b r setup reply long eight ∙ rw (done, eq-eqb (setup_of setup).wLength 0 z, none (bytes_of w.answer) (omega (arith, event_within b r.image setup)))
    where
      none : (l : List ℕ) → length l ≤ 0 → l ≡ []
      none [] h = refl
      none (x ∷ l) h = absurd (omega arith)

  -- ---- with another wLength
  module _ (asks : (setup_of setup).wLength ≡ 0 → ⊥) where
    -- "data in, send packet 0 of the reply"
    pub begins : heard b r e ≡ record { number = 0; order = send; bytes = bytes_of w.answer; left = record { image = w.image; pipe = image_of t } }
    begins = begun-by b r setup reply long eight ∙ rw (done, ne_eqb (setup_of setup).wLength 0 asks)

    pub some : 0 < many t
    some = some-packet t.length t.asked t.size can asks

    -- packet 0: the bytes handed back, or the part of the block that the reply lies in
    sends-of : hands_over b r e ≡ pick (leb 1 t.block) (piece_of t) no_piece
    unfolding sent
    sends-of =
        ap (λ (h : Heard). sent (lengths_of b r.image reply) h.order (transfer_of h.left.pipe)) begins
        ∙ ap (sent (lengths_of b r.image reply) send) (transfer-image t first-fit.sized) ∙ go (leb 1 t.block) refl
      where
        go : (c : Bool) → leb 1 t.block ≡ c → sent (lengths_of b r.image reply) send t ≡ pick c (piece_of t) no_piece
        go true c = rw (c, first-fit.fit)
        go false c = rw c

    abbrev blocks : Piece → List ℕ
    blocks p = bytes_in b.set (set_for b (device_of r.image).speed) b.serial reply p

    pub first_packet : packet_at b r e ≡ packet_of bytes t.asked t.size 0
    first_packet = ap (λ (h : Heard). h.bytes ++ blocks (hands_over b r e)) begins ∙ ap (λ (p : Piece). bytes_of w.answer ++ blocks p) sends-of ∙ go (leb 1 t.block) refl
      where
        here : Lies b r.image reply t bytes
        here = record { long = lies.long; at = given-at b (device_of r.image).speed reply w.answer }

        go : (c : Bool) → leb 1 t.block ≡ c → bytes_of w.answer ++ blocks (pick c (piece_of t) no_piece) ≡ packet_of bytes t.asked t.size 0
        go true c = ap (λ (x : List ℕ). x ++ blocks (piece_of t)) (no_bytes w.answer c) ∙ piece_bytes b r.image reply t bytes 0 here c
        go false c =
            let (same, short) = given-bytes b (device_of r.image).speed w.answer c in
            sym same ∙ sym (one-whole bytes t.asked t.size (rw lies.long can) asks short)

    pub reads_reply : (es : List Happening) → All (Within reply) es → Begins b r (on_wire e ∷ es) bytes (setup_of setup).wLength (packet_size b r.image)
    reads_reply es q = begins-so b r e es t bytes can lies.long (rw begins) (rw begins) first_packet
        (subst (λ (h : Heard). Course b h.left es t bytes 0) (sym begins) (course b reply es w.image t bytes 0 fit some lies q))
