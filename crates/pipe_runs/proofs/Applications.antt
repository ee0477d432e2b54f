-- The application's reply goes out as the library's does: its first wLength bytes. No axiom.
use Rattle.octets.proofs.Vocabulary.{◌≡◌, refl, sym, ap, subst, ◌∙◌, ℕ, ◌+◌, ◌≤◌, ◌<◌, min, List, [], ◌∷◌, ◌++◌, Bool, true, false, not, length, take, length-take, eqb, leb, arith, eq-eqb, eqb-true, le-leb}
use Rattle.octets.specs.Octets.{Bytes}
use Rattle.octets.proofs.Sentences.{conjunct}
use Rattle.sets.specs.Opening.{Board}
use Rattle.records.specs.Image.{device_of}
use Rattle.records.specs.Current.{set_for}
use Rattle.order.specs.Run.{All}
use Rattle.packets.specs.Packets.{can_cut}
use Rattle.pipes.specs.declared.Lengths.{Lengths}
use Rattle.pipes.specs.declared.Transfer.{Transfer}
use Rattle.pipes.specs.declared.Wire.TheVariants.{Reply}
use Rattle.pipes.specs.Transfer.{asking_setup, data_in, in_reply, send, with_stage, with_moved, with_reply, good_size, good_reply, good_moved, fits}
use Rattle.pipes.specs.Image.{transfer_of, image_of, ends_in_zeros, fits_in}
use Rattle.pipes.specs.Turns.{may_reply, replied, turned}
use Rattle.pipes.specs.Sending.{sent, bytes_in}
use Rattle.pipes.specs.Pipe.{Told, Records, Heard, lengths_of, heard}
use Rattle.pipes.proofs.Inverse.{transfer-image}
use Rattle.pipe_runs.specs.Runs.{Happening, on_wire}
use Rattle.pipe_runs.specs.Packets.{packet_at, packet_of, Within, Begins}
use Rattle.pipe_runs.proofs.Courses.{Fit, Lies, Course, cuttable, piece_bytes, course}
use Rattle.promises.specs.Packets.{least}
use Rattle.pipe_runs.proofs.Cutting.{some-packet}
use Rattle.pipe_runs.proofs.Replies.{begins-so}

module _ (b : Board) (r : Records) (reply : List ℕ) (octets : Bytes r.pipe) (fitting : fits_in (lengths_of b r.image reply) r.pipe ≡ true)
    (may : may_reply (transfer_of r.pipe) ≡ true) where
  abbrev t : Transfer
  t = transfer_of r.pipe

  abbrev l : Lengths
  l = lengths_of b r.image reply

  abbrev e : Told
  e = record { wire = Reply; setup = []; reply = reply }

  -- "data in with the first wLength bytes of reply, or all of it where it is shorter"
  abbrev u : Transfer
  u = with_stage data_in (with_reply in_reply 0 (min (length reply) t.asked) (with_moved 0 t))

  abbrev bytes : List ℕ
  bytes = take t.asked reply

  asking : t.stage ≡ asking_setup
  asking = eqb-true t.stage asking_setup (conjunct 0 (eqb t.stage asking_setup ∷ eqb t.reads 1 ∷ not (eqb t.asked 0) ∷ []) may)

  asks : t.asked ≡ 0 → ⊥
  asks z = let n : not (eqb t.asked 0) ≡ true = conjunct 2 (eqb t.stage asking_setup ∷ eqb t.reads 1 ∷ not (eqb t.asked 0) ∷ []) may in
      let q : ◌≡◌ {A = Bool} false true = rw (eq-eqb t.asked 0 z) at n in
      let c : ◌≡◌ {A = ℕ} 0 1 = cc in omega arith

  -- ---- the event
  begins : heard b r e ≡ record { number = 0; order = send; bytes = []; left = record { image = r.image; pipe = image_of u } }
  unfolding heard turned replied
  begins =
      let row = eqb (length r.pipe) 16 ∷ ends_in_zeros r.pipe ∷ fits l t ∷ [] in
      rw (fitting, conjunct 0 row fitting, may, eq-eqb t.stage asking_setup asking)

  -- ---- the transfer fits
  small : t.asked < 65536
  unfolding transfer_of
  small = omega (arith, octets 6, octets 7)

  fit : Fit l u
  unfolding fits
  fit = record {
    stage = refl;
    fit =
        let row = leb t.stage 7 ∷ leb t.block 3 ∷ leb t.reads 1 ∷ good_size t ∷ good_reply l t ∷ good_moved t ∷ [] in
        let f = conjunct 2 (eqb (length r.pipe) 16 ∷ ends_in_zeros r.pipe ∷ fits l t ∷ []) fitting in
        let size = rw asking at (conjunct 3 row f) in
        let short : min (length reply) t.asked ≤ t.asked = omega arith in
        let inside : 0 + min (length reply) t.asked ≤ length reply = omega arith in
        rw (conjunct 2 row f, size, le-leb _ _ short, le-leb _ _ inside);
    sized = let s = small in record { place-fits = omega arith; length-fits = omega arith; asked-fits = s; moved-fits = omega arith };
  }

  lies : Lies b r.image reply u bytes
  lies = record {
    long = length-take t.asked reply ∙ omega arith;
    at = λ c. let m : min (length reply) t.asked ≡ min t.asked (length reply) = omega arith in rw m (sym (least t.asked reply));
  }

  can : can_cut u.length u.asked u.size ≡ true
  can = cuttable l u fit

  first_packet : packet_at b r e ≡ packet_of bytes u.asked u.size 0
  unfolding sent
  first_packet =
      ap (λ (h : Heard). h.bytes ++ bytes_in b.set (set_for b (device_of r.image).speed) b.serial reply (sent l h.order (transfer_of h.left.pipe))) begins
      ∙ ap (λ (x : Transfer). bytes_in b.set (set_for b (device_of r.image).speed) b.serial reply (sent l send x)) (transfer-image u fit.sized)
      ∙ rw fit.fit (piece_bytes b r.image reply u bytes 0 lies refl)

  pub reads_applications : (es : List Happening) → All (Within reply) es → Begins b r (on_wire e ∷ es) bytes t.asked t.size
  reads_applications es q = begins-so b r e es u bytes can lies.long (rw begins) (rw begins) first_packet
      (subst (λ (h : Heard). Course b h.left es u bytes 0) (sym begins) (course b reply es r.image u bytes 0 fit (some-packet u.length u.asked u.size can asks) lies q))
