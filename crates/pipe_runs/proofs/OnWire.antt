-- A host's script is played packet by packet: each request that is answered 0, from idle to idle (PIPE 57). No axiom.
use Rattle.octets.proofs.Vocabulary.{◌≡◌, refl, sym, ap, subst, ◌∙◌, ℕ, zero, suc, ◌+◌, ◌-◌, ◌*◌, ◌/◌, ◌%◌, ◌≤◌, ◌<◌, List, [], ◌∷◌, ◌++◌, map, flat_map, Bool, true, false, ◌&&◌, length, eqb, leb, arith, eqb-true, eqb-false, lt-ltb, leb-true}
use Rattle.octets.specs.Octets.{Bytes}
use Rattle.octets.specs.Sentences.{pick, from, every, is_some, up_to}
use Rattle.octets.proofs.Sentences.{cases, conjunct, every-member}
use Rattle.sets.specs.Opening.{Board, BytesOf}
use Rattle.sets.specs.View.{accepted}
use Rattle.records.specs.declared.Device.{Device}
use Rattle.records.specs.Device.{Sized}
use Rattle.records.specs.Image.{device_of}
use Rattle.records.specs.Image as records
use Rattle.requests.specs.declared.Setup.{Setup}
use Rattle.requests.specs.declared.Row.{Row}
use Rattle.requests.specs.Table.{setup_of, largest_index, refusal}
use Rattle.events.specs.declared.Event.TheVariants.{Request, StatusEnd}
use Rattle.events.specs.Answer.{Answer, Outcome, number_of, gives, done}
use Rattle.events.specs.Step.{Reply, reply_of, setup_event, answer_setup, asks_test_mode, step, event}
use Rattle.laws.proofs.Recipients.{let_through}
use Rattle.promises.specs.Images.{on_image, step_sized}
use Rattle.packets.specs.Packets.{can_cut, packet}
use Rattle.packets.proofs.Sizes.{not-longer}
use Rattle.pipes.specs.declared.Transfer.{Transfer}
use Rattle.pipes.specs.Transfer.{idle, send, status_in, with_stage, fits}
use Rattle.pipes.specs.Image.{transfer_of, image_of}
use Rattle.pipes.specs.Sending.{sent}
use Rattle.pipes.specs.Pipe.{Records, Heard, lengths_of, packet_size, heard}
use Rattle.pipes.proofs.Packets.{small}
use Rattle.pipes.proofs.Inverse as pipe
use Rattle.enumeration.specs.Script.{Ready}
use Rattle.pipe_runs.specs.Runs.{answered_with}
use Rattle.pipe_runs.specs.Packets.{packet_at, packet_of, packets_of, given, reply_to}
use Rattle.pipe_runs.specs.Host.{WireLine, PlaysOnWire, setup_bytes, a_setup_of, sends, without_data, takes_next, takes_last, in_packets, transfer_for, size_for, at_rest}
use Rattle.pipe_runs.proofs.Courses.{Fit, many, next-number}
use Rattle.pipe_runs.proofs.Cutting.{whole, some-packet}
use Rattle.pipe_runs.proofs.Replies as replies
use Rattle.pipe_runs.proofs.Playing.{next, Ending, takes_status, takes}

-- ---- the bytes of a setup
two_bytes : (n : ℕ) → n % 256 + 256 * (n / 256) ≡ n
two_bytes n = omega arith

setup-back : (s : Setup) → setup_of (setup_bytes s) ≡ s
setup-back s = rw (two_bytes s.wValue, two_bytes s.wIndex, two_bytes s.wLength) refl

-- fields of one byte and of two
record Small (s : Setup) : Type 0 where
  kind : s.bmRequestType < 256
  code : s.bRequest < 256
  value : s.wValue < 65536
  index : s.wIndex < 65536
  size : s.wLength < 65536

small_bytes : (s : Setup) → Small s → Bytes (setup_bytes s)
small_bytes s h zero = h.kind
small_bytes s h (suc zero) = h.code
small_bytes s h (suc (suc zero)) = omega arith
small_bytes s h (suc (suc (suc zero))) = omega arith
small_bytes s h (suc (suc (suc (suc zero)))) = omega arith
small_bytes s h (suc (suc (suc (suc (suc zero))))) = omega arith
small_bytes s h (suc (suc (suc (suc (suc (suc zero)))))) = omega arith
small_bytes s h (suc (suc (suc (suc (suc (suc (suc zero))))))) = omega arith
small_bytes s h (suc (suc (suc (suc (suc (suc (suc (suc i)))))))) = omega arith

-- what the table lets through has such fields
abbrev narrow : Row → Bool
narrow r = leb r.bmRequestType 255 && leb r.bRequest 255 && leb r.value 65535 && leb r.index 65535 && leb r.string 65535 && leb r.longest 65535

tabled : (state : ℕ) (s : Setup) → refusal state s ≡ 0 → Small s
unfolding every
tabled state s p =
    let (r, m, k, c, i, h) = let_through state s p in
    let row = leb r.bmRequestType 255 ∷ leb r.bRequest 255 ∷ leb r.value 65535 ∷ leb r.index 65535 ∷ leb r.string 65535 ∷ leb r.longest 65535 ∷ [] in
    let f = every-member narrow refl m in
    let fields = leb s.wValue r.value ∷ leb s.wIndex (largest_index r s.wValue) ∷ leb r.shortest s.wLength ∷ leb s.wLength r.longest ∷ [] in
    let v = leb-true s.wValue r.value (conjunct 0 fields h) in
    let x = leb-true s.wIndex (largest_index r s.wValue) (conjunct 1 fields h) in
    let w = leb-true s.wLength r.longest (conjunct 3 fields h) in
    let most = largest r s.wValue (leb-true _ _ (conjunct 3 row f)) (leb-true _ _ (conjunct 4 row f)) in
    record {
      kind = omega (arith, leb-true r.bmRequestType 255 (conjunct 0 row f));
      code = omega (arith, leb-true r.bRequest 255 (conjunct 1 row f));
      value = omega (arith, leb-true r.value 65535 (conjunct 2 row f));
      index = omega arith;
      size = omega (arith, leb-true r.longest 65535 (conjunct 5 row f));
    }
  where
    largest : (r : Row) (v : ℕ) → r.index ≤ 65535 → r.string ≤ 65535 → largest_index r v ≤ 65535
    largest r v p q = cases (eqb (v / 256) 3) (λ z. rw z q) (λ z. rw z p)

-- a packet's number is at most wLength
few : (t : Transfer) (m : ℕ) → can_cut t.length t.asked t.size ≡ true → m < many t → m ≤ t.asked
few t m can l = small t.length t.asked t.size m (eqb-true (packet t.length t.asked t.size m).number 0 (next-number t.length t.asked t.size m can ∙ lt-ltb m (many t) l))

-- ---- the packets of a transfer, put together
after_first : (bytes : List ℕ) (w p : ℕ) (ks : List ℕ) → flat_map (λ (x : WireLine). x.1.packet) (map (takes_next bytes w p) ks ++ takes_last) ≡ flat_map (packet_of bytes w p) ks
unfolding flat_map
after_first bytes w p [] = refl
after_first bytes w p (k ∷ ks) = ap (λ (x : List ℕ). packet_of bytes w p k ++ x) (after_first bytes w p ks)

first_of : (n : ℕ) → 0 < n → up_to n ≡ 0 ∷ from 1 (n - 1)
unfolding from
first_of zero h = absurd (omega arith)
first_of (suc n) h = let e : suc n - 1 ≡ n = omega arith in rw e

put-together : (p : ℕ) (s : Setup) (bytes : List ℕ) → can_cut (length bytes) s.wLength p ≡ true
    → flat_map (λ (x : WireLine). x.1.packet) (transfer_for p (Request s) bytes) ≡ bytes
unfolding flat_map
put-together p s bytes can = go (eqb s.wLength 0) refl
  where
    none : (l : List ℕ) → length l ≤ 0 → [] ≡ l
    none [] h = refl
    none (x ∷ l) h = absurd (omega arith)

    go : (x : Bool) → eqb s.wLength 0 ≡ x → flat_map (λ (x : WireLine). x.1.packet) (pick x (without_data s) (in_packets p s bytes)) ≡ bytes
    go true z = let w = eqb-true s.wLength 0 z in none bytes (omega (arith, not-longer (length bytes) s.wLength p can))
    go false z =
        let n = packets_of bytes s.wLength p in
        ap (λ (x : List ℕ). packet_of bytes s.wLength p 0 ++ x) (after_first bytes s.wLength p (from 1 (n - 1)))
        ∙ ap (flat_map (packet_of bytes s.wLength p)) (sym (first_of n (some-packet (length bytes) s.wLength p can (eqb-false s.wLength 0 z)))) ∙ whole bytes s.wLength p can

-- ---- one transfer
module _ (b : Board) (octets : BytesOf b) (ok : accepted b ≡ true) {d mid left : Device} (r : Ready b d) (s : Setup) (unasked : asks_test_mode (is_some b.high) s ≡ false)
    {a : Answer} (steps : step b d (Request s) ≡ gives a mid) (answered : number_of a ≡ 0) (ended : step b mid StatusEnd ≡ done left)
    {bytes : List ℕ} (reads : given b d.speed a ≡ bytes) where
  fields : Small s
  unfolding step answer_setup
  fields = tabled d.state s (cases (eqb (refusal d.state s) 0) (λ q. eqb-true _ 0 q)
      (λ q. absurd (eqb-false _ 0 q (rw (ok, r.fit, r.calm, unasked, q) at (ap (λ (o : Outcome). number_of o.answer) steps ∙ answered)))))

  abbrev image : List ℕ
  image = records.image_of d

  shown : event b image (setup_event (setup_bytes s)) ≡ record { answer = a; image = records.image_of mid }
  shown = ap (λ (x : Setup). event b image (Request x)) (setup-back s) ∙ on_image b d (Request s) r.sized ∙ ap reply_of steps

  answers : answered_with b image (setup_bytes s) ≡ 0
  answers = ap (λ (x : Reply). number_of x.answer) shown ∙ answered

  idle-long : length (image_of idle) ≡ 16
  unfolding image_of
  idle-long = refl

  sized : Sized mid
  sized = rw steps at (step_sized b octets d (Request s) r.sized)

  ends_so : event b (records.image_of mid) StatusEnd ≡ reply_of (done left)
  ends_so = on_image b mid StatusEnd sized ∙ ap reply_of ended

  ending : Ending b (event b image (setup_event (setup_bytes s))).image (records.image_of left)
  ending = rw shown (record { number = ap (λ (x : Reply). number_of x.answer) ends_so; leaves-it = ap (λ (x : Reply). x.image) ends_so })

  abbrev t : Transfer
  t = replies.t b (at_rest d) (setup_bytes s) [] idle-long refl (small_bytes s fields) answers

  fit : Fit (lengths_of b (event b image (setup_event (setup_bytes s))).image []) t
  fit = replies.fit b (at_rest d) (setup_bytes s) [] idle-long refl (small_bytes s fields) answers

  -- ---- what the library's answer gives, and by which size it is cut
  abbrev here : List ℕ
  here = reply_to b image (setup_bytes s)

  size_back : packet_size b image ≡ size_for b d.speed
  unfolding device_of records.image_of
  size_back = refl

  speed-back : (device_of image).speed ≡ d.speed
  unfolding device_of records.image_of
  speed-back = refl

  reads_so : here ≡ bytes
  reads_so = ap (λ speed. given b speed (event b image (setup_event (setup_bytes s))).answer) speed-back ∙ ap (λ (x : Reply). given b d.speed x.answer) shown ∙ reads

  same_length : (setup_of (setup_bytes s)).wLength ≡ s.wLength
  same_length = ap (λ (x : Setup). x.wLength) (setup-back s)

  can-cut : can_cut (length bytes) s.wLength (size_for b d.speed) ≡ true
  can-cut =
      let can = replies.can b (at_rest d) (setup_bytes s) [] idle-long refl (small_bytes s fields) answers in
      let long = (replies.lies b (at_rest d) (setup_bytes s) [] idle-long refl (small_bytes s fields) answers).long in
      subst (λ (x : List ℕ). can_cut (length x) s.wLength (size_for b d.speed) ≡ true) reads_so
      (subst (λ (p : ℕ). can_cut (length here) s.wLength p ≡ true) size_back
      (subst (λ (w : ℕ). can_cut (length here) w (packet_size b image) ≡ true) same_length
      (subst (λ (n : ℕ). can_cut n t.asked t.size ≡ true) (sym long) can)))

  -- ---- what is read of it, put together
  pub one_reads : flat_map (λ (x : WireLine). x.1.packet) (transfer_for (size_for b d.speed) (Request s) bytes) ≡ bytes
  one_reads = put-together (size_for b d.speed) s bytes can-cut

  module _ (rest : List WireLine) (last : Records) (then : PlaysOnWire b (at_rest left) rest last) where
    without-data : s.wLength ≡ 0 → PlaysOnWire b (at_rest d) (without_data s ++ rest) last
    unfolding fits sent transfer_of image_of
    without-data z =
        let f : fits (lengths_of b (event b image (setup_event (setup_bytes s))).image []) (with_stage status_in t) ≡ true = fit.fit in
        let size : pipe.Sized (with_stage status_in t) = record { place-fits = fit.sized.place-fits; length-fits = fit.sized.length-fits; asked-fits = fit.sized.asked-fits; moved-fits = fit.sized.moved-fits } in
        next (at_rest d) (a_setup_of s) _ (replies.begins_status b (at_rest d) (setup_bytes s) [] idle-long refl (small_bytes s fields) answers (ap (λ (x : Setup). x.wLength) (setup-back s) ∙ z)) refl
        (takes_status (with_stage status_in t) refl size f ending then)

    -- with data: packet 0 at the SETUP, each further one when the one before is taken
    abbrev so : List ℕ → ℕ → ℕ → Type 0
    so bytes w p =
        PlaysOnWire b (at_rest d) (((a_setup_of s, sends (packet_of bytes w p 0)) ∷ (map (takes_next bytes w p) (from 1 (packets_of bytes w p - 1)) ++ takes_last)) ++ rest) last

    data-so : ((setup_of (setup_bytes s)).wLength ≡ 0 → ⊥) → so here t.asked t.size
    data-so asks =
        let begins = replies.begins b (at_rest d) (setup_bytes s) [] idle-long refl (small_bytes s fields) answers asks in
        let first = replies.first_packet b (at_rest d) (setup_bytes s) [] idle-long refl (small_bytes s fields) answers asks in
        let lies = replies.lies b (at_rest d) (setup_bytes s) [] idle-long refl (small_bytes s fields) answers in
        let can = replies.can b (at_rest d) (setup_bytes s) [] idle-long refl (small_bytes s fields) answers in
        let some = replies.some b (at_rest d) (setup_bytes s) [] idle-long refl (small_bytes s fields) answers asks in
        let n : packets_of here t.asked t.size ≡ many t = rw lies.long in
        let m = packets_of here t.asked t.size - 1 in
        let low = few t m can (omega arith) in
        let wide = fit.sized.asked-fits in
        next (at_rest d) (a_setup_of s) (heard b (at_rest d) (a_setup_of s)) refl
        (◌∙◌ {b = sends (packet_at b (at_rest d) (a_setup_of s))}
        (ap (λ (h : Heard). record { number = h.number; order = h.order; packet = pick (eqb h.order send) (packet_at b (at_rest d) (a_setup_of s)) [] }) begins) (ap sends first))
        (subst (λ (h : Heard). PlaysOnWire b h.left ((map (takes_next here t.asked t.size) (from 1 m) ++ takes_last) ++ rest) last) (sym begins)
        (takes b (event b image (setup_event (setup_bytes s))).image (records.image_of left) t here lies ending rest last then m 0 (omega arith) (omega arith) fit))

    with-data : (s.wLength ≡ 0 → ⊥) → PlaysOnWire b (at_rest d) (in_packets (size_for b d.speed) s bytes ++ rest) last
    with-data asks =
        let size = same_length in
        subst (λ (x : List ℕ). so x s.wLength (size_for b d.speed)) reads_so
        (subst (λ (p : ℕ). so here s.wLength p) size_back
        (subst (λ (w : ℕ). so here w (packet_size b image)) size (data-so (λ z. asks (sym size ∙ z)))))

    pub one_transfer : PlaysOnWire b (at_rest d) (transfer_for (size_for b d.speed) (Request s) bytes ++ rest) last
    one_transfer = go (eqb s.wLength 0) refl
      where
        go : (x : Bool) → eqb s.wLength 0 ≡ x → PlaysOnWire b (at_rest d) (pick x (without_data s) (in_packets (size_for b d.speed) s bytes) ++ rest) last
        go true z = without-data (eqb-true s.wLength 0 z)
        go false z = with-data (eqb-false s.wLength 0 z)
