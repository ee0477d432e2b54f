-- A pipe record that a run from a pipe at rest leaves fits, where the application's reply is lent while it goes out: so no event gets 8 for it. No axiom.
use Rattle.octets.proofs.Vocabulary.{◌≡◌, refl, sym, ap, subst, ◌∙◌, ℕ, ◌+◌, ◌≤◌, ◌<◌, min, List, [], ◌∷◌, Bool, true, false, ◌&&◌, ◌||◌, not, ◌⊎◌, inl, inr, length, eqb, leb, ltb, arith, eq-eqb, ne_eqb, eqb-true, eqb-false, leb-true, le-leb}
use Rattle.octets.specs.Octets.{Bytes}
use Rattle.octets.specs.Sentences.{pick}
use Rattle.octets.proofs.Sentences.{either, conjunct, cases, if-then, or_left}
use Rattle.sets.specs.Opening.{Board}
use Rattle.sets.specs.View.{accepted}
use Rattle.records.specs.Image.{device_of}
use Rattle.records.specs.Current.{set_for}
use Rattle.requests.specs.Table.{setup_of}
use Rattle.events.specs.declared.Event.TheVariants.{Request, Malformed, BusReset}
use Rattle.events.specs.Answer.{number_of}
use Rattle.events.specs.Step.{Reply, setup_event, event}
use Rattle.laws.proofs.Outcomes.{chosen}
use Rattle.packets.specs.Packets.{packet}
use Rattle.promises.specs.Refusals.{event_number}
use Rattle.pipes.specs.declared.Lengths.{Lengths}
use Rattle.pipes.specs.declared.Transfer.{Transfer}
use Rattle.pipes.specs.declared.Wire.{Wire}
use Rattle.pipes.specs.declared.Wire.TheVariants.{Setup as ASetup, Taken, Received, Reset, Reply as Replies, Room, Accept, Refuse, Unknown}
use Rattle.pipes.specs.Transfer.{idle, stalled, asking_setup, data_in, status_out, data_out, asking_bytes, status_in, in_reply, send, await, receive, ask, with_stage, with_moved, good_size, good_reply, good_moved, fits}
use Rattle.pipes.specs.Image.{transfer_of, image_of, fits_in}
use Rattle.pipes.specs.Turns.{Turn, goes_on, stays, stalls, ends, asked, due, may_reply, sends_reply, may_write, receives, may_accept, sends_status, taken, received, replied, roomed, accepted as accepts, refused, turned, begun, started, reply_at}
use Rattle.pipes.specs.Pipe.{Told, Records, Heard, lengths_of, packet_size, begins, moves, heard, heard_as}
use Rattle.pipes.proofs.Inverse.{Sized, transfer-image}
use Rattle.pipes.proofs.Packets.{small}
use Rattle.pipe_runs.specs.Runs.{Other, other_event, Happening, on_wire, beside, leaves, leaves_by, after, Resting, is_idle, is_stalled, a_setup}
use Rattle.pipe_runs.specs.Promises.{Lent, AllLent, AlwaysFits}
use Rattle.pipe_runs.proofs.Resting.{Malforms, with7, with8, with9, malforms}
use Rattle.pipe_runs.proofs.Setups.{begun-by}
use Rattle.pipe_runs.proofs.Waiting.{setup_leaves, malformed_same, reset_same, other_same}
use Rattle.pipe_runs.proofs.Courses.{looks, record-fits, hears}
use Rattle.pipe_runs.proofs.Starts.{accepted_fits}

-- ---- what becomes of a transfer at an event: it stays, ends, stalls, goes on in another stage or with more moved, or sends the application's reply
data Becomes (n : ℕ) (t : Transfer) : Turn → Type 0 where
  same : Becomes n t (stays t)
  over : Becomes n t ends
  wrong : Becomes n t stalls
  goes : (s m order : ℕ) → (t.stage ≡ 0 → ⊥) → (t.stage ≡ 7 → ⊥) → s ≤ 7 → m < 65536 → good_moved (with_stage s (with_moved m t)) ≡ true
      → Becomes n t (goes_on (with_stage s (with_moved m t)) order)
  answers : t.stage ≡ asking_setup → Becomes n t (sends_reply n t)

module _ (l : Lengths) (n : ℕ) (t : Transfer) (z : Sized t) (f : fits l t ≡ true) where
  row : List Bool
  row = leb t.stage 7 ∷ leb t.block 3 ∷ leb t.reads 1 ∷ good_size t ∷ good_reply l t ∷ good_moved t ∷ []

  at : (s k : ℕ) → t.stage ≡ s → eqb s k ≡ false → t.stage ≡ k → ⊥
  at s k p q r = eqb-false s k q (sym p ∙ r)

  taken-becomes : Becomes n t (taken t)
  unfolding taken
  taken-becomes =
      chosen (Becomes n t) (eqb t.stage data_in)
      (λ p. let s = eqb-true t.stage data_in p in
      chosen (Becomes n t) (eqb (packet t.length t.asked t.size (t.moved + 1)).number 0)
      (λ q. let w = z.asked-fits in
      goes t.stage (t.moved + 1) send (at data_in 0 s refl) (at data_in 7 s refl) (omega arith) (omega (arith, small t.length t.asked t.size (t.moved + 1) (eqb-true _ 0 q))) (rw s refl))
      (λ q. goes status_out t.moved await (at data_in 0 s refl) (at data_in 7 s refl) (omega arith) z.moved-fits refl))
      (λ _. chosen (Becomes n t) (eqb t.stage status_in) (λ _. over) (λ _. same))

  within : t.stage ≡ data_out → t.moved ≤ t.asked
  unfolding fits row
  within s = leb-true t.moved t.asked (if-then (eqb t.stage data_out || eqb t.stage asking_bytes) (leb t.moved t.asked) (conjunct 5 row f) (or_left (eqb t.stage asking_bytes) (eq-eqb t.stage data_out s)))

  received-becomes : (size : ℕ) → Becomes n t (received size t)
  unfolding received
  received-becomes size =
      chosen (Becomes n t) (eqb t.stage data_in || eqb t.stage status_out)
      (λ _. chosen (Becomes n t) (eqb size 0) (λ _. over) (λ _. wrong))
      (λ _. chosen (Becomes n t) (eqb t.stage data_out)
      (λ p. chosen (Becomes n t) (eqb size (due t))
      (λ q.
      let s = eqb-true t.stage data_out p in
      let here = eqb-true size (due t) q in
      let low = within s in
      let w = z.asked-fits in
      let fine : t.moved + size ≤ t.asked = omega arith in
      chosen (Becomes n t) (ltb (t.moved + size) t.asked)
      (λ _. goes t.stage (t.moved + size) receive (at data_out 0 s refl) (at data_out 7 s refl) (omega arith) (omega arith) (rw (s, le-leb (t.moved + size) t.asked fine)))
      (λ _. goes asking_bytes (t.moved + size) ask (at data_out 0 s refl) (at data_out 7 s refl) (omega arith) (omega arith) (rw (le-leb (t.moved + size) t.asked fine))))
      (λ _. wrong))
      (λ _. same))

  -- the application's events
  asking : (eqb t.stage asking_setup || eqb t.stage asking_bytes) ≡ true → (t.stage ≡ 0 → ⊥) × (t.stage ≡ 7 → ⊥)
  asking p = go (either (eqb t.stage asking_setup) (eqb t.stage asking_bytes) p)
    where
      go : (eqb t.stage asking_setup ≡ true) ⊎ (eqb t.stage asking_bytes ≡ true) → (t.stage ≡ 0 → ⊥) × (t.stage ≡ 7 → ⊥)
      go (inl q) = (at asking_setup 0 (eqb-true _ _ q) refl, at asking_setup 7 (eqb-true _ _ q) refl)
      go (inr q) = (at asking_bytes 0 (eqb-true _ _ q) refl, at asking_bytes 7 (eqb-true _ _ q) refl)

  when-asked : (may : Bool) (turn : Turn) → ((t.stage ≡ 0 → ⊥) → (t.stage ≡ 7 → ⊥) → may ≡ true → Becomes n t turn) → Becomes n t (asked t may turn)
  when-asked may turn go =
      chosen (Becomes n t) (eqb t.stage asking_setup || eqb t.stage asking_bytes)
      (λ p. chosen (Becomes n t) may (λ q. go (asking p).0 (asking p).1 q) (λ _. wrong)) (λ _. same)

  becomes : (w : Wire) → Becomes n t (turned n w t)
  unfolding turned replied roomed accepts refused
  becomes Taken = taken-becomes
  becomes (Received size) = received-becomes size
  becomes Replies = when-asked (may_reply t) (sends_reply n t) (λ p q r. answers (eqb-true t.stage asking_setup (conjunct 0 (eqb t.stage asking_setup ∷ eqb t.reads 1 ∷ not (eqb t.asked 0) ∷ []) r)))
  becomes (Room size) = when-asked (may_write size t) (receives t) (λ p q r. goes data_out 0 receive p q (omega arith) (omega arith) (le-leb 0 t.asked (omega arith)))
  becomes Accept = when-asked (may_accept t) (sends_status t) (λ p q r. goes status_in t.moved send p q (omega arith) z.moved-fits refl)
  becomes Refuse = when-asked false stalls (λ p q r. wrong)
  becomes ASetup = same
  becomes (Reset speed) = same
  becomes Unknown = same

  -- ---- and fits as it did
  left-of-or : (x y : Bool) → (x || (y && false)) ≡ true → x ≡ true
  left-of-or true y q = refl
  left-of-or false true q = q
  left-of-or false false q = q

  size-good : (t.stage ≡ 0 → ⊥) → (t.stage ≡ 7 → ⊥) → (eqb t.size 8 || eqb t.size 16 || eqb t.size 32 || eqb t.size 64) ≡ true
  unfolding fits row
  size-good p q = left-of-or (eqb t.size 8 || eqb t.size 16 || eqb t.size 32 || eqb t.size 64) (eqb t.size 0) (rw (ne_eqb t.stage 0 p, ne_eqb t.stage 7 q) at (conjunct 3 row f))

  restaged : (s m : ℕ) → (t.stage ≡ 0 → ⊥) → (t.stage ≡ 7 → ⊥) → s ≤ 7 → good_moved (with_stage s (with_moved m t)) ≡ true → fits l (with_stage s (with_moved m t)) ≡ true
  unfolding fits row
  restaged s m p q le g = rw (le-leb s 7 le, conjunct 1 row f, conjunct 2 row f, size-good p q, conjunct 4 row f, g)

  answered : (k : Lengths) → t.stage ≡ asking_setup → min n t.asked ≤ k.reply → fits k (sends_reply n t).transfer ≡ true
  unfolding fits row
  answered k s e =
      let short : min n t.asked ≤ t.asked = omega arith in
      let inside : 0 + min n t.asked ≤ k.reply = omega arith in
      rw (conjunct 2 row f, size-good (at asking_setup 0 s refl) (at asking_setup 7 s refl), le-leb _ _ short, le-leb _ _ inside)

-- ---- what is kept: the pipe record is that of a transfer that fits, whatever reply is lent, if it is as long as the record says
abbrev Holds : Board → List ℕ → Transfer → Type 0
Holds b image t = (reply : List ℕ) → (t.block ≡ in_reply → t.length ≤ length reply) → fits (lengths_of b image reply) t ≡ true

record Kept (b : Board) (r : Records) : Type 0 where
  transfer : Transfer
  is : r.pipe ≡ image_of transfer
  sized : Sized transfer
  holds : Holds b r.image transfer

-- the set in use is the same
same_set : (b : Board) (image image' : List ℕ) (t : Transfer) → (device_of image').speed ≡ (device_of image).speed → Holds b image t → Holds b image' t
same_set b image image' t q h reply l =
    subst (λ speed. fits (record { set = length (set_for b speed); serial = length b.serial; reply = length reply }) t ≡ true) (sym q) (h reply l)

idle-kept : (b : Board) (image : List ℕ) → Kept b (record { image = image; pipe = image_of idle })
unfolding fits
idle-kept b image = record {
  transfer = idle;
  is = refl;
  sized = record { place-fits = omega arith; length-fits = omega arith; asked-fits = omega arith; moved-fits = omega arith };
  holds = λ reply l. refl;
}

stalled-kept : (b : Board) (image : List ℕ) → Kept b (record { image = image; pipe = image_of stalled })
unfolding fits
stalled-kept b image = record {
  transfer = stalled;
  is = refl;
  sized = record { place-fits = omega arith; length-fits = omega arith; asked-fits = omega arith; moved-fits = omega arith };
  holds = λ reply l. refl;
}

resting-kept : (b : Board) (image pipe : List ℕ) → Resting pipe → Kept b (record { image = image; pipe = pipe })
resting-kept b image pipe is_idle = idle-kept b image
resting-kept b image pipe is_stalled = stalled-kept b image

-- ---- an event that looks at the transfer
turn-kept : (b : Board) (image reply : List ℕ) (t : Transfer) (u : Turn) → Becomes (length reply) t u → Sized t → Holds b image t → fits (lengths_of b image reply) t ≡ true
    → Kept b (moves b image u).left
turn-kept b image reply t u same z h f = record { transfer = t; is = refl; sized = z; holds = h }
turn-kept b image reply t u over z h f = idle-kept b _
turn-kept b image reply t u wrong z h f = stalled-kept b image
turn-kept b image reply t u (goes s m order p q le small-m g) z h f = record {
  transfer = with_stage s (with_moved m t);
  is = refl;
  sized = record { place-fits = z.place-fits; length-fits = z.length-fits; asked-fits = z.asked-fits; moved-fits = small-m };
  holds = λ other l. restaged (lengths_of b image other) 0 t z (h other l) s m p q le g;
}
turn-kept b image reply t u (answers s) z h f = record {
  transfer = (sends_reply (length reply) t).transfer;
  is = refl;
  sized = let w = z.asked-fits in record { place-fits = omega arith; length-fits = omega arith; asked-fits = w; moved-fits = omega arith };
  holds = λ other l. answered (lengths_of b image reply) (length reply) t z f (lengths_of b image other) s (l refl);
}

module _ (b : Board) (r : Records) (e : Told) (k : Kept b r) (lent : Lent r e) where
  abbrev t : Transfer
  t = k.transfer

  abbrev here : Records
  here = record { image = r.image; pipe = image_of t }

  r-here : r ≡ here
  r-here = ap (λ (p : List ℕ). record { image = r.image; pipe = p }) k.is

  lent-so : t.block ≡ in_reply → t.length ≤ length e.reply
  lent-so =
      subst (λ (x : Transfer). x.block ≡ in_reply → x.length ≤ length e.reply) (transfer-image t k.sized)
      (subst (λ (p : List ℕ). (transfer_of p).block ≡ in_reply → (transfer_of p).length ≤ length e.reply) k.is lent)

  fits-now : fits (lengths_of b r.image e.reply) t ≡ true
  fits-now = k.holds e.reply lent-so

  record-fits-now : fits_in (lengths_of b r.image e.reply) r.pipe ≡ true
  record-fits-now = rw k.is (record-fits (lengths_of b r.image e.reply) t k.sized fits-now)

  looked-kept : looks e.wire ≡ true → Kept b (leaves b r e)
  looked-kept q =
      subst (λ (x : Records). Kept b (leaves b x e)) (sym r-here)
      (subst (λ (h : Heard). Kept b h.left) (sym (hears b r.image e t k.sized fits-now q))
      (turn-kept b r.image e.reply t _ (becomes (lengths_of b r.image e.reply) (length e.reply) t k.sized fits-now e.wire) k.sized k.holds fits-now))

  -- ---- a setup that is not 8 bytes, or a number that is none
  malformed-kept : heard b r e ≡ begins (packet_size b r.image) e.setup r.pipe (event b r.image Malformed) → Kept b (leaves b r e)
  malformed-kept h = go (number_of w.answer) refl (malforms b r.image)
    where
      w : Reply
      w = event b r.image Malformed

      go : (n : ℕ) → number_of w.answer ≡ n → Malforms n → Kept b (leaves b r e)
      go n z with7 = rw (leaves, h, z) (stalled-kept b w.image)
      go n z with8 = rw (leaves, h, z) (stalled-kept b w.image)
      go n z with9 = rw (leaves, h, z) (record {
        transfer = t;
        is = k.is;
        sized = k.sized;
        holds = same_set b r.image w.image t (malformed_same b r.image).speed k.holds;
      })

  -- ---- a SETUP of 8 bytes
  module _ (q : e.wire ≡ ASetup) (octets : Bytes e.setup) (long : length r.pipe ≡ 16) (eight : length e.setup ≡ 8) where
    abbrev w : Reply
    w = event b r.image (setup_event e.setup)

    abbrev u : Transfer
    u = started (reply_at w.answer) (setup_of e.setup) (packet_size b r.image)

    told : e ≡ a_setup e.setup e.reply
    told = rw (← q)

    same-speed : (device_of w.image).speed ≡ (device_of r.image).speed
    same-speed = rw (eq-eqb (length e.setup) 8 eight) (setup_leaves b r.image (setup_of e.setup)).speed

    staged : accepted b ≡ true → (s : ℕ) → s ≤ 7 → (eqb s data_out || eqb s asking_bytes) ≡ false → Kept b (record { image = w.image; pipe = image_of (with_stage s u) })
    staged ok s le other =
        let size = (accepted_fits b r.image e.setup [] octets ok).sized in
        record {
          transfer = with_stage s u;
          is = refl;
          sized = record { place-fits = size.place-fits; length-fits = size.length-fits; asked-fits = size.asked-fits; moved-fits = size.moved-fits };
          holds = same_set b r.image w.image (with_stage s u) same-speed
              (λ reply l. restaged (lengths_of b r.image reply) 0 u size (accepted_fits b r.image e.setup reply octets ok).fit s 0 (λ z. absurd (omega arith)) (λ z. absurd (omega arith)) le (rw other));
        }

    -- a number that is not 7 is that of an accepted board
    board : (number_of w.answer ≡ 7 → ⊥) → accepted b ≡ true
    board n = cases (accepted b) (λ p. p) (λ p. absurd (n (eqb-true _ 7 (rw p at (event_number b r.image (setup_event e.setup))))))

    setup-kept : Kept b (leaves b r e)
    setup-kept = subst (λ (x : Told). Kept b (leaves b r x)) (sym told) (rw (leaves, begun-by b r e.setup e.reply long eight) by_number)
      where
        by_number : Kept b (record { image = w.image; pipe = image_of (begun (number_of w.answer) u).transfer })
        by_number =
            chosen (λ (x : Turn). Kept b (record { image = w.image; pipe = image_of x.transfer })) (eqb (number_of w.answer) 0)
            (λ z.
            let ok = board (λ n. absurd (let m = eqb-true (number_of w.answer) 0 z in omega arith)) in
            chosen (λ (x : Turn). Kept b (record { image = w.image; pipe = image_of x.transfer })) (eqb (setup_of e.setup).wLength 0)
            (λ _. staged ok status_in (omega arith) refl) (λ _. staged ok data_in (omega arith) refl))
            (λ _. chosen (λ (x : Turn). Kept b (record { image = w.image; pipe = image_of x.transfer })) (eqb (number_of w.answer) 10)
            (λ z. staged (board (λ n. absurd (let m = eqb-true (number_of w.answer) 10 z in omega arith))) asking_setup (omega arith) refl)
            (λ _. stalled-kept b w.image))

  -- ---- any event
  kept-long : length r.pipe ≡ 16
  unfolding image_of
  kept-long = rw k.is refl

  long-heard : heard b r e ≡ heard_as b r e e.wire
  unfolding heard
  long-heard = rw (eq-eqb (length r.pipe) 16 kept-long)

  reset-kept : (speed : ℕ) → e.wire ≡ Reset speed → Kept b (leaves b r e)
  reset-kept speed q = go (eqb (number_of w.answer) 0) refl
    where
      w : Reply
      w = event b r.image (BusReset speed)

      left : leaves b r e ≡ record { image = w.image; pipe = pick (eqb (number_of w.answer) 0) (image_of idle) r.pipe }
      left = ap (λ (x : Heard). x.left) (long-heard ∙ ap (heard_as b r e) q)

      go : (x : Bool) → eqb (number_of w.answer) 0 ≡ x → Kept b (leaves b r e)
      go true z = rw (left, z) (idle-kept b w.image)
      go false z = rw (left, z) (record {
        transfer = t;
        is = k.is;
        sized = k.sized;
        holds = same_set b r.image w.image t (reset_same b r.image speed (eqb-false _ 0 z)).speed k.holds;
      })

  kept : Bytes e.setup → Kept b (leaves b r e)
  kept octets = go e.wire refl
    where
      eight : (x : Bool) → eqb (length e.setup) 8 ≡ x → e.wire ≡ ASetup → Kept b (leaves b r e)
      eight true z q = setup-kept q octets kept-long (eqb-true (length e.setup) 8 z)
      eight false z q = malformed-kept (long-heard ∙ ap (heard_as b r e) q
          ∙ ap (λ (x : Bool). begins (packet_size b r.image) e.setup r.pipe (event b r.image (pick x (Request (setup_of e.setup)) Malformed))) z)

      go : (x : Wire) → e.wire ≡ x → Kept b (leaves b r e)
      go ASetup q = eight (eqb (length e.setup) 8) refl q
      go Unknown q = malformed-kept (long-heard ∙ ap (heard_as b r e) q)
      go (Reset speed) q = reset-kept speed q
      go Taken q = looked-kept (ap looks q)
      go (Received n) q = looked-kept (ap looks q)
      go Replies q = looked-kept (ap looks q)
      go (Room n) q = looked-kept (ap looks q)
      go Accept q = looked-kept (ap looks q)
      go Refuse q = looked-kept (ap looks q)

-- ---- an event beside the pipe
beside-kept : (b : Board) (r : Records) (x : Other) → Kept b r → Kept b (leaves_by b r (beside x))
beside-kept b r x k = record {
  transfer = k.transfer;
  is = k.is;
  sized = k.sized;
  holds = same_set b r.image (event b r.image (other_event x)).image k.transfer (other_same b r.image x).speed k.holds;
}

-- ---- a run
kept_in : (b : Board) (r : Records) (es : List Happening) → Kept b r → AllLent b r es → Kept b (after b r es)
kept_in b r [] k l = k
kept_in b r (beside x ∷ es) k l = kept_in b (leaves_by b r (beside x)) es (beside-kept b r x k) l
kept_in b r (on_wire e ∷ es) k (lent, octets, rest) = kept_in b (leaves b r e) es (kept b r e k lent octets) rest

pub always_fits : AlwaysFits
always_fits b r rests es lent e now = record-fits-now b (after b r es) e (kept_in b r es (resting-kept b r.image r.pipe rests) lent) now
