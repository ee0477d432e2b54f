-- A transfer on the wire, packet by packet: from idle to idle, with the status end at its end. No axiom.
use Rattle.octets.proofs.Vocabulary.{◌≡◌, refl, ap, ◌∙◌, ℕ, zero, suc, ◌+◌, ◌≤◌, ◌<◌, List, [], ◌∷◌, ◌++◌, map, Bool, true, false, eqb, leb, ltb, arith, eq-eqb, lt-ltb, ltb-true}
use Rattle.octets.specs.Sentences.{pick, from}
use Rattle.sets.specs.Opening.{Board}
use Rattle.records.specs.Image.{device_of}
use Rattle.records.specs.Current.{set_for}
use Rattle.events.specs.declared.Event.TheVariants.{StatusEnd}
use Rattle.events.specs.Answer.{number_of}
use Rattle.events.specs.Step.{event}
use Rattle.order.specs.Run.{run, log}
use Rattle.packets.specs.Packets.{packet}
use Rattle.pipes.specs.declared.Lengths.{Lengths}
use Rattle.pipes.specs.declared.Transfer.{Transfer}
use Rattle.pipes.specs.declared.Wire.{Wire}
use Rattle.pipes.specs.declared.Wire.TheVariants.{Taken, Received}
use Rattle.pipes.specs.Transfer.{idle, nothing, send, await, data_in, status_out, status_in, with_stage, with_moved, fits}
use Rattle.pipes.specs.Image.{transfer_of, image_of}
use Rattle.pipes.specs.Turns.{goes_on, ends, taken, received, turned}
use Rattle.pipes.specs.Sending.{sent, piece_of, bytes_in}
use Rattle.pipes.specs.Pipe.{Told, Records, Heard, lengths_of, moves, heard}
use Rattle.pipes.proofs.Inverse.{Sized, transfer-image}
use Rattle.pipe_runs.specs.Runs.{leaves}
use Rattle.pipe_runs.specs.Host.{Shown, shows, WireLine, tells, PlaysOnWire, wire, sends, is_over, takes_next, takes_last}
use Rattle.pipe_runs.proofs.Courses.{Fit, Lies, many, cuttable, next-number, in_a_block, moved-fits, piece_bytes, hears}

-- ---- one line more, before the others
pub played_out : {b : Board} {r : Records} → PlaysOnWire b r [] r
played_out = record { shown = refl; ends = refl }

-- what an event shows, by what it gets
abbrev pub shown_by : Board → List ℕ → Told → Heard → Shown
shown_by b image e h = record {
  number = h.number;
  order = h.order;
  packet = pick (eqb h.order send) (h.bytes ++ bytes_in b.set (set_for b (device_of image).speed) b.serial e.reply (sent (lengths_of b image e.reply) h.order (transfer_of h.left.pipe))) [];
}

pub next : {b : Board} {last : Records} {s : Shown} {rest : List WireLine} (r : Records) (e : Told) (h : Heard) → heard b r e ≡ h → shown_by b r.image e h ≡ s
    → PlaysOnWire b h.left rest last → PlaysOnWire b r ((e, s) ∷ rest) last
next {b} {last} {s} {rest} r e h p q c = record {
  shown =
      ap (λ (x : Heard). (e, shown_by b r.image e x) ∷ log (shows b) (leaves b) x.left (tells rest)) p
      ∙ ap (λ (x : Shown). (e, x) ∷ log (shows b) (leaves b) h.left (tells rest)) q ∙ ap (λ (l : List WireLine). (e, s) ∷ l) c.shown;
  ends = ap (λ (x : Heard). run (leaves b) x.left (tells rest)) p ∙ c.ends;
}

-- ---- the status end: what it leaves of a device record
pub record Ending (b : Board) (image left : List ℕ) : Type 0 where
  pub number : number_of (event b image StatusEnd).answer ≡ 0
  pub leaves-it : (event b image StatusEnd).image ≡ left

-- a transfer that has ended, at whatever event
over : {b : Board} {image left : List ℕ} {rest : List WireLine} {last : Records} (w : Wire) (t : Transfer) → Ending b image left
    → heard b (record { image = image; pipe = image_of t }) (wire w) ≡ moves b image ends → PlaysOnWire b (record { image = left; pipe = image_of idle }) rest last
    → PlaysOnWire b (record { image = image; pipe = image_of t }) ((wire w, is_over) ∷ rest) last
over {b} {image} {left} w t e h p =
    let now : heard b (record { image = image; pipe = image_of t }) (wire w) ≡ record { number = 0; order = nothing; bytes = []; left = record { image = left; pipe = image_of idle } }
    = h ∙ rw (e.number, e.leaves-it) in
    next (record { image = image; pipe = image_of t }) (wire w) _ now refl p

-- ---- status in: the empty packet is taken
pub takes_status : {b : Board} {image left : List ℕ} {rest : List WireLine} {last : Records} (t : Transfer) → t.stage ≡ status_in → Sized t
    → fits (lengths_of b image []) t ≡ true → Ending b image left
    → PlaysOnWire b (record { image = left; pipe = image_of idle }) rest last → PlaysOnWire b (record { image = image; pipe = image_of t }) ((wire Taken, is_over) ∷ rest) last
unfolding turned taken
takes_status {b} {image} t s z f e p =
    let turn : turned 0 Taken t ≡ ends = rw s in
    over Taken t e (hears b image (wire Taken) t z f refl ∙ ap (moves b image) turn) p

-- ---- data in
module _ (b : Board) (image left : List ℕ) (t : Transfer) (bytes : List ℕ) (lies : Lies b image [] t bytes) (ending : Ending b image left)
    (rest : List WireLine) (last : Records) (then : PlaysOnWire b (record { image = left; pipe = image_of idle }) rest last) where
  abbrev lens : Lengths
  lens = lengths_of b image []

  -- the next packet, or the host's empty packet is awaited
  taken-by : (k m : ℕ) → m ≡ k + 1 → Fit lens (with_moved k t) → (x : Bool) → ltb m (many t) ≡ x
      → taken (with_moved k t) ≡ pick x (goes_on (with_moved m t) send) (goes_on (with_stage status_out (with_moved k t)) await)
  unfolding taken
  taken-by k m q f x z =
      let more : eqb (packet t.length t.asked t.size (k + 1)).number 0 ≡ x = next-number t.length t.asked t.size (k + 1) (cuttable lens (with_moved k t) f) ∙ rw (← q) z in
      rw (eq-eqb t.stage data_in f.stage, more, ← q)

  out-fits : (k : ℕ) → Fit lens (with_moved k t) → (fits lens (with_stage status_out (with_moved k t)) ≡ true) × Sized (with_stage status_out (with_moved k t))
  unfolding fits
  out-fits k f = (
    rw f.stage at f.fit,
    record { place-fits = f.sized.place-fits; length-fits = f.sized.length-fits; asked-fits = f.sized.asked-fits; moved-fits = f.sized.moved-fits },
  )

  ends-out : (k : ℕ) → Fit lens (with_moved k t) → PlaysOnWire b (record { image = image; pipe = image_of (with_stage status_out (with_moved k t)) }) ((wire (Received 0), is_over) ∷ rest) last
  unfolding turned received
  ends-out k f =
      let (g, z) = out-fits k f in
      over (Received 0) (with_stage status_out (with_moved k t)) ending (hears b image (wire (Received 0)) (with_stage status_out (with_moved k t)) z g refl) then

  sends-piece : (k : ℕ) → Fit lens (with_moved k t) → leb 1 t.block ≡ true
      → bytes_in b.set (set_for b (device_of image).speed) b.serial [] (sent lens send (with_moved k t)) ≡ bytes_in b.set (set_for b (device_of image).speed) b.serial [] (piece_of (with_moved k t))
  unfolding sent
  sends-piece k g c = rw (eq-eqb t.stage data_in g.stage, c, g.fit)

  past : (m n : ℕ) → n ≤ m → ltb m n ≡ false
  past m n h = go (ltb m n) refl
    where
      go : (x : Bool) → ltb m n ≡ x → x ≡ false
      go true z = absurd (omega (arith, ltb-true m n z))
      go false z = refl

  pub takes : (m k : ℕ) → suc (k + m) ≡ many t → k + m < 65536 → Fit lens (with_moved k t)
      → PlaysOnWire b (record { image = image; pipe = image_of (with_moved k t) }) ((map (takes_next bytes t.asked t.size) (from (suc k) m) ++ takes_last) ++ rest) last
  unfolding from turned
  takes zero k e l f =
      let r : Records = record { image = image; pipe = image_of (with_moved k t) } in
      let turn = taken-by k (k + 1) refl f false (past (k + 1) (many t) (omega arith)) in
      next r (wire Taken) _ (hears b image (wire Taken) (with_moved k t) f.sized f.fit refl ∙ ap (moves b image) turn) refl (ends-out k f)
  takes (suc m) k e l f =
      let r : Records = record { image = image; pipe = image_of (with_moved k t) } in
      let turn = taken-by k (suc k) (omega arith) f true (lt-ltb (suc k) (many t) (omega arith)) in
      let g = moved-fits lens (with_moved k t) (suc k) f (omega arith) in
      let there = in_a_block lens (with_moved (suc k) t) g (omega arith) in
      next r (wire Taken) _ (hears b image (wire Taken) (with_moved k t) f.sized f.fit refl ∙ ap (moves b image) turn)
      (ap sends (ap (λ (x : Transfer). bytes_in b.set (set_for b (device_of image).speed) b.serial [] (sent lens send x)) (transfer-image (with_moved (suc k) t) g.sized)
      ∙ sends-piece (suc k) g there ∙ piece_bytes b image [] t bytes (suc k) lies there))
      (takes m (suc k) (omega arith) (omega arith) g)
