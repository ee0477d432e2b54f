-- Several ports, one row of records (document 02, L8): the theorems that rest on what an event at a port leaves of the row. The definitions, and what an event
-- gives at its own port, stand in specs/Ports. No axiom.
use Rattle.std.specs.Prelude.{ℕ, ◌<◌, ◌≡◌, refl, List, [], ◌∷◌, Bool, true, false, length, set, eqb, ltb}
use Rattle.std.proofs.Common.{sym, ap, ◌∙◌, length-set, get_or-set_other, eqb-true}
use Rattle.std.proofs.lemmas.List.{set_comm}
use Rattle.std.proofs.lemmas.Bool.{eqb-false}
use Rattle.octets.specs.Sentences.{pick}
use Rattle.octets.proofs.Sentences.{cases}
use Rattle.sets.specs.Opening.{Board, BytesOf}
use Rattle.sets.specs.View.{accepted}
use Rattle.records.specs.declared.Device.{Device}
use Rattle.records.specs.Device.{fresh, Sized}
use Rattle.records.specs.Fits.{fits_on}
use Rattle.records.specs.Image.{device_of, image_of}
use Rattle.events.specs.Answer.{Answer, Refused}
use Rattle.events.specs.declared.Event.{Event}
use Rattle.events.specs.Step.{step}
use Rattle.order.specs.Run.{answers, log, All, own}
use Rattle.order.proofs.Order.{Square, order}
use Rattle.promises.specs.Rearranged.{values_of}
use Rattle.promises.specs.Struck.{PageRun}
use Rattle.board.specs.Exports.{Opens, Spot, Spots, record_at, event_at, numbered, AnswersPortEvent}
use Rattle.board.specs.Runs.{Call, event_of, Given, number_given, handed_as, leaves as leaves_one, Runs, ends, calls, Throughout, NotEight}
use Rattle.board.specs.Records as Records
use Rattle.board.specs.Records.{RecordRuns, as_images, never_eight_record, order_record}
use Rattle.board.specs.Order.{Reordered, told, told_to}
use Rattle.board.specs.Unnoticed.{kept, kept_of, QuietRun, Alike, unnoticed, unnoticed_by_page}
use Rattle.board.specs.Ports.{at_port, PortCall, RowRuns, ended, called, told_by, gives, leaves, ran, calls_at, given_at}

-- ---- the row left
module _ (b : Board) (row : List Device) (port : ℕ) (e : Event) {left : List Device} (l : left ≡ (event_at b row port e).row) where
  left-length : length left ≡ length row
  left-length = cases (ltb port (length row)) (λ p. ap length (rw p at l) ∙ length-set row port _) (λ p. ap length (rw p at l))

  left_other : (k : ℕ) → (k ≡ port → ⊥) → record_at left k ≡ record_at row k
  left_other k other = cases (ltb port (length row))
      (λ p. ap (λ r. record_at r k) (rw p at l) ∙ get_or-set_other row port k _ fresh other)
      (λ p. ap (λ r. record_at r k) (rw p at l))

-- ---- one event
module _ {b : Board} {lie : Spots} {row left : List Device} {port : ℕ} {e : Event} {n : ℕ} {bytes : List ℕ} {count : ℕ} {shown : List ℕ} {spot : Spot}
    (a : AnswersPortEvent b lie row port e n left bytes count shown spot) where
  -- "changes that port's record and no other"
  pub others : (k : ℕ) → (k ≡ port → ⊥) → record_at left k ≡ record_at row k
  others = left_other b row port e a.leaves

  pub same_length : length left ≡ length row
  same_length = left-length b row port e a.leaves

-- ---- "Events at different ports may be exchanged without changing any answer or record": each port has its own board, for its serial block
swap : (s t : Bool) (row : List Device) (p q : ℕ) (x y : Device) → (p ≡ q → ⊥)
    → pick t (set (pick s (set row p x) row) q y) (pick s (set row p x) row) ≡ pick s (set (pick t (set row q y) row) p x) (pick t (set row q y) row)
swap true true row p q x y differ = set_comm row p q x y differ
swap true false row p q x y differ = refl
swap false true row p q x y differ = refl
swap false false row p q x y differ = refl

module _ (b c : Board) (row : List Device) (p q : ℕ) (e f : Event) (differ : q ≡ p → ⊥) where
  abbrev after : List Device
  after = (event_at b row p e).row

  -- an event at another port before it changes no answer
  pub exchanged_answer : (event_at c after q f).answer ≡ (event_at c row q f).answer
  exchanged_answer =
      ap (λ (n : ℕ). pick (ltb q n) (step c (record_at after q) f).answer (Refused 18)) (left-length b row p e refl)
      ∙ ap (λ (i : Device). pick (ltb q (length row)) (step c i f).answer (Refused 18)) (left_other b row p e refl q differ)

  stored : (event_at c after q f).row ≡ pick (ltb q (length row)) (set after q (step c (record_at row q) f).device) after
  stored =
      ap (λ (n : ℕ). pick (ltb q n) (set after q (step c (record_at after q) f).device) after) (left-length b row p e refl)
      ∙ ap (λ (i : Device). pick (ltb q (length row)) (set after q (step c i f).device) after) (left_other b row p e refl q differ)

-- and both leave the same row in either order
pub exchanged_row : (b c : Board) (row : List Device) (p q : ℕ) (e f : Event) → (p ≡ q → ⊥)
    → (event_at c (event_at b row p e).row q f).row ≡ (event_at b (event_at c row q f).row p e).row
exchanged_row b c row p q e f differ =
    stored b c row p q e f (λ z. differ (sym z))
    ∙ swap (ltb p (length row)) (ltb q (length row)) row p q (step b (record_at row p) e).device (step c (record_at row q) f).device differ
    ∙ sym (stored c b row q p f e differ)

told-log : {R E A : Type 0} (answer : R → E → A) (next : R → E → R) (r : R) (es : List E) → told es (answers answer next r es) ≡ log answer next r es
told-log answer next r [] = refl
told-log answer next r (e ∷ es) = ap (λ l. (e, answer r e) ∷ l) (told-log answer next (next r e) es)

module _ (boards : ℕ → Board) (lies : ℕ → Spots) where
  -- ---- any runs: two runs over a row in which each port, there or not, has the same calls in the same order
  square : Square (gives boards lies) (leaves boards lies) (λ (c : PortCall). Unit {0}) (λ (c : PortCall). c.port) (λ (row : List Device). Unit {0})
  square = record {
    keeps = λ row c g ok. tt;
    deaf = λ row e f g p q n.
        let differ : f.port ≡ e.port → ⊥ = λ z. n (sym z) in
        ap (λ (d : Device). handed_as (boards f.port) (lies f.port) d.speed (values_of (event_at (boards f.port) (leaves boards lies row e) f.port (told_by f)).answer))
        (left_other (boards e.port) row e.port (told_by e) refl f.port differ)
        ∙ ap (λ (x : Answer). handed_as (boards f.port) (lies f.port) (record_at row f.port).speed (values_of x))
        (exchanged_answer (boards e.port) (boards f.port) row e.port f.port (told_by e) (told_by f) differ);
    square = λ row e f g p q n. exchanged_row (boards e.port) (boards f.port) row e.port f.port (told_by e) (told_by f) n;
  }

  all : (cs : List PortCall) → All (λ (c : PortCall). Unit {0}) cs
  all [] = tt
  all (c ∷ cs) = (tt, all cs)

  -- leave the same row, and give each port's calls the same
  pub exchanged_runs : {row last other : List Device} {xs ys : List PortCall} {gs hs : List Given}
      → RowRuns boards lies row xs gs last → RowRuns boards lies row ys hs other
      → ((k : ℕ) → own (λ (c : PortCall). c.port) k xs ≡ own (λ (c : PortCall). c.port) k ys)
      → (last ≡ other) × ((k : ℕ) → own (λ (p : PortCall × Given). p.0.port) k (told xs gs) ≡ own (λ (p : PortCall × Given). p.0.port) k (told ys hs))
  exchanged_runs {row} {xs = xs} {ys} {gs} {hs} one two same =
      let (p, q) = ran boards lies one in
      let (s, t) = ran boards lies two in
      let (end, logs) = order square row tt xs ys (all xs) same in
      let whole : told xs gs ≡ log (gives boards lies) (leaves boards lies) row xs = ap (told xs) p ∙ told-log (gives boards lies) (leaves boards lies) row xs in
      let also : told ys hs ≡ log (gives boards lies) (leaves boards lies) row ys = ap (told ys) s ∙ told-log (gives boards lies) (leaves boards lies) row ys in
      (q ∙ end ∙ sym t, λ k. ap (own (λ (p : PortCall × Given). p.0.port) k) whole ∙ logs k ∙ ap (own (λ (p : PortCall × Given). p.0.port) k) (sym also))

module _ (boards : ℕ → Board) (lies : ℕ → Spots) (k : ℕ) where
  -- port by port a run at all ports is a run over that port's record
  pub port_run : {row last : List Device} {cs : List PortCall} {gs : List Given} → k < length row → RowRuns boards lies row cs gs last
      → RecordRuns (boards k) (lies k) (record_at row k) (calls_at k cs) (given_at k cs gs) (record_at last k)
  port_run within ended = Records.ended
  port_run {row} {last} within (called {left = left} {c = c} {n} {bytes} {count} {shown} {spot} {cs} {gs} a r) =
      let rest = port_run (rw (same_length a) within) r in
      cases (eqb c.port k)
      (λ p. rw p (Records.called (at_port (here p) within) rest))
      (λ p. rw (p, sym (others a k (λ z. eqb-false c.port k p (sym z)))) rest)
    where
      here : eqb c.port k ≡ true → AnswersPortEvent (boards k) (lies k) row k (numbered c.kind c.value c.setup) n left bytes count shown spot
      here p = rw (eqb-true c.port k p) at a

  -- demand 3 holds port by port: whatever the other ports' calls are and wherever they stand, two orders of port k's calls leave it the same
  -- record, and give each interface's calls the same
  pub order_ports : BytesOf (boards k) → accepted (boards k) ≡ true → {row last other : List Device} {xs ys : List PortCall} {gs hs : List Given}
      → k < length row → Sized (record_at row k) → fits_on (boards k) (record_at row k) ≡ true → RowRuns boards lies row xs gs last → RowRuns boards lies row ys hs other
      → Reordered (boards k) (image_of (record_at row k)) (calls_at k xs) (calls_at k ys)
      → (record_at last k ≡ record_at other k) × ((i : ℕ) → told_to (boards k) (image_of (record_at row k)) i (calls_at k xs) (given_at k xs gs) ≡ told_to (boards k) (image_of (record_at row k)) i (calls_at k ys) (given_at k ys hs))
  order_ports bytes ok within z fit one two r = order_record (boards k) (lies k) bytes ok z fit (port_run within one) (port_run within two) r

  -- L9 holds port by port: strike out what concerned another interface than i at port k, and no call left there notices, whatever the other ports do
  pub unnoticed_ports : (bytes : BytesOf (boards k)) {start : List ℕ} {row last other : List Device} {xs ys : List PortCall} {gs hs : List Given} (i : ℕ)
      → length start ≡ 32 → (z : Sized (record_at row k)) → Opens (boards k) start 0 (image_of (record_at row k)) → (within : k < length row)
      → (one : RowRuns boards lies row xs gs last) → QuietRun (boards k) (lies k) i (image_of (record_at row k)) (calls_at k xs)
      → RowRuns boards lies row ys hs other → calls_at k ys ≡ kept (boards k) (lies k) i (image_of (record_at row k)) (calls_at k xs)
      → (kept_of (boards k) (lies k) i (as_images (boards k) (lies k) bytes z (port_run within one)).0 ≡ told (calls_at k ys) (given_at k ys hs))
      × Alike (boards k) (lies k) i (image_of (record_at last k)) (image_of (record_at other k))
  unnoticed_ports bytes {row = row} {other = other} {ys = ys} {hs = hs} i long z o within one quiet two same =
      rw same (unnoticed (boards k) (lies k) i bytes long o (as_images (boards k) (lies k) bytes z (port_run within one)).0 quiet (rw same at (as_images (boards k) (lies k) bytes z (port_run within two)).0))

  -- with the page's premises, of the calls at port k: "no struck setup may lie between a test mode request and the next status end", "no struck event
  -- arrived while suspended"
  pub unnoticed_ports_by_page : (bytes : BytesOf (boards k)) {start : List ℕ} {row last other : List Device} {xs ys : List PortCall} {gs hs : List Given} (i : ℕ)
      → length start ≡ 32 → (z : Sized (record_at row k)) → Opens (boards k) start 0 (image_of (record_at row k)) → (within : k < length row)
      → (one : RowRuns boards lies row xs gs last) → PageRun (boards k) i device_of event_of (leaves_one (boards k) (lies k)) false (image_of (record_at row k)) (calls_at k xs)
      → RowRuns boards lies row ys hs other → calls_at k ys ≡ kept (boards k) (lies k) i (image_of (record_at row k)) (calls_at k xs)
      → (kept_of (boards k) (lies k) i (as_images (boards k) (lies k) bytes z (port_run within one)).0 ≡ told (calls_at k ys) (given_at k ys hs))
      × Alike (boards k) (lies k) i (image_of (record_at last k)) (image_of (record_at other k))
  unnoticed_ports_by_page bytes {ys = ys} {hs} i long z o within one page two same =
      rw same (unnoticed_by_page (boards k) (lies k) i bytes long o (as_images (boards k) (lies k) bytes z (port_run within one)).0 page (rw same at (as_images (boards k) (lies k) bytes z (port_run within two)).0))

  -- ---- demand 2: once hk_open has opened port k's record, no call there gives 8, whatever the other ports' calls are
  pub never_eight_ports : (bytes : BytesOf (boards k)) {start : List ℕ} {row last : List Device} {n : ℕ} {cs : List PortCall} {gs : List Given}
      → length start ≡ 32 → Sized (record_at row k) → Opens (boards k) start n (image_of (record_at row k)) → k < length row
      → RowRuns boards lies row cs gs last → All (λ (g : Given). number_given g ≡ 8 → ⊥) (given_at k cs gs)
  never_eight_ports bytes long z o within r = each (as_images (boards k) (lies k) bytes z (port_run within r)).0 (never_eight_record (boards k) (lies k) bytes long o z (port_run within r))
    where
      each : {image last : List ℕ} {cs : List Call} {gs : List Given} (r : Runs (boards k) (lies k) image cs gs last) → Throughout NotEight r → All (λ (g : Given). number_given g ≡ 8 → ⊥) gs
      each ends t = tt
      each (calls m r) t = (t.0, each r t.1)
