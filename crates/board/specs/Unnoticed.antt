-- One driver does not notice the other (document 02, L9), over runs of exported calls from an opening: strike out the calls that arrived in
-- Configured and concerned another interface than k, and every call left is given the same; what k can tell of the record ends the same. No axiom.
use Rattle.std.specs.Prelude.{ℕ, ◌≡◌, refl, List, [], ◌∷◌, Bool, true, false, not, length, eqb}
use Rattle.std.proofs.Common.{sym, ap, ◌∙◌}
use Rattle.std.proofs.lemmas.Bool.{false≢true}
use Rattle.octets.proofs.Sentences.{both}
use Rattle.sets.specs.Opening.{Board, BytesOf}
use Rattle.sets.specs.View.{accepted}
use Rattle.records.specs.declared.Device.{Device}
use Rattle.records.specs.Device.{test_waits, Sized}
use Rattle.records.specs.Image.{device_of, image_of}
use Rattle.records.proofs.Image.{device-image}
use Rattle.records.specs.Current.{view_at}
use Rattle.order.specs.Run.{keep, answers, log}
use Rattle.order.specs.Strike
use Rattle.order.specs.Strike.{strike, left}
use Rattle.order.proofs.Strike.{Unwinding, unnoticed as struck-unnoticed}
use Rattle.order.proofs.Owners.{unwinding-by}
use Rattle.order.proofs.Beside.{unwinding-beside, fair-run}
use Rattle.promises.specs.Keeps.{FitImage, reached_fits}
use Rattle.laws.specs.Parts.{Same, rest, owned, who}
use Rattle.laws.proofs.Same.{self}
use Rattle.laws.proofs.Locality.{idle}
use Rattle.promises.specs.Rearranged.{values_of, answer_of}
use Rattle.promises.specs.Refusal.{fresh_image}
use Rattle.promises.specs.Struck.{PageRun, page_quiet}
use Rattle.promises.specs.Order.{step_locality_at, struck_for, Fair, Quiet}
use Rattle.board.specs.Exports.{Opens, Spots}
use Rattle.board.specs.Runs.{Call, event_of, Given, Runs, ends, calls, given_as, gives, leaves, met, ran, opening, opened_reached}
use Rattle.board.specs.Order.{told}
use Rattle.board.specs.Places.{says, reads, keeps}
use Rattle.board.specs.Records.{RecordRuns, as_images}

-- nothing waits in the fresh record
fresh-waits : test_waits (device_of fresh_image) ≡ false
unfolding device_of
fresh-waits = refl

module _ (b : Board) (lie : Spots) (k : ℕ) where
  -- ---- what the statements say
  -- the call, arriving at this image, is struck out: in Configured, it concerns another interface than k
  abbrev pub struck : List ℕ → Call → Bool
  struck image c = struck_for b k (device_of image) (event_of c)

  -- a premise on the run: no struck call arrives while there is something for it to settle
  abbrev pub FairRun : List ℕ → List Call → Type 0
  FairRun = Strike.FairRun (leaves b lie) struck (λ image c. Fair b (device_of image) (event_of c))

  -- "no struck event arrived while suspended" (L12), and no struck setup while a test mode waits (L7)
  abbrev pub QuietRun : List ℕ → List Call → Type 0
  QuietRun = Strike.FairRun (leaves b lie) struck (λ image c. Quiet (device_of image) (event_of c))

  -- the calls left
  abbrev pub kept : List ℕ → List Call → List Call
  kept = strike (leaves b lie) struck

  -- and each with what it was given in the whole run
  abbrev pub kept_of : {image : List ℕ} {cs : List Call} {gs : List Given} {last : List ℕ} → Runs b lie image cs gs last → List (Call × Given)
  kept_of ends = []
  kept_of (calls {image} {c} {g} m r) = keep (not (struck image c)) (c, g) (kept_of r)

  -- state, address, configuration, wakeup, power and speed; k's setting, halts and toggles; what waits and the sleep byte
  abbrev pub Alike : List ℕ → List ℕ → Type 0
  Alike image other = Same b k (device_of image) (device_of other) × (rest (device_of image) ≡ rest (device_of other))

  -- ---- runs as their functions
  kept-left : {image : List ℕ} {cs : List Call} {gs : List Given} {last : List ℕ} (r : Runs b lie image cs gs last)
      → kept_of r ≡ left (gives b lie) (leaves b lie) struck image cs
  kept-left ends = refl
  kept-left (calls {image} {c} {cs = cs} m r) =
      let (p, q) = met b lie m in
      rw (p, kept-left r, q)

  told-log : (image : List ℕ) (cs : List Call) → told cs (answers (gives b lie) (leaves b lie) image cs) ≡ log (gives b lie) (leaves b lie) image cs
  told-log image [] = refl
  told-log image (c ∷ cs) = ap (λ l. (c, gives b lie image c) ∷ l) (told-log (leaves b lie image c) cs)

  -- ---- from an image that fits
  module _ (bytes : BytesOf b) (ok : accepted b ≡ true) where
    unwinding : Unwinding (gives b lie) (leaves b lie) (FitImage b) struck (λ image c. Fair b (device_of image) (event_of c)) Alike
    unwinding = unwinding-beside device_of event_of (λ c a. given_as b lie c a.0 (values_of a.1)) (FitImage b)
        (keeps b lie bytes ok) (says b lie bytes ok) (reads b lie bytes ok) (unwinding-by (step_locality_at b bytes ok) k) (λ image f. (f.sized, f.fit))

    pub unnoticed_fit : {image : List ℕ} → FitImage b image → {cs : List Call} {gs others : List Given} {last other : List ℕ}
        → (r : Runs b lie image cs gs last) → FairRun image cs → Runs b lie image (kept image cs) others other
        → (kept_of r ≡ told (kept image cs) others) × Alike last other
    unnoticed_fit {image} f {cs} one fair two =
        let (same, end) = struck-unnoticed unwinding cs image image f f (self (view_at b (device_of image)) k (device_of image), refl) fair in
        let (p, q) = ran b lie one in
        let (s, t) = ran b lie two in
        (kept-left one ∙ same ∙ sym (ap (told (kept image cs)) s ∙ told-log image (kept image cs)), rw (q, t) end)

    -- where a call concerns an interface no address waits
    fair_quiet : (image : List ℕ) → FitImage b image → (cs : List Call) → QuietRun image cs → FairRun image cs
    fair_quiet = fair-run (leaves b lie) struck (λ image c. Quiet (device_of image) (event_of c)) (λ image c. Fair b (device_of image) (event_of c)) (FitImage b) (keeps b lie bytes ok)
        (λ image c f p z. idle b (device_of image) (event_of c) (answer_of b (device_of image) (event_of c)) f.fit z.0 z.1
        (both (owned b (device_of image) (event_of c)) (not (eqb (who b (device_of image) (event_of c)) k)) p).0)

  -- ---- from power-on: an opening that gave 0, of any 32 bytes
  module _ (bytes : BytesOf b) {start image : List ℕ} (long : length start ≡ 32) (o : Opens b start 0 image) where
    ok : accepted b ≡ true
    ok = (opening long o).0 refl

    fit : FitImage b image
    fit = reached_fits b bytes ok (opened_reached long o)

    pub unnoticed_fair : {cs : List Call} {gs others : List Given} {last other : List ℕ}
        → (r : Runs b lie image cs gs last) → FairRun image cs → Runs b lie image (kept image cs) others other
        → (kept_of r ≡ told (kept image cs) others) × Alike last other
    unnoticed_fair = unnoticed_fit bytes ok fit

    -- with these premises
    pub unnoticed : {cs : List Call} {gs others : List Given} {last other : List ℕ}
        → (r : Runs b lie image cs gs last) → QuietRun image cs → Runs b lie image (kept image cs) others other
        → (kept_of r ≡ told (kept image cs) others) × Alike last other
    unnoticed {cs} r quiet = unnoticed_fair r (fair_quiet bytes ok image fit cs quiet)

    -- with the page's: "no struck setup may lie between a test mode request and the next status end", "no struck event arrived while suspended"
    pub unnoticed_by_page : {cs : List Call} {gs others : List Given} {last other : List ℕ}
        → (r : Runs b lie image cs gs last) → PageRun b k device_of event_of (leaves b lie) false image cs → Runs b lie image (kept image cs) others other
        → (kept_of r ≡ told (kept image cs) others) × Alike last other
    unnoticed_by_page {cs} r page = unnoticed r (page_quiet b ok k device_of event_of (leaves b lie) (FitImage b) (keeps b lie bytes ok) (λ i f. f.fit) (reads b lie bytes ok)
        image false fit (λ t. absurd (false≢true (sym none-waits ∙ t))) cs page)
      where
        none-waits : test_waits (device_of image) ≡ false
        none-waits = rw (opening long o).2 fresh-waits

-- ---- hk_record_event: the same over a record that is lent and changed where it stands, whose 32 bytes hk_open opened
module _ (b : Board) (lie : Spots) (k : ℕ) (bytes : BytesOf b) {start : List ℕ} {d : Device} (long : length start ≡ 32) (o : Opens b start 0 (image_of d)) (z : Sized d) where
  pub unnoticed_record : {cs : List Call} {gs others : List Given} {last other : Device} → (one : RecordRuns b lie d cs gs last)
      → PageRun b k device_of event_of (leaves b lie) false (image_of d) cs → RecordRuns b lie d (kept b lie k (image_of d) cs) others other
      → (kept_of b lie k (as_images b lie bytes z one).0 ≡ told (kept b lie k (image_of d) cs) others) × (Same b k last other × (rest last ≡ rest other))
  unnoticed_record {last = last} {other} one page two =
      let (r, y) = as_images b lie bytes z one in
      let (s, x) = as_images b lie bytes z two in
      let (same, alike) = unnoticed_by_page b lie k bytes long o r page s in
      (same, rw (device-image last y, device-image other x) at alike)
