-- Demand 3 over runs of exported calls: another order of calls that concern different interfaces changes nothing that a call gives and no
-- byte of the image left. No axiom.
use Rattle.std.specs.Prelude.{ℕ, ◌≡◌, Bool, true, length}
use Rattle.std.proofs.Math.Path.{refl, ap}
use Rattle.std.proofs.Common.{sym, ◌∙◌}
use mathlib.Core.List.{List, [], ◌∷◌, map, map-map}
use Rattle.octets.specs.Sentences.{every, only, is_some}
use Rattle.octets.proofs.Sentences.{both, every_map, every-alike}
use Rattle.sets.specs.Opening.{Board, BytesOf}
use Rattle.sets.specs.View.{accepted}
use Rattle.octets.specs.Octets.{Bytes}
use Rattle.records.specs.Image.{device_of}
use Rattle.records.specs.Fits.{fits_on}
use Rattle.events.specs.declared.Event.{Event}
use Rattle.events.specs.Concerns.{concerns_on}
use Rattle.order.specs.Run.{run, answers, log}
use Rattle.promises.specs.Rearranged.{is_this, Rearranged, Values, image_answer, image_next, image_after, image_heard}
use Rattle.laws.proofs.Picking.{only-map}
use Rattle.promises.specs.Order.{order_images, shared_stay}
use Rattle.promises.specs.Images.{leaves_as}
use Rattle.laws.specs.Parts.{Shared, shared}
use Rattle.laws.proofs.Locality.{concerns-by}
use Rattle.promises.specs.Keeps.{FitImage, fit_image, event_fits, reached_fits}
use Rattle.board.specs.Exports.{Opens, Spots}
use Rattle.board.specs.Runs.{Call, event_of, Given, Runs, given_as, gives, leaves, ran, opening, reached, opened_reached}

-- ---- another order of the calls
-- a call that concerns an interface that exists, and interface k
abbrev pub concerns_any : Board → List ℕ → Call → Bool
concerns_any b image c = is_some (concerns_on b (device_of image) (event_of c))

abbrev pub concerns_this : Board → List ℕ → ℕ → Call → Bool
concerns_this b image k c = is_this k (concerns_on b (device_of image) (event_of c))

-- every call concerns an interface, and each interface has the same calls in the same order
pub record Reordered (b : Board) (image : List ℕ) (xs ys : List Call) : Type 0 where
  pub one : every (concerns_any b image) xs ≡ true
  pub other : every (concerns_any b image) ys ≡ true
  pub same : (k : ℕ) → only (concerns_this b image k) xs ≡ only (concerns_this b image k) ys

-- each call with what it was given, in the run's order
abbrev pub told : {A B : Type 0} → List A → List B → List (A × B)
told [] gs = []
told (c ∷ cs) [] = []
told (c ∷ cs) (g ∷ gs) = (c, g) ∷ told cs gs

-- the calls that concern interface k, each with what it was given
abbrev pub told_to : Board → List ℕ → ℕ → List Call → List Given → List (Call × Given)
told_to b image k cs gs = only (λ p. concerns_this b image k p.0) (told cs gs)

-- ---- a list of pairs is its first halves with its second halves
halves : {A B : Type 0} (l : List (A × B)) → told (map (λ p. p.0) l) (map (λ p. p.1) l) ≡ l
halves [] = refl
halves (p ∷ l) = ap (λ r. p ∷ r) (halves l)

by-halves : {A B : Type 0} (l m : List (A × B)) → map (λ p. p.0) l ≡ map (λ p. p.0) m → map (λ p. p.1) l ≡ map (λ p. p.1) m → l ≡ m
by-halves l m p q = sym (halves l) ∙ rw (p, q) (halves m)

-- ---- a run's calls with document 01's number, bytes and part
module _ (b : Board) (lie : Spots) where
  abbrev valued : List ℕ → List Call → List (Call × Values)
  valued image cs = log (λ i c. image_answer b i (event_of c)) (leaves b lie) image cs

  valued-calls : (image : List ℕ) (cs : List Call) → map (λ p. p.0) (valued image cs) ≡ cs
  valued-calls image [] = refl
  valued-calls image (c ∷ cs) = ap (λ r. c ∷ r) (valued-calls (leaves b lie image c) cs)

  valued-events : (image : List ℕ) (cs : List Call)
      → log (image_answer b) (image_next b) image (map event_of cs) ≡ map (λ p. (event_of p.0, p.1)) (valued image cs)
  valued-events image [] = refl
  valued-events image (c ∷ cs) = ap (λ r. (event_of c, image_answer b image (event_of c)) ∷ r) (valued-events (leaves b lie image c) cs)

  -- where every call concerns an interface byte 7 stays, so each part is of the set in use at the start
  module _ (bytes : BytesOf b) (ok : accepted b ≡ true) where
    steady : (image : List ℕ) (c : Call) → FitImage b image → concerns_any b image c ≡ true → shared (device_of (leaves b lie image c)) ≡ shared (device_of image)
    steady image c f p = ap shared (leaves_as b image (event_of c) f bytes) ∙ shared_stay b bytes ok (device_of image) (event_of c) (f.sized, f.fit) p

    valued_given : (image : List ℕ) → FitImage b image → (cs : List Call) → every (concerns_any b image) cs ≡ true
        → told cs (answers (gives b lie) (leaves b lie) image cs) ≡ map (λ p. (p.0, given_as b lie p.0 (device_of image).speed p.1)) (valued image cs)
    unfolding every
    valued_given image f [] p = refl
    valued_given image f (c ∷ cs) p =
        let (o, q) = both (concerns_any b image c) (every (concerns_any b image) cs) p in
        let left = leaves b lie image c in
        let same = steady image c f o in
        let still = every-alike (concerns_any b left) (concerns_any b image) cs (λ x m. ap is_some (concerns-by b (device_of left) (device_of image) (event_of x) same)) in
        ap (λ r. (c, gives b lie image c) ∷ r) (valued_given left (event_fits b bytes ok image (event_of c) f) cs (still ∙ q)
        ∙ ap (λ (x : Shared). map (λ p. (p.0, given_as b lie p.0 x.speed p.1)) (valued left cs)) same)

  run-events : (image : List ℕ) (cs : List Call) → run (leaves b lie) image cs ≡ image_after b image (map event_of cs)
  run-events image [] = refl
  run-events image (c ∷ cs) = run-events (leaves b lie image c) cs

  -- ---- interface k's
  module _ (image : List ℕ) (k : ℕ) (cs : List Call) where
    abbrev own : List (Call × Values)
    own = only (λ p. concerns_this b image k p.0) (valued image cs)

    own-calls : map (λ p. p.0) own ≡ only (concerns_this b image k) cs
    own-calls = sym (only-map (concerns_this b image k) (λ (p : Call × Values). p.0) (valued image cs)) ∙ ap (only (concerns_this b image k)) (valued-calls image cs)

    own-heard : image_heard b image k (map event_of cs) ≡ map (λ p. (event_of p.0, p.1)) own
    own-heard =
        let f : Event × Values → Bool = λ p. is_this k (concerns_on b (device_of image) p.0) in
        ap (only f) (valued-events image cs) ∙ only-map f (λ (p : Call × Values). (event_of p.0, p.1)) (valued image cs)

    own-given : BytesOf b → accepted b ≡ true → FitImage b image → every (concerns_any b image) cs ≡ true → {gs : List Given} {last : List ℕ} → Runs b lie image cs gs last
        → told_to b image k cs gs ≡ map (λ p. (p.0, given_as b lie p.0 (device_of image).speed p.1)) own
    own-given bytes ok fit p r =
        let f : Call × Given → Bool = λ p. concerns_this b image k p.0 in
        ap (λ gs. only f (told cs gs)) (ran b lie r).0 ∙ ap (only f) (valued_given bytes ok image fit cs p)
        ∙ only-map f (λ (p : Call × Values). (p.0, given_as b lie p.0 (device_of image).speed p.1)) (valued image cs)

  -- ---- demand 3
  rearranged : (image : List ℕ) (xs ys : List Call) → Reordered b image xs ys → Rearranged b (device_of image) (map event_of xs) (map event_of ys)
  rearranged image xs ys r = record {
    one = every_map _ event_of xs ∙ r.one;
    other = every_map _ event_of ys ∙ r.other;
    same = λ k. only-map _ event_of xs ∙ ap (map event_of) (r.same k) ∙ sym (only-map _ event_of ys);
  }

  -- for an accepted board and an image that fits: both runs leave the same image, and each interface's calls are the same and are given the
  -- same. (Place by place: `order_places` of Places.)
  pub order_fit : BytesOf b → accepted b ≡ true → (image : List ℕ) → FitImage b image
      → {xs ys : List Call} {gs others : List Given} {last other : List ℕ}
      → Runs b lie image xs gs last → Runs b lie image ys others other → Reordered b image xs ys
      → (last ≡ other) × ((k : ℕ) → told_to b image k xs gs ≡ told_to b image k ys others)
  order_fit bytes ok image f {xs} {ys} one two r =
      let (end, heard) = order_images b bytes ok image f (map event_of xs) (map event_of ys) (rearranged image xs ys r) in (
        (ran b lie one).1 ∙ run-events image xs ∙ end ∙ sym ((ran b lie two).1 ∙ run-events image ys),
        λ k. own-given image k xs bytes ok f r.one one ∙ ap (map (λ p. (p.0, given_as b lie p.0 (device_of image).speed p.1))) (same-own k (heard k))
            ∙ sym (own-given image k ys bytes ok f r.other two),
      )
    where
      seconds : (k : ℕ) (cs : List Call) → map (λ p. p.1) (image_heard b image k (map event_of cs)) ≡ map (λ p. p.1) (own image k cs)
      seconds k cs = ap (map (λ (p : Event × Values). p.1)) (own-heard image k cs)
          ∙ map-map (λ (p : Event × Values). p.1) (λ (p : Call × Values). (event_of p.0, p.1)) (own image k cs)

      same-own : (k : ℕ) → image_heard b image k (map event_of xs) ≡ image_heard b image k (map event_of ys) → own image k xs ≡ own image k ys
      same-own k h = by-halves (own image k xs) (own image k ys)
          (own-calls image k xs ∙ r.same k ∙ sym (own-calls image k ys))
          (sym (seconds k xs) ∙ ap (map (λ (p : Event × Values). p.1)) h ∙ seconds k ys)

  pub order : BytesOf b → accepted b ≡ true → (image : List ℕ) → length image ≡ 32 → Bytes image → fits_on b (device_of image) ≡ true
      → {xs ys : List Call} {gs others : List Given} {last other : List ℕ}
      → Runs b lie image xs gs last → Runs b lie image ys others other → Reordered b image xs ys
      → (last ≡ other) × ((k : ℕ) → told_to b image k xs gs ≡ told_to b image k ys others)
  order bytes ok image long octets fit = order_fit bytes ok image (fit_image b image long octets fit)

  -- so after an opening that gave 0 and any calls: two orders of what follows end the same. (C's set is of bytes.)
  pub order_after_opening : BytesOf b → {start image now : List ℕ} {cs : List Call} {gs : List Given}
      → length start ≡ 32 → Opens b start 0 image → Runs b lie image cs gs now
      → {xs ys : List Call} {some others : List Given} {last other : List ℕ}
      → Runs b lie now xs some last → Runs b lie now ys others other → Reordered b now xs ys
      → (last ≡ other) × ((k : ℕ) → told_to b now k xs some ≡ told_to b now k ys others)
  order_after_opening bytes {now = now} l o r one two =
      let ok = (opening l o).0 refl in
      let f = reached_fits b bytes ok (reached (opened_reached l o) r) in
      order_fit bytes ok now f one two
