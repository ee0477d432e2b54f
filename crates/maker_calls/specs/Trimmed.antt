-- Document 02, L11, over exported calls: hk_trim gave 0. The buffer's first `total` bytes open, and the same calls on the set and on them give the same and leave the same
-- image, "other than for a dropped string". No axiom.
use Rattle.std.specs.Prelude.{ℕ, ◌≡◌, refl, true, false, List, [], ◌∷◌, length, take}
use Rattle.std.proofs.Common.{sym, ap, ◌∙◌, eq-eqb}
use Rattle.descriptors.specs.Limits.{full_speed}
use Rattle.sets.specs.Opening.{Board, lent, opening}
use Rattle.sets.specs.View.{accepted}
use Rattle.events.specs.Step.{setup_event}
use Rattle.order.specs.Run.{run, answers}
use Rattle.trimming.specs.Trim.{trimmed}
use Rattle.maker_laws.specs.TrimRequests.{asks_dropped}
use Rattle.maker_laws.proofs.TrimAgain.{there}
use Rattle.maker_laws.proofs.TrimRequests.{image-alike}
use Rattle.maker_promises.specs.Trimmed.{opens_again, same_event}
use Rattle.promises.specs.Refusal.{fresh_image}
use Rattle.board.specs.Exports.{Opens, Spot, Spots, padded, AnswersSetup}
use Rattle.board.specs.Makers.{Shortens}
use Rattle.board.specs.Runs.{Call, setup, tell, record_event, event_of, Given, number, handed, Runs, gives, leaves, ran}
use Rattle.board.specs.Runs as runs

-- what a call gave, but for where its part lies: "same bytes", not the same part
pub record Told : Type 0 where
  pub answer : ℕ
  pub bytes : List ℕ
  pub count : ℕ
  pub shown : List ℕ

abbrev pub told : Given → Told
told (number n) = record { answer = n; bytes = []; count = 0; shown = [] }
told (handed n bytes count shown spot) = record { answer = n; bytes = bytes; count = count; shown = shown }

-- call by call: what is no request for a dropped string gives the same
pub data Alike (set : List ℕ) : List Call → List Given → List Given → Type 0 where
  ended : Alike set [] [] []
  called : {c : Call} {g h : Given} {cs : List Call} {gs hs : List Given}
      → (asks_dropped set (event_of c) ≡ false → told g ≡ told h) → Alike set cs gs hs → Alike set (c ∷ cs) (g ∷ gs) (h ∷ hs)

module _ {set serial left : List ℕ} {total : ℕ} (t : Shortens full_speed set serial 0 left total) where
  is-trimmed : take total left ≡ trimmed set
  is-trimmed = ap (λ (k : ℕ). take k left) t.counts ∙ there t.trims refl

  ok : accepted (lent set serial) ≡ true
  ok = eq-eqb (opening full_speed (lent set serial)) 0 (sym t.trims.number)

  -- "The trimmed set opens with the same serial block": hk_open of the first `total` bytes gives 0
  pub trimmed_opens : {start image : List ℕ} {n : ℕ} → length start ≡ 32 → Opens (lent (take total left) serial) start n image → (n ≡ 0) × (image ≡ fresh_image)
  trimmed_opens long o =
      let (_, accepts, left) = runs.opening long o in
      (accepts (rw is-trimmed (eq-eqb _ 0 (opens_again full_speed set serial t.octets (sym t.trims.number)))), left)

  -- "every request other than for a dropped string gets the same bytes": hk_setup on the set and on the trimmed set, from the same image. What it leaves is the same for every request
  pub same_setup : {lie other : Spots} {image asked : List ℕ} {n m : ℕ} {one two bytes others : List ℕ} {count also : ℕ} {shown part : List ℕ} {spot place : Spot}
      → AnswersSetup (lent set serial) lie image asked n one bytes count shown spot → AnswersSetup (lent (take total left) serial) other image asked m two others also part place
      → (one ≡ two) × (asks_dropped set (setup_event asked) ≡ false → (n ≡ m) × (bytes ≡ others) × (count ≡ also) × (shown ≡ part))
  same_setup {image = image} {asked = asked} r given =
      let q = rw is-trimmed at given in (
        r.leaves ∙ image-alike set serial t.octets ok image (setup_event asked) ∙ sym q.leaves,
        λ d. let s = (same_event set serial t.octets ok image (setup_event asked) d).0 in (
          r.answers.number ∙ s.number ∙ sym q.answers.number,
          r.answers.hands ∙ ap padded s.bytes ∙ sym q.answers.hands,
          r.answers.counts ∙ ap length s.bytes ∙ sym q.answers.counts,
          r.answers.shows ∙ s.shown ∙ sym q.answers.shows,
        ),
      )

  -- ---- runs of calls, from the same image
  module _ (lie other : Spots) where
    abbrev before : Board
    before = lent set serial

    abbrev after : Board
    after = lent (trimmed set) serial

    abbrev told_of : ℕ → List ℕ → List ℕ → Told
    told_of n bytes shown = record { answer = n; bytes = padded bytes; count = length bytes; shown = shown }

    handing : {n m : ℕ} {bytes others shown part : List ℕ} → n ≡ m → bytes ≡ others → shown ≡ part → told_of n bytes shown ≡ told_of m others part
    handing p q r = rw (p, q, r)

    each : (image : List ℕ) (c : Call) → asks_dropped set (event_of c) ≡ false → told (gives before lie image c) ≡ told (gives after other image c)
    each image (setup bytes) d = let s = (same_event set serial t.octets ok image (event_of (setup bytes)) d).0 in handing s.number s.bytes s.shown
    each image (tell h) d = let s = (same_event set serial t.octets ok image (event_of (tell h)) d).0 in ap (λ (n : ℕ). told (number n)) s.number
    each image (record_event kind value bytes) d =
        let s = (same_event set serial t.octets ok image (event_of (record_event kind value bytes)) d).0 in
        handing s.number s.bytes s.shown

    from : (image : List ℕ) (cs : List Call)
        → Alike set cs (answers (gives before lie) (leaves before lie) image cs) (answers (gives after other) (leaves after other) image cs) × (run (leaves before lie) image cs ≡ run (leaves after other) image cs)
    from image [] = (ended, refl)
    from image (c ∷ cs) =
        let (p, q) = from (leaves before lie image c) cs in
        rw (← image-alike set serial t.octets ok image (event_of c)) (called (each image c) p, q)

    -- runs of any calls: each that is no request for a dropped string gives the same, and they end in the same image
    pub same_runs : {image : List ℕ} {cs : List Call} {gs hs : List Given} {last end : List ℕ}
        → Runs (lent set serial) lie image cs gs last → Runs (lent (take total left) serial) other image cs hs end → Alike set cs gs hs × (last ≡ end)
    same_runs {image} {cs} r given =
        let (p, l) = ran before lie r in
        let (q, m) = ran after other (rw is-trimmed at given) in
        rw (p, l, q, m) (from image cs)
