-- A walk over the descriptors of a body, a descriptor at a time: its laws, once for every walk. No axiom.
use Rattle.octets.proofs.Vocabulary.{◌≡◌, refl, sym, ap, ◌∙◌, ℕ, zero, suc, ◌+◌, ◌*◌, ◌-◌, ◌/◌, ◌%◌, ◌≤◌, ◌<◌, List, [], ◌∷◌, ◌++◌, flat_map, append-nil, append_assoc, Bool, true, false, ◌&&◌, and-false, some, none, ◌⊎◌, inl, inr, ⊎_elim, length, take, drop, length-take, length-drop, drop_of_length-le, leb, drop-cons, drop-drop, get_or-take, get_or-drop, arith, not-suc-le-zero, le_of_suc-le-suc, add-sub_cancel_left, add-zero, lt-leb, le-leb, lt-ltb, leb-true, leb-false}
use native.Mathlib.Numerals.{add-one}
use Rattle.octets.specs.Octets.{byte, part}
use Rattle.octets.specs.Sentences.{pick}
use Rattle.octets.proofs.Sentences.{cases}
use Rattle.descriptors.specs.declared.walk.Stand.{Stand}
use Rattle.descriptors.specs.declared.walk.Step.{Step}
use Rattle.descriptors.specs.Cut.{Cutting, whole, broken, descriptor, cut, cut_after, descriptors_of, well_cut}
use Rattle.descriptors.specs.Walk.{Pace, stand_in, setting_after, Steps, stand_of, steps_on, step_of, Walk, or_else, walked, gathering, Collection, collecting, collected}

-- ---- a setting in one number
pub stands-in : (interface alternate : ℕ) → interface < 256 → alternate < 256 → stand_in (interface + 256 * alternate) ≡ record { inside = true; interface = interface; alternate = alternate }
stands-in interface alternate i a =
    let low : (interface + 256 * alternate) % 256 ≡ interface = omega arith in
    let high : (interface + 256 * alternate) / 256 ≡ alternate = omega arith in
    rw (lt-ltb (interface + 256 * alternate) 65536 (omega arith), low, high)

-- ---- cutting
pub after-drop : (k : ℕ) (xs : List ℕ) → k ≤ length xs → cut_after k xs ≡ cut (drop k xs)
unfolding cut_after
after-drop zero xs h = refl
after-drop (suc k) [] h = absurd (not-suc-le-zero h)
after-drop (suc k) (x ∷ xs) h = after-drop k xs (le_of_suc-le-suc h)

pub after-short : (k : ℕ) (xs : List ℕ) → length xs < k → cut_after k xs ≡ broken
unfolding cut_after
after-short zero xs h = absurd (not-suc-le-zero h)
after-short (suc k) [] h = refl
after-short (suc k) (x ∷ xs) h = after-short k xs (le_of_suc-le-suc h)

cut-cons : (b : ℕ) (bs : List ℕ) → cut (b ∷ bs) ≡ pick (leb 2 b) (descriptor (take b (b ∷ bs)) (cut_after (b - 1) bs)) broken
unfolding cut_after
cut-cons b bs = refl

module _ (body : List ℕ) (at : ℕ) where
  pub cut-end : length body ≤ at → cut (drop at body) ≡ whole
  unfolding cut_after
  cut-end h = rw (drop_of_length-le body h)

  module _ (h : at < length body) where
    here : drop at body ≡ byte body at ∷ drop (at + 1) body
    here = rw (add-one, drop-cons body at 0)

    pub cut_small : byte body at < 2 → cut (drop at body) ≡ broken
    cut_small l = rw (here, cut-cons, lt-leb 2 _ l)

    pub cut-long : 2 ≤ byte body at → length body - at < byte body at → cut (drop at body) ≡ descriptor (part body at (byte body at)) broken
    cut-long l m =
        let e : length (drop (at + 1) body) < byte body at - 1 = rw length-drop (omega arith) in
        ap cut here ∙ cut-cons _ _ ∙ rw (le-leb 2 _ l, after-short _ _ e, here)

    -- a step on: the descriptor that ends there, and the rest
    pub cut_step : 2 ≤ byte body at → byte body at ≤ length body - at
        → cut (drop at body) ≡ descriptor (part body at (byte body at)) (cut (drop (at + byte body at) body))
    cut_step l m =
        let e : byte body at - 1 ≤ length (drop (at + 1) body) = rw length-drop (omega arith) in
        let q : at + 1 + (byte body at - 1) ≡ at + byte body at = omega arith in
        ap cut here ∙ cut-cons _ _ ∙ rw (le-leb 2 _ l, after-drop _ _ e, drop-drop, q, here)

-- ---- what `advance` tells
well-descriptor : (d : List ℕ) (ds : Cutting) → well_cut (descriptor d ds) ≡ well_cut ds
unfolding well_cut
well-descriptor d ds = refl

well-broken : well_cut broken ≡ false
unfolding well_cut
well-broken = refl

-- the descriptor from `at` to `end`, as the code's `&body[at..end]` has it
abbrev pub spanned : List ℕ → ℕ → ℕ → List ℕ
spanned body at end = take (end - at) (drop at body)

pub span-length : (body : List ℕ) {at end : ℕ} → at < end → end ≤ length body → length (spanned body at end) ≡ end - at
span-length body h l = rw (length-take, length-drop) (omega arith)

pub record Moved (body : List ℕ) (at : ℕ) (stand : Stand) (step : Pace) : Type 0 where
  pub inside : step.end ≤ length body
  pub cuts : cut (drop at body) ≡ descriptor (spanned body at step.end) (cut (drop step.end body))
  pub stands : step.stand ≡ stand_of stand (spanned body at step.end)

module _ (body : List ℕ) (at : ℕ) (stand : Stand) (h : at < length body) where
  two : leb 2 (byte body at) ≡ true → leb (byte body at) (length body - at) ≡ true → steps_on body at ≡ true
  two p q = rw (p, q, lt-ltb at (length body) h)

  stays : steps_on body at ≡ false → (step_of body at stand).end ≡ at
  stays p = rw p

  -- it moved on: what it stepped over is the next descriptor
  pub moved : at < (step_of body at stand).end → Moved body at stand (step_of body at stand)
  moved m = cases (steps_on body at) went (λ p. let e : (step_of body at stand).end ≡ at = stays p in absurd (omega arith))
    where
      went : steps_on body at ≡ true → Moved body at stand (step_of body at stand)
      went p = cases (leb 2 (byte body at)) (λ q. cases (leb (byte body at) (length body - at)) (λ r. found q r) (λ r. absurd (no_step (rw (r, and-false) at p)))) (λ q. absurd (no_step (rw q at p)))
        where
          no_step : false ≡ true → ⊥
          no_step e = let z : ◌≡◌ {A = ℕ} 0 1 = ap (λ (b : Bool). pick b 1 0) e in omega arith

          found : leb 2 (byte body at) ≡ true → leb (byte body at) (length body - at) ≡ true → Moved body at stand (step_of body at stand)
          found q r =
              let l : 2 ≤ byte body at = leb-true 2 (byte body at) q in
              let n : byte body at ≤ length body - at = leb-true (byte body at) (length body - at) r in
              rw p (record { inside = omega arith; cuts = rw add-sub_cancel_left (cut_step body at h l n); stands = rw add-sub_cancel_left })

  -- it stood still: the body is broken, there or by a descriptor that runs past its end
  pub breaks : (step_of body at stand).end ≤ at
      → (cut (drop at body) ≡ broken) ⊎ ((length body - at < byte body at) × (cut (drop at body) ≡ descriptor (part body at (byte body at)) broken))
  breaks m = cases (leb 2 (byte body at))
      (λ q. cases (leb (byte body at) (length body - at))
      (λ r.
      let l : 2 ≤ byte body at = leb-true 2 (byte body at) q in
      let e : (step_of body at stand).end ≡ at + byte body at = rw (two q r) in
      absurd (omega arith))
      (λ r. let n = leb-false (byte body at) (length body - at) r in inr (n, cut-long body at h (leb-true 2 (byte body at) q) n)))
      (λ q. inl (cut_small body at h (leb-false 2 (byte body at) q)))

  pub stuck : (step_of body at stand).end ≤ at → well_cut (cut (drop at body)) ≡ false
  stuck m = ⊎_elim (λ e. rw e well-broken) (λ p. rw (p.1, well-descriptor) well-broken) (breaks m)

-- a well-cut body stays well cut further on
module _ (body : List ℕ) (at : ℕ) (stand : Stand) (h : at < length body) (m : at < (step_of body at stand).end) where
  pub well-on : well_cut (cut (drop at body)) ≡ well_cut (cut (drop (step_of body at stand).end body))
  well-on = ap well_cut (moved body at stand h m).cuts ∙ well-descriptor _ _

-- ---- what the code's steps tell
module _ (body : List ℕ) (at last : ℕ) where
  pub whole-steps : at < length body → 2 ≤ byte body at → at + byte body at ≤ length body → steps_on body at ≡ true
  whole-steps h l m = rw (le-leb 2 (byte body at) l, lt-ltb at (length body) h, le-leb (byte body at) (length body - at) (omega arith))

  module _ (p : steps_on body at ≡ true) {step : Step} (s : Steps body at last step) where
    pub step-ends : step.end ≡ at + byte body at
    step-ends = ap (λ (r : Pace). r.end) s.steps ∙ rw p

    pub step-sets : step.setting ≡ setting_after last (spanned body at step.end)
    step-sets = s.sets ∙ rw (p, step-ends, add-sub_cancel_left)

-- ---- a loop that walks: its invariant is that the walk from `at` answers what the whole walk answers, in the state w and after a descriptor
-- that stands at `last`
pub record Walking {W A : Type 0} (R : Walk W A) (body : List ℕ) (total : A) (w : W) (last : Stand) (at : ℕ) : Type 0 where
  pub rest : total ≡ walked R w last (cut (drop at body))

module _ {W A : Type 0} {R : Walk W A} {body : List ℕ} {total : A} {w : W} {last : Stand} {at : ℕ} (walking : Walking R body total w last at) where
  pub walk_at : {stand : Stand} → last ≡ stand → Walking R body total w stand at
  walk_at e = record { rest = walking.rest ∙ rw e }

  walked_whole : walked R w last whole ≡ R.finish w last
  unfolding walked
  walked_whole = refl

  walked-descriptor : (d : List ℕ) (ds : Cutting)
      → walked R w last (descriptor d ds) ≡ or_else (R.stop w last (stand_of last d) d) (walked R (R.on w last (stand_of last d) d) (stand_of last d) ds)
  unfolding walked
  walked-descriptor d ds = refl

  pub walk_end : length body ≤ at → R.finish w last ≡ total
  walk_end h = sym (walking.rest ∙ ap (walked R w last) (cut-end body at h) ∙ walked_whole)

  module _ {step : Pace} (e : step ≡ step_of body at last) (h : at < length body) (m : at < step.end) where
    -- it moved on, as `moved` says
    stepped : Moved body at last step
    stepped = rw e (moved body at last h (rw e at m))

    pub walk_inside : step.end ≤ length body
    walk_inside = stepped.inside

    turn : total ≡ or_else (R.stop w last step.stand (spanned body at step.end))
        (walked R (R.on w last step.stand (spanned body at step.end)) step.stand (cut (drop step.end body)))
    turn = walking.rest ∙ ap (walked R w last) stepped.cuts ∙ walked-descriptor _ _ ∙ rw stepped.stands

    pub walk-stop : (a : A) → R.stop w last step.stand (spanned body at step.end) ≡ some a → a ≡ total
    walk-stop a p = sym (turn ∙ rw p)

    pub walk-on : {next : W} → R.stop w last step.stand (spanned body at step.end) ≡ none → next ≡ R.on w last step.stand (spanned body at step.end)
        → Walking R body total next step.stand step.end
    walk-on p q = record { rest = turn ∙ rw (p, q) }

-- ---- what a walk that gathers has gathered
-- a part of it, q, is what `total` says of the descriptors, if one descriptor adds to it what `total` says
module _ {W X : Type 0} (on : W → Stand → List ℕ → W) (q : W → X) (total : X → Stand → List (List ℕ) → X)
    (none_left : (x : X) (last : Stand) → total x last [] ≡ x)
    (one_more : (w : W) (last : Stand) (d : List ℕ) (ds : List (List ℕ)) → total (q w) last (d ∷ ds) ≡ total (q (on w (stand_of last d) d)) (stand_of last d) ds) where
  pub gathers : (w : W) (last : Stand) (cs : Cutting) → q (walked (gathering on) w last cs) ≡ total (q w) last (descriptors_of cs)
  unfolding walked descriptors_of
  gathers w last whole = sym (none_left (q w) last)
  gathers w last broken = sym (none_left (q w) last)
  gathers w last (descriptor d ds) = gathers (on w (stand_of last d) d) (stand_of last d) ds ∙ sym (one_more w last d (descriptors_of ds))

-- ---- what a walk that collects has still to collect
module _ {X : Type 0} (adds : ℕ → Stand → List ℕ → List X) where
  collect-more : (w : Collection X) (last : Stand) (cs : Cutting) → walked (collecting adds) w last cs ≡ w.items ++ walked (collecting adds) (record { at = w.at; items = [] }) last cs
  unfolding walked
  collect-more w last whole = sym (append-nil w.items)
  collect-more w last broken = sym (append-nil w.items)
  collect-more w last (descriptor d ds) =
      let stand = stand_of last d in
      let a = adds w.at stand d in
      let rest = walked (collecting adds) (record { at = w.at + length d; items = [] }) stand ds in
      collect-more (record { at = w.at + length d; items = w.items ++ a }) stand ds
      ∙ append_assoc w.items a rest
      ∙ ap (λ (l : List X). w.items ++ l) (sym (collect-more (record { at = w.at + length d; items = a }) stand ds))

  module _ (body : List ℕ) (last : Stand) (at : ℕ) where
    begins : Walking (collecting adds) body (collected adds body last at) (record { at = at; items = [] }) last at
    begins = record { rest = refl }

    pub collect-end : length body ≤ at → collected adds body last at ≡ []
    collect-end h = sym (walk_end begins h)

    module _ {step : Pace} (e : step ≡ step_of body at last) (h : at < length body) where
      -- a step on: what the descriptor adds, and what those behind it do
      pub collect-on : at < step.end → collected adds body last at ≡ adds at step.stand (spanned body at step.end) ++ collected adds body step.stand step.end
      collect-on m =
          let d = spanned body at step.end in
          let place : at + length d ≡ step.end = omega (arith, span-length body m (walk_inside begins e h m)) in
          let next = walk-on begins e h m refl refl in
          next.rest ∙ collect-more _ step.stand (cut (drop step.end body))
          ∙ ap (λ (n : ℕ). adds at step.stand d ++ walked (collecting adds) (record { at = n; items = [] }) step.stand (cut (drop step.end body))) place

  -- where neither its place nor where it stands counts: what the descriptors add one by one
  module _ (tells : List ℕ → List X) (plain : (at : ℕ) (last : Stand) (d : List ℕ) → adds at (stand_of last d) d ≡ tells d) where
    collects-flat : (at : ℕ) (last : Stand) (cs : Cutting) → walked (collecting adds) (record { at = at; items = [] }) last cs ≡ flat_map tells (descriptors_of cs)
    unfolding walked descriptors_of flat_map
    collects-flat at last whole = refl
    collects-flat at last broken = refl
    collects-flat at last (descriptor d ds) =
        collect-more (record { at = at + length d; items = adds at (stand_of last d) d }) (stand_of last d) ds ∙ rw (plain at last d, collects-flat (at + length d) (stand_of last d) ds)

    pub collected-flat : (body : List ℕ) (last : Stand) (at : ℕ) → collected adds body last at ≡ flat_map tells (descriptors_of (cut (drop at body)))
    collected-flat body last at = collects-flat at last (cut (drop at body))

  -- where a descriptor that runs past the body's end adds nothing: from where the walk stands still there is nothing to collect
  module _ (nothing : (at : ℕ) (stand : Stand) (d : List ℕ) → length d < byte d 0 → adds at stand d ≡ []) (body : List ℕ) (last : Stand) (at : ℕ) where
    abbrev broke : List ℕ
    broke = part body at (byte body at)

    short : length body - at < byte body at → length broke < byte broke 0
    short l =
        let first : byte broke 0 ≡ byte body at = get_or-take (byte body at) (drop at body) 0 0 (omega arith) ∙ rw (get_or-drop, add-zero) in
        rw (first, length-take, length-drop) (omega arith)

    off : walked (collecting adds) (record { at = at; items = [] }) last broken ≡ []
    unfolding walked
    off = refl

    cut_off : (d : List ℕ) → walked (collecting adds) (record { at = at; items = [] }) last (descriptor d broken) ≡ adds at (stand_of last d) d
    unfolding walked
    cut_off d = refl

    pub collect-stuck : {step : Pace} → step ≡ step_of body at last → at < length body → step.end ≤ at → collected adds body last at ≡ []
    collect-stuck {step} e h m =
        ⊎_elim (λ p. rw p off) (λ p. rw p.1 (cut_off broke ∙ nothing at (stand_of last broke) broke (short p.0))) (breaks body at last h (rw e at m))

-- ---- a test of each descriptor, from the state w on, and of the end
unfoldable pub holding : {W : Type 0} → (W → Stand → Stand → List ℕ → Bool) → (W → Stand → Stand → List ℕ → W) → (W → Stand → Bool) → W → Stand → List (List ℕ) → Bool
holding test on finish w last [] = finish w last
holding test on finish w last (d ∷ ds) = let stand = stand_of last d in test w last stand d && holding test on finish (on w last stand d) stand ds
