-- A walk over the descriptors of a body, asking rules: where it is stuck, where it goes on, and where it ends. No axiom.
use Rattle.std.specs.Prelude.{Option}
use Rattle.octets.proofs.Vocabulary.{◌≡◌, refl, ap, ◌∙◌, ℕ, ◌+◌, ◌-◌, ◌≤◌, ◌<◌, List, [], ◌∷◌, Bool, true, false, not, length, drop, length-take, length-drop, leb, get_or-take, get_or-drop, arith, eq-eqb, ne_eqb, leb-true, leb-false, lt-ltb}
use Rattle.octets.specs.Octets.{byte, part}
use Rattle.octets.specs.Sentences.{pick}
use Rattle.octets.proofs.Sentences.{cases}
use Rattle.descriptors.specs.declared.limits.Limits.{Limits}
use Rattle.descriptors.specs.declared.walk.Stand.{Stand}
use Rattle.descriptors.specs.Cut.{Cutting, whole, broken, descriptor, cut}
use Rattle.descriptors.specs.Descriptor.{is_interface, is_endpoint, iInterface}
use Rattle.descriptors.specs.declared.walk.Step.{Step}
use Rattle.descriptors.specs.Walk.{Pace, before, stand_of, stand_in, pace_of, steps_on, step_of, Goes}
use Rattle.descriptors.specs.Check.{Progress, onward}
use Rattle.descriptors.proofs.Walks.{spanned, Moved, moved, cut-end, cut_small, cut-long}
use Rattle.rules.specs.declared.Fault.{Fault}
use Rattle.rules.specs.Findings.{asked, byte_at}
use Rattle.rules.specs.Configuration.{is_whole, descriptor_findings, end_findings, rest_findings, cut_findings, body_findings}
use Rattle.rules.specs.Configurations.{companion_findings, companions_from}
use Rattle.rules.specs.Strings.{reference_findings, interfaces_from}
use Rattle.rules.specs.After.{after}
use Rattle.rules.proofs.After.{or_broken, after-append, breaks}

-- a descriptor's first byte
first_byte : (body : List ℕ) (at n : ℕ) → 0 < n → byte (part body at n) 0 ≡ byte body at
first_byte body at n h = let z : at + 0 ≡ at = omega arith in rw (get_or-take n (drop at body) 0 0 h, get_or-drop, z)

-- what a step that moved on tells of the descriptor d, and of where the next begins
pub record Onward (body : List ℕ) (at : ℕ) (last : Stand) (step : Pace) : Type 0 where
  pub inside : step.end ≤ length body
  pub cuts : cut (drop at body) ≡ descriptor (spanned body at step.end) (cut (drop step.end body))
  pub stands : step.stand ≡ stand_of last (spanned body at step.end)
  pub complete : is_whole (spanned body at step.end) ≡ true
  pub ends : at + length (spanned body at step.end) ≡ step.end

module _ (body : List ℕ) (at : ℕ) (last : Stand) (step : Pace) (e : step ≡ step_of body at last) (h : at < length body) where
  cut_off : 2 ≤ byte body at → length body - at < byte body at → is_whole (part body at (byte body at)) ≡ false
  cut_off l m =
      let b = first_byte body at (byte body at) (omega arith) in
      ne_eqb (length (part body at (byte body at))) (byte (part body at (byte body at)) 0) (λ p. omega (arith, simp (length-take, length-drop) at p, b))

  -- it stood still: a bLength below 2, or one that runs past the body's end
  pub stuck-cases : {A : Type 0} → step.end ≤ at
      → (leb 2 (byte body at) ≡ false → cut (drop at body) ≡ broken → A)
      → ((d : List ℕ) → leb 2 (byte body at) ≡ true → cut (drop at body) ≡ descriptor d broken → is_whole d ≡ false → A) → A
  stuck-cases m f g = cases (leb 2 (byte body at))
      (λ q. cases (leb (byte body at) (length body - at))
      (λ r.
      let s : steps_on body at ≡ true = rw (q, r, lt-ltb at (length body) h) in
      let z : (step_of body at last).end ≡ at + byte body at = rw s in
      absurd (omega (arith, rw e at m, leb-true 2 (byte body at) q)))
      (λ r.
      let l = leb-true 2 (byte body at) q in
      let n = leb-false (byte body at) (length body - at) r in
      g (part body at (byte body at)) q (cut-long body at h l n) (cut_off l n)))
      (λ q. f q (cut_small body at h (leb-false 2 (byte body at) q)))

  module _ (m : at < step.end) where
    stepped : Moved body at last step
    stepped = rw e (moved body at last h (rw e at m))

    far : step.end ≡ at + byte body at
    far = cases (steps_on body at) (λ s. rw (e, s)) (λ s. let z : step.end ≡ at = rw (e, s) in absurd (omega arith))

    long : length (spanned body at step.end) ≡ step.end - at
    long = let i = stepped.inside in simp (length-take, length-drop) (omega arith)

    pub goes_on : Onward body at last step
    goes_on =
        let i = stepped.inside in
        let l = long in
        let b = first_byte body at (step.end - at) (omega arith) in
        let w = far in
        record {
          inside = i;
          cuts = stepped.cuts;
          stands = stepped.stands;
          complete = eq-eqb (length (spanned body at step.end)) (byte (spanned body at step.end) 0) (omega (arith, l, b, w));
          ends = omega (arith, l);
        }

-- what the code's walk has to know: a step that moves on ends inside the body
pub walk_inside : {body : List ℕ} {at last : ℕ} {step : Step} → Goes body at last step → at < length body → step.end ≤ length body
walk_inside {body} {at} {last} {step} g h = (goes_on body at (stand_in last) (pace_of step) g.steps.steps h g.onward).inside

-- ---- the rules of the descriptors after the first
module _ (limits : Limits) (start n : ℕ) (body : List ℕ) (at head : ℕ) (w : Progress) (last : Stand) (f : Option Fault) where
  rest-small : after f (rest_findings limits start n at head w last broken) ≡ or_broken f (asked 403 (byte_at start at 0) false)
  unfolding rest_findings after
  rest-small = refl

  rest-long : (d : List ℕ) → is_whole d ≡ false → after f (rest_findings limits start n at head w last (descriptor d broken)) ≡ or_broken f (asked 404 (byte_at start at 0) false)
  unfolding rest_findings
  rest-long d p = breaks f (asked 404 (byte_at start at 0) (is_whole d)) _ p ∙ ap (λ b. or_broken f (asked 404 (byte_at start at 0) b)) p

  rest-turn : (d : List ℕ) (ds : Cutting)
      → after f (rest_findings limits start n at head w last (descriptor d ds))
      ≡ after (after f (descriptor_findings limits start at head w last (stand_of last d) d))
      (rest_findings limits start n (at + length d) (pick (is_interface d) at head) (onward w last (stand_of last d) d) (stand_of last d) ds)
  unfolding rest_findings
  rest-turn d ds = after-append f (descriptor_findings limits start at head w last (stand_of last d) d) _

  rest-whole : after f (rest_findings limits start n at head w last whole) ≡ after f (end_findings start n head w last)
  unfolding rest_findings
  rest-whole = refl

  pub rest_end : length body ≤ at → after f (rest_findings limits start n at head w last (cut (drop at body))) ≡ after f (end_findings start n head w last)
  rest_end h = ap (λ cs. after f (rest_findings limits start n at head w last cs)) (cut-end body at h) ∙ rest-whole

  module _ (step : Pace) (e : step ≡ step_of body at last) (h : at < length body) where
    pub rest-stuck : step.end ≤ at
        → after f (rest_findings limits start n at head w last (cut (drop at body))) ≡ or_broken f (asked (pick (leb 2 (byte body at)) 404 403) (byte_at start at 0) false)
    rest-stuck m = stuck-cases body at last step e h m
        (λ q c. ap (λ cs. after f (rest_findings limits start n at head w last cs)) c ∙ rest-small ∙ rw q)
        (λ d q c p. ap (λ cs. after f (rest_findings limits start n at head w last cs)) c ∙ rest-long d p ∙ rw q)

    pub rest-on : at < step.end → {g : Option Fault} {v : Progress} {k : ℕ}
        → g ≡ after f (descriptor_findings limits start at head w last step.stand (spanned body at step.end))
        → v ≡ onward w last step.stand (spanned body at step.end) → k ≡ pick (is_interface (spanned body at step.end)) at head
        → after f (rest_findings limits start n at head w last (cut (drop at body))) ≡ after g (rest_findings limits start n step.end k v step.stand (cut (drop step.end body)))
    rest-on m p q r =
        let o = goes_on body at last step e h m in
        ap (λ cs. after f (rest_findings limits start n at head w last cs)) o.cuts ∙ rest-turn _ _ ∙ rw (p, q, r, o.stands, o.ends)

-- ---- a body
module _ (limits : Limits) (start : ℕ) (body : List ℕ) where
  pub body-none : length body ≡ 0 → body_findings limits start body ≡ (asked 405 (byte_at start 0 0) false ∷ [])
  body-none p = ap (cut_findings limits (length body) start) (cut-end body 0 (omega arith))

  module _ (f : Option Fault) (step : Pace) (e : step ≡ step_of body 0 before) (h : 0 < length body) where
    body-small : leb 2 (byte body 0) ≡ false → after f (cut_findings limits (length body) start broken) ≡ or_broken f (asked (pick (leb 2 (byte body 0)) 404 403) (byte_at start 0 0) false)
    unfolding after
    body-small q = rw q

    body-long : (d : List ℕ) → leb 2 (byte body 0) ≡ true → is_whole d ≡ false
        → after f (cut_findings limits (length body) start (descriptor d broken)) ≡ or_broken f (asked (pick (leb 2 (byte body 0)) 404 403) (byte_at start 0 0) false)
    body-long d q p =
        breaks f (asked 404 (byte_at start 0 0) (is_whole d)) _ p ∙ ap (λ b. or_broken f (asked 404 (byte_at start 0 0) b)) p ∙ rw q

    pub body-stuck : step.end ≤ 0 → after f (body_findings limits start body) ≡ or_broken f (asked (pick (leb 2 (byte body 0)) 404 403) (byte_at start 0 0) false)
    body-stuck m = stuck-cases body 0 before step e h m
        (λ q c. ap (λ cs. after f (cut_findings limits (length body) start cs)) c ∙ body-small q)
        (λ d q c p. ap (λ cs. after f (cut_findings limits (length body) start cs)) c ∙ body-long d q p)

-- ---- the references of interface descriptors
module _ (set : List ℕ) (start : ℕ) (body : List ℕ) (at : ℕ) (f : Option Fault) where
  interfaces-whole : after f (interfaces_from set start at whole) ≡ f
  unfolding interfaces_from after
  interfaces-whole = refl

  interfaces-broken : after f (interfaces_from set start at broken) ≡ f
  unfolding interfaces_from after
  interfaces-broken = refl

  interfaces-long : (d : List ℕ) → is_whole d ≡ false → after f (interfaces_from set start at (descriptor d broken)) ≡ f
  unfolding interfaces_from after
  interfaces-long d p = rw p

  interfaces-turn : (d : List ℕ) (ds : Cutting) → is_whole d ≡ true
      → after f (interfaces_from set start at (descriptor d ds))
      ≡ after (after f (pick (is_interface d) (reference_findings set start at 8 (iInterface d)) [])) (interfaces_from set start (at + length d) ds)
  unfolding interfaces_from
  interfaces-turn d ds p = rw p (after-append f (pick (is_interface d) (reference_findings set start at 8 (iInterface d)) []) _)

  pub interfaces-end : length body ≤ at → after f (interfaces_from set start at (cut (drop at body))) ≡ f
  interfaces-end h = ap (λ cs. after f (interfaces_from set start at cs)) (cut-end body at h) ∙ interfaces-whole

  module _ (last : Stand) (step : Pace) (e : step ≡ step_of body at last) (h : at < length body) where
    pub interfaces-stuck : step.end ≤ at → after f (interfaces_from set start at (cut (drop at body))) ≡ f
    interfaces-stuck m = stuck-cases body at last step e h m
        (λ q c. ap (λ cs. after f (interfaces_from set start at cs)) c ∙ interfaces-broken)
        (λ d q c p. ap (λ cs. after f (interfaces_from set start at cs)) c ∙ interfaces-long d p)

    pub interfaces-on : at < step.end → {g : Option Fault}
        → g ≡ after f (pick (is_interface (spanned body at step.end)) (reference_findings set start at 8 (iInterface (spanned body at step.end))) [])
        → after f (interfaces_from set start at (cut (drop at body))) ≡ after g (interfaces_from set start step.end (cut (drop step.end body)))
    interfaces-on m p =
        let o = goes_on body at last step e h m in
        ap (λ cs. after f (interfaces_from set start at cs)) o.cuts ∙ interfaces-turn _ _ o.complete ∙ rw (p, o.ends)

-- ---- companions
module _ (start : ℕ) (body : List ℕ) (at last : ℕ) (due : Bool) (f : Option Fault) where
  companions-whole : after f (companions_from start at last due whole) ≡ or_broken f (asked 438 (byte_at start last 0) (not due))
  unfolding companions_from after
  companions-whole = refl

  companions-broken : after f (companions_from start at last due broken) ≡ f
  unfolding companions_from after
  companions-broken = refl

  companions-long : (d : List ℕ) → is_whole d ≡ false → after f (companions_from start at last due (descriptor d broken)) ≡ f
  unfolding companions_from after
  companions-long d p = rw p

  companions-turn : (d : List ℕ) (ds : Cutting) → is_whole d ≡ true
      → after f (companions_from start at last due (descriptor d ds)) ≡ after (after f (companion_findings start at last due d)) (companions_from start (at + length d) at (is_endpoint d) ds)
  unfolding companions_from
  companions-turn d ds p = rw p (after-append f (companion_findings start at last due d) _)

  pub companions-end : length body ≤ at → after f (companions_from start at last due (cut (drop at body))) ≡ or_broken f (asked 438 (byte_at start last 0) (not due))
  companions-end h = ap (λ cs. after f (companions_from start at last due cs)) (cut-end body at h) ∙ companions-whole

  module _ (stand : Stand) (step : Pace) (e : step ≡ step_of body at stand) (h : at < length body) where
    pub companions-stuck : step.end ≤ at → after f (companions_from start at last due (cut (drop at body))) ≡ f
    companions-stuck m = stuck-cases body at stand step e h m
        (λ q c. ap (λ cs. after f (companions_from start at last due cs)) c ∙ companions-broken)
        (λ d q c p. ap (λ cs. after f (companions_from start at last due cs)) c ∙ companions-long d p)

    pub companions-on : at < step.end → {g : Option Fault} {next : Bool}
        → g ≡ after f (companion_findings start at last due (spanned body at step.end)) → next ≡ is_endpoint (spanned body at step.end)
        → after f (companions_from start at last due (cut (drop at body))) ≡ after g (companions_from start step.end at next (cut (drop step.end body)))
    companions-on m p q =
        let o = goes_on body at stand step e h m in
        ap (λ cs. after f (companions_from start at last due cs)) o.cuts ∙ companions-turn _ _ o.complete ∙ rw (p, q, o.ends)
