-- The check of a body, whole: what a walk with a few words of state says is that the configuration is good. No axiom.
use Rattle.octets.proofs.Vocabulary.{◌≡◌, refl, sym, ap, ◌∙◌, ℕ, ◌/◌, ◌%◌, ◌<◌, ◌≤◌, List, [], ◌∷◌, map, Bool, true, false, ◌&&◌, and-true, and-false, some, none, length, take, drop, eqb, leb, ltb, arith, sub-zero, le_refl, eqb-true, leb-true, le-ltb, ltb-true, ltb-false}
use Rattle.octets.specs.Octets.{byte}
use Rattle.octets.specs.Sentences.{pick, ◌⇒◌, every, pairs, is_empty}
use Rattle.octets.proofs.Sentences.{cases, conjunct}
use Rattle.descriptors.specs.declared.limits.Limits.{Limits}
use Rattle.descriptors.specs.declared.walk.Stand.{Stand}
use Rattle.descriptors.specs.Cut.{Cutting, whole, broken, descriptor, cut, descriptors_of, well_cut}
use Rattle.descriptors.specs.Descriptor.{bDescriptorType, is_endpoint, good_descriptor}
use Rattle.descriptors.specs.Interfaces.{grouped, setting_of, endpoints_of, good_settings, counted, apart, good_interfaces}
use Rattle.descriptors.specs.Companion.{good_companions}
use Rattle.descriptors.specs.Configuration.{bNumInterfaces, wTotalLength, configuration_attributes, bMaxPower, good_head, good_descriptors, good_configuration}
use Rattle.descriptors.specs.Walk.{Pace, before, stand_of, step_of, or_else, walked}
use Rattle.descriptors.specs.Check.{Progress, in_order, unshared, allowed, onward, accompanied, ended, beginning, Course, starting, passing, checking, accompanying}
use Rattle.descriptors.specs.Sequence.{unaccompanied}
use Rattle.descriptors.proofs.CheckOrder.{ordered, passed, order_same, from-beginning}
use Rattle.descriptors.proofs.CheckAddresses.{unshared_all, addresses-same}
use Rattle.descriptors.proofs.CheckCompanions.{after, after_one, companions-same}
use Rattle.descriptors.proofs.Walks.{Walking, holding, moved, stuck, cut-end}

-- ---- the walk, rule by rule
apart_by : (wellcut a b c e g o u v : Bool)
    → or_else (pick (a && b && c && e) none (some false)) (wellcut && (g && o && u && v)) ≡ (wellcut && ((a && g) && (b && o) && (c && u) && (e && v)))
apart_by x true true true true g o u v = refl
apart_by x true true true false g o u v = rw (and-false (g && o && u)) (sym (and-false x))
apart_by x true true false e g o u v = rw (and-false (g && o)) (sym (and-false x))
apart_by x true false c e g o u v = rw (and-false g) (sym (and-false x))
apart_by x false b c e g o u v = sym (and-false x)

rules : (limits : Limits) (n : ℕ) (c : Course) (last : Stand) (cs : Cutting)
    → walked (checking limits n) c last cs
    ≡ (well_cut cs && (every (good_descriptor limits) (descriptors_of cs) && ordered n c.progress last (descriptors_of cs) && unshared_all c.progress last (descriptors_of cs) && (limits.companions ⇒ after c.due (descriptors_of cs))))
unfolding walked well_cut descriptors_of every holding after
rules limits n c last whole = rw (and-true (ended n c.progress last))
rules limits n c last broken = refl
rules limits n c last (descriptor d ds) =
    let stand = stand_of last d in
    let w = c.progress in
    let w' = passed w last d in
    rw (rules limits n (passing limits c last stand d) stand ds, after_one limits.companions c.due d (descriptors_of ds))
    (apart_by (well_cut ds) (good_descriptor limits d) (in_order w last stand d) (unshared w last stand d) (limits.companions ⇒ accompanied c.due d)
    (every (good_descriptor limits) (descriptors_of ds)) (ordered n w' stand (descriptors_of ds)) (unshared_all w' stand (descriptors_of ds)) (limits.companions ⇒ after (pick limits.companions (is_endpoint d) c.due) (descriptors_of ds)))

-- ---- the rules, as sentences
regrouped : {unshared : Bool} (good set empty count apart : Bool) → (good ≡ true → set ≡ true → empty ≡ true → unshared ≡ apart)
    → (good && (set && (empty && count)) && unshared) ≡ (good && (((empty && set) && count) && apart))
regrouped true true true count a h = rw (h refl refl refl)
regrouped true true false count a h = refl
regrouped true false empty count a h = rw (and-false empty)
regrouped false set empty count a h = refl

pub rest-same : (limits : Limits) (n : ℕ) (cs : Cutting)
    → walked (checking limits n) starting before cs ≡ (well_cut cs && ((every (good_descriptor limits) (descriptors_of cs) && good_interfaces n (grouped (descriptors_of cs))) && (limits.companions ⇒ after false (descriptors_of cs))))
rest-same limits n cs =
    let ds = descriptors_of cs in
    let gs = grouped ds in
    rules limits n starting before cs
    ∙ ap (λ (b : Bool). well_cut cs && (every (good_descriptor limits) ds && b && unshared_all beginning before ds && (limits.companions ⇒ after false ds))) (order_same n ds)
    ∙ ap (λ (b : Bool). well_cut cs && (b && (limits.companions ⇒ after false ds))) (regrouped (every (good_descriptor limits) ds) (good_settings n (map setting_of gs.groups)) (is_empty gs.loose) (every counted gs.groups) (pairs apart (endpoints_of gs.groups))
    (λ g s e. addresses-same limits n ds g e (from-beginning n (map setting_of gs.groups) ∙ s)))

-- ---- companions by themselves
companions-rules : (due : Bool) (last : Stand) (cs : Cutting) → walked accompanying due last cs ≡ (well_cut cs && after due (descriptors_of cs))
unfolding walked well_cut descriptors_of after
companions-rules due last whole = refl
companions-rules due last broken = refl
companions-rules due last (descriptor d ds) = rw (companions-rules (is_endpoint d) (stand_of last d) ds) (go (accompanied due d) (well_cut ds) (after (is_endpoint d) (descriptors_of ds)))
  where
    go : (a b c : Bool) → or_else (pick a none (some false)) (b && c) ≡ (b && (a && c))
    go true b c = refl
    go false b c = sym (and-false b)

pub companions-apart : (limits : Limits) (n : ℕ) (cs : Cutting)
    → walked (checking limits n) starting before cs ≡ (walked (checking (unaccompanied limits) n) starting before cs && (limits.companions ⇒ walked accompanying false before cs))
companions-apart limits n cs =
    let good = every (good_descriptor limits) (descriptors_of cs) && good_interfaces n (grouped (descriptors_of cs)) in
    rw (rest-same limits n cs, rest-same (unaccompanied limits) n cs, companions-rules false before cs) (go (well_cut cs) good limits.companions (after false (descriptors_of cs)))
  where
    go : (w x c a : Bool) → (w && (x && (c ⇒ a))) ≡ ((w && (x && true)) && (c ⇒ (w && a)))
    go true x c a = rw (and-true x)
    go false x c a = refl

pub companions-stuck : {body : List ℕ} {total due : Bool} {last : Stand} {at : ℕ} → Walking accompanying body total due last at
    → {step : Pace} → step ≡ step_of body at last → at < length body → step.end ≤ at → false ≡ total
companions-stuck {body} {total} {due} {last} {at} walking e h m =
    sym (walking.rest ∙ companions-rules due last (cut (drop at body)) ∙ rw (stuck body at last h (rw e at m)))

-- ---- a turn of the loop: what is asked of one descriptor, and what is known after it
pub unasked : {a : Bool} (b : Bool) → a ≡ false → (a ⇒ b) ≡ true
unasked b p = rw p

module _ (limits : Limits) (n : ℕ) (c : Course) (last stand : Stand) (d : List ℕ) where
  pub pass_on : allowed limits c.progress last stand d ≡ true → (limits.companions ⇒ accompanied c.due d) ≡ true → (checking limits n).stop c last stand d ≡ none
  pass_on p q = rw (p, q)

  pub pass-none : allowed limits c.progress last stand d ≡ false → (checking limits n).stop c last stand d ≡ some false
  pass-none p = rw p

  pub passed-without : (progress : Progress) → progress ≡ onward c.progress last stand d → limits.companions ≡ false → record { progress = progress; due = c.due } ≡ passing limits c last stand d
  passed-without progress p q = rw (p, q)

-- ---- the loop: a body that is broken further on is no good one
pub check-stuck : (limits : Limits) (n : ℕ) {body : List ℕ} {total : Bool} {w : Course} {last : Stand} {at : ℕ} → Walking (checking limits n) body total w last at
    → {step : Pace} → step ≡ step_of body at last → at < length body → step.end ≤ at → false ≡ total
check-stuck limits n {body} {total} {w} {last} {at} walking e h m =
    sym (walking.rest ∙ rules limits n w last (cut (drop at body)) ∙ rw (stuck body at last h (rw e at m)))

-- ---- the first descriptor
past : (well head rest : Bool) (kinds interfaces companions behind : Bool) → (head ≡ true → companions ≡ behind) → rest ≡ (well && ((kinds && interfaces) && behind))
    → (well && (head && kinds && interfaces && companions)) ≡ (head && rest)
past well true rest k i c b h p = rw (h refl) (sym p)
past true false rest k i c b h p = refl
past false false rest k i c b h p = refl

-- the first is of type 2
headed : (size : ℕ) (d : List ℕ) → good_head size d ≡ true → bDescriptorType d ≡ 2
headed size d p =
    let rules = eqb (bDescriptorType d) 2 ∷ leb 9 (length d) ∷ eqb (wTotalLength d) size ∷ eqb (configuration_attributes d / 128) 1 ∷ eqb (configuration_attributes d % 32) 0 ∷ leb (bMaxPower d) 250 ∷ leb 1 (bNumInterfaces d) ∷ leb (bNumInterfaces d) 16 ∷ [] in
    eqb-true (bDescriptorType d) 2 (conjunct 0 rules p)

-- what a good head says of the call that walks
pub head-short : (size : ℕ) (d : List ℕ) → good_head size d ≡ true → ((k : ℕ) → byte d k < 256) → (size ≤ 65535) × (1 ≤ bNumInterfaces d) × (bNumInterfaces d ≤ 16)
head-short size d p f =
    let rules = eqb (bDescriptorType d) 2 ∷ leb 9 (length d) ∷ eqb (wTotalLength d) size ∷ eqb (configuration_attributes d / 128) 1 ∷ eqb (configuration_attributes d % 32) 0 ∷ leb (bMaxPower d) 250 ∷ leb 1 (bNumInterfaces d) ∷ leb (bNumInterfaces d) 16 ∷ [] in
    let t = eqb-true (wTotalLength d) size (conjunct 2 rules p) in
    (omega (arith, f 2, f 3), leb-true 1 (bNumInterfaces d) (conjunct 6 rules p), leb-true (bNumInterfaces d) 16 (conjunct 7 rules p))

module _ (body : List ℕ) (step : Pace) (e : step ≡ step_of body 0 before) where
  nothing : length body ≤ 0 → step.end ≡ 0
  nothing h = rw (e, le-ltb 0 (length body) h, and-false (leb 2 (byte body 0)))

  module _ (m : 0 < step.end) where
    some_bytes : 0 < length body
    some_bytes = cases (ltb 0 (length body)) (λ q. ltb-true 0 (length body) q) (λ q. let z = nothing (ltb-false 0 (length body) q) in absurd (omega arith))

    pub head-inside : step.end ≤ length body
    head-inside = rw e (moved body 0 before some_bytes (rw e at m)).inside

    pub check-first : cut body ≡ descriptor (take step.end body) (cut (drop step.end body))
    check-first = rw e (rw (sub-zero (step_of body 0 before).end) at (moved body 0 before some_bytes (rw e at m)).cuts)

module _ (limits : Limits) (body : List ℕ) (step : Pace) (e : step ≡ step_of body 0 before) where
  pub check-none : step.end ≡ 0 → false ≡ good_configuration limits body
  unfolding good_configuration good_descriptors well_cut descriptors_of
  check-none p = cases (ltb 0 (length body))
      (λ q. rw (stuck body 0 before (ltb-true 0 (length body) q) (rw (← e, p) (le_refl 0))))
      (λ q. rw (cut-end body 0 (ltb-false 0 (length body) q)))

  module _ (m : 0 < step.end) where
    pub check-head : good_configuration limits body
        ≡ (good_head (length body) (take step.end body) && walked (checking limits (bNumInterfaces (take step.end body))) starting before (cut (drop step.end body)))
    unfolding good_configuration good_descriptors well_cut descriptors_of
    check-head =
        let d = take step.end body in
        let cs = cut (drop step.end body) in
        let ds = descriptors_of cs in
        rw (check-first body step e m) (past (well_cut cs) (good_head (length body) d) _ (every (good_descriptor limits) ds) (good_interfaces (bNumInterfaces d) (grouped ds)) (limits.companions ⇒ good_companions (d ∷ ds)) (limits.companions ⇒ after false ds)
        (λ h. ap (λ (b : Bool). limits.companions ⇒ b) (companions-same d ds (headed (length body) d h))) (rest-same limits (bNumInterfaces d) cs))
