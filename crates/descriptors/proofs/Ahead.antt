-- What a walk over a well-cut body has still ahead of it: the descriptors from a place on, and the settings and endpoints that they are
-- made of, each where it stands. No axiom.
use Rattle.octets.proofs.Vocabulary.{◌≡◌, refl, sym, ap, ◌∙◌, ℕ, ◌≤◌, ◌<◌, List, [], ◌∷◌, ◌++◌, map, Bool, true, false, ◌&&◌, length, drop, eqb, arith, lt_of_not-le, eqb-true}
use Rattle.octets.specs.Octets.{byte}
use Rattle.octets.specs.Sentences.{pick, any, only}
use Rattle.octets.proofs.Sentences.{cases, never, any-map, any-only}
use Rattle.descriptors.specs.declared.Setting.{Setting}
use Rattle.descriptors.specs.declared.Endpoint.{Endpoint}
use Rattle.descriptors.specs.declared.walk.Stand.{Stand}
use Rattle.descriptors.specs.declared.walk.Step.{Step}
use Rattle.descriptors.specs.Cut.{Cutting, whole, descriptor, cut, cut_after, descriptors_of, well_cut}
use Rattle.descriptors.specs.Descriptor.{is_interface, is_endpoint}
use Rattle.descriptors.specs.Interfaces.{grouped, begun_by, setting_of, endpoint_of, endpoints_of}
use Rattle.descriptors.specs.Configuration.{behind, groups_of, configuration_of}
use Rattle.descriptors.specs.Walk.{Pace, setting_at, before, stand_of, stand_in, steps_on, step_of, pace_of, Steps}
use Rattle.descriptors.specs.Lookup.{lists, listed}
use Rattle.descriptors.proofs.Walks.{spanned, moved, stuck, well-on, cut-end}

-- ---- the descriptors ahead
abbrev pub ahead : List ℕ → ℕ → List (List ℕ)
ahead body at = descriptors_of (cut (drop at body))

-- a place where a descriptor begins, or the body's end
pub record Place (body : List ℕ) (at : ℕ) : Type 0 where
  pub inside : at ≤ length body
  pub well : well_cut (cut (drop at body)) ≡ true

-- one step on from a place
pub record Turn (body : List ℕ) (at : ℕ) (stand : Stand) (step : Pace) : Type 0 where
  pub on : at < step.end
  pub place : Place body step.end
  pub next : ahead body at ≡ spanned body at step.end ∷ ahead body step.end
  pub stands : step.stand ≡ stand_of stand (spanned body at step.end)

descriptors-step : (d : List ℕ) (ds : Cutting) → descriptors_of (descriptor d ds) ≡ d ∷ descriptors_of ds
unfolding descriptors_of
descriptors-step d ds = refl

descriptors-end : descriptors_of whole ≡ []
unfolding descriptors_of
descriptors-end = refl

-- a walk that moved on stepped over the next descriptor, also of a body that is broken further on
module _ (body : List ℕ) (at : ℕ) (stand : Stand) (h : at < length body) where
  pub ahead_step : (step : Pace) → step ≡ step_of body at stand → at < step.end → ahead body at ≡ spanned body at step.end ∷ ahead body step.end
  ahead_step step e m = rw e (ap descriptors_of (moved body at stand h (rw e at m)).cuts ∙ descriptors-step _ _)

-- a descriptor in a well-cut body is whole
pub steps : (body : List ℕ) (at : ℕ) → Place body at → at < length body → steps_on body at ≡ true
steps body at p h =
    cases (steps_on body at) (λ q. q) (λ q. let e : (step_of body at before).end ≡ at = rw q in never p.well (stuck body at before h (omega arith)))

module _ (body : List ℕ) (at : ℕ) (stand : Stand) (p : Place body at) (h : at < length body) where
  moves : at < (step_of body at stand).end
  moves = lt_of_not-le (λ m. never p.well (stuck body at stand h m))

  turned : Turn body at stand (step_of body at stand)
  turned =
      let m = moved body at stand h moves in
      record {
        on = moves;
        place = record { inside = m.inside; well = sym (well-on body at stand h moves) ∙ p.well };
        next = ahead_step body at stand h (step_of body at stand) refl moves;
        stands = m.stands;
      }

  pub turn : (step : Pace) → step ≡ step_of body at stand → Turn body at stand step
  turn step e = rw e turned

-- by a step as the code takes it
pub turned_by : {body : List ℕ} {at last : ℕ} {step : Step} → Place body at → at < length body → Steps body at last step → Turn body at (stand_in last) (pace_of step)
turned_by p h s = turn _ _ _ p h _ s.steps

module _ (body : List ℕ) where
  pub ahead-end : (at : ℕ) → length body ≤ at → ahead body at ≡ []
  ahead-end at h = ap descriptors_of (cut-end body at h) ∙ descriptors-end

-- the walk begins behind the body's first descriptor
pub record Begun (body : List ℕ) (at : ℕ) : Type 0 where
  pub place : Place body at
  pub all : ahead body at ≡ behind (descriptors_of (cut body))

pub at_first : (body : List ℕ) (at : ℕ) → well_cut (cut body) ≡ true → at ≡ byte body 0 → Begun body at
unfolding descriptors_of cut_after
at_first [] at w e = rw e (record { place = record { inside = omega arith; well = w }; all = refl })
at_first (b ∷ bs) at w e =
    let body = b ∷ bs in
    let h : 0 < length body = omega arith in
    let p : Place body 0 = record { inside = omega arith; well = w } in
    let t = turned body 0 before p h in
    let q : at ≡ (step_of body 0 before).end = rw (steps body 0 p h, e) (omega arith) in
    rw q (record { place = t.place; all = sym (ap behind t.next) })

-- ---- the settings: those of the interface descriptors
pub heads : (ds : List (List ℕ)) → map (λ g. g.head) (grouped ds).groups ≡ only is_interface ds
unfolding grouped only
heads [] = refl
heads (d ∷ ds) = go (is_interface d) (is_endpoint d) refl refl (heads ds)
  where
    go : (b c : Bool) → is_interface d ≡ b → is_endpoint d ≡ c → map (λ g. g.head) (grouped ds).groups ≡ only is_interface ds
        → map (λ g. g.head) (grouped (d ∷ ds)).groups ≡ only is_interface (d ∷ ds)
    go true c p q rest = rw p (ap (◌∷◌ d) rest)
    go false true p q rest = rw (p, q) rest
    go false false p q rest = rw (p, q) rest

any-setting : (t : Setting → Bool) (body : List ℕ)
    → any t (configuration_of body).settings ≡ any (λ d. is_interface d && t (begun_by d)) (behind (descriptors_of (cut body)))
unfolding configuration_of groups_of
any-setting t body =
    let ds = behind (descriptors_of (cut body)) in
    any-map t setting_of (grouped ds).groups ∙ sym (any-map (λ d. t (begun_by d)) (λ g. g.head) (grouped ds).groups) ∙
    ap (any (λ d. t (begun_by d))) (heads ds) ∙ any-only (λ d. t (begun_by d)) is_interface ds

pub settings-begin : (t : Setting → Bool) {body : List ℕ} {at : ℕ} → Begun body at
    → any t (configuration_of body).settings ≡ any (λ d. is_interface d && t (begun_by d)) (ahead body at)
settings-begin t {body} b = any-setting t body ∙ sym (ap (any (λ d. is_interface d && t (begun_by d))) b.all)

-- ---- the endpoints: those that the descriptors list, each where it stands
unfoldable pub endpoints_under : Stand → List (List ℕ) → List Endpoint
endpoints_under stand [] = []
endpoints_under stand (d ∷ ds) =
    let rest = endpoints_under (stand_of stand d) ds in
    pick (lists (stand_of stand d) d) (listed (stand_of stand d) d ∷ rest) rest

pub not-both : (d : List ℕ) → is_interface d ≡ true → is_endpoint d ≡ false
not-both d p = ap (λ (n : ℕ). eqb n 5) (eqb-true (byte d 1) 4 p)

under : (stand : Stand) (ds : List (List ℕ))
    → endpoints_under stand ds ≡ pick stand.inside (map (endpoint_of (setting_at stand)) (grouped ds).loose) [] ++ endpoints_of (grouped ds).groups
unfolding endpoints_under grouped endpoints_of
under stand [] = none-loose stand.inside
  where
    none-loose : (i : Bool) → ◌≡◌ {A = List Endpoint} [] (pick i [] [] ++ [])
    none-loose true = refl
    none-loose false = refl
under stand (d ∷ ds) = go (is_interface d) (is_endpoint d) stand.inside refl refl refl (under (stand_of stand d) ds)
  where
    go : (b c i : Bool) → is_interface d ≡ b → is_endpoint d ≡ c → stand.inside ≡ i
        → endpoints_under (stand_of stand d) ds ≡ pick (stand_of stand d).inside (map (endpoint_of (setting_at (stand_of stand d))) (grouped ds).loose) [] ++ endpoints_of (grouped ds).groups
        → endpoints_under stand (d ∷ ds) ≡ pick stand.inside (map (endpoint_of (setting_at stand)) (grouped (d ∷ ds)).loose) [] ++ endpoints_of (grouped (d ∷ ds)).groups
    go true c true p q r rest = rw (p, not-both d p, r) (rw p at rest)
    go true c false p q r rest = rw (p, not-both d p, r) (rw p at rest)
    go false true true p q r rest = rw (p, q, r) (ap (◌∷◌ (listed stand d)) (rw (p, r) at rest))
    go false true false p q r rest = rw (p, q, r) (rw (p, r) at rest)
    go false false true p q r rest = rw (p, q, r) (rw (p, r) at rest)
    go false false false p q r rest = rw (p, q, r) (rw (p, r) at rest)

pub endpoints-begin : {body : List ℕ} {at : ℕ} → Begun body at → (configuration_of body).endpoints ≡ endpoints_under before (ahead body at)
unfolding configuration_of groups_of
endpoints-begin {body} b = sym (ap (endpoints_under before) b.all ∙ under before (behind (descriptors_of (cut body))))
