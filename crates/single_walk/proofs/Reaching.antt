-- The loop: beside what the check knows at a place, what a survey has seen there, and that what was found says the same. No axiom.
use Rattle.std.specs.Prelude.{Option, Some, None, is_some, IfSome}
use Rattle.octets.proofs.Vocabulary.{false≢true, ◌≡◌, refl, sym, ◌∙◌, ℕ, ◌+◌, ◌-◌, ◌≤◌, ◌<◌, List, [], ◌∷◌, Bool, true, false, ◌&&◌, length, drop, eqb, leb, ltb, arith, ne_eqb, le-leb, lt-leb, eqb-true, ltb-true, ltb-false, not-true}
use Rattle.octets.specs.Octets.{byte, word, Bytes}
use Rattle.octets.proofs.Sentences.{cases, both, conjunct}
use Rattle.descriptors.specs.declared.limits.Limits.{Limits}
use Rattle.descriptors.specs.declared.walk.Stand.{Stand}
use Rattle.descriptors.specs.declared.survey.Asked.{Asked}
use Rattle.descriptors.specs.declared.survey.Survey.{Survey}
use Rattle.descriptors.specs.Limits.{refused_types, named}
use Rattle.descriptors.specs.Descriptor.{bDescriptorType, is_interface, is_endpoint, bInterfaceNumber, bAlternateSetting}
use Rattle.descriptors.specs.Cut.{cut}
use Rattle.descriptors.specs.Walk.{before, stand_of, setting_after, Plain, Plains, walked}
use Rattle.descriptors.specs.Check.{Progress, at_endpoint, beginning}
use Rattle.descriptors.specs.Check.{onward as checked_on}
use Rattle.descriptors.specs.Sequence.{next_of, begins, listable}
use Rattle.descriptors.specs.Survey.{nothing_seen, surveying}
use Rattle.descriptors.specs.Survey.{onward as seen_on}
use Rattle.descriptors.proofs.Walks.{Walking, spanned, walk-on, walk_end}
use Rattle.descriptors.proofs.Plains.{plains-through, no-interface, no-endpoint}
use Rattle.descriptors.proofs.CheckOrder.{kinds}
use Rattle.descriptors.proofs.Surveying.{adds-nothing}
use Rattle.descriptors.proofs.Models.{models-ended}
use Rattle.descriptors.proofs.Reaching.{verdict_of, Reached, reached-begin, is-step, goes_on, reached-other, reached-endpoint, low, may-stand, reached-interface, reached-skip, refers-so, reached-end}
use Rattle.single_walk.specs.declared.course.Course.{Course}
use Rattle.single_walk.specs.declared.walk.Turned.{Turned}
use Rattle.single_walk.specs.declared.walk.Walked.{Walked}
use Rattle.single_walk.specs.Course.{wanted_of, setting_out, ListedBy, StartedBy, Turns, Ends, RestsOf, Rests}
use Rattle.single_walk.proofs.Finding.{Found, found-begin, found-interface, found-endpoint}

-- ---- what is known at a place: the check's state, which the order stands for, and what a survey has seen are no locals
abbrev survey_of : List ℕ → Asked → List ℕ → ℕ → Survey
survey_of alternates asked body from = walked (surveying alternates asked) nothing_seen before (cut (drop from body))

pub record Gathered (limits : Limits) (n : ℕ) (names alternates : List ℕ) (asked : Asked) (body : List ℕ) (from : ℕ) (c : Course) (at : ℕ) : Type 0 where
  pub w : Progress
  pub last : Stand
  pub s : Survey
  pub reached : Reached limits n names body from c.order c.refers w last at
  pub finds : Found alternates asked c.finds c.role s last
  pub gathers : at ≤ length body → Walking (surveying alternates asked) body (survey_of alternates asked body from) s last at

pub gathered-begin : {limits : Limits} {n : ℕ} {names : List ℕ} (alternates : List ℕ) (asked : Asked) {body : List ℕ} {from : ℕ} → from ≤ length body
    → Gathered limits n names alternates asked body from setting_out from
gathered-begin alternates asked l = record {
  w = beginning;
  last = before;
  s = nothing_seen;
  reached = reached-begin l;
  finds = found-begin alternates asked;
  gathers = λ _. record { rest = refl };
}

module _ {limits : Limits} {n : ℕ} {names alternates : List ℕ} {asked : Asked} {body : List ℕ} {from : ℕ} {c : Course} {at : ℕ}
    (alone : limits.companions ≡ false) (g : Gathered limits n names alternates asked body from c at)
    (h : at < length body) (two : 2 ≤ byte body at) (end : ℕ) (e : end ≡ at + byte body at) (l : end ≤ length body) where
  abbrev d : List ℕ
  d = spanned body at end

  abbrev stand : Stand
  stand = stand_of g.last (spanned body at end)

  seen_next : Walking (surveying alternates asked) body (survey_of alternates asked body from) (seen_on alternates asked g.s stand d) stand end
  seen_next =
      let k : at ≤ length body = omega arith in
      walk-on (g.gathers k) (is-step alone g.reached h two end e l) h (goes_on alone g.reached h two end e l) refl refl

  stands_on : is_interface d ≡ false → stand ≡ g.last
  stands_on i = rw i

  stands-new : is_interface d ≡ true → stand ≡ record { inside = true; interface = bInterfaceNumber d; alternate = bAlternateSetting d }
  stands-new i = rw i

  -- a descriptor that is neither an interface's nor an endpoint's
  module _ (i : is_interface d ≡ false) (k : is_endpoint d ≡ false) where
    other-gathers : Walking (surveying alternates asked) body (survey_of alternates asked body from) g.s g.last end
    other-gathers = rw (adds-nothing alternates asked g.s g.last (spanned body at end) i k) at (rw (stands_on i) at seen_next)

    gathered-other : named refused_types (bDescriptorType d) ≡ false → Gathered limits n names alternates asked body from c end
    gathered-other free = record {
      w = g.w;
      last = g.last;
      s = g.s;
      reached = reached-other alone g.reached h two end e l i k free;
      finds = g.finds;
      gathers = λ _. other-gathers;
    }

  module _ (high : Bool) (b2 : byte d 2 < 256) (b3 : byte d 3 < 256) where
    gathered-endpoint : is_interface d ≡ false → is_endpoint d ≡ true → listable limits c.order d ≡ true → (next : Course) → ListedBy (wanted_of high asked) c d next
        → Gathered limits n names alternates asked body from next end
    gathered-endpoint i k may next t = record {
      w = at_endpoint g.w d;
      last = g.last;
      s = seen_on alternates asked g.s g.last d;
      reached = rw (t.order, t.refers) (reached-endpoint alone g.reached h two end e l b2 b3 i k may);
      finds = rw (t.finds, t.role) (found-endpoint high g.finds d k b2 b3 c.order.last g.reached.models.inside);
      gathers = λ _. rw (stands_on i) at seen_next;
    }

    gathered-interface : is_interface d ≡ true → begins c.order (word d 2) d ≡ true → (next : Course) → StartedBy names alternates (wanted_of high asked) c (word d 2) d next
        → Gathered limits n names alternates asked body from next end
    gathered-interface i may next t = record {
      w = checked_on g.w g.last stand d;
      last = stand;
      s = seen_on alternates asked g.s stand d;
      reached = rw t.refers (reached-interface alone g.reached h two end e l b2 b3 i may next.order t.order);
      finds = rw (stands-new i) (found-interface high g.finds d i (low alone g.reached h two end e l b2 b3 i may) b3 (may-stand alone g.reached h two end e l b2 b3 i may) next.finds next.role t.finds t.role);
      gathers = λ _. seen_next;
    }

    -- any descriptor that may come
    pub gathered-turn : {setting : ℕ} {turned : Turned} → setting ≡ setting_after c.order.last d → Turns limits names alternates (wanted_of high asked) c setting d turned → turned.good ≡ true
        → Gathered limits n names alternates asked body from turned.course end
    gathered-turn {setting} {turned} told t good =
        let p = sym t.may ∙ good in
        kinds d
        (λ i k. let n : setting ≡ word d 2 = told ∙ rw i in gathered-interface i (rw (k, i, n) at p) turned.course (rw n at (t.starts i good)))
        (λ i k. gathered-endpoint i k (rw k at p) turned.course (t.lists k good))
        (λ i k. rw (t.passes i k) (gathered-other i k (not-true (named refused_types (bDescriptorType d)) (rw (k, i) at p))))

-- ---- descriptors that are stepped over, by their types alone: one, and behind it the others
pub gathered-behind : {limits : Limits} {n : ℕ} {names alternates : List ℕ} {asked : Asked} {body : List ℕ} {from : ℕ} {c : Course} {at : ℕ}
    → limits.companions ≡ false → Bytes body → Gathered limits n names alternates asked body from c at → Plain body at
    → {r : ℕ} → Plains body (at + byte body at) r → Gathered limits n names alternates asked body from c r
gathered-behind {limits} {n} {names} {alternates} {asked} {body} {from} {c} {at} alone bytes gathered first ds =
    plains-through (λ r. Gathered limits n names alternates asked body from c r) (λ r one g. over one g) ds (over first gathered)
  where
    over : {r : ℕ} → Plain body r → Gathered limits n names alternates asked body from c r → Gathered limits n names alternates asked body from c (r + byte body r)
    over {r} one g = record {
      w = g.w;
      last = g.last;
      s = g.s;
      reached = reached-skip alone bytes one g.reached;
      finds = g.finds;
      gathers = λ m. other-gathers alone g (omega (arith, one.inside)) one.two _ refl m (no-interface body r one) (no-endpoint body r one);
    }

-- ---- the end
-- a body that is not good has nothing found in it
nothing-of : (P : Walked → Type 0) (v : Option Walked) → is_some v ≡ false → IfSome v P
nothing-of P None p = tt
nothing-of P (Some w) p = absurd (false≢true (sym p))

-- the walk was broken off, and its place put one byte before the body's end
pub rests-stopped : {limits : Limits} {names alternates : List ℕ} {asked : Asked} {body : List ℕ} {n from : ℕ} {v : Option Walked} (c : Course) (at : ℕ) → 1 ≤ length body → at ≡ length body - 1
    → Ends c (eqb at (length body)) n v → verdict_of limits n body from ≡ false → Rests limits names alternates asked body n from v
rests-stopped {body = body} {v = v} c at some_bytes e p t =
    let q : is_some v ≡ false = p.good ∙ rw (ne_eqb at (length body) (λ x. omega arith)) in
    record { good = q ∙ sym t; on = nothing-of _ v q }

module _ {limits : Limits} {n : ℕ} {names alternates : List ℕ} {asked : Asked} {body : List ℕ} {from : ℕ} {c : Course} {at : ℕ}
    (alone : limits.companions ≡ false) (g : Gathered limits n names alternates asked body from c at) where
  abbrev follows : Bool
  follows = eqb (next_of c.order.last) n

  abbrev over : Bool
  over = eqb c.order.coming 0

  -- the walk went on to the end
  pub rests-end : (v : Option Walked) → 1 ≤ n → length body ≤ at + 1 → Ends c (eqb at (length body)) n v → Rests limits names alternates asked body n from v
  rests-end v one b e = record { good = e.good ∙ reached-end alone g.reached one b; on = rests v e.good e.on }
    where
      at-end : (eqb at (length body) && follows && over) ≡ true → eqb at (length body) ≡ true
      at-end t = conjunct 0 (eqb at (length body) ∷ follows ∷ over ∷ []) t

      seen_all : at ≡ length body → g.s ≡ survey_of alternates asked body from
      seen_all x = walk_end (g.gathers (omega arith)) (omega arith)

      -- every interface below n was begun
      known : (eqb at (length body) && follows && over) ≡ true → (k : ℕ) → (g.last.inside && leb k g.last.interface) ≡ ltb k n
      known t k =
          let r : (follows && over) ≡ true = rw (at-end t) at t in
          let (x, _) = both (g.last.inside && eqb (g.last.interface + 1) n) (eqb g.w.coming 0) (sym (models-ended g.reached.models n one) ∙ r) in
          let (y, z) = both g.last.inside (eqb (g.last.interface + 1) n) x in
          let q = eqb-true (g.last.interface + 1) n z in
          rw y (cases (ltb k n)
          (λ u. let v = ltb-true k n u in rw u (le-leb k g.last.interface (omega arith)))
          (λ u. let v = ltb-false k n u in rw u (lt-leb k g.last.interface (omega arith))))

      rests : (v : Option Walked) → is_some v ≡ (eqb at (length body) && follows && over) → IfSome v (λ w. (w.refers ≡ c.refers) × (w.finds ≡ c.finds)) → IfSome v (RestsOf names alternates asked body n from)
      rests None p q = tt
      rests (Some w) p q =
          let here : at ≡ length body = eqb-true at (length body) (at-end (sym p)) in
          record {
            refers = q.0 ∙ sym (refers-so alone g.reached here);
            tells = rw (q.1, ← seen_all here) g.finds.tells;
            exists = λ k h. rw (← seen_all here) (g.finds.exists k h) ∙ known (sym p) k;
          }
