-- A survey of a body: what each descriptor adds to it, and what it tells once the walk is over. No axiom.
use Rattle.std.specs.Prelude.{Option, Some, None}
use Rattle.octets.proofs.Vocabulary.{◌≡◌, refl, sym, ap, ◌∙◌, ℕ, ◌+◌, ◌<◌, List, ◌∷◌, Bool, true, false, ◌&&◌, ◌||◌, or_assoc, or-false, and-true, and-false, Option as Maybe, some, length, get_or, drop, eqb, ltb, arith, add-sub_cancel_left, eqb-true, ne_eqb, ltb-false}
use Rattle.octets.specs.Bit.{bit}
use Rattle.octets.specs.Octets.{byte}
use Rattle.octets.specs.Sentences.{pick, any, only, first}
use Rattle.octets.proofs.Sentences.{cases, first-only, only-only}
use Rattle.octets.proofs.Bits.{bit-zero}
use Rattle.octets.proofs.Words.{set-digit}
use Rattle.descriptors.specs.declared.Setting.{Setting}
use Rattle.descriptors.specs.declared.Endpoint.{Endpoint}
use Rattle.descriptors.specs.declared.walk.Stand.{Stand}
use Rattle.descriptors.specs.declared.survey.Asked.{Asked}
use Rattle.descriptors.specs.declared.survey.Survey.{Survey}
use Rattle.descriptors.specs.Cut.{Cutting, cut, descriptors_of}
use Rattle.descriptors.specs.Descriptor.{bDescriptorType, is_interface, is_endpoint}
use Rattle.descriptors.specs.Interfaces.{begun_by}
use Rattle.descriptors.specs.Configuration.{configuration_of, is_current, can_halt}
use Rattle.descriptors.specs.Walk.{Pace, before, stand_of, step_of, Plain, Plains, walked}
use Rattle.descriptors.specs.Lookup.{found, begins_one, lists, listed, lists_one, with_bit, bits_from, bits_of}
use Rattle.descriptors.specs.Survey.{is_setting, current_at, current_halting, changing, noting, earlier, found_here, nothing_seen, onward, at_current, at_other, surveying, Surveys}
use Rattle.descriptors.proofs.Walks.{spanned, Walking, walk-on, gathers}
use Rattle.descriptors.proofs.Ahead.{Place, steps, turn, Begun, settings-begin, endpoints_under, endpoints-begin}
use Rattle.descriptors.proofs.Plains.{plains-through, no-interface, no-endpoint}

-- ---- the words of interfaces
noting-digit : (w n k : ℕ) → k < 32 → bit (noting w n) k ≡ (bit w k || eqb n k)
noting-digit w n k h = cases (ltb n 32)
    (λ p. rw p (set-digit w n k))
    (λ p. let l = ltb-false n 32 p in rw (p, ne_eqb n k (λ e. omega arith)) (sym (or-false (bit w k))))

-- the current setting of interface k is begun where a current setting of interface k is begun
current-digit : (alternates : List ℕ) (w n a k : ℕ) → k < 32 → bit (pick (eqb a (get_or alternates n 0)) (noting w n) w) k ≡ (bit w k || (eqb n k && eqb a (get_or alternates k 0)))
current-digit alternates w n a k h = cases (eqb n k)
    (λ p. rw (eqb-true n k p) (same (eqb a (get_or alternates k 0))))
    (λ p. rw p (other p (eqb a (get_or alternates n 0))))
  where
    same : (b : Bool) → bit (pick b (noting w k) w) k ≡ (bit w k || (eqb k k && b))
    same true = noting-digit w k k h ∙ rw (and-true (eqb k k))
    same false = rw (and-false (eqb k k)) (sym (or-false (bit w k)))

    other : eqb n k ≡ false → (b : Bool) → bit (pick b (noting w n) w) k ≡ (bit w k || false)
    other p true = rw p at (noting-digit w n k h)
    other p false = sym (or-false (bit w k))

-- whether a descriptor begins a setting for which a test holds
abbrev opens : (Setting → Bool) → List ℕ → Bool
opens t d = is_interface d && t (begun_by d)

opens-here : (t : Setting → Bool) (stand : Stand) (d : List ℕ) → begins_one t (stand_of stand d) d ≡ opens t d
opens-here t stand d = cases (is_interface d) (λ p. rw p) (λ p. rw p)

-- ---- endpoints ahead: an endpoint is put before the others, if it is listed
abbrev before-others : Bool → Endpoint → List Endpoint → List Endpoint
before-others b e es = pick b (e ∷ es) es

pub only_step : (t : Endpoint → Bool) (b : Bool) (e : Endpoint) (es : List Endpoint) → only t (before-others b e es) ≡ before-others (b && t e) e (only t es)
unfolding only
only_step t true e es = refl
only_step t false e es = refl

bits-step : (bits : ℕ) (b : Bool) (d : List ℕ) (stand : Stand) (es : List Endpoint) → bits_from bits (before-others b (listed stand d) es) ≡ bits_from (with_bit bits b d) es
unfolding bits_from
bits-step bits true d stand es = refl
bits-step bits false d stand es = refl

first_step : (t : Endpoint → Bool) (b : Bool) (e : Endpoint) (es : List Endpoint) → first t (before-others b e es) ≡ pick (b && t e) (some e) (first t es)
unfolding first
first_step t true e es = refl
first_step t false e es = refl

pub earlier-none : (f : Option Endpoint) → earlier f None ≡ f
earlier-none (Some e) = refl
earlier-none None = refl

earlier_step : (f : Option Endpoint) (b : Bool) (stand : Stand) (d : List ℕ) (o : Maybe Endpoint)
    → earlier f (found (pick b (some (listed stand d)) o)) ≡ earlier (earlier f (found_here b stand d)) (found o)
earlier_step (Some x) b stand d o = refl
earlier_step None true stand d o = refl
earlier_step None false stand d o = refl

-- what an endpoint descriptor adds: one of a current setting, of another, and one before the first interface
module _ (alternates : List ℕ) (asked : Asked) (s : Survey) (stand : Stand) (d : List ℕ) (p : is_endpoint d ≡ true) where
  -- of the asked interface it lists an endpoint of either setting if its own is current, or the asked one
  either-setting : changing alternates asked (listed stand d)
      ≡ (eqb stand.interface asked.interface && (is_current alternates (listed stand d) || eqb stand.alternate asked.alternate))
  either-setting = cases (eqb stand.interface asked.interface)
      (λ q. rw (q, eqb-true stand.interface asked.interface q))
      (λ q. rw q)

  pub current-adds : stand.inside ≡ true → is_current alternates (listed stand d) ≡ true → at_current asked s stand d ≡ onward alternates asked s stand d
  current-adds i c = rw (eqb-true (bDescriptorType d) 5 p, i, or-false s.there, either-setting, c, and-true (eqb stand.interface asked.interface))

  pub other-adds : stand.inside ≡ true → is_current alternates (listed stand d) ≡ false → at_other asked s stand d ≡ onward alternates asked s stand d
  other-adds i c = rw (eqb-true (bDescriptorType d) 5 p, i, or-false s.there, either-setting, c, earlier-none s.endpoint)

  pub outside-adds : stand.inside ≡ false → s ≡ onward alternates asked s stand d
  outside-adds i = rw (eqb-true (bDescriptorType d) 5 p, i, or-false s.there, earlier-none s.endpoint)

-- ---- what the walk gathers, part by part
module _ (alternates : List ℕ) (asked : Asked) where
  abbrev after : Survey → Stand → List ℕ → Survey
  after s last d = onward alternates asked s (stand_of last d) d

  abbrev seen : Survey → Stand → Cutting → Survey
  seen = walked (surveying alternates asked)

  -- whether a setting was begun
  tells-any : (t : Setting → Bool) (q : Survey → Bool) → ((s : Survey) (stand : Stand) (d : List ℕ) → q (after s stand d) ≡ (q s || opens t d))
      → (s : Survey) (last : Stand) (cs : Cutting) → q (seen s last cs) ≡ (q s || any (opens t) (descriptors_of cs))
  unfolding any
  tells-any t q adds = gathers (onward alternates asked) q (λ b stand ds. b || any (opens t) ds) (λ b stand. or-false b)
      (λ s stand d ds. rw (adds s stand d) (sym (or_assoc (q s) (opens t d) (any (opens t) ds))))

  -- the bits of endpoints
  tells-bits : (t : Endpoint → Bool) (q : Survey → ℕ)
      → ((s : Survey) (stand : Stand) (d : List ℕ) → q (after s stand d) ≡ with_bit (q s) (lists_one t (stand_of stand d) d) d)
      → (s : Survey) (last : Stand) (cs : Cutting) → q (seen s last cs) ≡ bits_from (q s) (only t (endpoints_under last (descriptors_of cs)))
  unfolding endpoints_under only bits_from
  tells-bits t q adds = gathers (onward alternates asked) q (λ bits stand ds. bits_from bits (only t (endpoints_under stand ds))) (λ bits stand. refl)
      (λ s stand d ds.
      let here = stand_of stand d in
      let es = endpoints_under here ds in
      ap (bits_from (q s)) (only_step t (lists here d) (listed here d) es) ∙ bits-step (q s) (lists_one t here d) d here (only t es) ∙ rw (adds s stand d))

  -- the first of some endpoints
  tells_first : (t : Endpoint → Bool) (q : Survey → Option Endpoint)
      → ((s : Survey) (stand : Stand) (d : List ℕ) → q (after s stand d) ≡ earlier (q s) (found_here (lists_one t (stand_of stand d) d) (stand_of stand d) d))
      → (s : Survey) (last : Stand) (cs : Cutting) → q (seen s last cs) ≡ earlier (q s) (found (first t (endpoints_under last (descriptors_of cs))))
  unfolding endpoints_under first
  tells_first t q adds = gathers (onward alternates asked) q (λ f stand ds. earlier f (found (first t (endpoints_under stand ds)))) (λ f stand. earlier-none f)
      (λ s stand d ds.
      let here = stand_of stand d in
      let es = endpoints_under here ds in
      ap (λ (o : Maybe Endpoint). earlier (q s) (found o)) (first_step t (lists here d) (listed here d) es) ∙
      earlier_step (q s) (lists_one t here d) here d (first t es) ∙ rw (adds s stand d))

  -- ---- what a descriptor adds to the words of interfaces
  exists-on : (k : ℕ) → k < 32 → (s : Survey) (stand : Stand) (d : List ℕ) → bit (after s stand d).existing k ≡ (bit s.existing k || opens (λ t. eqb t.interface k) d)
  exists-on k h s stand d = cases (is_interface d)
      (λ p. rw p (noting-digit s.existing (begun_by d).interface k h))
      (λ p. rw p (sym (or-false (bit s.existing k))))

  stands_on : (k : ℕ) → k < 32 → (s : Survey) (stand : Stand) (d : List ℕ)
      → bit (after s stand d).current k ≡ (bit s.current k || opens (is_setting k (get_or alternates k 0)) d)
  stands_on k h s stand d = cases (is_interface d)
      (λ p. rw p (current-digit alternates s.current (begun_by d).interface (begun_by d).alternate k h))
      (λ p. rw p (sym (or-false (bit s.current k))))

  -- ---- the whole: from nothing seen, over all descriptors behind the first
  pub surveys : {body : List ℕ} {at : ℕ} {s : Survey} → Begun body at → s ≡ seen nothing_seen before (cut (drop at body))
      → Surveys (configuration_of body) alternates asked s
  surveys {body} {at} b e =
      let cs = cut (drop at body) in
      rw e (record {
        interfaces = record {
          exists = λ k h. settings-begin (λ t. eqb t.interface k) b ∙ sym (tells-any (λ t. eqb t.interface k) (λ s. bit s.existing k) (exists-on k h) nothing_seen before cs ∙ rw (bit-zero k));
          stands = λ k h. settings-begin (is_setting k (get_or alternates k 0)) b ∙ sym (tells-any (is_setting k (get_or alternates k 0)) (λ s. bit s.current k) (stands_on k h) nothing_seen before cs ∙ rw (bit-zero k));
        };
        halts = tells-bits (current_halting alternates) (λ s. s.halting) (λ s stand d. refl) nothing_seen before cs
            ∙ sym (ap bits_of (only-only can_halt _ _ ∙ ap (only (current_halting alternates)) (endpoints-begin b)));
        asked = tells_first (current_at alternates asked.address) (λ s. s.endpoint) (λ s stand d. refl) nothing_seen before cs
            ∙ sym (ap found (first-only (λ e. eqb e.address asked.address) _ _ ∙ ap (first (current_at alternates asked.address)) (endpoints-begin b)));
        there = tells-any (is_setting asked.interface asked.alternate) (λ s. s.there) (λ s stand d. rw (opens-here (is_setting asked.interface asked.alternate) stand d)) nothing_seen before cs
            ∙ sym (settings-begin (is_setting asked.interface asked.alternate) b);
        bits = tells-bits (changing alternates asked) (λ s. s.bits) (λ s stand d. refl) nothing_seen before cs
            ∙ sym (ap bits_of (ap (only (changing alternates asked)) (endpoints-begin b)));
      })

-- a survey of zeros is one of nothing
pub nothing-yet : {s : Survey} → (s.existing ≡ 0) × ((s.current ≡ 0) × ((s.halting ≡ 0) × ((s.endpoint ≡ None) × ((s.there ≡ false) × (s.bits ≡ 0))))) → s ≡ nothing_seen
nothing-yet (a, (b, (c, (d, (e, f))))) = λ i. record { existing = a i; current = b i; halting = c i; endpoint = d i; there = e i; bits = f i }

-- ---- descriptors of types that no walk looks at: a survey stays as it is behind them
pub adds-nothing : (alternates : List ℕ) (asked : Asked) (s : Survey) (stand : Stand) (d : List ℕ) → is_interface d ≡ false → is_endpoint d ≡ false → onward alternates asked s stand d ≡ s
adds-nothing alternates asked s stand d i k = rw (i, k, earlier-none s.endpoint, or-false s.there)

module _ (alternates : List ℕ) (asked : Asked) (body : List ℕ) (total s : Survey) (stand : Stand) where
  abbrev Stays : ℕ → Type 0
  Stays r = Place body r × Walking (surveying alternates asked) body total s stand r

  stays : (r : ℕ) → Plain body r → Place body r → Walking (surveying alternates asked) body total s stand r → Stays (r + byte body r)
  stays r d p w =
      let h : r < length body = omega (arith, d.inside) in
      let i = no-interface body r d in
      let span = spanned body r (r + byte body r) in
      let e : ◌≡◌ {A = Pace} (record { end = r + byte body r; stand = stand_of stand (spanned body r (r + byte body r)) }) (step_of body r stand) = rw (steps body r p h, add-sub_cancel_left) in
      let t = turn body r stand p h _ e in
      (t.place, rw i at (walk-on w e h t.on refl (sym (adds-nothing alternates asked s (stand_of stand span) span i (no-endpoint body r d)))))

  pub survey-behind : {from r : ℕ} → Plains body from r → Stays from → Stays r
  survey-behind ds p = plains-through Stays (λ r d q. stays r d q.0 q.1) ds p
