-- The endpoint descriptors of the current settings: the walk that looks for one finds it; they are those of the configuration's current endpoints,
-- one for one; and each lies in the body where it is said to lie. No axiom.
use Rattle.std.specs.Prelude.{Some}
use Rattle.octets.proofs.Vocabulary.{◌≡◌, refl, sym, ap, ◌∙◌, ℕ, zero, suc, ◌+◌, ◌-◌, ◌≤◌, ◌<◌, List, [], ◌∷◌, map, List-as-Memᴰ, List·Memᴰ·head, List·Memᴰ·tail, List·Memᴰ·not-nil, List·Memᴰ·cases-cons, Bool, true, false, ◌&&◌, some, none, ◌⊎◌, inl, inr, length, drop, get_or, get_elem?, eqb, leb, ltb, get_or-take, get_or-drop, arith, add-zero, ne_eqb, le-leb, ltb-true, ltb-false}
use Rattle.octets.specs.Octets.{byte, part}
use Rattle.octets.specs.Sentences.{pick, only, pairs}
use Rattle.octets.proofs.Sentences.{cases, both, joined, member-every}
use Rattle.descriptors.specs.declared.Endpoint.{Endpoint}
use Rattle.descriptors.specs.declared.walk.Stand.{Stand}
use Rattle.descriptors.specs.Cut.{Cutting, whole, broken, descriptor, cut, descriptors_of, well_cut}
use Rattle.descriptors.specs.Descriptor.{is_interface, is_endpoint, bEndpointAddress, bmAttributes}
use Rattle.descriptors.specs.Configuration.{configuration_of, is_current, current_of}
use Rattle.descriptors.specs.Walk.{before, stand_of, step_of, or_else, walked}
use Rattle.descriptors.specs.Lookup.{listed, lists, lists_one}
use Rattle.descriptors.specs.Endpoints.{DescriptorAt, begins_current, current_from, current_descriptors}
use Rattle.descriptors.specs.Seek.{found_at, Seek, passing, seeking}
use Rattle.descriptors.proofs.Walks.{spanned, span-length}
use Rattle.descriptors.proofs.Ahead.{ahead, Place, steps, turn, ahead-end, Begun, at_first, endpoints_under, endpoints-begin}
use Rattle.descriptors.proofs.Surveying.{only_step}

-- a descriptor before the others, if it counts
abbrev counting : Bool → ℕ → List ℕ → List DescriptorAt → List DescriptorAt
counting counted at d rest = pick counted (record { offset = at; bytes = d } ∷ rest) rest

module _ (alternates : List ℕ) where
  -- ---- where a descriptor stands, and in a current setting
  abbrev current : Stand → Bool
  current stand = stand.inside && eqb stand.alternate (get_or alternates stand.interface 0)

  abbrev current-behind : Stand → List ℕ → Bool
  current-behind last d = pick (is_interface d) (begins_current alternates d) (current last)

  behind-stands : (last : Stand) (d : List ℕ) → current-behind last d ≡ current (stand_of last d)
  behind-stands last d = cases (is_interface d) (λ p. rw p) (λ p. rw p)

  and-regrouped : (a b c : Bool) → (a && (b && c)) ≡ ((a && b) && c)
  and-regrouped true b c = refl
  and-regrouped false b c = refl

  -- the list by stands
  from_step : (last : Stand) (at : ℕ) (d : List ℕ) (ds : List (List ℕ)) → (let stand = stand_of last d in
      current_from alternates (current last) at (d ∷ ds) ≡ counting (lists_one (is_current alternates) stand d) at d (current_from alternates (current stand) (at + length d) ds))
  unfolding current_from
  from_step last at d ds = rw (behind-stands last d, and-regrouped (is_endpoint d) (stand_of last d).inside (is_current alternates (listed (stand_of last d) d)))

  -- ---- the walk finds it
  found-step : (counted : Bool) (left at : ℕ) (d : List ℕ) (rest : List DescriptorAt)
      → or_else (pick (counted && eqb left 0) (some (Some (record { offset = at; length = length d }))) none) (found_at (get_elem? rest (passing counted left))) ≡ found_at (get_elem? (counting counted at d rest) left)
  found-step true zero at d rest = refl
  found-step true (suc left) at d rest = let e : suc left - 1 ≡ left = omega arith in rw (ne_eqb (suc left) 0 (λ p. omega (arith, p)), e)
  found-step false left at d rest = refl

  pub seeks : (w : Seek) (last : Stand) (cs : Cutting)
      → walked (seeking alternates) w last cs ≡ found_at (get_elem? (current_from alternates (current last) w.offset (descriptors_of cs)) w.left)
  unfolding walked descriptors_of current_from
  seeks w last whole = refl
  seeks w last broken = refl
  seeks w last (descriptor d ds) =
      let stand = stand_of last d in
      let counted = lists_one (is_current alternates) stand d in
      let next : Seek = record { left = passing counted w.left; offset = w.offset + length d } in
      rw (seeks next stand ds)
      (found-step counted w.left w.offset d (current_from alternates (current stand) (w.offset + length d) (descriptors_of ds)) ∙ sym (ap (λ (l : List DescriptorAt). found_at (get_elem? l w.left)) (from_step last w.offset d (descriptors_of ds))))

  -- one step of the loop: it stops there, or goes on
  module _ (w : Seek) (last stand : Stand) (d : List ℕ) {counted : Bool} (e : counted ≡ lists_one (is_current alternates) stand d) where
    pub stops : {n : ℕ} → (counted && eqb w.left 0) ≡ true → length d ≡ n → (seeking alternates).stop w last stand d ≡ some (Some (record { offset = w.offset; length = n }))
    stops t l = rw (sym e, t, l)

    pub passes : (counted && eqb w.left 0) ≡ false → (seeking alternates).stop w last stand d ≡ none
    passes f = rw (sym e, f)

    pub goes_on : {left end : ℕ} → left ≡ passing counted w.left → end ≡ w.offset + length d → record { left = left; offset = end } ≡ (seeking alternates).on w last stand d
    goes_on p q = rw (p, q, e)

  -- ---- they are the current endpoints' descriptors, one for one
  named_step : {A : Type 0} (f : ℕ → ℕ → A) (counted : Bool) (stand : Stand) (at : ℕ) (d : List ℕ) (rest : List DescriptorAt) (es : List Endpoint)
      → map (λ p. f (bEndpointAddress p.bytes) (bmAttributes p.bytes)) rest ≡ map (λ e. f e.address e.attributes) es
      → map (λ p. f (bEndpointAddress p.bytes) (bmAttributes p.bytes)) (counting counted at d rest) ≡ map (λ e. f e.address e.attributes) (pick counted (listed stand d ∷ es) es)
  named_step f true stand at d rest es p = ap (◌∷◌ (f (bEndpointAddress d) (bmAttributes d))) p
  named_step f false stand at d rest es p = p

  named-from : {A : Type 0} (f : ℕ → ℕ → A) (last : Stand) (at : ℕ) (ds : List (List ℕ))
      → map (λ p. f (bEndpointAddress p.bytes) (bmAttributes p.bytes)) (current_from alternates (current last) at ds) ≡ map (λ e. f e.address e.attributes) (only (is_current alternates) (endpoints_under last ds))
  unfolding current_from endpoints_under only
  named-from f last at [] = refl
  named-from f last at (d ∷ ds) =
      let stand = stand_of last d in
      rw (from_step last at d ds, only_step (is_current alternates) (lists stand d) (listed stand d) (endpoints_under stand ds))
      (named_step f (lists_one (is_current alternates) stand d) stand at d _ _ (named-from f stand (at + length d) ds))

  pub named-current : {A : Type 0} (f : ℕ → ℕ → A) {body : List ℕ} {at : ℕ} → Begun body at
      → map (λ p. f (bEndpointAddress p.bytes) (bmAttributes p.bytes)) (current_from alternates false at (ahead body at)) ≡ map (λ e. f e.address e.attributes) (current_of alternates (configuration_of body))
  named-current f {body} {at} b = named-from f before at (ahead body at) ∙ ap (λ (es : List Endpoint). map (λ e. f e.address e.attributes) (only (is_current alternates) es)) (sym (endpoints-begin b))

-- ---- each is an endpoint descriptor of the body, and lies there where it is said to
pub record Lies (body : List ℕ) (from : ℕ) (p : DescriptorAt) : Type 0 where
  pub begins : from ≤ p.offset
  pub inside : p.offset + length p.bytes ≤ length body
  pub shown : part body p.offset (length p.bytes) ≡ p.bytes
  -- bLength
  pub long : byte p.bytes 0 ≡ length p.bytes

counted-member : (counted : Bool) (at : ℕ) (d : List ℕ) (rest : List DescriptorAt) (p : DescriptorAt)
    → List-as-Memᴰ p (counting counted at d rest) → ((counted ≡ true) × (p ≡ record { offset = at; bytes = d })) ⊎ List-as-Memᴰ p rest
counted-member true at d rest p m = go (List·Memᴰ·cases-cons m)
  where
    go : (p ≡ record { offset = at; bytes = d }) ⊎ List-as-Memᴰ p rest → ((true ≡ true) × (p ≡ record { offset = at; bytes = d })) ⊎ List-as-Memᴰ p rest
    go (inl e) = inl (refl, e)
    go (inr n) = inr n
counted-member false at d rest p m = inr m

-- the descriptor at a place, and the place behind it
record Next (body : List ℕ) (at : ℕ) : Type 0 where
  here : List ℕ
  on : 0 < length here
  first : ahead body at ≡ here ∷ ahead body (at + length here)
  place : Place body (at + length here)
  shown : part body at (length here) ≡ here
  long : byte here 0 ≡ length here

next : (body : List ℕ) (at : ℕ) → Place body at → at < length body → Next body at
next body at place h =
    let end = (step_of body at before).end in
    let t = turn body at before place h (step_of body at before) refl in
    let d = spanned body at end in
    let l : length d ≡ end - at = span-length body t.on t.place.inside in
    let e : at + length d ≡ end = omega (arith, l, t.on) in
    let reach : end ≡ at + byte body at = rw (steps body at place h) in
    record { here = d; on = omega (arith, l, t.on); first = rw e t.next; place = rw e t.place; shown = ap (λ (n : ℕ). part body at n) l; long = get_or-take (end - at) (drop at body) 0 0 (omega (arith, t.on)) ∙ rw (get_or-drop, add-zero) (omega (arith, l, reach)) }

module _ (alternates : List ℕ) where
  -- a descriptor of the list is one of the descriptors, and lists an endpoint
  pub from_member : (current : Bool) (at : ℕ) (ds : List (List ℕ)) (p : DescriptorAt) → List-as-Memᴰ p (current_from alternates current at ds)
      → List-as-Memᴰ p.bytes ds × (is_endpoint p.bytes ≡ true)
  unfolding current_from
  from_member current at [] p m = absurd (List·Memᴰ·not-nil m)
  from_member current at (d ∷ ds) p m =
      let here = pick (is_interface d) (begins_current alternates d) current in
      go here (counted-member (is_endpoint d && here) at d _ p m) (λ k. from_member here (at + length d) ds p k)
    where
      go : (here : Bool) → (((is_endpoint d && here) ≡ true) × (p ≡ record { offset = at; bytes = d })) ⊎ List-as-Memᴰ p (current_from alternates here (at + length d) ds)
          → (List-as-Memᴰ p (current_from alternates here (at + length d) ds) → List-as-Memᴰ p.bytes ds × (is_endpoint p.bytes ≡ true))
          → List-as-Memᴰ p.bytes (d ∷ ds) × (is_endpoint p.bytes ≡ true)
      go here (inl (q, e)) later = let i : p.bytes ≡ d = ap (λ (x : DescriptorAt). x.bytes) e in (List·Memᴰ·head i, ap is_endpoint i ∙ (both (is_endpoint d) here q).0)
      go here (inr k) later = let (m, q) = later k in (List·Memᴰ·tail m, q)

-- one lies before the other
abbrev pub before-it : DescriptorAt → DescriptorAt → Bool
before-it p q = leb (p.offset + length p.bytes) q.offset

module _ (alternates body : List ℕ) where
  abbrev those : Bool → ℕ → List DescriptorAt
  those current at = current_from alternates current at (ahead body at)

  none_left : (current : Bool) (at : ℕ) → length body ≤ at → those current at ≡ []
  unfolding current_from
  none_left current at h = rw (ahead-end body at h)

  those-next : (current : Bool) (at : ℕ) (n : Next body at) → (let d = n.here in let here = pick (is_interface d) (begins_current alternates d) current in
      those current at ≡ counting (is_endpoint d && here) at d (those here (at + length d)))
  unfolding current_from
  those-next current at n = rw n.first

  -- at a descriptor, given what is known of those behind it
  lies-next : (current : Bool) (at : ℕ) (x : Next body at) (p : DescriptorAt) → List-as-Memᴰ p (those current at)
      → ((here : Bool) → List-as-Memᴰ p (those here (at + length x.here)) → Lies body (at + length x.here) p) → Lies body at p
  lies-next current at x p m later =
      let here = pick (is_interface x.here) (begins_current alternates x.here) current in
      go here (counted-member (is_endpoint x.here && here) at x.here _ p (rw (those-next current at x) at m)) (later here)
    where
      go : {counted : Bool} (here : Bool) → ((counted ≡ true) × (p ≡ record { offset = at; bytes = x.here })) ⊎ List-as-Memᴰ p (those here (at + length x.here))
          → (List-as-Memᴰ p (those here (at + length x.here)) → Lies body (at + length x.here) p) → Lies body at p
      go here (inl (q, e)) known = rw e (record { begins = omega arith; inside = x.place.inside; shown = x.shown; long = x.long })
      go here (inr k) known = let r = known k in record { begins = omega (arith, r.begins); inside = r.inside; shown = r.shown; long = r.long }

  lies-from : (n : ℕ) (current : Bool) (at : ℕ) → length body ≤ at + n → Place body at → (p : DescriptorAt) → List-as-Memᴰ p (those current at) → Lies body at p
  lies-from zero current at l place p m = absurd (List·Memᴰ·not-nil (rw (none_left current at (omega (arith, l))) at m))
  lies-from (suc n) current at l place p m = cases (ltb at (length body))
      (λ q.
      let x = next body at place (ltb-true at (length body) q) in
      lies-next current at x p m (λ here k. lies-from n here (at + length x.here) (omega (arith, l, x.on)) x.place p k))
      (λ q. absurd (List·Memᴰ·not-nil (rw (none_left current at (ltb-false at (length body) q)) at m)))

  counted-pairs : (counted : Bool) (at : ℕ) (d : List ℕ) (rest : List DescriptorAt) → ((p : DescriptorAt) → List-as-Memᴰ p rest → at + length d ≤ p.offset)
      → pairs before-it rest ≡ true → pairs before-it (counting counted at d rest) ≡ true
  unfolding pairs
  counted-pairs true at d rest h q = joined (member-every (before-it (record { offset = at; bytes = d })) rest (λ p m. le-leb _ _ (h p m))) q
  counted-pairs false at d rest h q = q

  ordered-from : (n : ℕ) (current : Bool) (at : ℕ) → length body ≤ at + n → Place body at → pairs before-it (those current at) ≡ true
  unfolding pairs
  ordered-from zero current at l place = rw (none_left current at (omega (arith, l)))
  ordered-from (suc n) current at l place = cases (ltb at (length body))
      (λ q.
      let x = next body at place (ltb-true at (length body) q) in
      let d = x.here in
      let here = pick (is_interface d) (begins_current alternates d) current in
      let m : length body ≤ at + length d + n = omega (arith, l, x.on) in
      rw (those-next current at x)
      (counted-pairs (is_endpoint d && here) at d (those here (at + length d)) (λ p k. (lies-from n here (at + length d) m x.place p k).begins) (ordered-from n here (at + length d) m x.place)))
      (λ q. rw (none_left current at (ltb-false at (length body) q)))

-- ---- a well-cut body
module _ (alternates : List ℕ) (body : List ℕ) (well : well_cut (cut body) ≡ true) where
  begun : Begun body (byte body 0)
  begun = at_first body (byte body 0) well refl

  whole-list : current_descriptors alternates body ≡ those alternates body false (byte body 0)
  whole-list = rw begun.all

  pub finds : {at : ℕ} (number : ℕ) → at ≡ byte body 0 → walked (seeking alternates) (record { left = number; offset = at }) before (cut (drop at body)) ≡ found_at (get_elem? (current_descriptors alternates body) number)
  finds number e = rw (e, whole-list) (seeks alternates (record { left = number; offset = byte body 0 }) before (cut (drop (byte body 0) body)))

  pub named : {A : Type 0} (f : ℕ → ℕ → A)
      → map (λ p. f (bEndpointAddress p.bytes) (bmAttributes p.bytes)) (current_descriptors alternates body) ≡ map (λ e. f e.address e.attributes) (current_of alternates (configuration_of body))
  named f = rw whole-list (named-current alternates f begun)

  pub lies : (p : DescriptorAt) → List-as-Memᴰ p (current_descriptors alternates body) → Lies body (byte body 0) p
  lies p m = lies-from alternates body (length body) false (byte body 0) (omega arith) begun.place p (rw whole-list at m)

  pub ordered : pairs before-it (current_descriptors alternates body) ≡ true
  ordered = rw whole-list (ordered-from alternates body (length body) false (byte body 0) (omega arith) begun.place)
