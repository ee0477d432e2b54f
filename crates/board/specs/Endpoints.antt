-- hk_endpoint and hk_two_endpoint: which number it gives, what a refusal shows, and that after an opening it never gives 8; every part is an endpoint descriptor inside
-- the set in use; and counting up from 0 to the first 16 gives exactly the endpoints of the current settings, each once, in the set's order. No axiom.
use Rattle.std.specs.Prelude.{ℕ, ◌+◌, ◌*◌, ◌/◌, ◌%◌, ◌-◌, ◌≤◌, ◌<◌, ◌≡◌, ◌⊎◌, Bool, ◌&&◌, ◌||◌, not, length, leb, ltb}
use Rattle.std.proofs.Common.{add-zero, arith, ◌∙◌}
use Rattle.std.proofs.Math.Path.{refl, sym, ap}
use Rattle.std.proofs.Math.Logic.{inl, inr}
use mathlib.Core.List.{List, [], ◌∷◌, map, Memᴰ}
use Rattle.std.proofs.Math.Bool.{true, false}
use Rattle.std.proofs.Math.Option.{Option, some, none}
use Rattle.std.proofs.Math.ListN.{get_or, get_elem?}
use Rattle.std.proofs.lemmas.List.{length-map}
use Rattle.std.proofs.Math.Dec.{eqb}
use borrow.Author.Tests.{not-true, eq-eqb, ne_eqb, eqb-true, eqb-false, leb-true, le-leb, ltb-true, ltb-false}
use Rattle.octets.specs.Octets.{byte, part}
use Rattle.octets.specs.Sentences.{pick, every, only, pairs, up_to}
use Rattle.octets.proofs.Sentences.{cases, both, joined, never, if-then, every-member, member-every, only-member, pairs-split}
use Rattle.octets.proofs.Counting.{none-some, at-member, at-inside, at-beyond, told, pairs-at, pairs-map, pairs-then, differ, apart as unequal, differs, no_more}
use Rattle.descriptors.specs.declared.Endpoint.{Endpoint}
use Rattle.descriptors.specs.Cut.{cut, cut_after, descriptors_of, well_cut}
use Rattle.descriptors.specs.Descriptor.{is_endpoint, bEndpointAddress, bmAttributes, good_address, good_endpoint}
use Rattle.descriptors.specs.Interfaces.{apart, grouped, endpoints_of}
use Rattle.descriptors.specs.Configuration.{configuration_of, groups_of, is_current, current_of}
use Rattle.descriptors.specs.Endpoints.{DescriptorAt, current_descriptors}
use Rattle.descriptors.proofs.CurrentEndpoints.{before-it, named, ordered}
use Rattle.sets.proofs.Bodies.{mapped}
use Rattle.sets.specs.declared.Entry.{Entry}
use Rattle.sets.specs.Contents.{body_of}
use Rattle.sets.specs.Opening.{Board, BytesOf}
use Rattle.sets.specs.View.{opening_of, accepted}
use Rattle.records.specs.declared.Device.{Device}
use Rattle.records.specs.Device.{in_configured}
use Rattle.records.specs.Image.{device_of}
use Rattle.records.specs.Current.{in_use, set_for, set_at, board_for, view_at, selected, current_endpoints}
use Rattle.records.proofs.InUse.{row_for, opens_for, bytes_for}
use Rattle.records.specs.Fits.{fits_on}
use Rattle.events.specs.Answer.{SetPart, Refused}
use Rattle.steps.specs.Endpoint.{selected_entry, in_set, endpoints_in, endpoint_descriptors, endpoint_part, endpoint, endpoint_on}
use Rattle.steps.specs.Gathering.{selected_body}
use Rattle.steps.proofs.Configurations.{usable}
use Rattle.steps.proofs.Steps.{is-selected}
use Rattle.steps.proofs.EndpointParts.{stands}
use Rattle.laws.proofs.Keeping.{sound_selected}
use Rattle.promises.specs.Sound.{sound}
use Rattle.promises.specs.Keeps.{FitImage, Reached, reached_fits}
use Rattle.board.specs.Exports.{Spot, Spots, GivesEndpoint}

-- ---- what the statements say
-- demand 1's numbers: 7 where the board is not accepted, 8 where the image does not fit, else 0 or 16
abbrev pub allows_endpoint : Board → List ℕ → ℕ → Bool
allows_endpoint b image n = pick (accepted b) (pick (eqb (length image) 32 && fits_on b (device_of image)) (eqb n 0 || eqb n 16) (eqb n 8)) (eqb n 7)

-- where the set in use lies
abbrev pub spot_in_use : Board → ℕ → Spots → Spot
spot_in_use b speed lie = in_use b.high speed lie.set lie.high

-- a part that is an endpoint descriptor inside the set in use: of type 5, as long as its bLength, and good by the rules of its speed
pub record EndpointIn (b : Board) (speed : ℕ) (lie : Spots) (shown : List ℕ) (spot : Spot) : Type 0 where
  pub offset : ℕ
  pub inside : offset + length shown ≤ length (set_for b speed)
  pub lies : spot ≡ record { block = (spot_in_use b speed lie).block; offset = (spot_in_use b speed lie).offset + offset }
  pub shows : shown ≡ part (set_for b speed) offset (length shown)
  pub kind : is_endpoint shown ≡ true
  pub long : byte shown 0 ≡ length shown
  pub good : good_endpoint (row_for b.high speed) shown ≡ true

-- address and attributes, as an endpoint descriptor has them and as the configuration lists them
abbrev pub pair : ℕ → ℕ → ℕ × ℕ
pair address attributes = (address, attributes)

abbrev pub described : List ℕ → ℕ × ℕ
described d = pair (bEndpointAddress d) (bmAttributes d)

abbrev pub listed : Endpoint → ℕ × ℕ
listed e = pair e.address e.attributes

-- ---- an answer is a refusal, or the part of a descriptor of the list
module _ (b : Board) (image : List ℕ) (k : ℕ) where
  abbrev ds : List DescriptorAt
  ds = endpoint_descriptors (set_at b (device_of image)) (device_of image)

  record There : Type 0 where
    at : DescriptorAt
    member : Memᴰ at ds
    opens : opening_of b ≡ 0
    answer : endpoint_on b image k ≡ SetPart at.offset (length at.bytes)
    allowed : allows_endpoint b image 0 ≡ true

  record Refusal : Type 0 where
    number : ℕ
    nonzero : number ≡ 0 → ⊥
    answer : endpoint_on b image k ≡ Refused number
    allowed : allows_endpoint b image number ≡ true

  pub past : accepted b ≡ true → length image ≡ 32 → fits_on b (device_of image) ≡ true → endpoint_on b image k ≡ endpoint_part (get_elem? ds k)
  unfolding endpoint_on endpoint
  past p l f = rw (eq-eqb (length image) 32 l, p, f)

  either_way : Refusal ⊎ There
  unfolding endpoint_on endpoint
  either_way = cases (accepted b)
      (λ p. cases (eqb (length image) 32)
      (λ l. cases (fits_on b (device_of image))
      (λ f. go p l f (get_elem? ds k) refl)
      (λ f. inl (record { number = 8; nonzero = λ z. omega arith; answer = rw (p, l, f); allowed = rw (p, l, f) })))
      (λ l. inl (record { number = 8; nonzero = λ z. omega arith; answer = rw (p, l); allowed = rw (p, l) })))
      (λ p. cases (eqb (length image) 32)
      (λ l. inl (record { number = 7; nonzero = λ z. omega arith; answer = rw (p, l); allowed = rw p }))
      (λ l. inl (record { number = 7; nonzero = λ z. omega arith; answer = rw (p, l); allowed = rw p })))
    where
      go : accepted b ≡ true → eqb (length image) 32 ≡ true → fits_on b (device_of image) ≡ true → (o : Option DescriptorAt) → get_elem? ds k ≡ o → Refusal ⊎ There
      go p l f none e = inl (record { number = 16; nonzero = λ z. omega arith; answer = rw (p, l, f, e); allowed = rw (p, l, f) })
      go p l f (some x) e = inr (record { at = x; member = at-member ds k e; opens = eqb-true (opening_of b) 0 p; answer = rw (p, l, f, e); allowed = rw (p, l, f) })

-- ---- one call
module _ {b : Board} {lie : Spots} {image : List ℕ} {k n : ℕ} {shown : List ℕ} {spot : Spot} (g : GivesEndpoint b lie image k n shown spot) where
  -- demand 1: the number; a refusal shows the first set's first 0 bytes
  pub endpoint_number : allows_endpoint b image n ≡ true
  endpoint_number = go (either_way b image k)
    where
      go : Refusal b image k ⊎ There b image k → allows_endpoint b image n ≡ true
      go (inl r) = let e : n ≡ r.number = g.number ∙ rw r.answer in rw e r.allowed
      go (inr t) = let e : n ≡ 0 = g.number ∙ rw t.answer in rw e t.allowed

  pub endpoint_refused : (n ≡ 0 → ⊥) → (shown ≡ []) × (spot ≡ lie.set)
  endpoint_refused nonzero = go (either_way b image k)
    where
      go : Refusal b image k ⊎ There b image k → (shown ≡ []) × (spot ≡ lie.set)
      go (inl r) = (g.shows ∙ rw r.answer, g.lies ∙ rw r.answer (ap (λ (o : ℕ). record { block = lie.set.block; offset = o }) (add-zero lie.set.offset)))
      go (inr t) = absurd (nonzero (g.number ∙ rw t.answer))

  -- every part is an endpoint descriptor inside the set in use
  pub endpoint_given : n ≡ 0 → EndpointIn b (device_of image).speed lie shown spot
  endpoint_given z = go (either_way b image k)
    where
      go : Refusal b image k ⊎ There b image k → EndpointIn b (device_of image).speed lie shown spot
      go (inl r) = absurd (r.nonzero (sym (g.number ∙ rw r.answer) ∙ z))
      go (inr t) =
          let p = t.at in
          let speed = (device_of image).speed in
          let s = stands (row_for b.high speed) (board_for b speed) (opens_for b speed t.opens) (device_of image) p t.member in
          let e : shown ≡ p.bytes = g.shows ∙ rw t.answer s.shown in
          rw e (record {
            offset = p.offset;
            inside = s.inside;
            lies = g.lies ∙ rw t.answer;
            shows = sym s.shown;
            kind = s.kind;
            long = s.long;
            good = s.good;
          })

-- after an opening, of whatever 32 bytes, and whatever events: never 8
pub endpoint_never_eight : (b : Board) → BytesOf b → {image : List ℕ} → Reached b image → {lie : Spots} {k n : ℕ} {shown : List ℕ} {spot : Spot}
    → GivesEndpoint b lie image k n shown spot → n ≡ 8 → ⊥
endpoint_never_eight b bytes {image} r g e = cases (accepted b)
    (λ p. let f = reached_fits b bytes p r in never {a = true} refl (sym (rw (e, p, eq-eqb (length image) 32 f.long, f.fit) at (endpoint_number g))))
    (λ p. never {a = true} refl (sym (rw (e, p) at (endpoint_number g))))

-- ---- the list of descriptors is the list of the current endpoints, one for one
module _ (b : Board) (bytes : BytesOf b) (ok : accepted b ≡ true) (d : Device) where
  opens : opening_of b ≡ 0
  opens = eqb-true (opening_of b) 0 ok

  -- the body of the selected configuration is well cut
  well-cut : {body : List ℕ} → body ≡ selected_body (set_at b d) d.configuration → well_cut (cut body) ≡ true
  well-cut s = rw s (usable (row_for b.high d.speed) (board_for b d.speed) (bytes_for b d.speed bytes) (opens_for b d.speed opens) d.configuration).whole

  module _ {A : Type 0} (f : ℕ → ℕ → A) where
    abbrev said : DescriptorAt → A
    said p = f (bEndpointAddress p.bytes) (bmAttributes p.bytes)

    abbrev has : Endpoint → A
    has e = f e.address e.attributes

    moved : (e : Entry) (l : List DescriptorAt) → map said (map (in_set e) l) ≡ map said l
    moved e [] = refl
    moved e (p ∷ l) = ap (◌∷◌ (said p)) (moved e l)

    in_entry : eqb d.state in_configured ≡ true → (o : Option Entry) → selected_entry (set_at b d) d ≡ o → map said (endpoints_in (set_at b d) d o) ≡ map has (current_endpoints (view_at b d) d)
    unfolding configuration_of groups_of grouped endpoints_of cut_after descriptors_of only
    in_entry t none e =
        let s : [] ≡ selected_body (set_at b d) d.configuration = rw e in
        rw (← is-selected (board_for b d.speed) d t s)
    in_entry t (some x) e =
        let body = body_of (set_at b d) x in
        let s : body ≡ selected_body (set_at b d) d.configuration = rw e in
        let well : well_cut (cut body) ≡ true = well-cut s in
        moved x (current_descriptors d.alternates body) ∙ named d.alternates body well f ∙ ap (λ c. map has (current_of d.alternates c)) (is-selected (board_for b d.speed) d t s)

    -- outside Configured a record selects nothing
    pub same_endpoints : fits_on b d ≡ true → map said (endpoint_descriptors (set_at b d) d) ≡ map has (current_endpoints (view_at b d) d)
    unfolding endpoint_descriptors only
    same_endpoints fit = go (eqb d.state in_configured) refl
      where
        nothing-there : (d.state ≡ in_configured → ⊥) → current_endpoints (view_at b d) d ≡ []
        nothing-there n = rw (ne_eqb d.state in_configured n)

        go : (t : Bool) → eqb d.state in_configured ≡ t → map said (pick t (endpoints_in (set_at b d) d (selected_entry (set_at b d) d)) []) ≡ map has (current_endpoints (view_at b d) d)
        go true p = in_entry p (selected_entry (set_at b d) d) refl
        go false p = rw (nothing-there (eqb-false d.state in_configured p))

  -- one lies before the other in the set
  shifted : (e : Entry) (l : List DescriptorAt) → pairs before-it l ≡ true → pairs before-it (map (in_set e) l) ≡ true
  shifted e l p = sym (pairs-map before-it (in_set e) l) ∙ pairs-then before-it (λ x y. before-it (in_set e x) (in_set e y)) l
      (λ x y m k q. let h : x.offset + length x.bytes ≤ y.offset = leb-true _ _ q in le-leb (e.offset + x.offset + length x.bytes) (e.offset + y.offset) (omega arith)) p

  pub in_order : pairs before-it (endpoint_descriptors (set_at b d) d) ≡ true
  unfolding endpoint_descriptors pairs
  in_order = go (eqb d.state in_configured) (selected_entry (set_at b d) d) refl
    where
      go : (t : Bool) (o : Option Entry) → selected_entry (set_at b d) d ≡ o → pairs before-it (pick t (endpoints_in (set_at b d) d o) []) ≡ true
      go false o e = refl
      go true none e = refl
      go true (some x) e =
          let body = body_of (set_at b d) x in
          let s : body ≡ selected_body (set_at b d) d.configuration = rw e in
          let well : well_cut (cut body) ≡ true = well-cut s in
          shifted x (current_descriptors d.alternates body) (ordered d.alternates body well)

  -- no two current endpoints have one address
  apart-current : (l : List Endpoint) → pairs apart l ≡ true → pairs (λ e f. differ e.address f.address) (only (is_current d.alternates) l) ≡ true
  unfolding pairs only
  apart-current [] p = refl
  apart-current (x ∷ l) p = let (q, r) = pairs-split apart x l p in go (is_current d.alternates x) refl q (apart-current l r)
    where
      other : (y : Endpoint) → is_current d.alternates x ≡ true → is_current d.alternates y ≡ true → apart x y ≡ true → x.address ≡ y.address → ⊥
      other y c e t i =
          let (j, k) = both (eqb x.interface y.interface) (not (eqb x.alternate y.alternate)) (if-then (eqb x.address y.address) _ t (eq-eqb x.address y.address i)) in
          let same : x.interface ≡ y.interface = eqb-true x.interface y.interface j in
          let mine : x.alternate ≡ get_or d.alternates x.interface 0 = eqb-true x.alternate _ c in
          let its : y.alternate ≡ get_or d.alternates y.interface 0 = eqb-true y.alternate _ e in
          let one : x.alternate ≡ y.alternate = mine ∙ ap (λ (n : ℕ). get_or d.alternates n 0) same ∙ sym its in
          eqb-false x.alternate y.alternate (not-true _ k) one

      go : (t : Bool) → is_current d.alternates x ≡ t → every (apart x) l ≡ true → pairs (λ e f. differ e.address f.address) (only (is_current d.alternates) l) ≡ true
          → pairs (λ e f. differ e.address f.address) (pick t (x ∷ only (is_current d.alternates) l) (only (is_current d.alternates) l)) ≡ true
      go true c q r = joined (member-every (λ f. differ x.address f.address) (only (is_current d.alternates) l)
          (λ y m. let (k, e) = only-member (is_current d.alternates) l m in differs x.address y.address (other y c e (every-member (apart x) q k)))) r
      go false c q r = r

  pub addresses_differ : pairs (λ e f. differ e.address f.address) (current_endpoints (view_at b d) d) ≡ true
  addresses_differ = apart-current (selected (view_at b d) d).endpoints (sound_selected (set_at b d) (view_at b d) (sound b bytes ok d.speed) d).distinct

  -- and there are 30 addresses: numbers 1 to 15, OUT and IN
  abbrev slot : ℕ → ℕ
  slot a = a % 16 - 1 + 15 * (a / 128)

  pub at_most_thirty : length (current_endpoints (view_at b d) d) ≤ 30
  at_most_thirty =
      let es = current_endpoints (view_at b d) d in
      let sound = sound_selected (set_at b d) (view_at b d) (sound b bytes ok d.speed) d in
      let in-it : (e : Endpoint) → Memᴰ e es → Memᴰ e (selected (view_at b d) d).endpoints = λ e m. (only-member (is_current d.alternates) (selected (view_at b d) d).endpoints m).0 in
      let one : pairs (λ e f. differ (slot e.address) (slot f.address)) es ≡ true = pairs-then (λ e f. differ e.address f.address) (λ e f. differ (slot e.address) (slot f.address)) es
      (λ e f m k q. differs (slot e.address) (slot f.address) (λ i. unequal e.address f.address q
      (slots e.address f.address (sound.addresses e (in-it e m)) (sound.addresses f (in-it f k)) (sound.octets e (in-it e m)) (sound.octets f (in-it f k)) i))) addresses_differ in
      let few : (x : ℕ) → Memᴰ x (map (λ e. slot e.address) es) → x < 30 = λ x m.
      let (e, k, i) = mapped (λ e. slot e.address) es m in
      rw i (slot_small e.address (sound.octets e (in-it e k))) in
      rw (← length-map es (λ e. slot e.address)) (no_more 30 (map (λ e. slot e.address) es) few (sym (pairs-map differ (λ e. slot e.address) es) ∙ one))
    where
      slot_small : (a : ℕ) → a < 256 → slot a < 30
      slot_small a h = omega (arith, h)

      -- an address is its number and its direction
      composed : (a : ℕ) → good_address a ≡ true → a < 256 → (a ≡ 128 * (a / 128) + a % 16) × (1 ≤ a % 16)
      composed a p h =
          let (q, r) = both (eqb (a / 16 % 8) 0) (leb 1 (a % 16)) p in
          let z = eqb-true (a / 16 % 8) 0 q in
          (omega (arith, z, h), leb-true 1 (a % 16) r)

      parted : (m n u v : ℕ) → 1 ≤ m → m < 16 → 1 ≤ n → n < 16 → m - 1 + 15 * u ≡ n - 1 + 15 * v → (u ≡ v) × (m ≡ n)
      parted m n u v a h c k i = let e : u ≡ v = omega arith in (e, omega (arith, e))

      slots : (a c : ℕ) → good_address a ≡ true → good_address c ≡ true → a < 256 → c < 256 → slot a ≡ slot c → a ≡ c
      slots a c p q g h i =
          let (ea, la) = composed a p g in
          let (ec, lc) = composed c q h in
          let (u, m) = parted (a % 16) (c % 16) (a / 128) (c / 128) la (omega arith) lc (omega arith) i in
          ea ∙ rw (u, m) (sym ec)

-- what stands at a place stands below the length
pub at-below : {A : Type 0} (l : List A) (k : ℕ) {x : A} → get_elem? l k ≡ some x → k < length l
at-below l k e = cases (ltb k (length l)) (λ p. ltb-true k (length l) p) (λ p. absurd (none-some (sym (at-beyond l k (ltb-false k (length l) p)) ∙ e)))

-- ---- counting up from 0 on an image that fits
module _ (b : Board) (bytes : BytesOf b) (ok : accepted b ≡ true) {image : List ℕ} (f : FitImage b image) where
  abbrev endpoints : List Endpoint
  endpoints = current_endpoints (view_at b (device_of image)) (device_of image)

  abbrev all : List DescriptorAt
  all = endpoint_descriptors (set_at b (device_of image)) (device_of image)

  pub same_count : length all ≡ length endpoints
  same_count = sym (length-map all _) ∙ ap length (same_endpoints b bytes ok (device_of image) (λ address attributes. address) f.fit) ∙ length-map endpoints _

  gave : (k : ℕ) → endpoint_on b image k ≡ endpoint_part (get_elem? all k)
  gave k = past b image k ok f.long f.fit

  -- there are at most 30, so a number of one byte counts them all
  pub endpoints_few : length endpoints ≤ 30
  endpoints_few = at_most_thirty b bytes ok (device_of image)

  module _ (lie : Spots) (number : ℕ → ℕ) (shown : ℕ → List ℕ) (spot : ℕ → Spot) (gives : (k : ℕ) → k < 256 → GivesEndpoint b lie image k (number k) (shown k) (spot k)) where
    pub endpoints_there : (k : ℕ) → k < length endpoints → number k ≡ 0
    endpoints_there k h = let (x, e) = at-inside all k (omega (arith, same_count, h)) in (gives k (omega (arith, endpoints_few, h))).number ∙ rw (gave k, e)

    pub endpoints_end : (k : ℕ) → k < 256 → length endpoints ≤ k → number k ≡ 16
    endpoints_end k small h = (gives k small).number ∙ rw (gave k, at-beyond all k (omega (arith, same_count, h)))

    pub shows-at : (k : ℕ) (x : DescriptorAt) → get_elem? all k ≡ some x → shown k ≡ x.bytes
    shows-at k x e =
        (gives k (omega (arith, at-below all k e, same_count, endpoints_few))).shows
        ∙ rw (gave k, e) (stands (row_for b.high (device_of image).speed) (board_for b (device_of image).speed) (opens_for b (device_of image).speed (opens b bytes ok (device_of image))) (device_of image) x (at-member all k e)).shown

    -- the parts tell the address and the attributes of each current endpoint, one for one, in the set's order (CurrentGroups: and are their descriptors, whole)
    pub endpoints_all : map (λ k. described (shown k)) (up_to (length endpoints)) ≡ map listed endpoints
    endpoints_all = rw (← same_count)
        (told (λ k. described (shown k)) (λ p. described p.bytes) all (λ k x e. ap described (shows-at k x e)) ∙ same_endpoints b bytes ok (device_of image) pair f.fit)

    -- each once: the parts lie one after the other, and no two have one address
    module _ (j k : ℕ) (before : j < k) (there : k < length endpoints) where
      pub endpoints_after : (spot j).offset + length (shown j) ≤ (spot k).offset
      endpoints_after =
          let (x, p) = at-inside all j (omega (arith, same_count, before, there)) in
          let (y, q) = at-inside all k (omega (arith, same_count, there)) in
          let l : x.offset + length x.bytes ≤ y.offset = leb-true _ _ (pairs-at before-it all (in_order b bytes ok (device_of image)) j k p q before) in
          let one = (gives j (omega (arith, endpoints_few, before, there))).lies in
          let other = (gives k (omega (arith, endpoints_few, there))).lies in
          rw (one, other, gave j, gave k, p, q, shows-at j x p) (omega arith)

      pub endpoints_apart : bEndpointAddress (shown j) ≡ bEndpointAddress (shown k) → ⊥
      endpoints_apart i =
          let (x, p) = at-inside all j (omega (arith, same_count, before, there)) in
          let (y, q) = at-inside all k (omega (arith, same_count, there)) in
          let address : map (λ p. bEndpointAddress p.bytes) all ≡ map (λ e. e.address) endpoints = same_endpoints b bytes ok (device_of image) (λ address attributes. address) f.fit in
          let one : pairs differ (map (λ p. bEndpointAddress p.bytes) all) ≡ true = rw address (sym (pairs-map differ (λ e. e.address) endpoints) ∙ addresses_differ b bytes ok (device_of image)) in
          unequal _ _ (pairs-at (λ p q. differ (bEndpointAddress p.bytes) (bEndpointAddress q.bytes)) all (pairs-map differ (λ p. bEndpointAddress p.bytes) all ∙ one) j k p q before)
          (ap bEndpointAddress (sym (shows-at j x p)) ∙ i ∙ ap bEndpointAddress (shows-at k y q))
