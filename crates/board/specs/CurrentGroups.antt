-- U2: the endpoint descriptors that hk_endpoint and hk_two_endpoint give for 0, 1, 2 .. are exactly those of the groups of the selected configuration whose setting is
-- current, whole, each where it stands in the set, in the set's order. No axiom.
use Rattle.std.specs.Prelude.{ℕ, ◌+◌, ◌≤◌, ◌<◌, ◌≡◌, Bool, ◌&&◌, get_or, eqb}
use native.Mathlib.Omega.{arith}
use Rattle.std.proofs.Math.Path.{refl}
use Rattle.std.proofs.Common.{ap, ◌∙◌, eqb-true}
use mathlib.Core.List.{List, [], ◌∷◌, ◌++◌, map, flat_map}
use Rattle.std.proofs.Math.Bool.{true, false}
use Rattle.std.proofs.Math.Option.{Option, some, none}
use Rattle.std.proofs.Math.ListN.{length, get_elem?}
use Rattle.octets.specs.Octets.{byte}
use Rattle.octets.specs.Sentences.{pick, only, up_to}
use Rattle.octets.proofs.Sentences.{cases}
use Rattle.octets.proofs.Counting.{at-inside, at-beyond, told}
use Rattle.descriptors.specs.Cut.{cut, descriptors_of}
use Rattle.descriptors.specs.Descriptor.{is_interface, is_endpoint, bDescriptorType, bInterfaceNumber, bAlternateSetting}
use Rattle.descriptors.specs.Interfaces.{Group, grouped}
use Rattle.descriptors.specs.Configuration.{behind, groups_of}
use Rattle.descriptors.specs.Endpoints.{DescriptorAt, begins_current, current_from}
use Rattle.sets.specs.declared.Entry.{Entry}
use Rattle.sets.specs.Contents.{body_of}
use Rattle.sets.specs.Opening.{Board, BytesOf}
use Rattle.sets.specs.View.{accepted}
use Rattle.records.specs.declared.Device.{Device}
use Rattle.records.specs.Device.{in_configured}
use Rattle.records.specs.Image.{device_of}
use Rattle.records.specs.Current.{set_at}
use Rattle.steps.specs.Endpoint.{selected_entry, in_set, endpoints_in, endpoint_descriptors, endpoint_part, endpoint_on}
use Rattle.promises.specs.Keeps.{FitImage}
use Rattle.board.specs.Exports.{Spot, Spots, GivesEndpoint}
use Rattle.board.specs.Endpoints.{spot_in_use, past, at-below, same_count, endpoints_few, shows-at}

-- ---- the groups of a configuration, as document 01 cuts and groups its descriptors, each descriptor with where it begins in the set
-- descriptors one behind the other, the first at `at`
unfoldable pub placed : ℕ → List (List ℕ) → List DescriptorAt
placed at [] = []
placed at (d ∷ ds) = record { offset = at; bytes = d } ∷ placed (at + length d) ds

-- an interface descriptor, and the endpoints after it, before the next
pub record GroupAt : Type 0 where
  pub head : DescriptorAt
  pub endpoints : List DescriptorAt

pub record GroupsAt : Type 0 where
  pub loose : List DescriptorAt
  pub groups : List GroupAt

unfoldable pub grouped_at : List DescriptorAt → GroupsAt
grouped_at [] = record { loose = []; groups = [] }
grouped_at (d ∷ ds) =
    let rest = grouped_at ds in
    pick (is_interface d.bytes) (record { loose = []; groups = record { head = d; endpoints = rest.loose } ∷ rest.groups })
    (pick (is_endpoint d.bytes) (record { loose = d ∷ rest.loose; groups = rest.groups }) rest)

-- of the configuration at an entry: what stands behind its first descriptor, whose bLength is byte 0
abbrev pub groups_at : List ℕ → Option Entry → List GroupAt
groups_at set none = []
groups_at set (some e) = (grouped_at (placed (e.offset + byte (body_of set e) 0) (behind (descriptors_of (cut (body_of set e)))))).groups

-- a group whose setting is current: its interface has this alternate setting in the record
abbrev pub is_current_group : List ℕ → GroupAt → Bool
is_current_group alternates g = eqb (bAlternateSetting g.head.bytes) (get_or alternates (bInterfaceNumber g.head.bytes) 0)

-- the endpoint descriptors of the current settings; "Interfaces and endpoints other than zero exist only in Configured"
abbrev pub current_ones : List ℕ → Device → List DescriptorAt
current_ones set d = pick (eqb d.state in_configured) (flat_map (λ g. g.endpoints) (only (is_current_group d.alternates) (groups_at set (selected_entry set d)))) []

-- ---- without their places they are the groups that opening judges and requests read
abbrev pub unplaced : GroupAt → Group
unplaced g = record { head = g.head.bytes; endpoints = map (λ p. p.bytes) g.endpoints }

same-groups : (at : ℕ) (ds : List (List ℕ)) → (map (λ p. p.bytes) (grouped_at (placed at ds)).loose ≡ (grouped ds).loose) × (map unplaced (grouped_at (placed at ds)).groups ≡ (grouped ds).groups)
unfolding placed grouped_at grouped
same-groups at [] = (refl, refl)
same-groups at (d ∷ ds) = go (is_interface d) (is_endpoint d) (grouped_at (placed (at + length d) ds)) (same-groups (at + length d) ds)
  where
    go : (i e : Bool) (rest : GroupsAt) → (map (λ p. p.bytes) rest.loose ≡ (grouped ds).loose) × (map unplaced rest.groups ≡ (grouped ds).groups)
        → (let p : DescriptorAt = record { offset = at; bytes = d } in
        let here = pick i (record { loose = []; groups = record { head = p; endpoints = rest.loose } ∷ rest.groups }) (pick e (record { loose = p ∷ rest.loose; groups = rest.groups }) rest) in
        let its = pick i (record { loose = []; groups = record { head = d; endpoints = (grouped ds).loose } ∷ (grouped ds).groups }) (pick e (record { loose = d ∷ (grouped ds).loose; groups = (grouped ds).groups }) (grouped ds)) in
        (map (λ p. p.bytes) here.loose ≡ its.loose) × (map unplaced here.groups ≡ its.groups))
    go true e rest (p, q) = (refl, rw (p, q))
    go false true rest (p, q) = (rw p, q)
    go false false rest (p, q) = (p, q)

pub groups_of_body : (set : List ℕ) (e : Entry) → map unplaced (groups_at set (some e)) ≡ groups_of (body_of set e)
unfolding groups_of
groups_of_body set e = (same-groups (e.offset + byte (body_of set e) 0) (behind (descriptors_of (cut (body_of set e))))).1

-- ---- the list that hk_endpoint counts along is theirs
module _ (alternates : List ℕ) where
  -- those behind a setting that has begun, and those of the groups that follow
  abbrev theirs : Bool → GroupsAt → List DescriptorAt
  theirs current g = pick current g.loose [] ++ flat_map (λ g. g.endpoints) (only (is_current_group alternates) g.groups)

  not-both : (d : List ℕ) → is_interface d ≡ true → is_endpoint d ≡ false
  not-both d i = rw (eqb-true (bDescriptorType d) 4 i)

  from-groups : (current : Bool) (at : ℕ) (ds : List (List ℕ)) → current_from alternates current at ds ≡ theirs current (grouped_at (placed at ds))
  unfolding current_from placed grouped_at only flat_map
  from-groups true at [] = refl
  from-groups false at [] = refl
  from-groups current at (d ∷ ds) = cases (is_interface d)
      (λ i. rw (i, not-both d i, from-groups (begins_current alternates d) (at + length d) ds) (begun current (begins_current alternates d) (grouped_at (placed (at + length d) ds))))
      (λ i. rw (i, from-groups current (at + length d) ds) (within (is_endpoint d) current (grouped_at (placed (at + length d) ds))))
    where
      begun : (c t : Bool) (g : GroupsAt)
          → theirs t g ≡ pick c [] [] ++ flat_map (λ g. g.endpoints) (pick t (record { head = record { offset = at; bytes = d }; endpoints = g.loose } ∷ only (is_current_group alternates) g.groups) (only (is_current_group alternates) g.groups))
      begun true true g = refl
      begun true false g = refl
      begun false true g = refl
      begun false false g = refl

      within : (e t : Bool) (g : GroupsAt) → pick (e && t) (record { offset = at; bytes = d } ∷ theirs t g) (theirs t g)
          ≡ theirs t (pick e (record { loose = record { offset = at; bytes = d } ∷ g.loose; groups = g.groups }) g)
      within true true g = refl
      within true false g = refl
      within false t g = refl

  shifted : (e : Entry) (current : Bool) (at : ℕ) (ds : List (List ℕ)) → map (in_set e) (current_from alternates current at ds) ≡ current_from alternates current (e.offset + at) ds
  unfolding current_from
  shifted e current at [] = refl
  shifted e current at (d ∷ ds) =
      let here = pick (is_interface d) (begins_current alternates d) current in
      let s : e.offset + (at + length d) ≡ e.offset + at + length d = omega arith in
      rw (← s, ← shifted e here (at + length d) ds) (go (is_endpoint d && here) (current_from alternates here (at + length d) ds))
    where
      go : (t : Bool) (rest : List DescriptorAt) → map (in_set e) (pick t (record { offset = at; bytes = d } ∷ rest) rest)
          ≡ pick t (record { offset = e.offset + at; bytes = d } ∷ map (in_set e) rest) (map (in_set e) rest)
      go true rest = refl
      go false rest = refl

pub current_exactly : (set : List ℕ) (d : Device) → endpoint_descriptors set d ≡ current_ones set d
unfolding endpoint_descriptors only flat_map
current_exactly set d = ap (λ (l : List DescriptorAt). pick (eqb d.state in_configured) l []) (in_entry (selected_entry set d))
  where
    in_entry : (o : Option Entry) → endpoints_in set d o ≡ flat_map (λ g. g.endpoints) (only (is_current_group d.alternates) (groups_at set o))
    in_entry none = refl
    in_entry (some e) =
        shifted d.alternates e false (byte (body_of set e) 0) (behind (descriptors_of (cut (body_of set e))))
        ∙ from-groups d.alternates false (e.offset + byte (body_of set e) 0) (behind (descriptors_of (cut (body_of set e))))

-- a part as it is given: its bytes, and where it lies
pub record PartGiven : Type 0 where
  pub bytes : List ℕ
  pub spot : Spot

-- a descriptor of the set in use, given so
abbrev pub given_at : Board → Spots → List ℕ → DescriptorAt → PartGiven
given_at b lie image p = let used = spot_in_use b (device_of image).speed lie in record { bytes = p.bytes; spot = record { block = used.block; offset = used.offset + p.offset } }

-- ---- counting up from 0, by one byte, on an image that fits
module _ (b : Board) (bytes : BytesOf b) (ok : accepted b ≡ true) {image : List ℕ} (f : FitImage b image) (lie : Spots)
    (number : ℕ → ℕ) (shown : ℕ → List ℕ) (spot : ℕ → Spot) (gives : (k : ℕ) → k < 256 → GivesEndpoint b lie image k (number k) (shown k) (spot k)) where
  abbrev all : List DescriptorAt
  all = endpoint_descriptors (set_at b (device_of image)) (device_of image)

  abbrev ones : List DescriptorAt
  ones = current_ones (set_at b (device_of image)) (device_of image)

  gave : (k : ℕ) → endpoint_on b image k ≡ endpoint_part (get_elem? all k)
  gave k = past b image k ok f.long f.fit

  few : length all ≤ 30
  few = omega (arith, same_count b bytes ok f, endpoints_few b bytes ok f)

  abbrev part : ℕ → PartGiven
  part k = record { bytes = shown k; spot = spot k }

  shown-at : (k : ℕ) (x : DescriptorAt) → get_elem? all k ≡ some x → part k ≡ given_at b lie image x
  shown-at k x e =
      let g = gives k (omega (arith, at-below all k e, few)) in
      let p : shown k ≡ x.bytes = shows-at b bytes ok f lie number shown spot gives k x e in
      let q : spot k ≡ (given_at b lie image x).spot = g.lies ∙ rw (gave k, e) in
      rw (p, q)

  -- "the number-th endpoint descriptor of the current settings, from 0": as many as there are, each whole and where it stands, in the set's order
  pub endpoints_exactly : map part (up_to (length ones)) ≡ map (given_at b lie image) ones
  endpoints_exactly = rw (← current_exactly (set_at b (device_of image)) (device_of image)) (told part (given_at b lie image) all shown-at)

  -- each of these is given, and every number behind them gets 16
  pub endpoints_given : (k : ℕ) → k < length ones → number k ≡ 0
  endpoints_given k h =
      let l : k < length all = rw (current_exactly (set_at b (device_of image)) (device_of image)) h in
      let (x, e) = at-inside all k l in
      (gives k (omega (arith, few, l))).number ∙ rw (gave k, e)

  pub endpoints_behind : (k : ℕ) → k < 256 → length ones ≤ k → number k ≡ 16
  endpoints_behind k small h =
      let l : length all ≤ k = rw (current_exactly (set_at b (device_of image)) (device_of image)) h in
      (gives k small).number ∙ rw (gave k, at-beyond all k l)
