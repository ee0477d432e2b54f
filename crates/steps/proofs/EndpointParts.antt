-- The endpoint descriptors of the current settings as parts of the set: an answer by its order of refusals. No axiom.
use Rattle.std.specs.Prelude.{Option, Some, None}
use Rattle.octets.proofs.Vocabulary.{◌≡◌, refl, sym, ap, ◌∙◌, ℕ, zero, suc, ◌+◌, ◌≤◌, List, [], ◌∷◌, map, List-as-Memᴰ, List·Memᴰ·not-nil, Bool, true, false, not, Option as Maybe, some, none, length, take, drop, get_elem?, length-take, length-drop, eqb, leb, take-take, drop-drop, arith, eq-eqb, ne_eqb, eqb-true, leb-true}
use Rattle.octets.specs.Octets.{Bytes, byte, part}
use Rattle.octets.specs.Sentences.{pick, ◌⇒◌, any, is_some}
use Rattle.octets.proofs.Sentences.{cases, if-then, conjunct, every_map, every-member, only-member, first_some}
use Rattle.octets.proofs.Counting.{at-member}
use Rattle.descriptors.specs.declared.limits.Limits.{Limits}
use Rattle.descriptors.specs.Cut.{cut, descriptors_of, well_cut}
use Rattle.descriptors.specs.Limits.{named, refused_types}
use Rattle.descriptors.specs.Descriptor.{bDescriptorType, is_interface, is_endpoint, good_endpoint, good_descriptor}
use Rattle.descriptors.specs.declared.survey.Asked.{Asked}
use Rattle.descriptors.specs.declared.survey.Survey.{Survey}
use Rattle.descriptors.specs.Survey.{Surveys}
use Rattle.descriptors.specs.Configuration.{bConfigurationValue, behind, good_configuration, configuration_of}
use Rattle.descriptors.specs.Endpoints.{DescriptorAt, current_descriptors}
use Rattle.descriptors.specs.Seek.{found_at}
use Rattle.descriptors.proofs.GoodBody.{good-cut, good-body}
use Rattle.descriptors.proofs.CurrentEndpoints.{from_member, lies}
use Rattle.sets.specs.declared.Entry.{Entry}
use Rattle.sets.specs.Contents.{total, count, bodies_at, body_of, is_kind, bodies, entries, entries_of, good_frame}
use Rattle.sets.specs.Opening.{Board, lent, opening}
use Rattle.sets.specs.Found.{found, can_wake, is_found}
use Rattle.sets.specs.View.{View, view_of, has_value, wakes, opening_of, accepted}
use Rattle.sets.proofs.Groups.{Groups, groups, each-rule, inside}
use Rattle.sets.proofs.Bodies.{mapped}
use Rattle.sets.proofs.Lookups.{value_there, wakes-found}
use Rattle.records.specs.declared.Device.{Device}
use Rattle.records.specs.Device.{in_configured}
use Rattle.records.specs.Image.{device_of}
use Rattle.records.specs.Change.{valued as with_value}
use Rattle.records.specs.Current.{set_for, set_at, board_for}
use Rattle.records.specs.Fits.{fits, fits_on}
use Rattle.records.proofs.InUse.{row_for, opens_for}
use Rattle.events.specs.Answer.{Refused, part_of, InsideAt}
use Rattle.steps.specs.Gathering.{Openable, view_in, endpoint_in, endpoint_on_in, body_found, selected_body, standing, ending}
use Rattle.steps.proofs.Configurations.{selected-by-value, no_zero, usable}
use Rattle.steps.specs.Endpoint.{selected_entry, in_set, endpoints_in, endpoint_descriptors, endpoint_part, endpoint, endpoint_on}

-- ---- a descriptor of a body, as a part of the set
part_in : (e : Entry) (l : List DescriptorAt) (k : ℕ) → endpoint_part (get_elem? (map (in_set e) l) k) ≡ standing (Some e) (found_at (get_elem? l k))
part_in e [] k = refl
part_in e (p ∷ l) zero = refl
part_in e (p ∷ l) (suc k) = part_in e l k

module _ (set : List ℕ) (d : Device) (k : ℕ) where
  stands-in : (o : Maybe Entry) → endpoint_part (get_elem? (endpoints_in set d o) k) ≡ standing (found o) (found_at (get_elem? (current_descriptors d.alternates (body_found set (found o))) k))
  stands-in none = nowhere (get_elem? (current_descriptors d.alternates []) k)
    where
      nowhere : (o : Maybe DescriptorAt) → Refused 16 ≡ standing (found none) (found_at o)
      nowhere none = refl
      nowhere (some p) = refl
  stands-in (some e) = part_in e (current_descriptors d.alternates (body_found set (Some e))) k

-- ---- the answer is that of the set in use
pub endpoint-on-in : (b : Board) (image : List ℕ) (k : ℕ) → (let set = set_for b (device_of image).speed in
    endpoint_on b image k ≡ endpoint_on_in (accepted b) (view_in (is_some b.high) set b.serial) set image k)
unfolding endpoint_on endpoint view_of
endpoint-on-in b image k = refl

-- by its order of refusals
module _ (accepted : Bool) (v : View) (set : List ℕ) (d : Device) (k : ℕ) (p : accepted ≡ true) where
  pub record-refused : fits v d ≡ false → endpoint_in accepted v set d k ≡ Refused 8
  record-refused q = rw (p, q)

  pub none_elsewhere : fits v d ≡ true → (d.state ≡ in_configured → ⊥) → endpoint_in accepted v set d k ≡ Refused 16
  unfolding endpoint_descriptors
  none_elsewhere q n = rw (p, q, ne_eqb d.state in_configured n)

  pub answers : fits v d ≡ true → d.state ≡ in_configured
      → endpoint_in accepted v set d k ≡ standing (found (selected_entry set d)) (found_at (get_elem? (current_descriptors d.alternates (selected_body set d.configuration)) k))
  unfolding endpoint_descriptors
  answers q n = rw (p, q, eq-eqb d.state in_configured n) (stands-in set d k (selected_entry set d))

-- ---- an accepted set is short
set-short : (limits : Limits) (b : Board) → opening limits b ≡ 0 → length b.set ≤ 16384
unfolding good_frame
set-short limits b p =
    let set = b.set in
    leb-true (length set) 16384 (conjunct 1 (leb 4 (length set) ∷ leb (length set) 16384 ∷ eqb (total set) (length set) ∷ leb 1 (count set) ∷ leb (count set) 64 ∷ eqb (byte set 3) 0 ∷ leb (bodies_at set) (total set) ∷ []) (groups limits b p).frame)

-- ---- what was gathered tells whether the record fits
module _ (paired : Bool) (set serial : List ℕ) (d : Device) {entry : Option Entry} {body : List ℕ} (e : entry ≡ found (selected_entry set d)) (l : body ≡ body_found set entry) where
  pub selected-body : body ≡ selected_body set d.configuration
  selected-body = l ∙ ap (body_found set) e

  -- the body is cut well, where the set opens
  pub whole : Openable set serial → Bytes set → well_cut (cut body) ≡ true
  whole o h = rw selected-body (usable o.0 (lent set serial) h o.1 d.configuration).whole

  pub fitting : Openable set serial → {survey : Survey} {asked : Asked} {there waking fit : Bool}
      → Surveys (configuration_of body) d.alternates asked survey → there ≡ is_found entry → waking ≡ any can_wake (bodies 2 set)
      → ((v : View) (a : Asked) → Surveys (with_value v d) d.alternates a survey → has_value (record { 0 = 0 }) v.configurations ≡ false → there ≡ has_value (record { 0 = d.configuration }) v.configurations → waking ≡ wakes v → paired ≡ v.paired → fit ≡ fits v d)
      → fit ≡ fits (view_in paired set serial) d
  fitting o {asked = asked} s t w told =
      told (view_in paired set serial) asked (rw (ap configuration_of selected-body ∙ selected-by-value set d.configuration) at s) (no_zero o.0 (lent set serial) o.1) (rw (t, e, value_there set d.configuration)) (w ∙ sym (wakes-found set)) refl

-- ---- each of them is an endpoint descriptor that obeys the rules, and lies in the set where it is said to lie
pub record Stands (limits : Limits) (set : List ℕ) (p : DescriptorAt) : Type 0 where
  pub inside : p.offset + length p.bytes ≤ length set
  pub shown : part set p.offset (length p.bytes) ≡ p.bytes
  pub long : byte p.bytes 0 ≡ length p.bytes
  pub kind : is_endpoint p.bytes ≡ true
  pub good : good_endpoint limits p.bytes ≡ true

-- a part of a part
within : (n at size : ℕ) (l : List ℕ) → at + size ≤ n → part (take n l) at size ≡ part l at size
within n zero size l h = take-take size n l (omega arith)
within zero (suc at) size l h = absurd (omega arith)
within (suc n) (suc at) size [] h = refl
within (suc n) (suc at) size (x ∷ l) h = within n at size l (omega arith)

part-part : (set : List ℕ) (offset n at size : ℕ) → at + size ≤ n → part (part set offset n) at size ≡ part set (offset + at) size
part-part set offset n at size h = within n at size (drop offset set) h ∙ rw drop-drop

module _ (limits : Limits) (b : Board) (opens : opening limits b ≡ 0) (d : Device) where
  g : Groups limits b
  g = groups limits b opens

  -- the body of a configuration's entry obeys the rules
  entry-good : (e : Entry) → List-as-Memᴰ e (entries_of 2 b.set) → good_configuration limits (body_of b.set e) ≡ true
  entry-good e m =
      let set = b.set in
      every-member (λ e. good_configuration limits (body_of set e)) (sym (every_map (good_configuration limits) (body_of set) (entries_of 2 set)) ∙ (each-rule limits set g.configurations).good) m

  in_entry : (e : Entry) → List-as-Memᴰ e (entries_of 2 b.set) → (q : DescriptorAt) → List-as-Memᴰ q (current_descriptors d.alternates (body_of b.set e)) → Stands limits b.set (in_set e q)
  in_entry e m q n =
      let set = b.set in
      let body = body_of set e in
      let lie = lies d.alternates body (good-cut limits body (entry-good e m)) q n in
      let fit = inside limits b g e (only-member (is_kind 2) (entries set) m).0 in
      let size : length body ≤ e.length = rw (length-take, length-drop) (omega arith) in
      let l = q.bytes in
      let (k, t) = from_member d.alternates false (byte body 0) (behind (descriptors_of (cut body))) q n in
      let each = every-member (good_descriptor limits) (good-body limits body (entry-good e m)).each k in
      record {
        inside = omega (arith, lie.inside, fit, size);
        shown = sym (part-part set e.offset e.length q.offset (length l) (omega (arith, lie.inside, size))) ∙ lie.shown;
        long = lie.long;
        kind = t;
        good = if-then (is_endpoint l) (good_endpoint limits l) (conjunct 2 (not (named refused_types (bDescriptorType l)) ∷ (is_interface l ⇒ leb 9 (length l)) ∷ (is_endpoint l ⇒ good_endpoint limits l) ∷ []) each) t;
      }

  pub stands : (p : DescriptorAt) → List-as-Memᴰ p (endpoint_descriptors b.set d) → Stands limits b.set p
  unfolding endpoint_descriptors
  stands p m = go (eqb d.state in_configured) (selected_entry b.set d) refl m
    where
      go : (t : Bool) (o : Maybe Entry) → selected_entry b.set d ≡ o → List-as-Memᴰ p (pick t (endpoints_in b.set d o) []) → Stands limits b.set p
      go false o e n = absurd (List·Memᴰ·not-nil n)
      go true none e n = absurd (List·Memᴰ·not-nil n)
      go true (some x) e n =
          let (q, k, i) = mapped (in_set x) (current_descriptors d.alternates (body_of b.set x)) n in
          rw i (in_entry x (first_some (λ x. eqb (bConfigurationValue (body_of b.set x)) d.configuration) (entries_of 2 b.set) e).0 q k)

  -- so that one with a number ends in it, and that is a number of two bytes
  pub ends-inside : (k : ℕ) → ending (found (selected_entry b.set d)) (found_at (get_elem? (current_descriptors d.alternates (selected_body b.set d.configuration)) k)) ≤ 65535
  ends-inside k = go (selected_entry b.set d) refl
    where
      nowhere : (o : Maybe DescriptorAt) → ending None (found_at o) ≤ 65535
      nowhere none = omega arith
      nowhere (some p) = omega arith

      within-body : (e : Entry) → List-as-Memᴰ e (entries_of 2 b.set) → (o : Maybe DescriptorAt) → get_elem? (current_descriptors d.alternates (body_of b.set e)) k ≡ o → ending (Some e) (found_at o) ≤ 65535
      within-body e m none q = omega arith
      within-body e m (some p) q = omega (arith, (in_entry e m p (at-member (current_descriptors d.alternates (body_of b.set e)) k q)).inside, set-short limits b opens)

      go : (o : Maybe Entry) → selected_entry b.set d ≡ o → ending (found o) (found_at (get_elem? (current_descriptors d.alternates (body_found b.set (found o))) k)) ≤ 65535
      go none q = nowhere (get_elem? (current_descriptors d.alternates []) k)
      go (some e) q = within-body e (first_some (λ x. eqb (bConfigurationValue (body_of b.set x)) d.configuration) (entries_of 2 b.set) q).0 (get_elem? (current_descriptors d.alternates (body_of b.set e)) k) refl

-- ---- so an answer's part lies in the set in use
module _ (b : Board) (d : Device) (k : ℕ) where
  in-set : (limits : Limits) (o : Maybe DescriptorAt) → ((p : DescriptorAt) → o ≡ some p → Stands limits (set_at b d) p) → InsideAt b d.speed (part_of (endpoint_part o))
  in-set limits none h = omega arith
  in-set limits (some p) h = (h p refl).inside

  pub endpoint-inside : InsideAt b d.speed (part_of (endpoint b d k))
  unfolding endpoint
  endpoint-inside = cases (accepted b)
      (λ p. cases (fits_on b d)
      (λ q. rw (p, q) (in-set (row_for b.high d.speed) (get_elem? (endpoint_descriptors (set_at b d) d) k)
      (λ x e. stands (row_for b.high d.speed) (board_for b d.speed) (opens_for b d.speed (eqb-true (opening_of b) 0 p)) d x (at-member (endpoint_descriptors (set_at b d) d) k e))))
      (λ q. rw (p, q) (omega arith)))
      (λ p. rw p (omega arith))
