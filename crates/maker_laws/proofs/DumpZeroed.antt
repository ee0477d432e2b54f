-- References set to zero, descriptor by descriptor: a good device and a good body stay good, and no reference is left. No axiom.
use Rattle.octets.proofs.Vocabulary.{◌≡◌, refl, sym, ap, ◌∙◌, ℕ, zero, suc, ◌+◌, ◌-◌, ◌≤◌, ◌<◌, List, [], ◌∷◌, ◌++◌, map, append_assoc, List-as-Memᴰ, List·Memᴰ·head, List·Memᴰ·tail, Bool, true, false, ◌&&◌, length, take, drop, set, length-set, length-append, take-append-drop, List·get_d-append, List·get_d-eq-default, eqb, leb, take_at, set-append_left, get_or-set_other, set-get_or, get_or-take, length-take-le, arith, zero-add, eqb-true, eqb-false, eq-eqb, ne_eqb, leb-true, leb-false, le-leb}
use Rattle.octets.specs.Octets.{byte, word}
use Rattle.octets.specs.Sentences.{pick, ◌⇒◌, every, any, pairs, member}
use Rattle.octets.proofs.Sentences.{cases, never, both, joined, conjunct, if-then, then_if, every-member, member-every, every-alike, every_map}
use Rattle.octets.proofs.Counting.{pairs-map, differ}
use Rattle.descriptors.specs.declared.limits.Limits.{Limits}
use Rattle.descriptors.specs.declared.Setting.{Setting}
use Rattle.descriptors.specs.Cut.{descriptor, broken, cut, cut_after, descriptors_of, well_cut}
use Rattle.descriptors.specs.Descriptor.{is_interface, is_endpoint, iInterface, good_descriptor}
use Rattle.descriptors.specs.Interfaces.{Group, Groups, grouped, setting_of, endpoint_of, endpoints_of, counted, good_interfaces}
use Rattle.descriptors.specs.Companion.{good_companions}
use Rattle.descriptors.specs.Configuration.{bConfigurationValue, iConfiguration, configuration_references, behind, good_head, good_descriptors, good_configuration, is_configuration, head_long_enough, total_is_size, bit_seven_one, low_bits_zero, power_within, counts_interface, at_most16_interfaces}
use Rattle.descriptors.proofs.GoodBody.{GoodDescriptors, good-cut, good-body}
use Rattle.descriptors.proofs.CheckReferences.{of_interface, references-all}
use Rattle.sets.specs.Device.{iManufacturer, iProduct, iSerialNumber, good_device}
use Rattle.sets.specs.Opening.{value_nonzero, distinct_values}
use Rattle.sets.proofs.Entries.{every-cons}
use Rattle.dumps.specs.Dump.{flat, blanked, has_name, names_from, zeroed_device, zeroed_configuration}
use Rattle.dumps.proofs.Blanking.{blanked-length}
use Rattle.dumps.proofs.Streaming.{zeroed-length}

-- ---- a byte of a blanked list is 0 where it was blanked, and else what it was
zero-there : (l : List ℕ) (p : ℕ) → byte (set l p 0) p ≡ 0
zero-there [] p = refl
zero-there (x ∷ l) zero = refl
zero-there (x ∷ l) (suc p) = zero-there l p

blanked-byte : (ps l : List ℕ) (k : ℕ) → byte (blanked ps l) k ≡ pick (member k ps) 0 (byte l k)
unfolding blanked any
blanked-byte [] l k = refl
blanked-byte (p ∷ ps) l k = blanked-byte ps (set l p 0) k ∙ cases (eqb k p) (λ e. rw e (zeros (member k ps) (rw (eqb-true k p e) (zero-there l p)))) (λ e. rw (e, get_or-set_other l p k 0 0 (eqb-false k p e)))
  where
    zeros : (b : Bool) {n : ℕ} → n ≡ 0 → pick b 0 n ≡ 0
    zeros true e = refl
    zeros false e = e

-- what is 0 already stays
set_same : (l : List ℕ) (p : ℕ) → byte l p ≡ 0 → set l p 0 ≡ l
set_same l p e = ap (λ (a : ℕ). set l p a) (sym e) ∙ set-get_or l p 0

-- ---- descriptors that say their length, end to end, are cut into themselves
abbrev entire : List ℕ → Bool
entire d = leb 2 (length d) && eqb (byte d 0) (length d)

cut-past : (xs rest : List ℕ) → cut_after (length xs) (xs ++ rest) ≡ cut rest
unfolding cut_after
cut-past [] rest = refl
cut-past (x ∷ xs) rest = cut-past xs rest

cut-one : (d rest : List ℕ) → entire d ≡ true → cut (d ++ rest) ≡ descriptor d (cut rest)
unfolding cut_after
cut-one [] rest p = never p refl
cut-one (b ∷ bs) rest p =
    let (n, e) = both (leb 2 (length (b ∷ bs))) (eqb b (length (b ∷ bs))) p in
    let i = eqb-true b (length (b ∷ bs)) e in
    let l : b - 1 ≡ length bs = omega arith in
    rw (le-leb 2 b (omega (arith, leb-true 2 (length (b ∷ bs)) n)), take_at (b ∷ bs) rest b (sym i), l, cut-past bs rest)

cut-joined : (ds : List (List ℕ)) → every entire ds ≡ true → (well_cut (cut (flat ds)) ≡ true) × (descriptors_of (cut (flat ds)) ≡ ds)
unfolding every flat well_cut descriptors_of cut_after
cut-joined [] p = (refl, refl)
cut-joined (d ∷ ds) p =
    let (e, es) = both (entire d) (every entire ds) p in
    let (w, q) = cut-joined ds es in
    rw (cut-one d (flat ds) e) (w, ap (λ (l : List (List ℕ)). d ∷ l) q)

-- and a body that is cut well is made of such descriptors
record Made (k : ℕ) (xs : List ℕ) : Type 0 where
  inside : k ≤ length xs
  joins : flat (descriptors_of (cut_after k xs)) ≡ drop k xs
  each : every entire (descriptors_of (cut_after k xs)) ≡ true

made : (k : ℕ) (xs : List ℕ) → well_cut (cut_after k xs) ≡ true → Made k xs
unfolding cut_after well_cut descriptors_of flat every
made zero [] p = record { inside = omega arith; joins = refl; each = refl }
made (suc k) [] p = never p refl
made (suc k) (b ∷ bs) p = let m = made k bs p in record { inside = omega (arith, m.inside); joins = m.joins; each = m.each }
made zero (b ∷ bs) p = go (leb 2 b) refl (rw (step-on (leb 2 b)) at p) (λ q. made (b - 1) bs q)
  where
    step-on : (t : Bool) → well_cut (pick t (descriptor (take b (b ∷ bs)) (cut_after (b - 1) bs)) broken) ≡ (t && well_cut (cut_after (b - 1) bs))
    step-on true = refl
    step-on false = refl

    go : (t : Bool) → leb 2 b ≡ t → (t && well_cut (cut_after (b - 1) bs)) ≡ true → (well_cut (cut_after (b - 1) bs) ≡ true → Made (b - 1) bs) → Made 0 (b ∷ bs)
    go false e q later = never q refl
    go true e q later =
        let m = later q in
        let two = leb-true 2 b e in
        let s : suc (b - 1) ≡ b = omega arith in
        let l : length (take b (b ∷ bs)) ≡ b = length-take-le b (b ∷ bs) (omega (arith, m.inside)) in
        record {
          inside = omega arith;
          joins = rw e (ap (λ (xs : List ℕ). take b (b ∷ bs) ++ xs) (m.joins ∙ ap (λ (k : ℕ). drop k (b ∷ bs)) s) ∙ take-append-drop b (b ∷ bs));
          each = rw e (joined (joined (le-leb 2 (length (take b (b ∷ bs))) (omega arith)) (eq-eqb (byte (take b (b ∷ bs)) 0) (length (take b (b ∷ bs))) (get_or-take b (b ∷ bs) 0 0 (omega arith) ∙ sym l))) m.each);
        }

-- ---- a descriptor without its name
unfoldable unnamed : List ℕ → List ℕ
unnamed d = pick (has_name d) (set d 8 0) d

module _ (d : List ℕ) where
  same_length : length (unnamed d) ≡ length d
  unfolding unnamed
  same_length = go (has_name d)
    where
      go : (b : Bool) → length (pick b (set d 8 0) d) ≡ length d
      go true = length-set d 8 0
      go false = refl

  same_byte : (k : ℕ) → k < 8 → byte (unnamed d) k ≡ byte d k
  unfolding unnamed
  same_byte k h = go (has_name d)
    where
      go : (b : Bool) → byte (pick b (set d 8 0) d) k ≡ byte d k
      go true = get_or-set_other d 8 k 0 0 (λ e. omega arith)
      go false = refl

  same-entire : entire (unnamed d) ≡ entire d
  same-entire = rw (same_length, same_byte 0 (omega arith))

  same-interface : is_interface (unnamed d) ≡ is_interface d
  same-interface = rw (same_byte 1 (omega arith))

  same-endpoint : is_endpoint (unnamed d) ≡ is_endpoint d
  same-endpoint = rw (same_byte 1 (omega arith))

  same_good : (limits : Limits) → good_descriptor limits (unnamed d) ≡ good_descriptor limits d
  same_good limits = rw (same_length, same_byte 1 (omega arith), same_byte 2 (omega arith), same_byte 3 (omega arith), same_byte 4 (omega arith), same_byte 5 (omega arith), same_byte 6 (omega arith))

  same-other : is_interface d ≡ false → unnamed d ≡ d
  unfolding unnamed
  same-other e = rw e

  no_name : entire d ≡ true → is_interface d ≡ true → byte (unnamed d) 8 ≡ 0
  unfolding unnamed
  no_name p i = cases (leb 9 (length d))
      (λ n. rw (i, n, (both (leb 2 (length d)) (eqb (byte d 0) (length d)) p).1) (zero-there d 8))
      (λ n. rw (i, n) (List·get_d-eq-default d 0 (omega (arith, leb-false 9 (length d) n))))

  nothing-named : (is_interface d ≡ true → byte d 8 ≡ 0) → unnamed d ≡ d
  unfolding unnamed
  nothing-named z = cases (has_name d) (λ p. rw p (set_same d 8 (z (both (is_interface d) (leb 9 (length d)) (both (is_interface d && leb 9 (length d)) (eqb (byte d 0) (length d)) p).0).0))) (λ p. rw p)

pub map_same : (f : List ℕ → List ℕ) (bs : List (List ℕ)) → ((b : List ℕ) → List-as-Memᴰ b bs → f b ≡ b) → map f bs ≡ bs
map_same f [] h = refl
map_same f (b ∷ bs) h = rw (h b (List·Memᴰ·head refl), map_same f bs (λ c m. h c (List·Memᴰ·tail m)))

-- ---- and the groups of such descriptors
abbrev unnamed_group : Group → Group
unnamed_group g = record { head = unnamed g.head; endpoints = g.endpoints }

abbrev unnamed_groups : Groups → Groups
unnamed_groups gs = record { loose = gs.loose; groups = map unnamed_group gs.groups }

same-groups : (ds : List (List ℕ)) → grouped (map unnamed ds) ≡ unnamed_groups (grouped ds)
unfolding grouped
same-groups [] = refl
same-groups (d ∷ ds) = go (is_interface d) (is_endpoint d) refl refl (same-groups ds)
  where
    go : (a b : Bool) → is_interface d ≡ a → is_endpoint d ≡ b → grouped (map unnamed ds) ≡ unnamed_groups (grouped ds) → grouped (unnamed d ∷ map unnamed ds) ≡ unnamed_groups (grouped (d ∷ ds))
    go true b i e rest = rw (same-interface d, i, rest)
    go false true i e rest = rw (same-interface d, same-endpoint d, i, e, rest, same-other d i)
    go false false i e rest = rw (same-interface d, same-endpoint d, i, e, rest)

same-setting : (g : Group) → setting_of (unnamed_group g) ≡ setting_of g
same-setting g = rw (same_byte g.head 2 (omega arith), same_byte g.head 3 (omega arith))

same-settings : (gs : List Group) → map setting_of (map unnamed_group gs) ≡ map setting_of gs
same-settings [] = refl
same-settings (g ∷ gs) = rw (same-settings gs) (ap (λ (s : Setting). s ∷ map setting_of gs) (same-setting g))

same-endpoints : (gs : List Group) → endpoints_of (map unnamed_group gs) ≡ endpoints_of gs
unfolding endpoints_of
same-endpoints [] = refl
same-endpoints (g ∷ gs) = rw (same-endpoints gs) (ap (λ (s : Setting). map (endpoint_of s) g.endpoints ++ endpoints_of gs) (same-setting g))

same-interfaces : (n : ℕ) (gs : Groups) → good_interfaces n (unnamed_groups gs) ≡ good_interfaces n gs
same-interfaces n gs =
    let c = every_map counted unnamed_group gs.groups ∙ every-alike (λ g. counted (unnamed_group g)) counted gs.groups (λ g m. rw (same_byte g.head 4 (omega arith))) in
    rw (same-settings gs.groups, c, same-endpoints gs.groups)

-- ---- the names of descriptors that lie end to end, behind others
set-behind : (xs ys : List ℕ) (n v : ℕ) → set (xs ++ ys) (length xs + n) v ≡ xs ++ set ys n v
set-behind [] ys n v = rw zero-add
set-behind (x ∷ xs) ys n v = let e : suc (length xs) + n ≡ suc (length xs + n) = omega arith in rw e (ap (λ (l : List ℕ). x ∷ l) (set-behind xs ys n v))

names-behind : (a : List ℕ) (ds : List (List ℕ)) → blanked (names_from (length a) ds) (a ++ flat ds) ≡ a ++ flat (map unnamed ds)
unfolding blanked names_from flat unnamed
names-behind a [] = refl
names-behind a (d ∷ ds) = go (has_name d) refl (λ x. names-behind (a ++ x) ds)
  where
    go : (b : Bool) → has_name d ≡ b → ((x : List ℕ) → blanked (names_from (length (a ++ x)) ds) ((a ++ x) ++ flat ds) ≡ (a ++ x) ++ flat (map unnamed ds))
        → blanked (pick b ((length a + 8) ∷ names_from (length a + length d) ds) (names_from (length a + length d) ds)) (a ++ (d ++ flat ds)) ≡ a ++ (unnamed d ++ flat (map unnamed ds))
    go true e later =
        let x = set d 8 0 in
        let n = (both (is_interface d) (leb 9 (length d)) (both (is_interface d && leb 9 (length d)) (eqb (byte d 0) (length d)) e).0).1 in
        let h : 8 < length d = omega (arith, leb-true 9 (length d) n) in
        let s : set (a ++ (d ++ flat ds)) (length a + 8) 0 ≡ a ++ (x ++ flat ds) = set-behind a (d ++ flat ds) 8 0 ∙ ap (λ (l : List ℕ). a ++ l) (set-append_left d (flat ds) 8 0 h) in
        rw e (ap (blanked (names_from (length a + length d) ds)) s ∙ (simp append_assoc at (rw (length-append, length-set) at (later x))))
    go false e later = rw e (simp append_assoc at (rw length-append at (later d)))

-- the first descriptor, which has its reference at 6, and the others
from_first : (d : List ℕ) (ds : List (List ℕ)) → is_interface d ≡ false → 6 < length d → blanked (6 ∷ names_from 0 (d ∷ ds)) (flat (d ∷ ds)) ≡ flat (set d 6 0 ∷ map unnamed ds)
unfolding blanked names_from flat
from_first d ds i h = rw (i, zero-add, set-append_left d (flat ds) 6 0 h) (rw length-set at (names-behind (set d 6 0) ds))

same_head : (size : ℕ) (d : List ℕ) → good_head size (set d 6 0) ≡ good_head size d
same_head size d = rw (length-set, other 1 (λ e. omega arith), other 2 (λ e. omega arith), other 3 (λ e. omega arith), other 4 (λ e. omega arith), other 7 (λ e. omega arith), other 8 (λ e. omega arith))
  where
    other : (k : ℕ) → (k ≡ 6 → ⊥) → byte (set d 6 0) k ≡ byte d k
    other k n = get_or-set_other d 6 k 0 0 n

-- ---- a good body
-- good_head, rule by rule
abbrev head_rules : ℕ → List ℕ → List Bool
head_rules size d =
    is_configuration d ∷ head_long_enough d ∷ total_is_size size d ∷ bit_seven_one d ∷ low_bits_zero d ∷ power_within d ∷ counts_interface d ∷ at_most16_interfaces d ∷ []

module _ (limits : Limits) (body : List ℕ) (good : good_configuration limits body ≡ true) where
  abbrev told : GoodDescriptors limits (length body) (descriptors_of (cut body))
  told = good-body limits body good

  abbrev pub first : List ℕ
  first = told.first

  abbrev pub rest : List (List ℕ)
  rest = behind (descriptors_of (cut body))

  is_made : Made 0 body
  is_made = made 0 body (good-cut limits body good)

  pub is-joined : flat (first ∷ rest) ≡ body
  is-joined = ap flat (sym told.begins) ∙ is_made.joins

  entires : (entire first ≡ true) × (every entire rest ≡ true)
  entires = both (entire first) (every entire rest) (sym (every-cons entire first rest) ∙ ap (every entire) (sym told.begins) ∙ is_made.each)

  pub first-long : 9 ≤ length first
  first-long = leb-true 9 (length first) (conjunct 1 (head_rules (length body) first) told.head)

  pub first_says : word first 2 ≡ length body
  first_says = eqb-true (word first 2) (length body) (conjunct 2 (head_rules (length body) first) told.head)

  -- what zeroing makes of it
  abbrev zeros : List (List ℕ)
  zeros = set first 6 0 ∷ map unnamed rest

  zeroed-is : zeroed_configuration body ≡ flat zeros
  zeroed-is =
      let two = eqb-true (byte first 1) 2 (conjunct 0 (head_rules (length body) first) told.head) in
      ap (λ (ds : List (List ℕ)). blanked (6 ∷ names_from 0 ds) body) told.begins
      ∙ ap (blanked (6 ∷ names_from 0 (first ∷ rest))) (sym is-joined)
      ∙ from_first first rest (ne_eqb (byte first 1) 4 (λ e. omega arith)) (omega (arith, first-long))

  zeros-entire : every entire zeros ≡ true
  unfolding every
  zeros-entire =
      let h : entire (set first 6 0) ≡ true = rw (length-set, get_or-set_other first 6 0 0 0 (λ e. omega arith)) entires.0 in
      joined h (every_map entire unnamed rest ∙ every-alike (λ d. entire (unnamed d)) entire rest (λ d m. same-entire d) ∙ entires.1)

  zeros-cut : (well_cut (cut (zeroed_configuration body)) ≡ true) × (descriptors_of (cut (zeroed_configuration body)) ≡ zeros)
  zeros-cut = rw zeroed-is (cut-joined zeros zeros-entire)

  zeros-good : limits.companions ≡ false → good_descriptors limits (length body) zeros ≡ true
  unfolding good_descriptors
  zeros-good none =
      let each = every_map (good_descriptor limits) unnamed rest ∙ every-alike (λ d. good_descriptor limits (unnamed d)) (good_descriptor limits) rest (λ d m. same_good d limits) ∙ told.each in
      let n : byte (set first 6 0) 4 ≡ byte first 4 = get_or-set_other first 6 4 0 0 (λ e. omega arith) in
      let stands : good_interfaces (byte (set first 6 0) 4) (grouped (map unnamed rest)) ≡ true = rw (n, same-groups rest) (same-interfaces (byte first 4) (grouped rest) ∙ told.interfaces) in
      let unasked : (limits.companions ⇒ good_companions zeros) ≡ true = ap (λ (b : Bool). b ⇒ good_companions zeros) none in
      joined (joined (joined (same_head (length body) first ∙ told.head) each) stands) unasked

  -- it stays good, of a kind without companions
  pub zeroed-good : limits.companions ≡ false → good_configuration limits (zeroed_configuration body) ≡ true
  unfolding good_configuration
  zeroed-good none = joined zeros-cut.0 (rw (zeroed-length body, zeros-cut.1) (zeros-good none))

  -- and no reference is left
  pub zeroed-plain : every (λ r. eqb r 0) (configuration_references (zeroed_configuration body)) ≡ true
  unfolding any
  zeroed-plain =
      let z : ℕ → Bool = λ r. eqb r 0 in
      let own : byte (zeroed_configuration body) 6 ≡ 0 = blanked-byte (6 ∷ names_from 0 (descriptors_of (cut body))) body 6 in
      let each : every (of_interface z) (map unnamed rest) ≡ true =
      every_map (of_interface z) unnamed rest ∙ member-every (λ d. of_interface z (unnamed d)) rest (λ d m. then_if (is_interface (unnamed d)) (z (iInterface (unnamed d)))
      (λ i. eq-eqb (iInterface (unnamed d)) 0 (no_name d (every-member entire entires.1 m) (sym (same-interface d) ∙ i)))) in
      references-all z (zeroed_configuration body) ∙ joined (eq-eqb (byte (zeroed_configuration body) 6) 0 own) (ap (λ (ds : List (List ℕ)). every (of_interface z) (behind ds)) zeros-cut.1 ∙ each)

  -- where there was none, nothing changes
  pub zeroed-same : every (λ r. eqb r 0) (configuration_references body) ≡ true → zeroed_configuration body ≡ body
  unfolding flat
  zeroed-same p =
      let z : ℕ → Bool = λ r. eqb r 0 in
      let (a, b) = both (z (iConfiguration body)) (every (of_interface z) rest) (sym (references-all z body) ∙ p) in
      let six : byte first 6 ≡ 0 = sym (List·get_d-append first (flat rest) 0 6 (omega (arith, first-long))) ∙ ap (λ (l : List ℕ). byte l 6) is-joined ∙ eqb-true (iConfiguration body) 0 a in
      let others = map_same unnamed rest (λ d m. nothing-named d (λ i. eqb-true (iInterface d) 0 (if-then (is_interface d) (z (iInterface d)) (every-member (of_interface z) b m) i))) in
      zeroed-is ∙ rw (set_same first 6 six, others) is-joined

-- ---- bConfigurationValue, at 5, is no reference
not_five : (at : ℕ) (ds : List (List ℕ)) → member 5 (names_from at ds) ≡ false
unfolding any names_from
not_five at [] = refl
not_five at (d ∷ ds) = go (has_name d) (names_from (at + length d) ds) (not_five (at + length d) ds)
  where
    go : (b : Bool) (ps : List ℕ) → member 5 ps ≡ false → member 5 (pick b ((at + 8) ∷ ps) ps) ≡ false
    go true ps p = rw (ne_eqb 5 (at + 8) (λ e. omega arith)) p
    go false ps p = p

same-value : (body : List ℕ) → bConfigurationValue (zeroed_configuration body) ≡ bConfigurationValue body
unfolding any
same-value body = let ds = descriptors_of (cut body) in blanked-byte (6 ∷ names_from 0 ds) body 5 ∙ rw (not_five 0 ds)

same-values : (bs : List (List ℕ)) → map bConfigurationValue (map zeroed_configuration bs) ≡ map bConfigurationValue bs
same-values [] = refl
same-values (b ∷ bs) = rw (same-value b, same-values bs)

module _ (bs : List (List ℕ)) where
  pub zeroed-nonzero : every value_nonzero (map zeroed_configuration bs) ≡ every value_nonzero bs
  zeroed-nonzero = every_map value_nonzero zeroed_configuration bs ∙ every-alike (λ b. value_nonzero (zeroed_configuration b)) value_nonzero bs (λ b m. rw (same-value b))

  pub zeroed-distinct : pairs distinct_values (map zeroed_configuration bs) ≡ pairs distinct_values bs
  zeroed-distinct = pairs-map differ bConfigurationValue (map zeroed_configuration bs) ∙ ap (pairs differ) (same-values bs) ∙ sym (pairs-map differ bConfigurationValue bs)

-- ---- the device: the references are at 14 to 16, and no rule reads them
module _ (d : List ℕ) where
  kept : (k : ℕ) → member k (14 ∷ 15 ∷ 16 ∷ []) ≡ false → byte (zeroed_device d) k ≡ byte d k
  kept k p = blanked-byte (14 ∷ 15 ∷ 16 ∷ []) d k ∙ rw p

  gone : (k : ℕ) → member k (14 ∷ 15 ∷ 16 ∷ []) ≡ true → byte (zeroed_device d) k ≡ 0
  gone k p = blanked-byte (14 ∷ 15 ∷ 16 ∷ []) d k ∙ rw p

  pub device-good : (limits : Limits) (n : ℕ) → good_device limits n (zeroed_device d) ≡ good_device limits n d
  unfolding any
  device-good limits n = rw (blanked-length (14 ∷ 15 ∷ 16 ∷ []) d, kept 0 refl, kept 1 refl, kept 4 refl, kept 5 refl, kept 7 refl, kept 17 refl)

  pub device-same : iManufacturer d ≡ 0 → iProduct d ≡ 0 → iSerialNumber d ≡ 0 → zeroed_device d ≡ d
  unfolding blanked
  device-same m p s = rw (set_same d 14 m, set_same d 15 p) (set_same d 16 s)

  pub device-plain : (iManufacturer (zeroed_device d) ≡ 0) × (iProduct (zeroed_device d) ≡ 0) × (iSerialNumber (zeroed_device d) ≡ 0)
  unfolding any
  device-plain = (gone 14 refl, gone 15 refl, gone 16 refl)
