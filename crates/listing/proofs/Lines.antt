-- The lines of a configuration, descriptor by descriptor, and the fields of a line, one by one. No axiom.
use Rattle.octets.proofs.Vocabulary.{◌≡◌, refl, sym, ap, ◌∙◌, ℕ, ◌+◌, ◌≤◌, ◌<◌, List, [], ◌∷◌, ◌++◌, map, flat_map, append_assoc, Bool, true, false, length, drop, get_or, drop_of_length-le, arith}
use Rattle.octets.specs.Octets.{byte}
use Rattle.octets.specs.Sentences.{pick, every, pairs, is_empty}
use Rattle.octets.proofs.Sentences.{cases, both, conjunct}
use Rattle.descriptors.specs.declared.limits.Limits.{Limits}
use Rattle.descriptors.specs.Cut.{cut, descriptors_of, well_cut}
use Rattle.descriptors.specs.Descriptor.{is_interface, is_endpoint}
use Rattle.descriptors.specs.Interfaces.{grouped, begun_by, setting_of, endpoints_of, good_settings, counted, apart}
use Rattle.descriptors.specs.Configuration.{bNumInterfaces, bConfigurationValue, good_configuration, behind, groups_of}
use Rattle.descriptors.specs.Walk.{before, stand_of}
use Rattle.sets.specs.declared.Entry.{Entry}
use Rattle.sets.specs.Contents.{body_of}
use Rattle.sets.proofs.Entries.{rest_of}
use Rattle.listing.specs.Listing.{decimal, fields, line, endpoint_line, interface_lines, configuration_lines}
use Rattle.listing.specs.Written.{interface_line, telling, descriptor_lines}
use Rattle.descriptors.specs.declared.walk.Stand.{Stand}
use Rattle.descriptors.proofs.GoodBody.{GoodDescriptors, good-cut, good-body}
use Rattle.descriptors.proofs.Walks.{collected-flat}
use Rattle.descriptors.proofs.Ahead.{at_first}
use Rattle.std.proofs.lemmas.List.{at_drop_more}

-- ---- the fields of a line
fields-more : (x : ℕ) (xs : List ℕ) → fields (x ∷ xs) ≡ 32 ∷ decimal x ++ fields xs
unfolding fields
fields-more x xs = refl

fields-none : fields [] ≡ 10 ∷ []
unfolding fields
fields-none = refl

pub next_field : (xs : List ℕ) (i : ℕ) → i < length xs → fields (drop i xs) ≡ (32 ∷ []) ++ (decimal (get_or xs i 0) ++ fields (drop (i + 1) xs))
next_field xs i h = at_drop_more fields xs i 0 h ∙ fields-more (get_or xs i 0) (drop (i + 1) xs)

pub no_field : (xs : List ℕ) (i : ℕ) → length xs ≤ i → fields (drop i xs) ≡ 10 ∷ []
no_field xs i h = ap fields (drop_of_length-le xs h) ∙ fields-none

-- ---- the descriptors of a configuration
flat-cons : {A : Type 0} (f : A → List ℕ) (x : A) (xs : List A) → flat_map f (x ∷ xs) ≡ f x ++ flat_map f xs
unfolding flat_map
flat-cons f x xs = refl

pub flat-none : {A : Type 0} (f : A → List ℕ) → flat_map f [] ≡ []
unfolding flat_map
flat-none f = refl

-- the line of a descriptor, by itself: an interface descriptor stands under the setting that it begins
abbrev pub descriptor_line : List ℕ → List ℕ
descriptor_line d = pick (is_interface d) (interface_line (begun_by d) d) (pick (is_endpoint d) (endpoint_line d) [])

line-here : (at : ℕ) (last : Stand) (d : List ℕ) → telling at (stand_of last d) d ≡ descriptor_line d
line-here at last d = cases (is_interface d) (λ p. rw p) (λ p. rw p)

-- the lines of descriptors by interface are their own lines in order; those of the loose ones come first
by-descriptor : (ds : List (List ℕ)) → flat_map endpoint_line (grouped ds).loose ++ flat_map interface_lines (grouped ds).groups ≡ flat_map descriptor_line ds
unfolding flat_map grouped
by-descriptor [] = refl
by-descriptor (d ∷ ds) = go (is_interface d) (is_endpoint d) refl refl (by-descriptor ds)
  where
    go : (b c : Bool) → is_interface d ≡ b → is_endpoint d ≡ c
        → flat_map endpoint_line (grouped ds).loose ++ flat_map interface_lines (grouped ds).groups ≡ flat_map descriptor_line ds
        → flat_map endpoint_line (grouped (d ∷ ds)).loose ++ flat_map interface_lines (grouped (d ∷ ds)).groups ≡ flat_map descriptor_line (d ∷ ds)
    go true c p q rest = rw (p, append_assoc) (ap (λ (l : List ℕ). interface_line (begun_by d) d ++ l) rest)
    go false true p q rest = rw (p, q, append_assoc) (ap (λ (l : List ℕ). endpoint_line d ++ l) rest)
    go false false p q rest = rw (p, q) rest

differ : false ≡ true → ⊥
differ p = let z : ◌≡◌ {A = ℕ} 0 1 = ap (λ (b : Bool). pick b 1 0) p in omega arith

none-loose : (ds : List (List ℕ)) → is_empty ds ≡ true → flat_map endpoint_line ds ≡ []
none-loose [] p = flat-none endpoint_line
none-loose (d ∷ ds) p = absurd (differ p)

-- what the walk behind the first descriptor collects is the lines of the descriptors
pub lines-flat : (body : List ℕ) → well_cut (cut body) ≡ true → descriptor_lines body ≡ flat_map descriptor_line (behind (descriptors_of (cut body)))
lines-flat body w =
    collected-flat telling descriptor_line line-here body before (byte body 0) ∙ ap (flat_map descriptor_line) (at_first body (byte body 0) w refl).all

in_order : (body : List ℕ) → well_cut (cut body) ≡ true → is_empty (grouped (behind (descriptors_of (cut body)))).loose ≡ true
    → flat_map interface_lines (groups_of body) ≡ descriptor_lines body
unfolding groups_of
in_order body w p =
    let ds = behind (descriptors_of (cut body)) in
    ap (λ (l : List ℕ). l ++ flat_map interface_lines (grouped ds).groups) (sym (none-loose (grouped ds).loose p)) ∙ by-descriptor ds ∙ sym (lines-flat body w)

-- ---- a configuration that is accepted
-- no endpoint stands before the first interface
nothing-loose : (limits : Limits) (size : ℕ) (ds : List (List ℕ)) → GoodDescriptors limits size ds → is_empty (grouped (behind ds)).loose ≡ true
nothing-loose limits size ds good =
    let gs = grouped (behind ds) in
    let n = bNumInterfaces good.first in
    conjunct 0 (is_empty gs.loose ∷ good_settings n (map setting_of gs.groups) ∷ every counted gs.groups ∷ pairs apart (endpoints_of gs.groups) ∷ []) good.interfaces

-- so its lines are its own and those of its descriptors in order
abbrev pub head_line : List ℕ → List ℕ
head_line body = line (67 ∷ []) (bConfigurationValue body ∷ bNumInterfaces body ∷ [])

pub configuration-lines : (limits : Limits) (body : List ℕ) → good_configuration limits body ≡ true → configuration_lines body ≡ head_line body ++ descriptor_lines body
configuration-lines limits body p =
    ap (λ (l : List ℕ). head_line body ++ l) (in_order body (good-cut limits body p) (nothing-loose limits (length body) (descriptors_of (cut body)) (good-body limits body p)))

-- ---- the configurations of a set that are left at an entry, where that is the next of them
abbrev pub bodies_from : List ℕ → ℕ → List (List ℕ)
bodies_from set i = map (body_of set) (rest_of 2 set i)

module _ (set : List ℕ) (i : ℕ) {e : Entry} {es : List Entry} (q : rest_of 2 set i ≡ e ∷ es) where
  pub next-lines : flat_map configuration_lines (bodies_from set i) ≡ configuration_lines (body_of set e) ++ flat_map configuration_lines (map (body_of set) es)
  next-lines = ap (λ xs. flat_map configuration_lines (map (body_of set) xs)) q ∙ flat-cons configuration_lines (body_of set e) (map (body_of set) es)

  pub next-good : (l : Limits) → every (good_configuration l) (bodies_from set i) ≡ true → (good_configuration l (body_of set e) ≡ true) × (every (good_configuration l) (map (body_of set) es) ≡ true)
  unfolding every
  next-good l g = both (good_configuration l (body_of set e)) (every (good_configuration l) (map (body_of set) es)) (rw q at g)
