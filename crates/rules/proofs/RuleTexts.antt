-- Group 5: where the configurations are good, all its rules hold exactly where opening's definition of the group does. No axiom.
use Rattle.octets.proofs.Vocabulary.{◌≡◌, refl, sym, ap, ◌∙◌, ℕ, ◌+◌, List, [], ◌∷◌, ◌++◌, map, Bool, true, false, ◌&&◌, ◌||◌, not, and-true, and-false, and_assoc, or-true, false≢true, length, arith, eqb-true, ne_eqb}
use Rattle.octets.specs.Sentences.{pick, ◌⇒◌, every, any, only, neighbours, is_some, is_empty}
use Rattle.octets.proofs.Sentences.{both, conjunct, every_append, first_any}
use Rattle.descriptors.specs.declared.limits.Limits.{Limits}
use Rattle.descriptors.specs.Cut.{Cutting, cut, descriptors_of, well_cut}
use Rattle.descriptors.specs.Descriptor.{bDescriptorType, is_interface, iInterface, good_descriptor}
use Rattle.descriptors.specs.Interfaces.{grouped, good_interfaces}
use Rattle.descriptors.specs.Companion.{good_companions}
use Rattle.descriptors.specs.Configuration.{iConfiguration, bNumInterfaces, is_configuration, head_long_enough, total_is_size, bit_seven_one, low_bits_zero, power_within, counts_interface, at_most16_interfaces, behind, good_head, good_descriptors, good_configuration, configuration_references}
use Rattle.descriptors.proofs.CheckReferences.{of_interface, references-all}
use Rattle.sets.specs.declared.Entry.{Entry}
use Rattle.sets.specs.Contents.{body_of, bodies, is_kind, entries}
use Rattle.sets.specs.Pieces.{Piece, piece_with, piece_for, pieces_in, pieces_of}
use Rattle.sets.specs.Device.{device_body, iManufacturer, iProduct, iSerialNumber}
use Rattle.sets.specs.Strings.{says_its_length, typed_string, even_length, up_to254, good_string, is_string_zero, string_zero, languages, lists_one, lists_at_most_four, is_nonzero, ascends, good_languages, references, language_zero, listed, not_serial, good_reference, zero_if, good_strings}
use Rattle.sets.proofs.Configurations.{every-both}
use Rattle.sets.proofs.Strings.{ascending}
use Rattle.sets.proofs.References.{references-set}
use Rattle.rules.specs.Findings.{Finding, asked, byte_at}
use Rattle.rules.specs.Configuration.{is_whole}
use Rattle.rules.specs.Strings.{languages_from, language_findings, string_entry_findings, strings_from, listed_from, reference_findings, interfaces_from, body_references, references_from, device_references, strings_findings}
use Rattle.rules.proofs.RuleFrames.{all_hold}
use Rattle.rules.proofs.RuleBodies.{Proper, ends, breaks, cut_off, goes, proper}

-- ---- the languages
four : (a b c d : Bool) → (a && (b && (c && d))) ≡ ((a && c) && (b && d))
four true b true d = refl
four true b false d = and-false b
four false b c d = refl

twice : (a b : Bool) → (a && (a && b)) ≡ (a && b)
twice true b = refl
twice false b = refl

row-4 : (x y a n : Bool) → (x && (y && (a && n))) ≡ (x && y && a && n)
row-4 x y a n = simp and_assoc

languages-same : (start at last : ℕ) (ls : List ℕ) → all_hold (languages_from start at last ls) ≡ (every is_nonzero ls && neighbours ascends (last ∷ ls))
unfolding every languages_from neighbours
languages-same start at last [] = refl
languages-same start at last (l ∷ ls) =
    ap (λ b. is_nonzero l && (ascends last l && b)) (languages-same start (at + 2) l ls) ∙ four (is_nonzero l) (ascends last l) (every is_nonzero ls) (neighbours ascends (l ∷ ls))

language-same : (start : ℕ) (ls : List ℕ) → all_hold (language_findings start ls) ≡ good_languages ls
unfolding every
language-same start ls =
    ap (λ b. lists_one ls && (lists_at_most_four ls && b))
    (languages-same start 2 0 ls ∙ ap (λ b. every is_nonzero ls && b) (sym (ascending ls)) ∙ twice (every is_nonzero ls) (neighbours ascends ls))
    ∙ row-4 (lists_one ls) (lists_at_most_four ls) (every is_nonzero ls) (neighbours ascends ls)

-- ---- the strings
-- what is asked of one string
abbrev asks_of : List ℕ → ℕ → Piece → Bool
asks_of ls serial p = good_string p.body && (language_zero p && ((is_string_zero p ⇒ good_languages ls) && not_serial serial p))

if-zero : (z : Bool) (start : ℕ) (ls : List ℕ) → all_hold (pick z (language_findings start ls) []) ≡ (z ⇒ good_languages ls)
unfolding every
if-zero true start ls = language-same start ls
if-zero false start ls = refl

entry_row : (a b c d lz x ns : Bool) → (a && (b && ((c && d) && (lz && (x && (ns && true)))))) ≡ ((a && b && c && d) && (lz && (x && ns)))
entry_row a b c d lz x ns = simp (and-true, and_assoc)

entry-same : (ls : List ℕ) (serial at : ℕ) (e : Entry) (body : List ℕ)
    → all_hold (string_entry_findings ls serial at e body) ≡ asks_of ls serial (piece_with e body)
unfolding every
entry-same ls serial at e body =
    let p = piece_with e body in
    let a = says_its_length body in
    let b = typed_string body in
    let c = even_length body in
    let d = up_to254 body in
    ap (λ x. a && (b && ((c && d) && (language_zero p && x))))
    (every_append (λ x. x.holds) (pick (is_string_zero p) (language_findings e.offset ls) []) (asked 511 (byte_at 0 at 1) (not_serial serial p) ∷ [])
    ∙ ap (λ x. x && (not_serial serial p && true)) (if-zero (is_string_zero p) e.offset ls))
    ∙ entry_row a b c d (language_zero p) (is_string_zero p ⇒ good_languages ls) (not_serial serial p)

module _ (set ls : List ℕ) (serial : ℕ) where
  strings-each : (at : ℕ) (es : List Entry) → all_hold (strings_from set ls serial at es) ≡ every (asks_of ls serial) (pieces_of 3 (map (piece_for set) es))
  unfolding every strings_from only
  strings-each at [] = refl
  strings-each at (e ∷ es) = go (is_kind 3 e) (strings-each (at + 8) es)
    where
      found : List Finding
      found = string_entry_findings ls serial at e (body_of set e)

      later : List Finding
      later = strings_from set ls serial (at + 8) es

      rest : List Piece
      rest = pieces_of 3 (map (piece_for set) es)

      go : (b : Bool) → all_hold later ≡ every (asks_of ls serial) rest → all_hold (pick b found [] ++ later) ≡ every (asks_of ls serial) (pick b (piece_for set e ∷ rest) rest)
      go true p = every_append (λ x. x.holds) found later ∙ ap (λ b. all_hold found && b) p ∙ ap (λ b. b && every (asks_of ls serial) rest) (entry-same ls serial at e (body_of set e))
      go false p = p

module _ (set ls : List ℕ) where
  listed-each : (at : ℕ) (es : List Entry) → all_hold (listed_from set ls at es) ≡ every (listed ls) (pieces_of 3 (map (piece_for set) es))
  unfolding every listed_from only
  listed-each at [] = refl
  listed-each at (e ∷ es) = go (is_kind 3 e) (listed-each (at + 8) es)
    where
      found : List Finding
      found = asked 509 (byte_at 0 at 2) (listed ls (piece_for set e)) ∷ []

      later : List Finding
      later = listed_from set ls (at + 8) es

      rest : List Piece
      rest = pieces_of 3 (map (piece_for set) es)

      go : (b : Bool) → all_hold later ≡ every (listed ls) rest → all_hold (pick b found [] ++ later) ≡ every (listed ls) (pick b (piece_for set e ∷ rest) rest)
      go true p = ap (λ b. listed ls (piece_for set e) && b) p
      go false p = p

-- some, and what is asked of each of them
every_any : {A : Type 0} (f : A → Bool) (g : Bool) (xs : List A) → every (λ x. f x ⇒ g) xs ≡ (any f xs ⇒ g)
unfolding every any
every_any f g [] = refl
every_any f g (x ∷ xs) = ap (λ b. (f x ⇒ g) && b) (every_any f g xs) ∙ go (f x) (any f xs) g
  where
    go : (a b g : Bool) → ((a ⇒ g) && (b ⇒ g)) ≡ ((a || b) ⇒ g)
    go true b true = or-true (not b)
    go true b false = refl
    go false b g = refl

each-of-four : {A : Type 0} (a b c d : A → Bool) (xs : List A)
    → every (λ x. a x && (b x && (c x && d x))) xs ≡ (every a xs && (every b xs && (every c xs && every d xs)))
each-of-four a b c d xs =
    every-both a (λ x. b x && (c x && d x)) xs
    ∙ ap (λ t. every a xs && t) (every-both b (λ x. c x && d x) xs ∙ ap (λ t. every b xs && t) (every-both c d xs))

-- ---- the references
module _ (set : List ℕ) where
  -- what is asked of one reference
  abbrev may : ℕ → Bool
  may r = zero_if (is_nonzero r) (is_some (string_zero set)) && good_reference (languages set) (pieces_of 3 (pieces_in set)) (iSerialNumber (device_body set)) r

  reference-same : (start at k r : ℕ) → all_hold (reference_findings set start at k r) ≡ may r
  unfolding every
  reference-same start at k r = simp and-true

  if-interface : (b : Bool) (start at : ℕ) (d : List ℕ) → all_hold (pick b (reference_findings set start at 8 (iInterface d)) []) ≡ (b ⇒ may (iInterface d))
  unfolding every
  if-interface true start at d = reference-same start at 8 (iInterface d)
  if-interface false start at d = refl

  interfaces-same : (start at : ℕ) {cs : Cutting} → Proper cs → well_cut cs ≡ true → all_hold (interfaces_from set start at cs) ≡ every (of_interface may) (descriptors_of cs)
  unfolding every interfaces_from descriptors_of well_cut
  interfaces-same start at ends w = refl
  interfaces-same start at breaks w = absurd (false≢true w)
  interfaces-same start at (cut_off {d}) w = absurd (false≢true w)
  interfaces-same start at (goes {d} {ds} p q) w =
      every_append (λ x. x.holds) (pick (is_whole d && is_interface d) (reference_findings set start at 8 (iInterface d)) []) (interfaces_from set start (at + length d) ds)
      ∙ ap (λ t. all_hold (pick (t && is_interface d) (reference_findings set start at 8 (iInterface d)) []) && all_hold (interfaces_from set start (at + length d) ds)) p
      ∙ ap (λ t. t && all_hold (interfaces_from set start (at + length d) ds)) (if-interface (is_interface d) start at d)
      ∙ ap (λ t. of_interface may d && t) (interfaces-same start (at + length d) q w)

  -- the first descriptor is a configuration's, and no interface's
  first-passed : (limits : Limits) (size : ℕ) (ds : List (List ℕ)) → good_descriptors limits size ds ≡ true → every (of_interface may) ds ≡ every (of_interface may) (behind ds)
  unfolding every good_descriptors
  first-passed limits size [] g = refl
  first-passed limits size (d ∷ ds) g =
      let k = kind (conjunct 0 (good_head size d ∷ every (good_descriptor limits) ds ∷ good_interfaces (bNumInterfaces d) (grouped ds) ∷ (limits.companions ⇒ good_companions (d ∷ ds)) ∷ []) g) in
      rw (ne_eqb (bDescriptorType d) 4 (λ q. omega (arith, k)))
    where
      kind : good_head size d ≡ true → bDescriptorType d ≡ 2
      kind p = eqb-true (bDescriptorType d) 2 (head-kind p)
        where
          head-kind : good_head size d ≡ true → is_configuration d ≡ true
          head-kind p = conjunct 0 (is_configuration d ∷ head_long_enough d ∷ total_is_size size d ∷ bit_seven_one d ∷ low_bits_zero d ∷ power_within d ∷ counts_interface d ∷ at_most16_interfaces d ∷ []) p

  body-references : (limits : Limits) (start : ℕ) (body : List ℕ) → good_configuration limits body ≡ true → all_hold (body_references set start body) ≡ every may (configuration_references body)
  unfolding good_configuration
  body-references limits start body g =
      let (w, h) = both (well_cut (cut body)) (good_descriptors limits (length body) (descriptors_of (cut body))) g in
      every_append (λ x. x.holds) (reference_findings set start 0 6 (iConfiguration body)) (interfaces_from set start 0 (cut body))
      ∙ ap (λ t. t && all_hold (interfaces_from set start 0 (cut body))) (reference-same start 0 6 (iConfiguration body))
      ∙ ap (λ t. may (iConfiguration body) && t) (interfaces-same start 0 (proper 0 body) w ∙ first-passed limits (length body) (descriptors_of (cut body)) h)
      ∙ sym (references-all may body)

  bodies-references : (limits : Limits) (es : List Entry) → every (good_configuration limits) (map (body_of set) (only (is_kind 2) es)) ≡ true
      → all_hold (references_from set es) ≡ every (λ b. every may (configuration_references b)) (map (body_of set) (only (is_kind 2) es))
  unfolding every references_from only
  bodies-references limits [] g = refl
  bodies-references limits (e ∷ es) g = go (is_kind 2 e) g (λ h. bodies-references limits es h)
    where
      found : List Finding
      found = body_references set e.offset (body_of set e)

      later : List Finding
      later = references_from set es

      rest : List (List ℕ)
      rest = map (body_of set) (only (is_kind 2) es)

      go : (b : Bool) → every (good_configuration limits) (map (body_of set) (pick b (e ∷ only (is_kind 2) es) (only (is_kind 2) es))) ≡ true
          → (every (good_configuration limits) rest ≡ true → all_hold later ≡ every (λ b. every may (configuration_references b)) rest)
          → all_hold (pick b found [] ++ later) ≡ every (λ b. every may (configuration_references b)) (map (body_of set) (pick b (e ∷ only (is_kind 2) es) (only (is_kind 2) es)))
      go true g ih =
          let (h, k) = both (good_configuration limits (body_of set e)) (every (good_configuration limits) rest) g in
          every_append (λ x. x.holds) found later
          ∙ ap (λ t. t && all_hold later) (body-references limits e.offset (body_of set e) h)
          ∙ ap (λ t. every may (configuration_references (body_of set e)) && t) (ih k)
      go false g ih = ih g

  device-row : (a b c d e f : Bool) → (a && (b && (c && (d && (e && (f && true)))))) ≡ ((a && b) && (c && d) && (e && f))
  device-row a b c d e f = simp (and-true, and_assoc)

  device-same : all_hold (device_references set) ≡ (may (iManufacturer (device_body set)) && may (iProduct (device_body set)) && may (iSerialNumber (device_body set)))
  unfolding every
  device-same =
      let good = good_reference (languages set) (pieces_of 3 (pieces_in set)) (iSerialNumber (device_body set)) in
      let m = iManufacturer (device_body set) in
      let p = iProduct (device_body set) in
      let s = iSerialNumber (device_body set) in
      let there = is_some (string_zero set) in
      device-row (zero_if (is_nonzero m) there) (good m) (zero_if (is_nonzero p) there) (good p) (zero_if (is_nonzero s) there) (good s)

  all-references : (limits : Limits) → every (good_configuration limits) (bodies 2 set) ≡ true → all_hold (device_references set ++ references_from set (entries set)) ≡ every may (references set)
  all-references limits g =
      every_append (λ x. x.holds) (device_references set) (references_from set (entries set))
      ∙ ap (λ t. t && all_hold (references_from set (entries set))) device-same
      ∙ ap (λ t. (may (iManufacturer (device_body set)) && may (iProduct (device_body set)) && may (iSerialNumber (device_body set))) && t) (bodies-references limits (entries set) g)
      ∙ sym (references-set may set)

-- ---- the group
there-row : (s n t : Bool) → (zero_if s t && zero_if n t) ≡ zero_if (s || n) t
there-row false n t = refl
there-row true n true = or-true (not n)
there-row true n false = refl

group-row : (z gs lz x li ns n gr : Bool)
    → ((gs && (lz && (x && ns))) && (z && (li && (n && gr)))) ≡ (gs && lz && x && li && (z && n) && ns && gr)
group-row z true true true li true n gr = middle z li n gr
  where
    middle : (z li n gr : Bool) → (z && (li && (n && gr))) ≡ (((li && (z && n)) && true) && gr)
    middle true true n gr = ap (λ t. t && gr) (sym (and-true n))
    middle true false n gr = refl
    middle false true n gr = refl
    middle false false n gr = refl
group-row z true true true li false n gr = rw (and-false (li && (z && n)))
group-row z true true false li ns n gr = refl
group-row z true false x li ns n gr = refl
group-row z false lz x li ns n gr = refl

pub strings-same : (limits : Limits) (set : List ℕ) → every (good_configuration limits) (bodies 2 set) ≡ true → all_hold (strings_findings set) ≡ good_strings (pieces_in set)
unfolding every good_strings languages references
strings-same limits set g =
    let strings = pieces_of 3 (pieces_in set) in
    let ls = languages set in
    let refs = references set in
    let serial = iSerialNumber (device_body set) in
    let there = is_some (string_zero set) in
    let gs = every (λ p. good_string p.body) strings in
    let lz = every language_zero strings in
    let li = every (listed ls) strings in
    let ns = every (not_serial serial) strings in
    let gr = every (good_reference ls strings serial) refs in
    let some = not (is_empty strings) in
    let later = device_references set ++ references_from set (entries set) in
    every_append (λ x. x.holds) (strings_from set ls serial 4 (entries set)) (asked 510 _ (zero_if some there) ∷ (listed_from set ls 4 (entries set) ++ later))
    ∙ ap (λ t. t && (zero_if some there && all_hold (listed_from set ls 4 (entries set) ++ later)))
    (strings-each set ls serial 4 (entries set)
    ∙ each-of-four (λ p. good_string p.body) language_zero (λ p. is_string_zero p ⇒ good_languages ls) (not_serial serial) strings
    ∙ ap (λ t. gs && (lz && (t && ns))) (every_any is_string_zero (good_languages ls) strings ∙ ap (λ t. t ⇒ good_languages ls) (sym (first_any is_string_zero strings))))
    ∙ ap (λ t. (gs && (lz && ((there ⇒ good_languages ls) && ns))) && (zero_if some there && t))
    (every_append (λ x. x.holds) (listed_from set ls 4 (entries set)) later
    ∙ ap (λ t. t && all_hold later) (listed-each set ls 4 (entries set))
    ∙ ap (λ t. li && t) (all-references set limits g ∙ every-both (λ r. zero_if (is_nonzero r) there) (good_reference ls strings serial) refs ∙ ap (λ t. t && gr) (every_any is_nonzero there refs)))
    ∙ group-row (zero_if some there) gs lz (there ⇒ good_languages ls) li ns (zero_if (any is_nonzero refs) there) gr
    ∙ ap (λ t. gs && lz && (there ⇒ good_languages ls) && li && t && ns && gr) (there-row some (any is_nonzero refs) there)
