-- Groups 1, 2, 3 and 6: all their rules hold exactly where opening's definition of the group does. No axiom.
use Rattle.octets.proofs.Vocabulary.{◌≡◌, refl, sym, ap, ◌∙◌, ℕ, ◌+◌, List, [], ◌∷◌, map, Bool, true, false, ◌&&◌, and-true, and_assoc, length, eqb, leb}
use Rattle.octets.specs.Octets.{word}
use Rattle.octets.specs.Sentences.{pick, ◌⇒◌, every}
use Rattle.octets.proofs.Sentences.{row, every_append}
use Rattle.descriptors.specs.declared.limits.Limits.{Limits}
use Rattle.descriptors.specs.Limits.{named}
use Rattle.sets.specs.declared.Entry.{Entry}
use Rattle.sets.specs.Contents.{total, bodies_at, body_of, entries, entries_of, long_enough, short_enough, total_is_length, counts_entry, at_most64_entries, byte_three_zero, contents_inside, good_frame}
use Rattle.sets.specs.Contents.{kind_allowed, body_long_enough, begins_at, ends_at_total, good_contents}
use Rattle.sets.specs.Pieces.{piece_for, pieces_in, pieces_of, has_index, has_no_language, sole}
use Rattle.sets.proofs.Pieces.{of-kind, length-of}
use Rattle.sets.specs.Checks.{is_next}
use Rattle.sets.specs.Device.{device_body, iSerialNumber, has18_bytes, says18_bytes, is_device, control_size, subclass_with_class, counts_configuration, at_most8_configurations, count_is_entries, good_device, good_store}
use Rattle.sets.specs.Strings.{says_its_length, typed_string, even_length, up_to254}
use Rattle.sets.specs.Opening.{good_devices, block_empty, at_least4, good_serial, good_block}
use Rattle.sets.proofs.Entries.{contents_from, contents-all}
use Rattle.rules.specs.Findings.{Finding}
use Rattle.rules.specs.Frame.{frame_findings, contents_asked, contents_findings, no_entry}
use Rattle.rules.specs.Device.{device_entry_findings, store_entry_findings, device_findings, serial_asked, serial_findings}

abbrev pub all_hold : List Finding → Bool
all_hold xs = every (λ x. x.holds) xs

-- a row of `&&` asks each
pub row-every : (a : Bool) (bs : List Bool) → row a bs ≡ (a && every (λ b. b) bs)
unfolding every
row-every a [] = sym (and-true a)
row-every a (b ∷ bs) = row-every (a && b) bs ∙ and_assoc a b (every (λ b. b) bs)

-- ---- group 1
pub frame_same : (set : List ℕ) → all_hold (frame_findings set) ≡ good_frame set
unfolding every good_frame
frame_same set =
    sym
    (row-every true
    (long_enough set ∷ short_enough set ∷ total_is_length set ∷ counts_entry set ∷ at_most64_entries set ∷ byte_three_zero set ∷ contents_inside set ∷ []))

-- ---- group 2
sorted : (n b l o r : Bool) → (n && (b && (l && (o && r)))) ≡ ((n && l && o && b) && r)
sorted true true true true r = refl
sorted true true true false r = refl
sorted true true false o r = refl
sorted true false true true r = refl
sorted true false true false r = refl
sorted true false false o r = refl
sorted false b l o r = refl

asked-same : (limits : Limits) (end at : ℕ) (first : Bool) (last : Entry) (start : ℕ) (es : List Entry)
    → all_hold (contents_asked limits end at first last start es) ≡ contents_from limits end first last start es
unfolding every contents_asked contents_from
asked-same limits end at first last start [] = and-true (ends_at_total start end)
asked-same limits end at first last start (e ∷ es) =
    rw (asked-same limits end (at + 8) false e (start + e.length) es)
    (sorted (kind_allowed limits e) (is_next first last e) (body_long_enough e) (begins_at start e) (contents_from limits end false e (start + e.length) es))

pub contents-same : (limits : Limits) (set : List ℕ) → all_hold (contents_findings limits set) ≡ good_contents limits set
unfolding good_contents
contents-same limits set =
    asked-same limits (total set) 4 true no_entry (bodies_at set) (entries set) ∙ contents-all limits (total set) no_entry (bodies_at set) (entries set)

-- ---- group 3
device-same : (limits : Limits) (set : List ℕ) (es : List Entry) → all_hold (device_entry_findings limits set es) ≡ sole (good_device limits (length (entries_of 2 set))) (map (piece_for set) es)
unfolding every
device-same limits set [] = refl
device-same limits set (e ∷ []) =
    let d = body_of set e in
    let p = piece_for set e in
    sym
    (and_assoc (has_index 0 p) (has_no_language p) _
    ∙ ap (λ b. has_index 0 p && (has_no_language p && b))
    (row-every true
    (has18_bytes d ∷ says18_bytes d ∷ is_device d ∷ control_size limits d ∷ subclass_with_class d ∷ counts_configuration d ∷ at_most8_configurations d ∷ count_is_entries (length (entries_of 2 set)) d ∷ [])))
device-same limits set (e ∷ f ∷ es) = refl

store_same : (set : List ℕ) (es : List Entry) → all_hold (store_entry_findings set es) ≡ sole good_store (map (piece_for set) es)
unfolding every
store_same set [] = refl
store_same set (e ∷ []) =
    let b = body_of set e in
    let p = piece_for set e in
    sym
    (and_assoc (has_index 0 p) (has_no_language p) _
    ∙ ap (λ t. has_index 0 p && (has_no_language p && t)) (row-every true (leb 5 (length b) ∷ eqb (word b 2) (length b) ∷ [])))
store_same set (e ∷ f ∷ es) = refl

-- nothing is asked of a kind without them
pub if-asked : (asked : Bool) (xs : List Finding) → all_hold (pick asked xs []) ≡ (asked ⇒ all_hold xs)
unfolding every
if-asked true xs = refl
if-asked false xs = refl

swap : (a b : Bool) → (a && b) ≡ (b && a)
swap true true = refl
swap true false = refl
swap false true = refl
swap false false = refl

pub devices-same : (limits : Limits) (set : List ℕ) → all_hold (device_findings limits set) ≡ good_devices limits (pieces_in set)
unfolding good_devices
devices-same limits set =
    let stores = store_entry_findings set (entries_of 15 set) in
    let asked = named limits.entries 15 in
    every_append (λ x. x.holds) (device_entry_findings limits set (entries_of 1 set)) (pick asked stores [])
    ∙ swap (all_hold (device_entry_findings limits set (entries_of 1 set))) (all_hold (pick asked stores []))
    ∙ ap (λ t. t && all_hold (device_entry_findings limits set (entries_of 1 set)))
    (if-asked asked stores ∙ ap (λ t. asked ⇒ t) (store_same set (entries_of 15 set) ∙ ap (sole good_store) (of-kind set 15)))
    ∙ ap (λ t. (asked ⇒ sole good_store (pieces_of 15 (pieces_in set))) && t)
    (device-same limits set (entries_of 1 set) ∙ rw (length-of set 2, of-kind set 1))

-- ---- group 6
even-first : (e f t a b : Bool) → (e && (f && (t && (a && (b && true))))) ≡ (f && t && e && a && b)
even-first true true true true b = and-true b
even-first true true true false b = refl
even-first true true false a b = refl
even-first true false t a b = refl
even-first false true true a b = refl
even-first false true false a b = refl
even-first false false t a b = refl

serial-same : (index : ℕ) (block : List ℕ) → all_hold (serial_findings index block) ≡ good_serial index block
unfolding every
serial-same index block = go (eqb index 0)
  where
    go : (zero : Bool) → all_hold (serial_asked zero block)
        ≡ pick zero (block_empty block) (at_least4 block && up_to254 block && even_length block && says_its_length block && typed_string block)
    go true = and-true (block_empty block)
    go false = even-first (even_length block) (at_least4 block) (up_to254 block) (says_its_length block) (typed_string block)

pub block_same : (set serial : List ℕ) → all_hold (serial_findings (iSerialNumber (device_body set)) serial) ≡ good_block (pieces_in set) serial
unfolding good_block
block_same set serial = serial-same (iSerialNumber (device_body set)) serial
