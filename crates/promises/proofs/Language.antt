-- The language of a string, sentence by sentence (L6): what is answered where the asked language is not listed, and to the serial index.
-- No axiom.
use Rattle.std.specs.Prelude.{ℕ, ◌≤◌, min, ◌≡◌, refl, true, false, ◌||◌, length, get_or, eqb}
use native.Mathlib.Omega.{arith}
use Rattle.std.proofs.Common.{◌∙◌}
use mathlib.Core.List.{List, [], ◌∷◌, flat_map}
use Rattle.std.proofs.Math.Option.{some, none}
use Rattle.std.proofs.Math.Bool.{not}
use borrow.Author.Tests.{eqb-true, eq-eqb, leb-true, le-leb}
use Rattle.octets.specs.Sentences.{every, any, first, is_some, member, neighbours, is_empty}
use Rattle.octets.proofs.Sentences.{cases, or_left, or_right, if-then, conjunct}
use Rattle.sets.specs.declared.Entry.{Entry}
use Rattle.sets.specs.Device.{device_body_of, iManufacturer, iProduct, iSerialNumber}
use Rattle.descriptors.specs.Configuration.{configuration_references}
use Rattle.sets.specs.Pieces.{pieces_in, pieces_of, bodies_of}
use Rattle.sets.specs.Strings.{is_nonzero, zero_of, languages, languages_of, good_languages, lists_one, lists_at_most_four, ascends, references_of, good_strings}
use Rattle.sets.specs.Opening.{Board}
use Rattle.sets.specs.View.{View, view_of, opening_of, accepted}
use Rattle.sets.proofs.Groups.{groups, texts-in}
use Rattle.records.specs.declared.Device.{Device}
use Rattle.records.specs.Device.{in_test_mode, settled}
use Rattle.records.specs.Current.{board_for, view_at}
use Rattle.records.specs.Fits.{fits_on}
use Rattle.records.proofs.InUse.{row_for, opens_for}
use Rattle.events.specs.declared.Event.TheVariants.{Request}
use Rattle.events.specs.Answer.{SetPart, SerialPart, gives, refused}
use Rattle.events.specs.Requests.{is_entry, language_for, locate_string, describe}
use Rattle.events.specs.Step.{step}
use Rattle.promises.specs.Examples.{computed, T}
use Rattle.promises.specs.Inhabited.{accepted_t, configured}
use Rattle.promises.specs.Language.{get_string, first_language, listed_stays, unlisted_first, located, french}

-- the first of a list that is not empty is in it
first_member : (ls : List ℕ) → 1 ≤ length ls → member (get_or ls 0 0) ls ≡ true
unfolding any
first_member [] l = absurd (omega arith)
first_member (x ∷ ls) l = or_left (member x ls) (eq-eqb x x refl)

module _ (b : Board) (ok : accepted b ≡ true) (d : Device) (fit : fits_on b d ≡ true) (outside : in_test_mode d ≡ false) (index asked size : ℕ) (from : 1 ≤ index) (to : index ≤ 255)
    (two : asked ≤ 65535) (short : size ≤ 65535) where
  abbrev v : View
  v = view_at b d

  found : step b d (Request (get_string index asked size)) ≡ describe (settled d) size (locate_string v index (language_for v index asked))
  found = located b ok d fit outside index asked size from to two short

  module _ (unlisted : member asked v.languages ≡ false) where
    -- "a string index that exists .. is answered in the first listed language"
    pub string_exists : (eqb index v.serial_index ≡ false) → (e : Entry) → first (is_entry 3 index (first_language v)) v.entries ≡ some e
        → step b d (Request (get_string index asked size)) ≡ gives (SetPart e.offset (min e.length size)) (settled d)
    string_exists n e p = found ∙ rw (unlisted_first v index from asked unlisted, n, le-leb 1 index from, p)

    -- "an index with no entry in that language stays 13"
    pub string_missing : (eqb index v.serial_index ≡ false) → first (is_entry 3 index (first_language v)) v.entries ≡ none
        → step b d (Request (get_string index asked size)) ≡ refused 13 (settled d)
    string_missing n p = found ∙ rw (unlisted_first v index from asked unlisted, n, le-leb 1 index from, p)

  -- a language is listed where there is a serial number
  listed-one : eqb index v.serial_index ≡ true → 1 ≤ length v.languages
  unfolding view_of languages good_strings any
  listed-one n =
      let row = row_for b.high d.speed in
      let ps = pieces_in (board_for b d.speed).set in
      let here : 1 ≤ iSerialNumber (device_body_of ps) = let e = eqb-true index v.serial_index n in omega arith in
      let t = texts-in (references_of ps) (iSerialNumber (device_body_of ps)) (pieces_of 3 ps) (groups row (board_for b d.speed) (opens_for b d.speed (eqb-true (opening_of b) 0 ok))).strings in
      let asks = not (is_empty (pieces_of 3 ps)) || any is_nonzero (references_of ps) in
      let refers = or_right (is_nonzero (iManufacturer (device_body_of ps))) (or_right (is_nonzero (iProduct (device_body_of ps)))
      (or_left (any is_nonzero (flat_map configuration_references (bodies_of 2 ps))) (le-leb 1 (iSerialNumber (device_body_of ps)) here))) in
      let there = if-then asks (is_some (zero_of (pieces_of 3 ps))) t.there (or_right (not (is_empty (pieces_of 3 ps))) refers) in
      let ls = languages_of (pieces_of 3 ps) in
      let good = if-then (is_some (zero_of (pieces_of 3 ps))) (good_languages ls) t.languages there in
      leb-true 1 (length ls) (conjunct 0 (lists_one ls ∷ lists_at_most_four ls ∷ every is_nonzero ls ∷ neighbours ascends ls ∷ []) good)

  -- "or the serial index": from the serial block, whatever language is asked
  pub serial_anyway : eqb index v.serial_index ≡ true → step b d (Request (get_string index asked size)) ≡ gives (SerialPart (min v.serial_length size)) (settled d)
  serial_anyway n = found ∙ cases (member asked v.languages)
      (λ m. rw (listed_stays v index from asked m, n, le-leb 1 index from, m))
      (λ m. rw (unlisted_first v index from asked m, n, le-leb 1 index from, first_member v.languages (listed-one n)))

-- ---- instances
pub in_none : step T configured (french 5) ≡ refused 13 configured
unfolding computed
in_none = string_missing T accepted_t configured refl refl 5 0x040C 255 (omega arith) (omega arith) (omega arith) (omega arith) refl refl refl

pub serial_there : step T configured (french 3) ≡ gives (SerialPart 4) configured
unfolding computed
serial_there = serial_anyway T accepted_t configured refl refl 3 0x040C 255 (omega arith) (omega arith) (omega arith) (omega arith) refl
