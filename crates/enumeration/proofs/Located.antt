-- Where GET_DESCRIPTOR finds the bodies of an accepted board's set in use. No axiom.
use Rattle.octets.proofs.Vocabulary.{◌≡◌, refl, sym, ap, ◌∙◌, ℕ, ◌+◌, ◌*◌, ◌/◌, ◌%◌, ◌≤◌, ◌<◌, List, [], ◌∷◌, List-as-Memᴰ, true, false, ◌&&◌, ◌||◌, and-false, false≢true, Option, some, none, Option·map, ◌⊎◌, inl, inr, length, eqb, arith, eq-eqb, ne_eqb, leb-true}
use Rattle.octets.specs.Sentences.{any, first, member, is_some, is_empty}
use Rattle.octets.proofs.Sentences.{both, joined, every-member, any-member, member-any, first_any, first_some, only-member, member-only, conjunct, either}
use Rattle.sets.specs.declared.Entry.{Entry}
use Rattle.sets.specs.Contents.{entries, body_of, before}
use Rattle.sets.specs.Pieces.{Piece, piece_for, pieces_in, pieces_of, kind_of}
use Rattle.sets.specs.Device.{device_body, bNumConfigurations, iSerialNumber}
use Rattle.sets.specs.Strings.{languages, languages_in, zero_of, references, is_string, is_nonzero, in_every, good_reference, good_string, says_its_length, typed_string, even_length, up_to254, good_strings}
use Rattle.sets.specs.Opening.{Board}
use Rattle.sets.specs.View.{accepted, view_of}
use Rattle.sets.specs.Found.{is_at}
use Rattle.sets.proofs.Passing.{ordered}
use Rattle.sets.proofs.Pieces.{first-map}
use Rattle.sets.proofs.Groups.{GoodTexts, texts-in}
use Rattle.set_writer.specs.Writer.{precedes}
use Rattle.set_writer.proofs.Ascending.{Ascends, neighbours-ascend}
use Rattle.set_writer.proofs.Order.{before-map}
use Rattle.set_writer.proofs.Precedes.{transitive}
use Rattle.set_writer.proofs.Accepted.{mapping, entries-ascend, looked-up}
use Rattle.records.specs.Current.{set_for, view_for}
use Rattle.records.proofs.InUse.{row_for}
use Rattle.events.specs.declared.facts.Located.TheVariants.{Body, Serial}
use Rattle.events.specs.Requests.{by_index, locate}
use Rattle.enumeration.proofs.Asking.{asked}
use Rattle.enumeration.specs.Bodies.{is_piece, body_found, piece_body}
use Rattle.enumeration.proofs.Found.{rules, device_entry, configuration_entry}

-- the type and the index in wValue
module _ (kind index : ℕ) (i : index < 256) where
  pub high_byte : (256 * kind + index) / 256 ≡ kind
  high_byte = omega arith

  pub low_byte : (256 * kind + index) % 256 ≡ index
  low_byte = omega arith

module _ (b : Board) (ok : accepted b ≡ true) (speed : ℕ) where
  abbrev set : List ℕ
  set = set_for b speed

  -- ---- an entry is found under its type, index and language
  upwards : Ascends before (entries set)
  upwards =
      let g = rules b ok speed in
      entries-ascend set (entries set) (neighbours-ascend precedes transitive (pieces_in set) (before-map set (entries set) ∙ (ordered (row_for b.high speed) set g.frame g.contents).sorted))

  under_key : (e : Entry) → List-as-Memᴰ e (entries set) → first (is_at e.kind e.index e.language) (entries set) ≡ some e
  under_key e m = looked-up set e (entries set) upwards m

  pub under : (e : Entry) (kind index language : ℕ) → List-as-Memᴰ e (entries set) → e.kind ≡ kind → e.index ≡ index → e.language ≡ language
      → first (is_at kind index language) (entries set) ≡ some e
  under e kind index language m k i l =
      ap (λ (x : ℕ). first (is_at x index language) (entries set)) (sym k)
      ∙ ap (λ (x : ℕ). first (is_at e.kind x language) (entries set)) (sym i)
      ∙ ap (λ (x : ℕ). first (is_at e.kind e.index x) (entries set)) (sym l)
      ∙ under_key e m

  -- ---- the types that go by their index, in language 0
  pub located_by_index : (kind index : ℕ) (e : Entry) → by_index kind ≡ true → eqb kind 2 ≡ false → eqb kind 3 ≡ false → index < 256
      → List-as-Memᴰ e (entries set) → e.kind ≡ kind → e.index ≡ index → e.language ≡ 0 → (size : ℕ)
      → locate (view_for b speed) (asked kind index 0 size) ≡ Body e.offset e.length
  unfolding locate view_of
  located_by_index kind index e by two three i m k n l size =
      rw (high_byte kind index i, low_byte kind index i, three, two, by, under e kind index 0 m k n l) refl

  pub located_device : (size : ℕ) → locate (view_for b speed) (asked 1 0 0 size) ≡ Body (device_entry b ok speed).entry.offset (device_entry b ok speed).entry.length
  located_device size =
      let s = device_entry b ok speed in
      located_by_index 1 0 s.entry refl refl refl (omega arith) s.member s.kind s.index s.language size

  -- ---- a configuration
  module _ (i : ℕ) (l : i < bNumConfigurations (device_body set)) where
    pub located_configuration : i < 256 → (size : ℕ) → (let e = (configuration_entry b ok speed i l).entry in
        locate (view_for b speed) (asked 2 i 0 size) ≡ Body e.offset e.length)
    unfolding locate view_of
    located_configuration s size = rw (high_byte 2 i s, low_byte 2 i s, (configuration_entry b ok speed i l).at) refl

  -- ---- the strings
  abbrev serial_index : ℕ
  serial_index = iSerialNumber (device_body set)

  pub texts : GoodTexts (references set) serial_index (pieces_of 3 (pieces_in set))
  unfolding good_strings references
  texts = texts-in (references set) serial_index (pieces_of 3 (pieces_in set)) (rules b ok speed).strings

  -- a string that is there is found, and its piece's body is the entry's
  pub record StringAt (index language : ℕ) : Type 0 where
    pub entry : Entry
    pub found : first (is_at 3 index language) (entries set) ≡ some entry
    pub body : piece_body set 3 index language ≡ body_of set entry
    pub short : length (piece_body set 3 index language) ≤ 254

  string_at : (index language : ℕ) → any (is_string index language) (pieces_of 3 (pieces_in set)) ≡ true → StringAt index language
  string_at index language there = go (first (is_at 3 index language) (entries set)) refl
    where
      body_is : piece_body set 3 index language ≡ body_found (Option·map (piece_for set) (first (is_at 3 index language) (entries set)))
      body_is = ap body_found (first-map (piece_for set) (is_piece 3 index language) (entries set))

      some-there : any (is_piece 3 index language) (pieces_in set) ≡ true
      some-there =
          let (p, m, q) = any-member (is_string index language) (pieces_of 3 (pieces_in set)) there in
          let (n, k) = only-member (kind_of 3) (pieces_in set) m in
          let (i, l) = both (eqb p.index index) (eqb p.language language) q in
          member-any (is_piece 3 index language) n (joined (joined k i) l)

      go : (o : Option Entry) → first (is_at 3 index language) (entries set) ≡ o → StringAt index language
      go none e = absurd (false≢true (ap is_some (sym (first-map (piece_for set) (is_piece 3 index language) (entries set) ∙ ap (Option·map (piece_for set)) e)) ∙ first_any (is_piece 3 index language) (pieces_in set) ∙ some-there))
      go (some x) e =
          let (m, k) = first_some (is_at 3 index language) (entries set) e in
          let here : kind_of 3 (piece_for set x) ≡ true = (both (eqb x.kind 3) _ (both (eqb x.kind 3 && eqb x.index index) (eqb x.language language) k).0).0 in
          let text = body_of set x in
          let good = every-member (λ (p : Piece). good_string p.body) texts.bodies (member-only (kind_of 3) (mapping (piece_for set) m) here) in
          let is = body_is ∙ ap (λ (o : Option Entry). body_found (Option·map (piece_for set) o)) e in
          record { entry = x; found = e; body = is; short = rw is (leb-true (length text) 254 (conjunct 3 (says_its_length text ∷ typed_string text ∷ even_length text ∷ up_to254 text ∷ []) good)) }

  -- string 0 is there where languages are listed
  pub zero_at : is_empty (languages set) ≡ false → StringAt 0 0
  unfolding languages
  zero_at some-listed = string_at 0 0 (go (zero_of (pieces_of 3 (pieces_in set))) refl some-listed)
    where
      go : (o : Option Piece) → zero_of (pieces_of 3 (pieces_in set)) ≡ o → is_empty (languages_in o) ≡ false → any (is_string 0 0) (pieces_of 3 (pieces_in set)) ≡ true
      go none e q = absurd (false≢true (sym q))
      go (some p) e q = sym (first_any (is_string 0 0) (pieces_of 3 (pieces_in set))) ∙ ap is_some e

  pub located_zero : (s : is_empty (languages set) ≡ false) (size : ℕ) → (let e = (zero_at s).entry in
      locate (view_for b speed) (asked 3 0 0 size) ≡ Body e.offset e.length)
  unfolding locate view_of
  located_zero s size = rw (zero_at s).found refl

  -- every string that is referred to, in every listed language
  module _ (r l : ℕ) (refers : List-as-Memᴰ r (references set)) (nonzero : is_nonzero r ≡ true) (listed : List-as-Memᴰ l (languages set)) where
    is-listed : member l (languages set) ≡ true
    is-listed = member-any (eqb l) listed (eq-eqb l l refl)

    not-zero : eqb r 0 ≡ false
    not-zero = ne_eqb r 0 (λ z. omega (arith, leb-true 1 r nonzero))

    pub named_at : eqb r serial_index ≡ false → StringAt r l
    unfolding languages
    named_at other = string_at r l (go (either _ _ (every-member (good_reference (languages set) (pieces_of 3 (pieces_in set)) serial_index) texts.referred refers)))
      where
        go : ((eqb r 0 || eqb r serial_index) ≡ true) ⊎ (in_every (languages set) (pieces_of 3 (pieces_in set)) r ≡ true) → any (is_string r l) (pieces_of 3 (pieces_in set)) ≡ true
        go (inl p) = absurd (false≢true (rw (not-zero, other) at p))
        go (inr p) = every-member (λ (x : ℕ). any (is_string r x) (pieces_of 3 (pieces_in set))) p listed

    pub located_string : (small : r < 256) (o : eqb r serial_index ≡ false) (size : ℕ) → (let e = (named_at o).entry in
        locate (view_for b speed) (asked 3 r l size) ≡ Body e.offset e.length)
    unfolding locate view_of
    located_string small o size = rw (high_byte 3 r small, low_byte 3 r small, not-zero, is-listed, o, and-false, (named_at o).found) refl

    pub located_serial : (small : r < 256) → eqb r serial_index ≡ true → (size : ℕ) → locate (view_for b speed) (asked 3 r l size) ≡ Serial (length b.serial)
    unfolding locate view_of
    located_serial small o size = rw (high_byte 3 r small, low_byte 3 r small, not-zero, is-listed, nonzero, o, is-listed) refl
