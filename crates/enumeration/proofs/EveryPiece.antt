-- Every piece of the set in use is answered: GET_DESCRIPTOR of its type and index, in its language, gives its body, on every accepted board at every record that fits and is
-- in no test mode. So what a host can read is the set, whole. No axiom.
use Rattle.octets.proofs.Vocabulary.{◌≡◌, refl, sym, ap, ◌∙◌, ℕ, zero, suc, ◌≤◌, ◌<◌, List, [], ◌∷◌, List-as-Memᴰ, List·Memᴰ·cases-cons, List·Memᴰ·not-nil, Bool, true, false, ◌&&◌, not, and-false, false≢true, Option, some, none, ◌⊎◌, inl, inr, ⊎_elim, length, take, drop, get_elem?, eqb, leb, arith, eqb-true, eq-eqb, leb-true, le-leb}
use Rattle.octets.specs.Octets.{Bytes}
use Rattle.octets.specs.Sentences.{◌⇒◌, every, any, member, is_some, neighbours}
use Rattle.octets.proofs.Sentences.{cases, both, either, if-then, conjunct, every-member, member-only}
use Rattle.descriptors.specs.Limits.{named}
use Rattle.descriptors.proofs.FullSpeed as slow
use Rattle.descriptors.proofs.HighSpeed as fast
use Rattle.sets.specs.declared.Entry.{Entry}
use Rattle.sets.specs.Contents.{entries_from, entries, entries_of, is_kind, kind_allowed, before, body_long_enough, end_to_end, bodies_at, total, body_of, good_contents}
use Rattle.sets.specs.Pieces.{Piece, piece_for, pieces_in, pieces_of, kind_of, has_index, has_no_language, sole}
use Rattle.sets.specs.Device.{device_body, good_device, iSerialNumber}
use Rattle.sets.specs.Strings.{languages, language_zero, listed, not_serial, is_nonzero}
use Rattle.sets.specs.Pair.{mirrors_entry, mirrors_all, mirrors, qualifies, is_qualifier_of}
use Rattle.sets.specs.Opening.{Board, BytesOf}
use Rattle.sets.specs.View.{accepted, view_of}
use Rattle.sets.proofs.Groups.{one-device, each-rule}
use Rattle.sets.proofs.Bodies.{mapped}
use Rattle.sets.proofs.Pieces.{of-kind}
use Rattle.set_writer.proofs.Accepted.{mapping}
use Rattle.set_writer.proofs.Bytewise.{drop-bytes}
use Rattle.records.specs.declared.Device.{Device}
use Rattle.records.specs.Current.{set_for, view_for}
use Rattle.records.proofs.InUse.{row_for, bytes_for}
use Rattle.events.specs.declared.facts.Located.TheVariants.{Body}
use Rattle.events.specs.Requests.{by_index, language_for, locate_string, locate}
use Rattle.enumeration.specs.Script.{get_descriptor, Ready}
use Rattle.enumeration.specs.Enumeration.{other_speed}
use Rattle.enumeration.proofs.Asking.{asked}
use Rattle.enumeration.proofs.Found.{rules}
use Rattle.enumeration.proofs.Located.{high_byte, low_byte, under, located_by_index, texts}
use Rattle.enumeration.proofs.Reading.{Reads, from-set}
use Rattle.enumeration.proofs.OtherSpeed.{numbered, agreed}

-- ---- the types of an accepted set's entries
pub data Kind (paired : Bool) (k : ℕ) : Type 0 where
  is_device : k ≡ 1 → Kind paired k
  is_configuration : k ≡ 2 → Kind paired k
  is_string : k ≡ 3 → Kind paired k
  is_qualifier : paired ≡ true → k ≡ 6 → Kind paired k
  is_other : paired ≡ true → k ≡ 7 → Kind paired k

three : (k : ℕ) → member k (1 ∷ 2 ∷ 3 ∷ []) ≡ true → Kind false k
unfolding any
three k p = cases (eqb k 1) (λ q. is_device (eqb-true k 1 q)) (λ q. cases (eqb k 2) (λ r. is_configuration (eqb-true k 2 r))
    (λ r. cases (eqb k 3) (λ s. is_string (eqb-true k 3 s)) (λ s. absurd (false≢true (rw (q, r, s) at p)))))

five : (k : ℕ) → member k (1 ∷ 2 ∷ 3 ∷ 6 ∷ 7 ∷ []) ≡ true → Kind true k
unfolding any
five k p = cases (eqb k 1) (λ q. is_device (eqb-true k 1 q)) (λ q. cases (eqb k 2) (λ r. is_configuration (eqb-true k 2 r))
    (λ r. cases (eqb k 3) (λ s. is_string (eqb-true k 3 s)) (λ s. cases (eqb k 6) (λ t. is_qualifier refl (eqb-true k 6 t))
    (λ t. cases (eqb k 7) (λ u. is_other refl (eqb-true k 7 u)) (λ u. absurd (false≢true (rw (q, r, s, t, u) at p)))))))

kind-of : (high : Option (List ℕ)) (speed k : ℕ) → named (row_for high speed).entries k ≡ true → Kind (is_some high) k
kind-of none speed k p = three k (sym (slow.entry-types k) ∙ p)
kind-of (some set) speed k p = five k (sym (fast.entry-types k) ∙ cases (eqb speed 0) (λ q. rw q at p) (λ q. rw q at p))

-- ---- an entry's numbers are of one byte and of two
entries-small : (n : ℕ) (bytes : List ℕ) → Bytes bytes → {e : Entry} → List-as-Memᴰ e (entries_from n bytes) → (e.index < 256) × (e.language ≤ 65535)
unfolding entries_from
entries-small zero bytes h m = absurd (List·Memᴰ·not-nil m)
entries-small (suc n) bytes h {e} m = ⊎_elim
    (λ p. (rw p (h 1), rw p (omega (arith, h 2, h 3))))
    (λ k. entries-small n (drop 8 bytes) (drop-bytes 8 bytes h) k) (List·Memᴰ·cases-cons m)

position : {A : Type 0} {x : A} (l : List A) → List-as-Memᴰ x l → (i : ℕ) × (get_elem? l i ≡ some x)
position [] m = absurd (List·Memᴰ·not-nil m)
position (y ∷ l) m = ⊎_elim (λ p. (0, ap some (sym p))) (λ k. let (i, q) = position l k in (suc i, q)) (List·Memᴰ·cases-cons m)

pub sole-member : (good : List ℕ → Bool) (ps : List Piece) → sole good ps ≡ true → {p : Piece} → List-as-Memᴰ p ps → (p.index ≡ 0) × (p.language ≡ 0)
sole-member good [] s m = absurd (List·Memᴰ·not-nil m)
sole-member good (x ∷ y ∷ ps) s m = absurd (false≢true s)
sole-member good (x ∷ []) s {p} m =
    let (il, g) = both (has_index 0 x && has_no_language x) (good x.body) s in
    let (i, l) = both (has_index 0 x) (has_no_language x) il in
    ⊎_elim (λ q. (rw q (eqb-true x.index 0 i), rw q (eqb-true x.language 0 l))) (λ n. absurd (List·Memᴰ·not-nil n)) (List·Memᴰ·cases-cons m)

mirrors-member : (set its : List ℕ) (es fs : List Entry) → mirrors_all set its es fs ≡ true → {e : Entry} → List-as-Memᴰ e es → e.language ≡ 0
unfolding mirrors_all
mirrors-member set its [] fs p m = absurd (List·Memᴰ·not-nil m)
mirrors-member set its (x ∷ es) [] p m = absurd (false≢true p)
mirrors-member set its (x ∷ es) (f ∷ fs) p {e} m =
    let (a, q) = both (mirrors_entry set its x f) (mirrors_all set its es fs) p in
    let l = eqb-true x.language 0 (both (eqb x.index f.index) (eqb x.language 0) (both (eqb x.index f.index && eqb x.language 0) _ a).0).1 in
    ⊎_elim (λ q. rw q l) (λ n. mirrors-member set its es fs q n) (List·Memᴰ·cases-cons m)

module _ (b : Board) (octets : BytesOf b) (ok : accepted b ≡ true) {d : Device} (r : Ready b d) where
  abbrev set : List ℕ
  set = set_for b d.speed

  module _ (e : Entry) (m : List-as-Memᴰ e (entries set)) (size : ℕ) (s : size ≤ 65535) where
    bounds : (e.index < 256) × (e.language ≤ 65535)
    bounds = entries-small _ (drop 4 set) (drop-bytes 4 set (bytes_for b d.speed octets)) m

    pub kind : Kind (is_some b.high) e.kind
    unfolding good_contents
    kind =
        let row = row_for b.high d.speed in
        let all = conjunct 0 (every (kind_allowed row) (entries set) ∷ neighbours before (entries set) ∷ every body_long_enough (entries set) ∷ end_to_end (bodies_at set) (total set) (entries set) ∷ []) (rules b ok d.speed).contents in
        kind-of b.high d.speed e.kind (every-member (kind_allowed row) all m)

    -- its piece is one of its type
    pub of-type : (t : ℕ) → e.kind ≡ t → List-as-Memᴰ (piece_for set e) (pieces_of t (pieces_in set))
    of-type t k = member-only (kind_of t) (mapping (piece_for set) m) (eq-eqb e.kind t k)

    -- ---- by index: types 1, 6 and 7
    by_index_lem : (t : ℕ) → e.kind ≡ t → by_index t ≡ true → eqb t 2 ≡ false → eqb t 3 ≡ false → t < 256 → e.language ≡ 0 → Reads b d (get_descriptor e.kind e.index e.language size) (take size (body_of set e))
    by_index_lem t k by two three small l = rw (k, l)
        (from-set b octets ok r t e.index 0 size small bounds.0 (omega arith) s (inr refl) e.offset e.length (body_of set e)
        (located_by_index b ok d.speed t e.index e by two three bounds.0 m k refl l size) refl)

    -- ---- a configuration
    located-configuration : get_elem? (entries_of 2 set) e.index ≡ some e → locate (view_for b d.speed) (asked 2 e.index 0 size) ≡ Body e.offset e.length
    unfolding locate view_of
    located-configuration q = rw (high_byte 2 e.index bounds.0, low_byte 2 e.index bounds.0, q) refl

    of-configuration : e.kind ≡ 2 → Reads b d (get_descriptor e.kind e.index e.language size) (take size (body_of set e))
    of-configuration k =
        let (i, p) = position (entries_of 2 set) (member-only (is_kind 2) m (eq-eqb e.kind 2 k)) in
        let n = (each-rule (row_for b.high d.speed) set (rules b ok d.speed).configurations).numbered in
        let (j, l) = numbered set 0 (entries_of 2 set) (rw (← of-kind set 2) at n) i p in
        let h : e.index ≡ i = omega arith in
        let q : get_elem? (entries_of 2 set) e.index ≡ some e = ap (get_elem? (entries_of 2 set)) h ∙ p in
        rw (k, l) (from-set b octets ok r 2 e.index 0 size (omega arith) bounds.0 (omega arith) s (inr refl) e.offset e.length (body_of set e) (located-configuration q) refl)

    -- ---- a string
    module _ (k : e.kind ≡ 3) where
      abbrev serial : ℕ
      serial = iSerialNumber (device_body set)

      -- the language in which it is asked is the one in which it is given
      its-language : language_for (view_for b d.speed) e.index e.language ≡ e.language
      unfolding view_of languages
      its-language = cases (eqb e.index 0)
          (λ p. rw p (sym (eqb-true e.language 0 (if-then (eqb e.index 0) (eqb e.language 0) (both (eqb e.language 0 ⇒ eqb e.index 0) _ zero).1 p))))
          (λ p. rw (p, listed-there p (either (eqb e.index 0 && eqb e.language 0) _ list)) refl)
        where
          zero : language_zero (piece_for set e) ≡ true
          zero = every-member language_zero (texts b ok d.speed).zeros (of-type 3 k)

          list : listed (languages set) (piece_for set e) ≡ true
          list = every-member (listed (languages set)) (texts b ok d.speed).list (of-type 3 k)

          listed-there : eqb e.index 0 ≡ false → ((eqb e.index 0 && eqb e.language 0) ≡ true) ⊎ (member e.language (languages set) ≡ true) → member e.language (languages set) ≡ true
          listed-there p (inl q) = absurd (false≢true (rw p at q))
          listed-there p (inr q) = q

      not-the-serial : (leb 1 e.index && eqb e.index serial) ≡ false
      not-the-serial = cases (eqb e.index serial)
          (λ p. cases (leb 1 e.index)
          (λ q. absurd (false≢true (rw p at (if-then (is_nonzero serial) (not (eqb e.index serial)) (every-member (not_serial serial) (texts b ok d.speed).serials (of-type 3 k))
          (le-leb 1 serial (omega (arith, leb-true 1 e.index q, eqb-true e.index serial p)))))))
          (λ q. rw q refl))
          (λ p. rw (p, and-false) refl)

      string-at : locate_string (view_for b d.speed) e.index e.language ≡ Body e.offset e.length
      unfolding view_of
      string-at = rw (not-the-serial, under b ok d.speed e 3 e.index e.language m k refl refl) refl

      located-string : locate (view_for b d.speed) (asked 3 e.index e.language size) ≡ Body e.offset e.length
      unfolding locate
      located-string = rw (high_byte 3 e.index bounds.0, low_byte 3 e.index bounds.0, its-language) string-at

      of-string : Reads b d (get_descriptor e.kind e.index e.language size) (take size (body_of set e))
      of-string = rw k (from-set b octets ok r 3 e.index e.language size (omega arith) bounds.0 bounds.1 s (inl refl) e.offset e.length (body_of set e) located-string refl)

    reads_entry : Reads b d (get_descriptor e.kind e.index e.language size) (take size (body_of set e))
    unfolding qualifies mirrors
    reads_entry = go kind
      where
        go : Kind (is_some b.high) e.kind → Reads b d (get_descriptor e.kind e.index e.language size) (take size (body_of set e))
        go (is_device k) = by_index_lem 1 k refl refl refl (omega arith)
            (sole-member (good_device (row_for b.high d.speed) (length (pieces_of 2 (pieces_in set)))) (pieces_of 1 (pieces_in set)) (one-device _ _ (rules b ok d.speed)) (of-type 1 k)).1
        go (is_configuration k) = of-configuration k
        go (is_string k) = of-string k
        go (is_qualifier two k) = by_index_lem 6 k refl refl refl (omega arith)
            (sole-member (is_qualifier_of (device_body (set_for b (other_speed d.speed)))) (pieces_of 6 (pieces_in set)) (agreed b octets ok two r).0 (of-type 6 k)).1
        go (is_other two k) = by_index_lem 7 k refl refl refl (omega arith)
            (mirrors-member set (set_for b (other_speed d.speed)) (entries_of 7 set) (entries_of 2 (set_for b (other_speed d.speed))) (agreed b octets ok two r).1 (member-only (is_kind 7) m (eq-eqb e.kind 7 k)))

  -- ---- every piece
  pub every_piece : (p : Piece) → List-as-Memᴰ p (pieces_in set) → (size : ℕ) → size ≤ 65535 → Reads b d (get_descriptor p.kind p.index p.language size) (take size p.body)
  every_piece p m size s = let (e, n, q) = mapped (piece_for set) (entries set) m in rw q (reads_entry e n size s)
