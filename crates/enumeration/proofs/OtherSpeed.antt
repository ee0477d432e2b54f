-- Boards of two sets: at either speed the device_qualifier is the other set's, and so is every other_speed_configuration, byte for byte but for its type (L7). No axiom.
use Rattle.octets.proofs.Vocabulary.{◌≡◌, refl, sym, ap, ◌∙◌, ℕ, zero, suc, ◌+◌, ◌≤◌, ◌<◌, List, [], ◌∷◌, map, List-as-Memᴰ, true, ◌&&◌, false≢true, Option, some, none, inr, take, get_elem?, eqb, arith, eqb-true}
use Rattle.octets.specs.Sentences.{is_some}
use Rattle.octets.proofs.Sentences.{cases, both, only-member}
use Rattle.octets.proofs.Counting.{none-some, at-member}
use Rattle.sets.specs.declared.Entry.{Entry}
use Rattle.sets.specs.Contents.{entries, entries_of, is_kind, body_of}
use Rattle.sets.specs.Pieces.{piece_for, has_index, has_no_language}
use Rattle.sets.specs.Device.{device_body, bNumConfigurations}
use Rattle.sets.specs.Pair.{same, qualifier_of, is_qualifier_of, qualifies, retyped, mirrors_entry, mirrors_all, mirrors, agrees}
use Rattle.sets.specs.Opening.{Board, BytesOf, numbered_from}
use Rattle.sets.specs.View.{opening_of, accepted}
use Rattle.sets.proofs.Groups.{each-rule}
use Rattle.sets.proofs.Pair.{opened}
use Rattle.sets.proofs.Pieces.{of-kind}
use Rattle.pairs.proofs.Same.{same-list}
use Rattle.records.specs.declared.Device.{Device}
use Rattle.records.specs.Current.{set_for}
use Rattle.records.proofs.InUse.{row_for}
use Rattle.enumeration.specs.Script.{get_descriptor, Ready}
use Rattle.enumeration.specs.Bodies.{configuration_body}
use Rattle.enumeration.specs.Enumeration.{other_speed}
use Rattle.enumeration.proofs.Found.{Sole, alone, rules, few, configuration_entry}
use Rattle.enumeration.proofs.Located.{located_by_index}
use Rattle.enumeration.proofs.Reading.{Reads, from-set}

-- the two sets agree, whichever is in use
agree : (set serial : List ℕ) (high : Option (List ℕ)) (speed : ℕ) → (let b : Board = record { set = set; serial = serial; high = high } in
    opening_of b ≡ 0 → is_some high ≡ true → agrees (set_for b speed) (set_for b (other_speed speed)) ≡ true)
agree set serial none speed p s = absurd (false≢true s)
agree set serial (some high) speed p s = let o = opened set high serial p in cases (eqb speed 0) (λ q. rw q o.here) (λ q. rw q o.there)

-- a type 7 entry of the one stands beside each type 2 entry of the other
beside : (set other : List ℕ) (es fs : List Entry) → mirrors_all set other es fs ≡ true → (i : ℕ) {f : Entry} → get_elem? fs i ≡ some f
    → (e : Entry) × (get_elem? es i ≡ some e) × (mirrors_entry set other e f ≡ true)
unfolding mirrors_all
beside set other [] [] m i p = absurd (none-some p)
beside set other [] (f ∷ fs) m i p = absurd (false≢true m)
beside set other (e ∷ es) [] m i p = absurd (none-some p)
beside set other (e ∷ es) (f ∷ fs) m zero {f = g} p = (e, refl, let h : f ≡ g = cc in rw (← h) (both (mirrors_entry set other e f) (mirrors_all set other es fs) m).0)
beside set other (e ∷ es) (f ∷ fs) m (suc i) p = beside set other es fs (both (mirrors_entry set other e f) (mirrors_all set other es fs) m).1 i p

-- "indices 0 up by one": the entry at a place has that index
pub numbered : (set : List ℕ) (k : ℕ) (es : List Entry) → numbered_from k (map (piece_for set) es) ≡ true → (i : ℕ) {e : Entry} → get_elem? es i ≡ some e
    → (e.index ≡ k + i) × (e.language ≡ 0)
unfolding numbered_from
numbered set k [] n i p = absurd (none-some p)
numbered set k (x ∷ es) n zero {e} p =
    let (a, r) = both (has_index k (piece_for set x) && has_no_language (piece_for set x)) (numbered_from (k + 1) (map (piece_for set) es)) n in
    let (j, l) = both (has_index k (piece_for set x)) (has_no_language (piece_for set x)) a in
    let h : x ≡ e = cc in
    (rw (← h) (omega (arith, eqb-true x.index k j)), rw (← h) (eqb-true x.language 0 l))
numbered set k (x ∷ es) n (suc i) p =
    let (a, r) = both (has_index k (piece_for set x) && has_no_language (piece_for set x)) (numbered_from (k + 1) (map (piece_for set) es)) n in
    let (j, l) = numbered set (k + 1) es r i p in
    (omega arith, l)

module _ (b : Board) (octets : BytesOf b) (ok : accepted b ≡ true) (two : is_some b.high ≡ true) {d : Device} (r : Ready b d) where
  abbrev set : List ℕ
  set = set_for b d.speed

  abbrev other : List ℕ
  other = set_for b (other_speed d.speed)

  pub agreed : (qualifies set other ≡ true) × (mirrors set other ≡ true)
  agreed = both (qualifies set other) (mirrors set other) (agree b.set b.serial b.high d.speed (eqb-true (opening_of b) 0 ok) two)

  -- ---- the device_qualifier
  qualifier_entry : Sole set 6 (is_qualifier_of (device_body other))
  unfolding qualifies
  qualifier_entry = alone set 6 (is_qualifier_of (device_body other)) agreed.0

  pub reads_qualifier : (size : ℕ) → size ≤ 65535 → Reads b d (get_descriptor 6 0 0 size) (take size (qualifier_of (device_body other)))
  reads_qualifier size s =
      let e = qualifier_entry in
      from-set b octets ok r 6 0 0 size (omega arith) (omega arith) (omega arith) s (inr refl) e.entry.offset e.entry.length (qualifier_of (device_body other))
      (located_by_index b ok d.speed 6 0 e.entry refl refl refl (omega arith) e.member e.kind e.index e.language size)
      (sym (same-list (body_of set e.entry) (qualifier_of (device_body other)) e.good))

  -- ---- an other_speed_configuration
  module _ (i : ℕ) (there : i < bNumConfigurations (device_body other)) where
    record Mirrored : Type 0 where
      entry : Entry
      member : List-as-Memᴰ entry (entries set)
      kind : entry.kind ≡ 7
      index : entry.index ≡ i
      language : entry.language ≡ 0
      body : body_of set entry ≡ retyped (configuration_body other i)

    mirrored : Mirrored
    unfolding mirrors
    mirrored =
        let c = configuration_entry b ok (other_speed d.speed) i there in
        let n = (each-rule (row_for b.high (other_speed d.speed)) other (rules b ok (other_speed d.speed)).configurations).numbered in
        let (x, y) = numbered other 0 (entries_of 2 other) (rw (← of-kind other 2) at n) i c.at in
        let (e, p, q) = beside set other (entries_of 7 set) (entries_of 2 other) agreed.1 i c.at in
        let (m, k) = only-member (is_kind 7) (entries set) (at-member (entries_of 7 set) i p) in
        let (il, t) = both (eqb e.index c.entry.index && eqb e.language 0) (same (body_of set e) (retyped (body_of other c.entry))) q in
        let (j, l) = both (eqb e.index c.entry.index) (eqb e.language 0) il in
        record {
          entry = e;
          member = m;
          kind = eqb-true e.kind 7 k;
          index = omega (arith, eqb-true e.index c.entry.index j);
          language = eqb-true e.language 0 l;
          body = same-list (body_of set e) (retyped (body_of other c.entry)) t ∙ ap retyped (sym c.body);
        }

    pub reads_other : (size : ℕ) → size ≤ 65535 → Reads b d (get_descriptor 7 i 0 size) (take size (retyped (configuration_body other i)))
    reads_other size s =
        let e = mirrored in
        let small = few b ok (other_speed d.speed) in
        from-set b octets ok r 7 i 0 size (omega arith) (omega arith) (omega arith) s (inr refl) e.entry.offset e.entry.length (retyped (configuration_body other i))
        (located_by_index b ok d.speed 7 i e.entry refl refl refl (omega arith) e.member e.kind e.index e.language size) (sym e.body)
