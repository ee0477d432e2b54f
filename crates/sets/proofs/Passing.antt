-- The laws of the one pass over the strings: entries and languages ascend together. No axiom.
use Rattle.octets.proofs.Vocabulary.{◌≡◌, refl, sym, ap, ◌∙◌, ℕ, ◌+◌, ◌≤◌, ◌<◌, List, [], ◌∷◌, map, Bool, true, false, ◌&&◌, ◌||◌, and-true, and-false, or-false, ◌⊎◌, inl, inr, length, drop, eqb, leb, ltb, arith, eqb-true, leb-true, ltb-true, ltb-false, eq-eqb, ne_eqb}
use Rattle.octets.specs.Octets.{byte, word}
use Rattle.octets.specs.Sentences.{pick, every, any, only, neighbours, member}
use Rattle.octets.proofs.Sentences.{cases, never, conjunct, both, either, or_right}
use Rattle.descriptors.specs.declared.limits.Limits.{Limits}
use Rattle.descriptors.specs.Limits.{named}
use Rattle.octets.specs.Table.{has, with}
use Rattle.octets.proofs.Tables.{with-long, all_of, has-none, has_all}
use Rattle.sets.specs.declared.Entry.{Entry}
use Rattle.sets.specs.Contents.{total, count, bodies_at, before, end_to_end, entries, good_frame, good_contents}
use Rattle.sets.specs.Pieces.{Piece, piece_for, pieces_in, pieces_of, kind_of}
use Rattle.sets.specs.Strings.{words, is_string, in_every, good_languages, good_reference}
use Rattle.sets.specs.Checks.{good_string_piece, no_names, Ordered}
use Rattle.sets.proofs.Entries.{rest, rest-start, every-cons, any-cons, only_here, only-later, only-empty}
use Rattle.sets.proofs.Strings.{any-only, entry_in, entry_past, words_more, words-end, languages-few, with-serial}

-- ---- once groups 1 and 2 are met
pub frame-whole : (set : List ℕ) → good_frame set ≡ true → bodies_at set ≤ length set
unfolding good_frame
frame-whole set f =
    let a = leb-true (bodies_at set) (total set) (both (leb 4 (length set) && leb (length set) 16384 && eqb (total set) (length set) && leb 1 (count set) && leb (count set) 64 && eqb (byte set 3) 0) (leb (bodies_at set) (total set)) f).1 in
    let b = eqb-true (total set) (length set) (conjunct 2 (leb 4 (length set) ∷ leb (length set) 16384 ∷ eqb (total set) (length set) ∷ leb 1 (count set) ∷ leb (count set) 64 ∷ eqb (byte set 3) 0 ∷ leb (bodies_at set) (total set) ∷ []) f) in
    omega arith

pub frame-few : (set : List ℕ) → good_frame set ≡ true → count set ≤ 64
unfolding good_frame
frame-few set f = leb-true (count set) 64 (conjunct 4 (leb 4 (length set) ∷ leb (length set) 16384 ∷ eqb (total set) (length set) ∷ leb 1 (count set) ∷ leb (count set) 64 ∷ eqb (byte set 3) 0 ∷ leb (bodies_at set) (total set) ∷ []) f)

pub ordered : (limits : Limits) (set : List ℕ) → good_frame set ≡ true → good_contents limits set ≡ true → Ordered set
unfolding good_contents
ordered limits set f g = record {
  whole = frame-whole set f;
  sorted = conjunct 1 (every (λ e. named limits.entries e.kind) (entries set) ∷ neighbours before (entries set) ∷ every (λ e. leb 2 e.length) (entries set) ∷ end_to_end (bodies_at set) (total set) (entries set) ∷ []) g;
}

-- ---- the entries ascend: where one is a string after a language, none from there on is in it
abbrev Later : ℕ → Entry → Type 0
Later l e = (3 < e.kind) ⊎ ((e.kind ≡ 3) × (l < e.language))

later-on : (l : ℕ) (e f : Entry) → before e f ≡ true → Later l e → Later l f
later-on l e f p h = kinds h (either (ltb e.kind f.kind) _ p)
  where
    languages : (e.kind ≡ 3) → (e.kind ≡ f.kind) → (l < e.language)
        → (ltb e.language f.language ≡ true) ⊎ ((eqb e.language f.language && ltb e.index f.index) ≡ true) → Later l f
    languages k q b (inl r) = let s = ltb-true e.language f.language r in inr (sym q ∙ k, omega arith)
    languages k q b (inr r) = let s = eqb-true e.language f.language (both (eqb e.language f.language) _ r).0 in inr (sym q ∙ k, omega arith)

    kinds : Later l e → (ltb e.kind f.kind ≡ true)
        ⊎ ((eqb e.kind f.kind && (ltb e.language f.language || (eqb e.language f.language && ltb e.index f.index))) ≡ true) → Later l f
    kinds (inl a) (inl q) = let s = ltb-true e.kind f.kind q in inl (omega arith)
    kinds (inl a) (inr q) = let s = eqb-true e.kind f.kind (both (eqb e.kind f.kind) _ q).0 in inl (omega arith)
    kinds (inr (k, b)) (inl q) = let s = ltb-true e.kind f.kind q in inl (omega arith)
    kinds (inr (k, b)) (inr q) =
        let (s, r) = both (eqb e.kind f.kind) _ q in
        languages k (eqb-true e.kind f.kind s) b (either (ltb e.language f.language) _ r)

module _ (j : ℕ) (p : Piece) (ps : List Piece) where
  other-kind : (m : ℕ) → (p.kind ≡ 3 → ⊥) → any (is_string j m) (pieces_of 3 (p ∷ ps)) ≡ any (is_string j m) (pieces_of 3 ps)
  other-kind m h = any-only (is_string j m) (kind_of 3) p ps ∙ rw (ne_eqb p.kind 3 h)

  other-language : (m : ℕ) → (p.language ≡ m → ⊥) → any (is_string j m) (pieces_of 3 (p ∷ ps)) ≡ any (is_string j m) (pieces_of 3 ps)
  other-language m h = any-only (is_string j m) (kind_of 3) p ps ∙ rw (ne_eqb p.language m h) (simp and-false)

module _ (set : List ℕ) where
  -- the strings of some entries
  abbrev strings_of : List Entry → List Piece
  strings_of es = pieces_of 3 (map (piece_for set) es)

  not-here : (j : ℕ) (e : Entry) (es : List Entry) (l : ℕ) → Later l e → any (is_string j l) (strings_of (e ∷ es)) ≡ any (is_string j l) (strings_of es)
  not-here j e es l (inl a) = other-kind j (piece_for set e) (map (piece_for set) es) l (λ p. omega arith)
  not-here j e es l (inr (k, b)) = other-language j (piece_for set e) (map (piece_for set) es) l (λ p. omega arith)

  none-later : (l j : ℕ) (e : Entry) (es : List Entry) → neighbours before (e ∷ es) ≡ true → Later l e → any (is_string j l) (strings_of (e ∷ es)) ≡ false
  unfolding neighbours any only
  none-later l j e [] n h = not-here j e [] l h
  none-later l j e (f ∷ es) n h =
      let (a, b) = both (before e f) (neighbours before (f ∷ es)) n in
      not-here j e (f ∷ es) l h ∙ none-later l j f es b (later-on l e f a h)

  -- ---- the languages ascend: an entry in none after this one is passed for them
  passed : (l j : ℕ) (e : Entry) (es : List Entry) (ls : List ℕ) → neighbours ltb (l ∷ ls) ≡ true → e.language ≤ l
      → in_every ls (strings_of (e ∷ es)) j ≡ in_every ls (strings_of es) j
  unfolding neighbours every
  passed l j e es [] q h = refl
  passed l j e es (m ∷ ls) q h =
      let (a, b) = both (ltb l m) (neighbours ltb (m ∷ ls)) q in
      let c = ltb-true l m a in
      rw (other-language j (piece_for set e) (map (piece_for set) es) m (λ p. omega arith), passed m j e es ls b (omega arith))

neighbours-tail : {A : Type 0} (r : A → A → Bool) (x : A) (xs : List A) → neighbours r (x ∷ xs) ≡ true → neighbours r xs ≡ true
unfolding neighbours
neighbours-tail r x [] p = refl
neighbours-tail r x (y ∷ ys) p = (both (r x y) (neighbours r (y ∷ ys)) p).1

in-none : (j l : ℕ) (ls : List ℕ) → in_every (l ∷ ls) [] j ≡ false
unfolding every any
in-none j l ls = refl

no_more : (es : List Piece) (j : ℕ) → in_every [] es j ≡ true
unfolding every
no_more es j = refl

moving : (n t b r : Bool) → ((n || (t && false)) && (b && r)) ≡ ((n && b) && r)
moving true t b r = refl
moving false true b r = refl
moving false false b r = refl

-- ---- what holds before the i-th entry, with `language` the one listed at `at`
module _ (set languages : List ℕ) (serial : ℕ) where
  pub record Passing (table next : List ℕ) (at language i : ℕ) : Type 0 where
    pub long : length next ≡ 8
    pub there : at + 1 < length languages
    pub here : words (drop at languages) ≡ language ∷ words (drop (at + 2) languages)
    pub ascend : neighbours ltb (words (drop at languages)) ≡ true
    pub known : (x : ℕ) → member x (words (drop at languages)) ≡ true → member x (words (drop 2 languages)) ≡ true
    pub sorted : neighbours before (rest set i) ≡ true
    pub good : every (good_string_piece (words (drop 2 languages)) serial) (pieces_of 3 (pieces_in set)) ≡ every (good_string_piece (words (drop 2 languages)) serial) (strings_of set (rest set i))
    pub named : (j : ℕ) → j < 256 → in_every (words (drop 2 languages)) (pieces_of 3 (pieces_in set)) j
        ≡ ((has next j || (has table j && any (is_string j language) (strings_of set (rest set i)))) && in_every (words (drop (at + 2) languages)) (strings_of set (rest set i)) j)

  pub begins : Ordered set → good_languages (words (drop 2 languages)) ≡ true → Passing (all_of 4294967295) (all_of 0) 2 (word languages 2) 0
  begins o g =
      let more : 2 + 1 < length languages = cases (ltb (length languages) 4)
      (λ p. never g (sym (languages-few languages (ltb-true (length languages) 4 p))))
      (λ p. let q = ltb-false (length languages) 4 p in omega arith) in
      let h = words_more languages 2 more in
      record {
        long = refl;
        there = more;
        here = h;
        ascend = (both (leb 1 (length (words (drop 2 languages))) && leb (length (words (drop 2 languages))) 4 && every (λ l. leb 1 l) (words (drop 2 languages))) (neighbours ltb (words (drop 2 languages))) g).1;
        known = λ x p. p;
        sorted = sym (ap (neighbours before) (rest-start set)) ∙ o.sorted;
        good = ap (λ es. every (good_string_piece (words (drop 2 languages)) serial) (strings_of set es)) (rest-start set);
        named = λ j l. ap (λ es. in_every (words (drop 2 languages)) (strings_of set es) j) (rest-start set)
            ∙ ap (λ ws. in_every ws (strings_of set (rest set 0)) j) h
            ∙ every-cons (λ m. any (is_string j m) (strings_of set (rest set 0))) (word languages 2) (words (drop 4 languages))
            ∙ rw (has-none j, has_all j l);
      }

  module _ {table next : List ℕ} {at language i : ℕ} (s : Passing table next at language i) where
    pub listed_here : member language (words (drop 2 languages)) ≡ true
    listed_here = s.known language (ap (member language) s.here ∙ any-cons (eqb language) language _ ∙ rw (eq-eqb language language refl))

    -- on to the next language
    pub moves : (e : Entry) (es : List Entry) → rest set i ≡ e ∷ es → (eqb e.kind 3 && ltb language e.language && ltb (at + 3) (length languages)) ≡ true
        → Passing next (all_of 0) (at + 2) (word languages (at + 2)) i
    moves e es r t =
        let (kl, b) = both (eqb e.kind 3 && ltb language e.language) (ltb (at + 3) (length languages)) t in
        let m = ltb-true (at + 3) (length languages) b in
        let (k, l) = both (eqb e.kind 3) (ltb language e.language) kl in
        let h = words_more languages (at + 2) (omega arith) in
        let n : (j : ℕ) → any (is_string j language) (strings_of set (rest set i)) ≡ false = λ j.
        ap (λ es. any (is_string j language) (strings_of set es)) r
        ∙ none-later set language j e es (rw r at s.sorted) (inr (eqb-true e.kind 3 k, ltb-true language e.language l)) in
        record {
          long = refl;
          there = omega arith;
          here = h;
          ascend = neighbours-tail ltb language (words (drop (at + 2) languages)) (sym (ap (neighbours ltb) s.here) ∙ s.ascend);
          known = λ x p. s.known x (ap (member x) s.here ∙ any-cons (eqb x) language _ ∙ or_right (eqb x language) p);
          sorted = s.sorted;
          good = s.good;
          named = λ j q. s.named j q
              ∙ rw (n j, h, every-cons, has-none j) (moving (has next j) (has table j) (any (is_string j (word languages (at + 2))) (strings_of set (rest set i))) _);
        }

    sorted-on : (e : Entry) → rest set i ≡ e ∷ rest set (i + 1) → neighbours before (rest set (i + 1)) ≡ true
    sorted-on e r = neighbours-tail before e (rest set (i + 1)) (rw r at s.sorted)

    -- on to the next entry: this one is no string
    pub other : (e : Entry) → rest set i ≡ e ∷ rest set (i + 1) → (e.kind ≡ 3 → ⊥) → Passing table next at language (i + 1)
    other e r k =
        let o : strings_of set (rest set i) ≡ strings_of set (rest set (i + 1)) = ap (strings_of set) r ∙ only-later (kind_of 3) (piece_for set e) (map (piece_for set) (rest set (i + 1))) (ne_eqb e.kind 3 k) in
        record {
          long = s.long;
          there = s.there;
          here = s.here;
          ascend = s.ascend;
          known = s.known;
          sorted = sorted-on e r;
          good = s.good ∙ ap (every (good_string_piece (words (drop 2 languages)) serial)) o;
          named = λ j q. s.named j q
              ∙ ap (λ es. (has next j || (has table j && any (is_string j language) es)) && in_every (words (drop (at + 2) languages)) es j) o;
        }

    -- it is a string, and good or not
    good_turn : (e : Entry) → rest set i ≡ e ∷ rest set (i + 1) → e.kind ≡ 3
        → every (good_string_piece (words (drop 2 languages)) serial) (pieces_of 3 (pieces_in set))
        ≡ (good_string_piece (words (drop 2 languages)) serial (piece_for set e) && every (good_string_piece (words (drop 2 languages)) serial) (strings_of set (rest set (i + 1))))
    good_turn e r k =
        let f = good_string_piece (words (drop 2 languages)) serial in
        s.good ∙ ap (every f) (ap (strings_of set) r ∙ only_here (kind_of 3) (piece_for set e) (map (piece_for set) (rest set (i + 1))) (eq-eqb e.kind 3 k)) ∙ every-cons f (piece_for set e) _

    pub refused : (e : Entry) → rest set i ≡ e ∷ rest set (i + 1) → e.kind ≡ 3 → good_string_piece (words (drop 2 languages)) serial (piece_for set e) ≡ false
        → false ≡ every (good_string_piece (words (drop 2 languages)) serial) (pieces_of 3 (pieces_in set))
    refused e r k g = sym (good_turn e r k ∙ rw g)

    -- where it is in no language that comes after this one
    later-passed : (e : Entry) → e.kind ≡ 3 → (eqb e.kind 3 && ltb language e.language && ltb (at + 3) (length languages)) ≡ false → (j : ℕ) (es : List Entry)
        → in_every (words (drop (at + 2) languages)) (strings_of set (e ∷ es)) j ≡ in_every (words (drop (at + 2) languages)) (strings_of set es) j
    later-passed e k t j es = cases (ltb language e.language)
        (λ p. let m = ltb-false (at + 3) (length languages) (rw (eq-eqb e.kind 3 k, p) at t) in
        rw (words-end languages (at + 2) (omega arith)) (no_more _ j ∙ sym (no_more _ j)))
        (λ p. let m = ltb-false language e.language p in
        passed set language j e es (words (drop (at + 2) languages)) (sym (ap (neighbours ltb) s.here) ∙ s.ascend) (omega arith))

    module _ (e : Entry) (r : rest set i ≡ e ∷ rest set (i + 1)) (k : e.kind ≡ 3)
        (t : (eqb e.kind 3 && ltb language e.language && ltb (at + 3) (length languages)) ≡ false)
        (g : good_string_piece (words (drop 2 languages)) serial (piece_for set e) ≡ true) where
      pub skips : (eqb e.kind 3 && eqb e.language language && has table e.index) ≡ false → Passing table next at language (i + 1)
      skips p = record {
        long = s.long;
        there = s.there;
        here = s.here;
        ascend = s.ascend;
        known = s.known;
        sorted = sorted-on e r;
        good = good_turn e r k ∙ rw g;
        named = λ j q. s.named j q
            ∙ ap (λ es. (has next j || (has table j && any (is_string j language) (strings_of set es))) && in_every (words (drop (at + 2) languages)) (strings_of set es) j) r
            ∙ rw (later-passed e k t j (rest set (i + 1)), entry_past table next language (piece_for set e) (map (piece_for set) (rest set (i + 1))) j p);
      }

      pub takes : e.index < 256 → (eqb e.kind 3 && eqb e.language language && has table e.index) ≡ true → Passing table (with next e.index) at language (i + 1)
      takes h p = record {
        long = with-long next e.index s.long;
        there = s.there;
        here = s.here;
        ascend = s.ascend;
        known = s.known;
        sorted = sorted-on e r;
        good = good_turn e r k ∙ rw g;
        named = λ j q. s.named j q
            ∙ ap (λ es. (has next j || (has table j && any (is_string j language) (strings_of set es))) && in_every (words (drop (at + 2) languages)) (strings_of set es) j) r
            ∙ rw (later-passed e k t j (rest set (i + 1)), entry_in table next language (piece_for set e) (map (piece_for set) (rest set (i + 1))) j s.long h p);
      }

    -- no entry is left
    module _ (r : rest set i ≡ []) where
      none_left : strings_of set (rest set i) ≡ []
      none_left = ap (strings_of set) r ∙ only-empty (kind_of 3)

      pub all-good : true ≡ every (good_string_piece (words (drop 2 languages)) serial) (pieces_of 3 (pieces_in set))
      unfolding every
      all-good = sym (s.good ∙ ap (every (good_string_piece (words (drop 2 languages)) serial)) none_left)

      ended : (j : ℕ) → j < 256 → in_every (words (drop 2 languages)) (pieces_of 3 (pieces_in set)) j ≡ (has next j && in_every (words (drop (at + 2) languages)) [] j)
      unfolding any
      ended j q = s.named j q
          ∙ ap (λ es. (has next j || (has table j && any (is_string j language) es)) && in_every (words (drop (at + 2) languages)) es j) none_left
          ∙ rw (and-false, or-false)

      names-none : at + 3 < length languages → serial < 256 → (j : ℕ) → j < 256
          → has (with (with no_names serial) 0) j ≡ good_reference (words (drop 2 languages)) (pieces_of 3 (pieces_in set)) serial j
      names-none m h j q =
          with-serial no_names serial j h refl
          ∙ rw (has-none j, ended j q, words_more languages (at + 2) (omega arith), in-none j (word languages (at + 2)) (words (drop (at + 2 + 2) languages)), and-false)

      names-last : length languages ≤ at + 3 → serial < 256 → (j : ℕ) → j < 256
          → has (with (with next serial) 0) j ≡ good_reference (words (drop 2 languages)) (pieces_of 3 (pieces_in set)) serial j
      names-last m h j q =
          with-serial next serial j h s.long
          ∙ rw (ended j q, words-end languages (at + 2) (omega arith), no_more [] j, and-true)

      pub names-read : serial < 256 → (j : ℕ) → j < 256
          → has (with (with (pick (ltb (at + 3) (length languages)) no_names next) serial) 0) j ≡ good_reference (words (drop 2 languages)) (pieces_of 3 (pieces_in set)) serial j
      names-read h j q = cases (ltb (at + 3) (length languages))
          (λ p. rw p (names-none (ltb-true (at + 3) (length languages) p) h j q))
          (λ p. rw p (names-last (ltb-false (at + 3) (length languages) p) h j q))
