-- The laws of strings: the languages that string 0 lists. No axiom.
use Rattle.std.specs.Prelude.{Some, None}
use Rattle.octets.proofs.Vocabulary.{◌≡◌, refl, sym, ap, ◌∙◌, ℕ, suc, ◌+◌, ◌-◌, ◌*◌, ◌/◌, ◌≤◌, ◌<◌, List, [], ◌∷◌, map, Bool, true, false, ◌&&◌, ◌||◌, and-false, and_assoc, or-true, or-false, or_assoc, Option, some, none, Option·map, length, drop, length-drop, eqb, leb, ltb, drop-cons, arith, leb-true, ltb-true, eqb-true, eqb-false, eq-eqb, ne_eqb, le-leb, lt-leb}
use native.Mathlib.Numerals.{add-one}
use Rattle.octets.specs.Octets.{byte, word}
use Rattle.octets.specs.Sentences.{pick, every, any, only, first, neighbours}
use Rattle.octets.proofs.Sentences.{cases, both, joined, same_test, first_alike, first-only}
use Rattle.octets.specs.Table.{has, with}
use Rattle.octets.proofs.Tables.{with-long, has-with, all_of, has-none}
use Rattle.sets.specs.declared.Entry.{Entry}
use Rattle.sets.specs.Contents.{is_kind, entries, entries_of}
use Rattle.sets.specs.Pieces.{Piece, piece_for, pieces_in, pieces_of, kind_of}
use Rattle.sets.specs.Strings.{words, is_string, is_string_zero, string_zero, languages_in, languages_of, languages, good_languages}
use Rattle.sets.specs.Found.{found, is_at}
use Rattle.sets.specs.Checks.{no_names, Reads}
use Rattle.sets.proofs.Pieces.{first-map, of-kind}
use Rattle.sets.proofs.Devices.{at_same, at-missing}

-- ---- the numbers that a body lists, from a place on
words-two : (a b : ℕ) (bytes : List ℕ) → words (a ∷ b ∷ bytes) ≡ (a + 256 * b) ∷ words bytes
unfolding words
words-two a b bytes = refl

words-short : (bytes : List ℕ) → length bytes ≤ 1 → words bytes ≡ []
unfolding words
words-short [] h = refl
words-short (a ∷ []) h = refl
words-short (a ∷ b ∷ bytes) h = absurd (omega arith)

module _ (body : List ℕ) (at : ℕ) where
  pub words_more : at + 1 < length body → words (drop at body) ≡ word body at ∷ words (drop (at + 2) body)
  words_more h =
      let d : drop at body ≡ byte body at ∷ drop (at + 1) body = rw (add-one, drop-cons body at 0 (omega arith)) in
      let e : drop (at + 1) body ≡ byte body (at + 1) ∷ drop (at + 2) body = drop-cons body (at + 1) 0 (omega arith) ∙ (let f : suc (at + 1) ≡ at + 2 = omega arith in rw f) in
      ap words d ∙ ap (λ bytes. words (byte body at ∷ bytes)) e ∙ words-two (byte body at) (byte body (at + 1)) (drop (at + 2) body)

  pub words-end : length body ≤ at + 1 → words (drop at body) ≡ []
  words-end h = words-short (drop at body) (rw length-drop (omega arith))

pub words-length : (bytes : List ℕ) → length (words bytes) ≡ length bytes / 2
unfolding words
words-length [] = refl
words-length (a ∷ []) = refl
words-length (a ∷ b ∷ bytes) = let e = words-length bytes in omega arith

-- ---- "one to four languages, nonzero, strictly ascending": ascending from 0 on
above-nonzero : (p : ℕ) (ls : List ℕ) → 1 ≤ p → neighbours ltb (p ∷ ls) ≡ true → every (λ l. leb 1 l) ls ≡ true
unfolding neighbours every
above-nonzero p [] h q = refl
above-nonzero p (l ∷ ls) h q =
    let (a, b) = both (ltb p l) (neighbours ltb (l ∷ ls)) q in
    let i : 1 ≤ l = let g = ltb-true p l a in omega arith in
    joined (le-leb 1 l i) (above-nonzero l ls i b)

pub ascending : (ls : List ℕ) → (every (λ l. leb 1 l) ls && neighbours ltb ls) ≡ neighbours ltb (0 ∷ ls)
unfolding neighbours every
ascending [] = refl
ascending (l ∷ ls) = same_test _ _
    (λ p. let (a, b) = both (leb 1 l && every (λ l. leb 1 l) ls) (neighbours ltb (l ∷ ls)) p in joined (both (leb 1 l) (every (λ l. leb 1 l) ls) a).0 b)
    (λ p. let (a, b) = both (leb 1 l) (neighbours ltb (l ∷ ls)) p in joined (joined a (above-nonzero l ls (leb-true 1 l a) b)) b)

module _ (body : List ℕ) where
  size : length (words (drop 2 body)) ≡ (length body - 2) / 2
  size = words-length (drop 2 body) ∙ rw length-drop

  pub languages-few : length body < 4 → false ≡ good_languages (words (drop 2 body))
  languages-few h = let e = size in rw (lt-leb 1 (length (words (drop 2 body))) (omega arith))

  pub languages-many : 11 < length body → false ≡ good_languages (words (drop 2 body))
  languages-many h = let e = size in rw (lt-leb (length (words (drop 2 body))) 4 (omega arith), and-false)

  pub languages-some : 4 ≤ length body → length body ≤ 11 → good_languages (words (drop 2 body)) ≡ neighbours ltb (0 ∷ words (drop 2 body))
  languages-some h i =
      let e = size in
      rw (le-leb 1 (length (words (drop 2 body))) (omega arith), le-leb (length (words (drop 2 body))) 4 (omega arith)) (ascending (words (drop 2 body)))

-- ---- the table of the indices that have a string in a language: one more entry
pub any-only : {A : Type 0} (f g : A → Bool) (x : A) (xs : List A) → any f (only g (x ∷ xs)) ≡ ((g x && f x) || any f (only g xs))
unfolding any only
any-only f g x xs = go (g x)
  where
    go : (b : Bool) → any f (pick b (x ∷ only g xs) (only g xs)) ≡ ((b && f x) || any f (only g xs))
    go true = refl
    go false = refl

into : (n t a x : Bool) → (x ≡ true → t ≡ true) → (n || (t && ((true && (x && true)) || a))) ≡ ((x || n) || (t && a))
into n t a true h = rw (h refl, or-true)
into n t a false h = refl

past : (n t a k l s x : Bool) → (k && l && s) ≡ false → (x ≡ true → s ≡ t) → (n || (t && ((k && (x && l)) || a))) ≡ (n || (t && a))
past n t a false l s x p h = refl
past n t a true l s false p h = refl
past n t a true false s true p h = refl
past n t a true true s true p h = rw (sym (h refl) ∙ p)

module _ (table next : List ℕ) (language : ℕ) (e : Piece) (es : List Piece) (j : ℕ) where
  same_index : eqb e.index j ≡ true → has table e.index ≡ has table j
  same_index p = ap (has table) (eqb-true e.index j p)

  pub entry_in : length next ≡ 8 → e.index < 256 → (eqb e.kind 3 && eqb e.language language && has table e.index) ≡ true
      → (has next j || (has table j && any (is_string j language) (pieces_of 3 (e ∷ es))))
      ≡ (has (with next e.index) j || (has table j && any (is_string j language) (pieces_of 3 es)))
  entry_in p h q =
      let (kl, t) = both (eqb e.kind 3 && eqb e.language language) (has table e.index) q in
      let (k, l) = both (eqb e.kind 3) (eqb e.language language) kl in
      rw (any-only, k, l, has-with next e.index h p j) (into (has next j) (has table j) _ (eqb e.index j) (λ x. sym (same_index x) ∙ t))

  pub entry_past : (eqb e.kind 3 && eqb e.language language && has table e.index) ≡ false
      → (has next j || (has table j && any (is_string j language) (pieces_of 3 (e ∷ es))))
      ≡ (has next j || (has table j && any (is_string j language) (pieces_of 3 es)))
  entry_past q = rw any-only (past (has next j) (has table j) _ (eqb e.kind 3) (eqb e.language language) (has table e.index) (eqb e.index j) q same_index)

-- ---- the table of what a reference may be: with the serial number's index and 0, and 0 alone
turned : (m n : ℕ) → eqb m n ≡ eqb n m
turned m n = cases (eqb n m) (λ p. eq-eqb m n (sym (eqb-true n m p)) ∙ sym p) (λ p. ne_eqb m n (λ e. eqb-false n m p (sym e)) ∙ sym p)

pub with-serial : (table : List ℕ) (serial j : ℕ) → serial < 256 → length table ≡ 8 → has (with (with table serial) 0) j ≡ (eqb j 0 || eqb j serial || has table j)
with-serial table serial j h p =
    has-with (with table serial) 0 (omega arith) (with-long table serial p) j
    ∙ rw (has-with table serial h p j, turned 0 j, turned serial j) (sym (or_assoc (eqb j 0) (eqb j serial) (has table j)))

pub with_none : (j : ℕ) → has (with (all_of 0) 0) j ≡ eqb j 0
with_none j = has-with (all_of 0) 0 (omega arith) refl j ∙ rw (has-none j, or-false) (turned 0 j)

pub neighbours-one : {A : Type 0} (r : A → A → Bool) (x : A) → neighbours r (x ∷ []) ≡ true
unfolding neighbours
neighbours-one r x = refl

-- ---- string 0, as it is looked up
pub string-zero : (set : List ℕ) → string_zero set ≡ Option·map (piece_for set) (first (is_at 3 0 0) (entries set))
string-zero set =
    first-only is_string_zero (kind_of 3) (pieces_in set)
    ∙ first-map (piece_for set) (λ p. kind_of 3 p && is_string_zero p) (entries set)
    ∙ ap (Option·map (piece_for set)) (first_alike _ (is_at 3 0 0) (entries set) (λ e m. sym (and_assoc (is_kind 3 e) (eqb e.index 0) (eqb e.language 0))))

pub found_some : (o : Option Entry) {e : Entry} → found o ≡ Some e → o ≡ some e
found_some none p = at-missing (sym p)
found_some (some d) p = ap some (at_same p)

pub found_none : (o : Option Entry) → found o ≡ None → o ≡ none
found_none none p = refl
found_none (some d) p = at-missing p

module _ (set : List ℕ) where
  pub zero-some : {e : Entry} → found (first (is_at 3 0 0) (entries set)) ≡ Some e → string_zero set ≡ some (piece_for set e)
  zero-some p = string-zero set ∙ ap (Option·map (piece_for set)) {x = first (is_at 3 0 0) (entries set)} (found_some _ p)

  pub zero-none : found (first (is_at 3 0 0) (entries set)) ≡ None → string_zero set ≡ none
  zero-none p = string-zero set ∙ ap (Option·map (piece_for set)) {x = first (is_at 3 0 0) (entries set)} (found_none _ p)

  pub languages-of : {o : Option Piece} → string_zero set ≡ o → languages set ≡ languages_in o
  unfolding languages
  languages-of p = ap languages_in p

-- ---- no string
module _ (set : List ℕ) (p : entries_of 3 set ≡ []) where
  bare-pieces : pieces_of 3 (pieces_in set) ≡ []
  bare-pieces = sym (of-kind set 3) ∙ ap (map (piece_for set)) p

  bare-languages : languages set ≡ []
  unfolding languages first
  bare-languages = ap languages_of bare-pieces

  pub bare-reads : Reads set (languages set) true (with no_names 0)
  bare-reads = record {
    entries = rw (bare-languages, bare-pieces);
    named = λ _ j h. rw bare-languages (with_none j);
    zero = with_none 0;
  }
