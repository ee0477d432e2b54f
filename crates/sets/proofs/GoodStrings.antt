-- Group 5 as the code asks it: by whether string 0 is there. No axiom.
use Rattle.octets.proofs.Vocabulary.{◌≡◌, refl, sym, ap, ◌∙◌, ℕ, List, [], ◌∷◌, List-as-Memᴰ, List·Memᴰ·head, List·Memᴰ·tail, Bool, true, false, ◌&&◌, ◌||◌, not, and-true, and-false, or-true, or-false, Option, some, none, drop, eqb, leb, arith, eqb-true, eqb-false, lt-leb, le-leb}
use Rattle.octets.specs.Sentences.{pick, ◌⇒◌, every, any, is_empty}
use Rattle.octets.proofs.Sentences.{cases, member-every, first_some}
use Rattle.octets.specs.Table.{has}
use Rattle.descriptors.specs.Check.{configuration_refers}
use Rattle.sets.specs.Contents.{bodies}
use Rattle.sets.specs.Pieces.{Piece, pieces_in, pieces_of}
use Rattle.sets.specs.Device.{device_body, iSerialNumber}
use Rattle.sets.specs.Strings.{words, good_string, is_string_zero, zero_of, languages_in, languages_of, languages, language_zero, listed, not_serial, is_nonzero, good_reference, good_languages, references, good_texts, good_strings}
use Rattle.sets.specs.Checks.{good_string_piece, good_listed, may_name, device_refers, Read}
use Rattle.octets.specs.Octets.{Bytes}
use Rattle.sets.proofs.References.{references-set}
use Rattle.sets.proofs.Bounds.{references-alike}

-- ---- the rules on strings, rule by rule and string by string
four : (a b c d a' b' c' d' : Bool) → (a && b && c && d && (a' && b' && c' && d')) ≡ ((a && a') && (b && b') && (c && c') && (d && d'))
four false b c d a' b' c' d' = refl
four true false c d a' b' c' d' = simp and-false
four true true false d a' b' c' d' = simp and-false
four true true true false a' b' c' d' = simp and-false
four true true true true a' b' c' d' = refl

module _ (ls : List ℕ) (serial : ℕ) where
  string-rules : (ss : List Piece)
      → every (good_string_piece ls serial) ss
      ≡ (every (λ p. good_string p.body) ss && every language_zero ss && every (listed ls) ss && every (not_serial serial) ss)
  unfolding every
  string-rules [] = refl
  string-rules (p ∷ ps) = rw (string-rules ps) (four (good_string p.body) (language_zero p) (listed ls p) (not_serial serial p) _ _ _ _)

arrange : (l a b c d r x : Bool) → (l && (a && b && c && d) && r) ≡ (a && b && (true ⇒ l) && c && (x ⇒ true) && d && r)
arrange false a b c d r x = simp and-false
arrange true false b c d r x = refl
arrange true true false c d r x = refl
arrange true true true false d r x = refl
arrange true true true true d r x = rw (or-true (not x))

-- ---- string 0 is not there: then no string is, and no reference
zero_or_not : (r : ℕ) → eqb r 0 ≡ not (leb 1 r)
zero_or_not r = cases (eqb r 0)
    (λ p. let e = eqb-true r 0 p in p ∙ rw (lt-leb 1 r (omega arith)))
    (λ p. let e = eqb-false r 0 p in p ∙ rw (le-leb 1 r (omega arith)))

not-any : (rs : List ℕ) → every (λ r. eqb r 0) rs ≡ not (any (λ r. leb 1 r) rs)
unfolding every any
not-any [] = refl
not-any (r ∷ rs) = rw (zero_or_not r, not-any rs) (go (leb 1 r) (any (λ r. leb 1 r) rs))
  where
    go : (a b : Bool) → (not a && not b) ≡ not (a || b)
    go true b = refl
    go false b = refl

-- with no language listed, every reference is good
in-no-language : (ss : List Piece) (serial : ℕ) (rs : List ℕ) → every (good_reference [] ss serial) rs ≡ true
unfolding every
in-no-language ss serial rs = member-every (good_reference [] ss serial) rs (λ r m. or-true (eqb r 0 || eqb r serial))

some-there : {p : Piece} {ss : List Piece} → List-as-Memᴰ p ss → is_empty ss ≡ false
some-there (List·Memᴰ·head p) = refl
some-there (List·Memᴰ·tail m) = refl

module _ (refs : List ℕ) (serial : ℕ) (ss : List Piece) where
  -- string 0 is there
  strings-listed : (p : Piece) → zero_of ss ≡ some p
      → let ls = words (drop 2 p.body) in
      (good_languages ls && every (good_string_piece ls serial) ss && every (good_reference ls ss serial) refs) ≡ good_texts refs serial ss
  strings-listed p z =
      let ls = words (drop 2 p.body) in
      rw (z, string-rules ls serial ss)
      (arrange (good_languages ls) (every (λ p. good_string p.body) ss) (every language_zero ss) (every (listed ls) ss) (every (not_serial serial) ss)
      (every (good_reference ls ss serial) refs) (not (is_empty ss) || any is_nonzero refs))

  strings-none : zero_of ss ≡ none → (is_empty ss && every (λ r. eqb r 0) refs) ≡ good_texts refs serial ss
  unfolding every
  strings-none z = rw (z, not-any refs) (go ss)
    where
      n : Bool
      n = any is_nonzero refs

      go : (ss : List Piece)
          → (is_empty ss && not n)
          ≡ (every (λ p. good_string p.body) ss && every language_zero ss && true && every (listed []) ss
          && ((not (is_empty ss) || n) ⇒ false) && every (not_serial serial) ss && every (good_reference [] ss serial) refs)
      go [] = rw (in-no-language [] serial refs) (simp (or-false, and-true))
      go (p ∷ ps) = simp and-false

  -- either way: what is asked of the strings, and what a reference may be
  asked : List ℕ → Bool → Bool
  asked ls b = pick b (every (good_string_piece ls serial) ss) (is_empty ss) && every (λ r. pick b (good_reference ls ss serial r) (eqb r 0)) refs

  strings-read : asked (languages_of ss) (good_languages (languages_of ss)) ≡ good_texts refs serial ss
  unfolding asked
  strings-read = go (zero_of ss) refl
    where
      there : (p : Piece) → zero_of ss ≡ some p → (b : Bool) → good_languages (words (drop 2 p.body)) ≡ b → asked (words (drop 2 p.body)) b ≡ good_texts refs serial ss
      there p z true q = rw q at (strings-listed p z)
      there p z false q = ap (λ b. b && every (λ r. eqb r 0) refs) (some-there (first_some is_string_zero ss z).0) ∙ (rw q at (strings-listed p z))

      go : (o : Option Piece) → zero_of ss ≡ o → asked (languages_in o) (good_languages (languages_in o)) ≡ good_texts refs serial ss
      go (some p) z = there p z (good_languages (words (drop 2 p.body))) refl
      go none z = strings-none z

module _ (set : List ℕ) where
  pub strings-asked : (good_listed set (languages set) && every (may_name set (languages set)) (references set)) ≡ good_strings (pieces_in set)
  unfolding good_strings languages references asked
  strings-asked = strings-read (references set) (iSerialNumber (device_body set)) (pieces_of 3 (pieces_in set))

  -- as it is asked of a table of what a reference may be, and of the configurations apart
  pub strings-told : Bytes set → (names : List ℕ) (refer good : Bool) → Read set names refer good → (refer && device_refers names (device_body set) && good) ≡ good_strings (pieces_in set)
  strings-told h names refer good r = cases good
      (λ p. rw (r.entries, r.told)
      (turned (every (configuration_refers names) (bodies 2 set)) (device_refers names (device_body set)) (good_listed set (languages set))
      ∙ ap (λ b. good_listed set (languages set) && b)
      (sym (references-set (has names) set) ∙ references-alike set h (has names) (may_name set (languages set)) (r.named p))
      ∙ strings-asked))
      (λ p. rw (p, and-false) (rw (sym r.entries ∙ p) at strings-asked))
    where
      turned : (c d g : Bool) → (c && d && g) ≡ (g && (d && c))
      turned true true g = sym (and-true g)
      turned true false g = sym (and-false g)
      turned false true g = sym (and-false g)
      turned false false g = sym (and-false g)
