-- Group 5 holds of the strings that stay. No axiom.
use Rattle.octets.proofs.Vocabulary.{◌≡◌, refl, sym, ap, ◌∙◌, ℕ, ◌≤◌, List, [], ◌∷◌, List-as-Memᴰ, List·Memᴰ·head, List·Memᴰ·tail, Bool, true, false, ◌&&◌, ◌||◌, not, ⊎_elim, length, eqb, leb, ltb, arith, eqb-true, eqb-false, eq-eqb, ne_eqb, leb-true, le-leb}
use Rattle.octets.specs.Sentences.{pick, every, any, only, neighbours, member, is_some, is_empty}
use Rattle.octets.proofs.Sentences.{cases, never, both, joined, either, or_left, or_right, if-then, then_if, conjunct, every-member, member-every, any-member, member-any, none_any}
use Rattle.sets.specs.Pieces.{Piece}
use Rattle.sets.specs.Strings.{good_string, good_languages, is_string_zero, zero_of, languages_of, language_zero, listed, is_nonzero, not_serial, is_string, in_every, good_reference}
use Rattle.sets.proofs.Groups.{GoodTexts, no-texts}
use Rattle.set_writer.proofs.InPieces.{any-only, first-only}
use Rattle.set_writer.proofs.LaidOut.{every_some}

-- ---- those that stay
only_none : {A : Type 0} (f : A → Bool) (xs : List A) → ((x : A) → List-as-Memᴰ x xs → f x ≡ false) → only f xs ≡ []
unfolding only
only_none f [] h = refl
only_none f (x ∷ xs) h = rw (h x (List·Memᴰ·head refl)) (only_none f xs (λ y m. h y (List·Memᴰ·tail m)))

not-empty : {A : Type 0} {x : A} {xs : List A} → List-as-Memᴰ x xs → not (is_empty xs) ≡ true
not-empty (List·Memᴰ·head e) = refl
not-empty (List·Memᴰ·tail m) = refl

languages-long : (ls : List ℕ) → good_languages ls ≡ true → 1 ≤ length ls
languages-long ls p = leb-true 1 (length ls) (conjunct 0 (leb 1 (length ls) ∷ leb (length ls) 4 ∷ every (λ l. leb 1 l) ls ∷ neighbours ltb ls ∷ []) p)

module _ (refs : List ℕ) (serial : ℕ) (serial-in : List-as-Memᴰ serial refs) (ss : List Piece) (s : GoodTexts refs serial ss) where
  abbrev pub named_piece : Piece → Bool
  named_piece p = leb 1 p.index && member p.index refs

  abbrev pub needed : Bool
  needed = any named_piece ss || leb 1 serial

  abbrev pub staying_piece : Piece → Bool
  staying_piece p = pick (eqb p.index 0) needed (member p.index refs)

  is_member : {r : ℕ} → List-as-Memᴰ r refs → member r refs ≡ true
  is_member {r} m = member-any (eqb r) m (eq-eqb r r refl)

  -- a nonzero reference needs string 0
  zero-there : any is_nonzero refs ≡ true → is_some (zero_of ss) ≡ true
  zero-there h = if-then _ _ s.there (or_right (not (is_empty ss)) h)

  some-language : (ls : List ℕ) → good_languages ls ≡ true → (l : ℕ) × List-as-Memᴰ l ls
  some-language [] p = absurd (let h = languages-long [] p in omega arith)
  some-language (l ∷ ls) p = (l, List·Memᴰ·head refl)

  string-named : (r : ℕ) (p : Piece) → List-as-Memᴰ r refs → (eqb r 0 ≡ false) → eqb p.index r ≡ true → named_piece p ≡ true
  string-named r p m z e =
      let i = eqb-true p.index r e in
      let n = eqb-false r 0 z in
      rw i (joined (le-leb 1 r (omega arith)) (is_member m))

  reference-needs : (r : ℕ) → List-as-Memᴰ r refs → leb 1 r ≡ true → needed ≡ true
  reference-needs r m h =
      let l = leb-true 1 r h in
      let z : eqb r 0 ≡ false = ne_eqb r 0 (λ e. omega arith) in
      let zero = zero-there (member-any is_nonzero m h) in
      let (lang, k) = some-language (languages_of ss) (if-then _ _ s.languages zero) in
      let good = every-member (good_reference (languages_of ss) ss serial) s.referred m in
      ⊎_elim
      (λ a. ⊎_elim (λ b. never b z) (λ b. or_right (any named_piece ss) (rw (sym (eqb-true r serial b)) h)) (either (eqb r 0) (eqb r serial) a))
      (λ a.
      let (p, n, q) = any-member (is_string r lang) ss (every-member (λ l. any (is_string r l) ss) a k) in
      or_left (leb 1 serial) (member-any named_piece n (string-named r p m z (both (eqb p.index r) (eqb p.language lang) q).0)))
      (either (eqb r 0 || eqb r serial) (in_every (languages_of ss) ss r) good)

  -- string 0 stays
  module _ (y : needed ≡ true) where
    same-zero : zero_of (only staying_piece ss) ≡ zero_of ss
    same-zero = first-only is_string_zero staying_piece (λ p h. rw (both (eqb p.index 0) (eqb p.language 0) h).0 y) ss

    zero_is : is_some (zero_of ss) ≡ true
    zero_is = ⊎_elim
        (λ a. let (p, m, q) = any-member named_piece ss a in if-then _ _ s.there (or_left (any is_nonzero refs) (not-empty m)))
        (λ a. zero-there (member-any is_nonzero serial-in a))
        (either (any named_piece ss) (leb 1 serial) y)

    still-referred : (r : ℕ) → List-as-Memᴰ r refs → good_reference (languages_of ss) (only staying_piece ss) serial r ≡ true
    still-referred r m = ⊎_elim
        (λ a. or_left (in_every (languages_of ss) (only staying_piece ss) r) a)
        (λ a. cases (eqb r 0) (λ z. or_left (in_every (languages_of ss) (only staying_piece ss) r) (or_left (eqb r serial) z))
        (λ z. or_right (eqb r 0 || eqb r serial) (member-every _ (languages_of ss) (λ l k. any-only (is_string r l) staying_piece
        (λ p h. let i = (both (eqb p.index r) (eqb p.language l) h).0 in rw (eqb-true p.index r i, z) (is_member m)) ss
        ∙ every-member (λ l. any (is_string r l) ss) a k))))
        (either (eqb r 0 || eqb r serial) (in_every (languages_of ss) ss r) (every-member (good_reference (languages_of ss) ss serial) s.referred m))

    when-needed : GoodTexts refs serial (only staying_piece ss)
    when-needed = record {
      bodies = every_some staying_piece (λ p. good_string p.body) ss s.bodies;
      zeros = every_some staying_piece language_zero ss s.zeros;
      languages = rw same-zero s.languages;
      list = rw same-zero (every_some staying_piece (listed (languages_of ss)) ss s.list);
      there = then_if (not (is_empty (only staying_piece ss)) || any is_nonzero refs) (is_some (zero_of (only staying_piece ss))) (λ _. ap is_some same-zero ∙ zero_is);
      serials = every_some staying_piece (not_serial serial) ss s.serials;
      referred = rw same-zero (member-every _ refs still-referred);
    }

  -- no string stays
  module _ (n : needed ≡ false) where
    none-stay : only staying_piece ss ≡ []
    none-stay = only_none staying_piece ss (λ p m. cases (eqb p.index 0)
        (λ z. rw z n)
        (λ z. cases (member p.index refs)
        (λ k. never (or_left (leb 1 serial) (member-any named_piece m (let i = eqb-false p.index 0 z in joined (le-leb 1 p.index (omega arith)) k))) n)
        (λ k. rw (z, k))))

    all-zero : any is_nonzero refs ≡ false
    all-zero = none_any is_nonzero refs (λ r m. cases (leb 1 r) (λ h. never (reference-needs r m h) n) (λ h. h))

  pub still-strings : GoodTexts refs serial (only staying_piece ss)
  still-strings = cases needed when-needed (λ n. rw (none-stay n) (no-texts refs serial (all-zero n)))
