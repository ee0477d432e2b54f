-- The pieces of a set by its entries: what the rules ask of the one is what the code reads of the other. No axiom.
use Rattle.octets.proofs.Vocabulary.{◌≡◌, refl, sym, ap, ◌∙◌, ℕ, List, [], ◌∷◌, map, Bool, true, false, ◌&&◌, false≢true, Option·map, some, length, length-map, eqb, arith, ne_eqb}
use Rattle.octets.specs.Sentences.{pick, only, first, is_empty}
use Rattle.octets.proofs.Sentences.{both}
use Rattle.sets.specs.declared.Entry.{Entry}
use Rattle.sets.specs.Contents.{entries, entries_of, bodies, body_of}
use Rattle.sets.specs.Pieces.{Piece, piece_for, pieces_in, pieces_of, bodies_of, kind_of, body_is, head_body, has_index, has_no_language, sole}

-- ---- those for which a test holds, and the first of them, over a list of images
module _ {A B : Type 0} (g : A → B) (f : B → Bool) where
  pub map-only : (xs : List A) → map g (only (λ x. f (g x)) xs) ≡ only f (map g xs)
  unfolding only
  map-only [] = refl
  map-only (x ∷ xs) = go (f (g x)) (map-only xs)
    where
      go : (b : Bool) → map g (only (λ x. f (g x)) xs) ≡ only f (map g xs) → map g (pick b (x ∷ only (λ x. f (g x)) xs) (only (λ x. f (g x)) xs)) ≡ pick b (g x ∷ only f (map g xs)) (only f (map g xs))
      go true e = ap (λ (l : List B). g x ∷ l) e
      go false e = e

  pub first-map : (xs : List A) → first f (map g xs) ≡ Option·map g (first (λ x. f (g x)) xs)
  unfolding first
  first-map [] = refl
  first-map (x ∷ xs) = go (f (g x)) (first-map xs)
    where
      go : (b : Bool) → first f (map g xs) ≡ Option·map g (first (λ x. f (g x)) xs) → pick b (some (g x)) (first f (map g xs)) ≡ Option·map g (pick b (some x) (first (λ x. f (g x)) xs))
      go true e = refl
      go false e = e

-- ---- one alone
pub sole-good : (good : List ℕ → Bool) (ps : List Piece) → sole good ps ≡ true → good (head_body ps) ≡ true
sole-good good [] q = absurd (false≢true q)
sole-good good (p ∷ []) q = (both (has_index 0 p && has_no_language p) (good p.body) q).1
sole-good good (p ∷ r ∷ ps) q = absurd (false≢true q)

-- ---- by type
module _ (set : List ℕ) where
  pub of-kind : (t : ℕ) → map (piece_for set) (entries_of t set) ≡ pieces_of t (pieces_in set)
  of-kind t = map-only (piece_for set) (kind_of t) (entries set)

  pub map-body : (es : List Entry) → map (body_of set) es ≡ map body_is (map (piece_for set) es)
  map-body [] = refl
  map-body (e ∷ es) = ap (λ (l : List (List ℕ)). body_of set e ∷ l) (map-body es)

  pub bodies_of_lem : (t : ℕ) → bodies t set ≡ bodies_of t (pieces_in set)
  bodies_of_lem t = map-body (entries_of t set) ∙ ap (map body_is) (of-kind t)

  pub length-of : (t : ℕ) → length (entries_of t set) ≡ length (pieces_of t (pieces_in set))
  length-of t = sym (length-map (entries_of t set) (piece_for set)) ∙ ap length (of-kind t)

  pub none_of : (t : ℕ) → eqb (length (entries_of t set)) 0 ≡ is_empty (pieces_of t (pieces_in set))
  none_of t = go (entries_of t set) ∙ ap is_empty (of-kind t)
    where
      go : (es : List Entry) → eqb (length es) 0 ≡ is_empty (map (piece_for set) es)
      go [] = refl
      go (e ∷ es) = ne_eqb (length (e ∷ es)) 0 (λ q. omega arith)
