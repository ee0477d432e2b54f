-- Pieces at the places that are left. No axiom.
use Rattle.octets.proofs.Vocabulary.{◌≡◌, refl, ap, ◌∙◌, ℕ, ◌+◌, ◌/◌, ◌%◌, ◌≤◌, ◌<◌, List, [], ◌∷◌, ◌++◌, map, length, drop, get_or, length-map, drop_of_length-le}
use Rattle.sets.specs.Pieces.{Piece}
use Rattle.set_writer.specs.Writer.{entry_bytes, contents, body_bytes, front, laid_length, laid}
use Rattle.set_writer.proofs.Laid.{contents-none, contents-more, bodies-none, bodies-more, laid-parts}
use Rattle.set_writer.specs.Places.{piece_at, pieces_at}
use Rattle.std.proofs.lemmas.List.{drop_more}

module _ (stream places : List ℕ) (i : ℕ) where
  abbrev pub left : List Piece
  left = pieces_at stream (drop i places)

  abbrev pub here : Piece
  here = piece_at stream (get_or places i 0)

  abbrev pub behind : List Piece
  behind = pieces_at stream (drop (i + 1) places)

  module _ (h : i < length places) where
    places-more : left ≡ here ∷ behind
    places-more = ap (map (piece_at stream)) (drop_more places i 0 h)

    pub entries-left : (offset : ℕ) → contents offset left ≡ entry_bytes here offset ++ contents (offset + length here.body) behind
    entries-left offset = ap (contents offset) places-more ∙ contents-more offset here behind

    pub bodies-left : body_bytes left ≡ here.body ++ body_bytes behind
    bodies-left = ap body_bytes places-more ∙ bodies-more here behind

  module _ (h : length places ≤ i) where
    places-none : left ≡ []
    places-none = ap (map (piece_at stream)) (drop_of_length-le places h)

    pub no-entries : (offset : ℕ) → contents offset left ≡ []
    no-entries offset = ap (contents offset) places-none ∙ contents-none offset

    pub no-bodies : body_bytes left ≡ []
    no-bodies = ap body_bytes places-none ∙ bodies-none

-- ---- the parts of the whole set, one after another
module _ (stream places : List ℕ) where
  abbrev pub all : List Piece
  all = pieces_at stream places

  pub header-first : (size : ℕ) → size ≡ laid_length all → laid all ≡ (size % 256 ∷ size / 256 ∷ length places ∷ 0 ∷ []) ++ (contents (front all) all ++ body_bytes all)
  header-first size e = laid-parts all ∙ rw (e, length-map) refl
