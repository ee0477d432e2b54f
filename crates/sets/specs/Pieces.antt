-- What a set holds, as pieces: wherever the bodies lie, groups 3 to 6 are rules over these.
use Rattle.std.specs.Prelude.{ℕ, List, [], ◌∷◌, map, Bool, false, ◌&&◌, eqb}
use Rattle.octets.specs.Sentences.{only, is_empty}
use Rattle.sets.specs.declared.Entry.{Entry}
use Rattle.sets.specs.Contents.{entries, body_of}

-- document 02, L1: "type 1 byte, index 1, language 2, .. body"
pub record Piece : Type 0 where
  pub kind : ℕ
  pub index : ℕ
  pub language : ℕ
  pub body : List ℕ

-- an entry with a body, and with the body that it names
abbrev pub piece_with : Entry → List ℕ → Piece
piece_with e body = record { kind = e.kind; index = e.index; language = e.language; body = body }

abbrev pub piece_for : List ℕ → Entry → Piece
piece_for set e = piece_with e (body_of set e)

abbrev pub pieces_in : List ℕ → List Piece
pieces_in set = map (piece_for set) (entries set)

-- those of one type, in their order, and their bodies
abbrev pub kind_of : ℕ → Piece → Bool
kind_of t p = eqb p.kind t

abbrev pub pieces_of : ℕ → List Piece → List Piece
pieces_of t ps = only (kind_of t) ps

abbrev pub body_is : Piece → List ℕ
body_is p = p.body

abbrev pub bodies_of : ℕ → List Piece → List (List ℕ)
bodies_of t ps = map body_is (pieces_of t ps)

-- the first one's body
abbrev pub head_body : List Piece → List ℕ
head_body [] = []
head_body (p ∷ ps) = p.body

-- ---- what groups 3 and 4 ask of a piece
-- "index 0", and "indices 0 up by one"
abbrev pub has_index : ℕ → Piece → Bool
has_index n p = eqb p.index n

-- "language 0"
abbrev pub has_no_language : Piece → Bool
has_no_language p = eqb p.language 0

-- one of them
abbrev pub is_one : {A : Type 0} → List A → Bool
is_one [] = false
is_one (x ∷ xs) = is_empty xs

-- one entry, "index 0, language 0", with a good body
abbrev pub sole : (List ℕ → Bool) → List Piece → Bool
sole good [] = is_one {A = Piece} []
sole good (p ∷ ps) = is_one (p ∷ ps) && has_index 0 p && has_no_language p && good p.body
