-- The set writer (document 02, L1), for any row of limits: pieces end to end, sorted, laid out as a set; its numbers, and what it leaves.
use Rattle.std.specs.Prelude.{ℕ, zero, suc, ◌+◌, ◌*◌, ◌/◌, ◌%◌, ◌≡◌, Bool, true, false, ◌||◌, not, List, [], ◌∷◌, ◌++◌, length, drop, eqb, ltb}
use Rattle.octets.specs.Octets.{byte, word, part}
use Rattle.octets.specs.Sentences.{pick}
use Rattle.descriptors.specs.declared.limits.Limits.{Limits}
use Rattle.sets.specs.declared.Entry.{Entry}
use Rattle.sets.specs.Contents.{before}
use Rattle.sets.specs.Pieces.{Piece}
use Rattle.sets.specs.Opening.{lent, opening}

-- ---- pieces end to end: "type 1 byte, index 1, language 2, length 2, body"
-- the piece that some bytes begin with
abbrev pub piece_of : List ℕ → Piece
piece_of bytes = record { kind = byte bytes 0; index = byte bytes 1; language = word bytes 2; body = part bytes 6 (word bytes 4) }

-- the bytes behind the next k, which belong to a piece that has begun: whether the last piece ends where its length says, and the pieces
unfoldable pub ends_after : ℕ → List ℕ → Bool
ends_after zero [] = true
ends_after (suc k) [] = false
ends_after zero (b ∷ bs) = ends_after (5 + word (b ∷ bs) 4) bs
ends_after (suc k) (b ∷ bs) = ends_after k bs

unfoldable pub pieces_after : ℕ → List ℕ → List Piece
pieces_after k [] = []
pieces_after zero (b ∷ bs) = piece_of (b ∷ bs) ∷ pieces_after (5 + word (b ∷ bs) 4) bs
pieces_after (suc k) (b ∷ bs) = pieces_after k bs

-- "pieces .. end where their lengths say"
abbrev pub ends : List ℕ → Bool
ends = ends_after 0

abbrev pub pieces : List ℕ → List Piece
pieces = pieces_after 0

-- the entry of a piece whose body begins at an offset
abbrev pub entry_for : Piece → ℕ → Entry
entry_for p offset = record { kind = p.kind; index = p.index; language = p.language; offset = offset; length = length p.body }

-- ---- "sorted", as group 2 asks it of the entries: by type, then language as a 16-bit number, then index
-- where the bodies lie says nothing of the order
abbrev pub precedes : Piece → Piece → Bool
precedes p q = before (entry_for p 0) (entry_for q 0)

module _ {A : Type 0} (less : A → A → Bool) where
  -- of two, the lesser one, and the other one; y where neither is less
  abbrev pub earlier : A → A → A
  earlier x y = pick (less x y) x y

  abbrev pub later : A → A → A
  later x y = pick (less x y) y x

  -- x walks through the list: at each place the earlier one stays, and the later one walks on
  unfoldable pub insert : A → List A → List A
  insert x [] = x ∷ []
  insert x (y ∷ ys) = earlier x y ∷ insert (later x y) ys

  unfoldable pub sort_into : List A → List A → List A
  sort_into done [] = done
  sort_into done (x ∷ xs) = sort_into (insert x done) xs

abbrev pub sorted : List Piece → List Piece
sorted = sort_into precedes []

-- ---- the set of some pieces, in their order: header, contents "with offsets filled in", bodies (document 01, "contents first, then bodies")
-- "type, index, language (2), offset (2), length (2)"
abbrev pub entry_bytes : Piece → ℕ → List ℕ
entry_bytes p offset =
    p.kind ∷ p.index ∷ p.language % 256 ∷ p.language / 256 ∷ offset % 256 ∷ offset / 256 ∷ length p.body % 256 ∷ length p.body / 256 ∷ []

-- the first body begins at an offset, each next where the last ended
unfoldable pub contents : ℕ → List Piece → List ℕ
contents start [] = []
contents start (p ∷ ps) = entry_bytes p start ++ contents (start + length p.body) ps

unfoldable pub body_bytes : List Piece → List ℕ
body_bytes [] = []
body_bytes (p ∷ ps) = p.body ++ body_bytes ps

-- where the bodies begin, and where they end
abbrev pub front : List Piece → ℕ
front ps = 4 + 8 * length ps

abbrev pub laid_length : List Piece → ℕ
laid_length ps = front ps + length (body_bytes ps)

-- "Bytes 0–1 total length, byte 2 entry count n, byte 3 zero."
abbrev pub header : List Piece → List ℕ
header ps = laid_length ps % 256 ∷ laid_length ps / 256 ∷ length ps ∷ 0 ∷ []

unfoldable pub laid : List Piece → List ℕ
laid ps = header ps ++ (contents (front ps) ps ++ body_bytes ps)

-- ---- the writer
-- "have the set written .., sorted, with offsets filled in": the set of a stream of pieces
abbrev pub set_of : List ℕ → List ℕ
set_of stream = laid (sorted (pieces stream))

-- "with the serial block given, the opener accepts"
abbrev pub opens_as : Limits → List ℕ → List ℕ → Bool
opens_as limits set serial = eqb (opening limits (lent set serial)) 0

-- "over 64 pieces or 16,384 bytes"
abbrev pub too_large : List ℕ → Bool
too_large stream = ltb 64 (length (pieces stream)) || ltb 16384 (length (set_of stream))

-- "the opener would refuse the resulting set", then "buffer too short"
abbrev pub handing : Limits → List ℕ → List ℕ → ℕ → ℕ
handing limits set serial room = pick (not (opens_as limits set serial)) 21 (pick (ltb room (length set)) 22 0)

-- "20 pieces do not end where their lengths say, 21 over 64 pieces or 16,384 bytes, or the opener would refuse the resulting set, 22 buffer too short, in that order"
abbrev pub writing : Limits → List ℕ → List ℕ → ℕ → ℕ
writing limits stream serial room =
    pick (not (ends stream)) 20
    (pick (too_large stream) 21
    (handing limits (set_of stream) serial room))

-- what a call leaves that fills a lent buffer: its number; "Bytes past the set stay as they were", and after a refusal "the buffer is then untouched"
pub record Filled (text buffer after : List ℕ) (asked answer : ℕ) : Type 0 where
  pub number : answer ≡ asked
  pub bytes : after ≡ pick (eqb answer 0) (text ++ drop (length text) buffer) buffer
