-- The laws of a stream, piece by piece: what stands at a place, and what is behind it. No axiom.
use Rattle.octets.proofs.Vocabulary.{◌≡◌, refl, sym, ap, ◌∙◌, ℕ, zero, suc, ◌+◌, ◌-◌, ◌*◌, ◌/◌, ◌%◌, ◌≤◌, ◌<◌, List, [], ◌∷◌, ◌++◌, true, false, length, drop, length-append, length-drop, drop_of_length-le, leb, drop-drop, drop-append_seam, take-append_seam, arith, leb-true, leb-false}
use Rattle.octets.proofs.Sentences.{cases, never}
use Rattle.octets.specs.Octets.{word}
use Rattle.set_writer.specs.Writer.{piece_of, ends_after, pieces_after, ends, pieces}
use Rattle.set_writer.specs.Stream.{piece_head, stream_of}
use Rattle.sets.specs.Pieces.{Piece}

-- bytes that belong to a piece are passed over
ends-skip : (k : ℕ) (bs : List ℕ) → k ≤ length bs → ends_after k bs ≡ ends (drop k bs)
unfolding ends_after
ends-skip zero bs h = refl
ends-skip (suc k) [] h = absurd (omega arith)
ends-skip (suc k) (b ∷ bs) h = ends-skip k bs (omega arith)

ends-short : (k : ℕ) (bs : List ℕ) → length bs < k → ends_after k bs ≡ false
unfolding ends_after
ends-short zero bs h = absurd (omega arith)
ends-short (suc k) [] h = refl
ends-short (suc k) (b ∷ bs) h = ends-short k bs (omega arith)

pieces-skip : (k : ℕ) (bs : List ℕ) → pieces_after k bs ≡ pieces (drop k bs)
unfolding pieces_after
pieces-skip zero [] = refl
pieces-skip zero (b ∷ bs) = refl
pieces-skip (suc k) [] = refl
pieces-skip (suc k) (b ∷ bs) = pieces-skip k bs

abbrev pub size_of : List ℕ → ℕ
size_of bytes = 6 + word bytes 4

one_less : (w b : ℕ) (bs : List ℕ) → drop (5 + w) bs ≡ drop (6 + w) (b ∷ bs)
one_less w b bs = let e : suc (5 + w) ≡ 6 + w = omega arith in ap (λ (k : ℕ). drop k (b ∷ bs)) e

-- where something is left
ends_more : (bs : List ℕ) → 0 < length bs → size_of bs ≤ length bs → ends bs ≡ ends (drop (size_of bs) bs)
unfolding ends_after
ends_more [] l h = absurd (omega arith)
ends_more (b ∷ bs) l h = ends-skip (5 + word (b ∷ bs) 4) bs (omega arith) ∙ ap ends (one_less (word (b ∷ bs) 4) b bs)

ends-broken : (bs : List ℕ) → 0 < length bs → length bs < size_of bs → ends bs ≡ false
unfolding ends_after
ends-broken [] l h = absurd (omega arith)
ends-broken (b ∷ bs) l h = ends-short (5 + word (b ∷ bs) 4) bs (omega arith)

pieces_more : (bs : List ℕ) → 0 < length bs → pieces bs ≡ piece_of bs ∷ pieces (drop (size_of bs) bs)
unfolding pieces_after
pieces_more [] l = absurd (omega arith)
pieces_more (b ∷ bs) l = ap (λ (ps : List Piece). piece_of (b ∷ bs) ∷ ps) (pieces-skip (5 + word (b ∷ bs) 4) bs ∙ ap pieces (one_less (word (b ∷ bs) 4) b bs))

ends-none : ends [] ≡ true
unfolding ends_after
ends-none = refl

pieces_none : pieces [] ≡ []
unfolding pieces_after
pieces_none = refl

-- ---- a turn of a loop over the stream, which stands at a place
module _ (stream : List ℕ) (at : ℕ) (here : at < length stream) where
  left : 0 < length (drop at stream)
  left = rw length-drop (omega arith)

  module _ (size : ℕ) (e : size ≡ size_of (drop at stream)) where
    behind : drop (size_of (drop at stream)) (drop at stream) ≡ drop (at + size) stream
    behind = rw (drop-drop, ← e)

    pub stream-pieces : pieces (drop at stream) ≡ piece_of (drop at stream) ∷ pieces (drop (at + size) stream)
    stream-pieces = pieces_more (drop at stream) left ∙ ap (λ (bs : List ℕ). piece_of (drop at stream) ∷ pieces bs) behind

    pub stream-ends : size ≤ length stream - at → ends (drop at stream) ≡ ends (drop (at + size) stream)
    stream-ends h = ends_more (drop at stream) left (rw (length-drop, ← e) h) ∙ ap ends behind

    pub stream-broken : length stream - at < size → ends (drop at stream) ≡ false
    stream-broken h = ends-broken (drop at stream) left (rw (length-drop, ← e) h)

    pub stream-fits : ends (drop at stream) ≡ true → size ≤ length stream - at
    stream-fits p = cases (leb size (length stream - at)) (leb-true _ _) (λ q. never p (stream-broken (leb-false _ _ q)))

-- at its end
module _ (stream : List ℕ) (at : ℕ) (over : length stream ≤ at) where
  pub stream-over : ends (drop at stream) ≡ true
  stream-over = rw (drop_of_length-le stream over) ends-none

  pub stream-none : pieces (drop at stream) ≡ []
  stream-none = rw (drop_of_length-le stream over) pieces_none

-- ---- pieces end to end are read back
pub two_bytes : (x : ℕ) → x % 256 + 256 * (x / 256) ≡ x
two_bytes x = omega arith

-- a piece at the head of a stream
module _ (p : Piece) (rest : List ℕ) where
  abbrev bytes : List ℕ
  bytes = piece_head p ++ (p.body ++ rest)

  piece_is : piece_of bytes ≡ p
  piece_is = rw (two_bytes p.language, two_bytes (length p.body), take-append_seam p.body rest)

  piece-behind : drop (size_of bytes) bytes ≡ rest
  piece-behind = sym (drop-drop (word bytes 4) 6 bytes) ∙ rw (two_bytes (length p.body)) (drop-append_seam p.body rest)

  pieces-head : pieces bytes ≡ p ∷ pieces rest
  pieces-head = pieces_more bytes (omega arith) ∙ rw (piece_is, piece-behind)

  ends-head : ends bytes ≡ ends rest
  ends-head = ends_more bytes (omega arith) (rw (two_bytes (length p.body)) (omega (arith, length-append p.body rest))) ∙ ap ends piece-behind

pub stream-read : (ps : List Piece) → pieces (stream_of ps) ≡ ps
unfolding stream_of
stream-read [] = pieces_none
stream-read (p ∷ ps) = pieces-head p (stream_of ps) ∙ ap (λ (qs : List Piece). p ∷ qs) (stream-read ps)

pub stream-whole : (ps : List Piece) → ends (stream_of ps) ≡ true
unfolding stream_of
stream-whole [] = ends-none
stream-whole (p ∷ ps) = ends-head p (stream_of ps) ∙ stream-whole ps
