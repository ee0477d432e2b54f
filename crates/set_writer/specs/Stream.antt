-- Some pieces end to end, as a stream that the writer reads.
use Rattle.std.specs.Prelude.{ℕ, ◌/◌, ◌%◌, List, [], ◌∷◌, ◌++◌, length}
use Rattle.sets.specs.Pieces.{Piece}

abbrev pub piece_head : Piece → List ℕ
piece_head p = p.kind ∷ p.index ∷ p.language % 256 ∷ p.language / 256 ∷ length p.body % 256 ∷ length p.body / 256 ∷ []

unfoldable pub stream_of : List Piece → List ℕ
stream_of [] = []
stream_of (p ∷ ps) = piece_head p ++ (p.body ++ stream_of ps)
