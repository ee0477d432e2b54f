-- The laws of the set that is laid out: its parts, piece by piece, and its length. No axiom.
use Rattle.octets.proofs.Vocabulary.{◌≡◌, refl, ℕ, ◌+◌, ◌*◌, List, [], ◌∷◌, ◌++◌, length, length-append, arith}
use Rattle.sets.specs.Pieces.{Piece}
use Rattle.set_writer.specs.Writer.{entry_bytes, contents, body_bytes, front, header, laid_length, laid}

pub contents-none : (start : ℕ) → contents start [] ≡ []
unfolding contents
contents-none start = refl

pub contents-more : (start : ℕ) (p : Piece) (ps : List Piece) → contents start (p ∷ ps) ≡ entry_bytes p start ++ contents (start + length p.body) ps
unfolding contents
contents-more start p ps = refl

pub bodies-none : body_bytes [] ≡ []
unfolding body_bytes
bodies-none = refl

pub bodies-more : (p : Piece) (ps : List Piece) → body_bytes (p ∷ ps) ≡ p.body ++ body_bytes ps
unfolding body_bytes
bodies-more p ps = refl

pub laid-parts : (ps : List Piece) → laid ps ≡ header ps ++ (contents (front ps) ps ++ body_bytes ps)
unfolding laid
laid-parts ps = refl

pub contents-length : (start : ℕ) (ps : List Piece) → length (contents start ps) ≡ 8 * length ps
unfolding contents
contents-length start [] = refl
contents-length start (p ∷ ps) = omega (arith, contents-length (start + length p.body) ps)

pub laid-length : (ps : List Piece) → length (laid ps) ≡ laid_length ps
unfolding laid
laid-length ps = omega (arith, length-append (contents (front ps) ps) (body_bytes ps), contents-length (front ps) ps)
