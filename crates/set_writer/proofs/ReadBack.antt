-- What is laid out reads back: the entries of the set, with the bodies that they name, are the pieces. No axiom.
use Rattle.octets.proofs.Vocabulary.{◌≡◌, refl, ℕ, ◌+◌, List, [], ◌∷◌, ◌++◌, map, append_assoc, length, length-append, drop-append_seam, take-append_seam, arith}
use Rattle.sets.specs.declared.Entry.{Entry}
use Rattle.sets.specs.Contents.{entry_of, entries_from}
use Rattle.sets.specs.Pieces.{Piece, piece_for, pieces_in}
use Rattle.set_writer.specs.Writer.{entry_bytes, contents, body_bytes, front, header, laid, entry_for}
use Rattle.set_writer.proofs.Stream.{two_bytes}
use Rattle.set_writer.proofs.Laid.{contents-length}

-- the entries that are written
abbrev pub entries_for : ℕ → List Piece → List Entry
entries_for start [] = []
entries_for start (p ∷ ps) = entry_for p start ∷ entries_for (start + length p.body) ps

entry_read : (p : Piece) (offset : ℕ) (rest : List ℕ) → entry_of (entry_bytes p offset ++ rest) ≡ entry_for p offset
entry_read p offset rest = rw (two_bytes p.language, two_bytes offset, two_bytes (length p.body))

pub entries-read : (start : ℕ) (ps : List Piece) (rest : List ℕ) → entries_from (length ps) (contents start ps ++ rest) ≡ entries_for start ps
unfolding entries_from contents
entries-read start [] rest = refl
entries-read start (p ∷ ps) rest =
    rw (entry_read p start (contents (start + length p.body) ps ++ rest), entries-read (start + length p.body) ps rest)

-- the bodies that they name, behind what is before them
bodies-read : (ahead : List ℕ) (ps : List Piece) → map (piece_for (ahead ++ body_bytes ps)) (entries_for (length ahead) ps) ≡ ps
unfolding body_bytes
bodies-read ahead [] = refl
bodies-read ahead (p ∷ ps) =
    let later = rw (append_assoc ahead p.body (body_bytes ps), length-append ahead p.body) at (bodies-read (ahead ++ p.body) ps) in
    rw (drop-append_seam ahead (p.body ++ body_bytes ps), take-append_seam p.body (body_bytes ps), later)

pub read_back : (ps : List Piece) → pieces_in (laid ps) ≡ ps
unfolding laid
read_back ps =
    let ahead = header ps ++ contents (front ps) ps in
    let l : length ahead ≡ front ps = omega (arith, length-append (header ps) (contents (front ps) ps), contents-length (front ps) ps) in
    let e = rw (l, append_assoc (header ps) (contents (front ps) ps) (body_bytes ps)) at (bodies-read ahead ps) in
    rw (entries-read (front ps) ps (body_bytes ps)) e
