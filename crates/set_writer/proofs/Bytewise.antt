-- Pieces of bytes make a set of bytes. No axiom.
use Rattle.octets.proofs.Vocabulary.{◌≡◌, refl, ℕ, zero, suc, ◌+◌, ◌/◌, ◌%◌, ◌<◌, List, [], ◌∷◌, ◌++◌, List-as-Memᴰ, List·Memᴰ·head, List·Memᴰ·tail, List·Memᴰ·cases-cons, List·Memᴰ·not-nil, ⊎_elim, length, take, drop, length-append, get_or-drop, arith}
use Rattle.octets.specs.Octets.{word, Bytes}
use Rattle.set_writer.specs.Writer.{piece_of, pieces_after, pieces, entry_bytes, contents, body_bytes, front, header, laid_length, laid}
use Rattle.sets.specs.Pieces.{Piece}

-- ---- lists of bytes
no_bytes : Bytes []
no_bytes i = omega arith

one_byte : (x : ℕ) (l : List ℕ) → x < 256 → Bytes l → Bytes (x ∷ l)
one_byte x l h b zero = h
one_byte x l h b (suc i) = b i

append-bytes : (a b : List ℕ) → Bytes a → Bytes b → Bytes (a ++ b)
append-bytes [] b p q = q
append-bytes (x ∷ a) b p q = one_byte x (a ++ b) (p 0) (append-bytes a b (λ i. p (suc i)) q)

take-bytes : (n : ℕ) (l : List ℕ) → Bytes l → Bytes (take n l)
take-bytes zero l p = no_bytes
take-bytes (suc n) [] p = no_bytes
take-bytes (suc n) (x ∷ l) p = one_byte x (take n l) (p 0) (take-bytes n l (λ i. p (suc i)))

pub drop-bytes : (n : ℕ) (l : List ℕ) → Bytes l → Bytes (drop n l)
drop-bytes n l p i = rw (get_or-drop n l i 0) (p (n + i))

-- ---- pieces of bytes
pub record Small (p : Piece) : Type 0 where
  pub kind : p.kind < 256
  pub index : p.index < 256
  pub language : p.language < 65536
  pub body : Bytes p.body

small-piece : (bytes : List ℕ) → Bytes bytes → Small (piece_of bytes)
small-piece bytes b = record {
  kind = b 0;
  index = b 1;
  language = omega (arith, b 2, b 3);
  body = take-bytes (word bytes 4) (drop 6 bytes) (drop-bytes 6 bytes b);
}

small-after : (bs : List ℕ) (k : ℕ) → Bytes bs → (p : Piece) → List-as-Memᴰ p (pieces_after k bs) → Small p
unfolding pieces_after
small-after [] k b p m = absurd (List·Memᴰ·not-nil m)
small-after (x ∷ bs) zero b p m =
    ⊎_elim (λ e. rw e (small-piece (x ∷ bs) b)) (λ n. small-after bs (5 + word (x ∷ bs) 4) (λ i. b (suc i)) p n) (List·Memᴰ·cases-cons m)
small-after (x ∷ bs) (suc k) b p m = small-after bs k (λ i. b (suc i)) p m

pub small-pieces : (stream : List ℕ) → Bytes stream → (p : Piece) → List-as-Memᴰ p (pieces stream) → Small p
small-pieces stream = small-after stream 0

-- ---- the set that they make
two-small : (x : ℕ) (l : List ℕ) → x < 65536 → Bytes l → Bytes (x % 256 ∷ x / 256 ∷ l)
two-small x l h b = one_byte (x % 256) (x / 256 ∷ l) (omega arith) (one_byte (x / 256) l (omega arith) b)

entry-bytes : (p : Piece) (offset : ℕ) → Small p → offset < 65536 → length p.body < 65536 → Bytes (entry_bytes p offset)
entry-bytes p offset s h l =
    let size = length p.body in
    let sized = two-small size [] l no_bytes in
    let placed = two-small offset (size % 256 ∷ size / 256 ∷ []) h sized in
    let spoken = two-small p.language (offset % 256 ∷ offset / 256 ∷ size % 256 ∷ size / 256 ∷ []) s.language placed in
    one_byte p.kind (drop 1 (entry_bytes p offset)) s.kind (one_byte p.index (drop 2 (entry_bytes p offset)) s.index spoken)

module _ (ps : List Piece) where
  abbrev AllSmall : Type 0
  AllSmall = (p : Piece) → List-as-Memᴰ p ps → Small p

bodies-bytes : (ps : List Piece) → AllSmall ps → Bytes (body_bytes ps)
unfolding body_bytes
bodies-bytes [] s = no_bytes
bodies-bytes (p ∷ ps) s = append-bytes p.body (body_bytes ps) (s p (List·Memᴰ·head refl)).body (bodies-bytes ps (λ q m. s q (List·Memᴰ·tail m)))

bodies-more : (p : Piece) (ps : List Piece) → length (body_bytes (p ∷ ps)) ≡ length p.body + length (body_bytes ps)
unfolding body_bytes
bodies-more p ps = length-append p.body (body_bytes ps)

contents-bytes : (start : ℕ) (ps : List Piece) → AllSmall ps → start + length (body_bytes ps) < 65536 → Bytes (contents start ps)
unfolding contents
contents-bytes start [] s h = no_bytes
contents-bytes start (p ∷ ps) s h =
    let l = bodies-more p ps in
    append-bytes (entry_bytes p start) (contents (start + length p.body) ps) (entry-bytes p start (s p (List·Memᴰ·head refl)) (omega (arith, l)) (omega (arith, l)))
    (contents-bytes (start + length p.body) ps (λ q m. s q (List·Memᴰ·tail m)) (omega (arith, l)))

pub laid-bytes : (ps : List Piece) → AllSmall ps → laid_length ps < 65536 → length ps < 256 → Bytes (laid ps)
unfolding laid
laid-bytes ps s h l =
    let top = two-small (laid_length ps) (length ps ∷ 0 ∷ []) h (one_byte (length ps) (0 ∷ []) l (one_byte 0 [] (omega arith) no_bytes)) in
    let rest = append-bytes (contents (front ps) ps) (body_bytes ps) (contents-bytes (front ps) ps s h) (bodies-bytes ps s) in
    append-bytes (header ps) (contents (front ps) ps ++ body_bytes ps) top rest
