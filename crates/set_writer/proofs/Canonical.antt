-- A set that passes groups 1 and 2 is its own pieces, laid out. Assumes that it is bytes.
use Rattle.octets.proofs.Vocabulary.{◌≡◌, refl, sym, ap, ◌∙◌, ℕ, zero, suc, ◌+◌, ◌*◌, ◌/◌, ◌%◌, ◌≤◌, ◌<◌, List, [], ◌∷◌, ◌++◌, map, true, length, take, drop, length-drop, length-map, take-append-drop, drop_of_length-le, eqb, leb, drop-drop, take-add, length-take-le, arith, eqb-true, leb-true}
use Rattle.octets.specs.Octets.{byte, Bytes}
use Rattle.octets.specs.Sentences.{every, neighbours}
use Rattle.octets.proofs.Sentences.{both, conjunct}
use Rattle.descriptors.specs.declared.limits.Limits.{Limits}
use Rattle.descriptors.specs.Limits.{named}
use Rattle.sets.specs.declared.Entry.{Entry}
use Rattle.sets.specs.Contents.{entry_of, entries_from, entries, body_of, before, total, count, bodies_at, end_to_end, good_frame, good_contents}
use Rattle.set_writer.specs.Writer as pieces
use Rattle.set_writer.specs.Writer.{entry_bytes, contents, body_bytes, front, header, laid}
use Rattle.set_writer.proofs.Laid.{laid-parts}
use Rattle.set_writer.proofs.Bytewise.{drop-bytes}
use Rattle.sets.specs.Pieces.{piece_for, pieces_in}

low : (a b : ℕ) → a < 256 → (a + 256 * b) % 256 ≡ a
low a b h = omega arith

high : (a b : ℕ) → a < 256 → (a + 256 * b) / 256 ≡ b
high a b h = omega arith

-- the first bytes, one by one
first-four : (l : List ℕ) → 4 ≤ length l → byte l 0 ∷ byte l 1 ∷ byte l 2 ∷ byte l 3 ∷ [] ≡ take 4 l
first-four [] h = absurd (omega arith)
first-four (a ∷ []) h = absurd (omega arith)
first-four (a ∷ b ∷ []) h = absurd (omega arith)
first-four (a ∷ b ∷ c ∷ []) h = absurd (omega arith)
first-four (a ∷ b ∷ c ∷ d ∷ l) h = refl

first-eight : (l : List ℕ) → 8 ≤ length l → byte l 0 ∷ byte l 1 ∷ byte l 2 ∷ byte l 3 ∷ byte l 4 ∷ byte l 5 ∷ byte l 6 ∷ byte l 7 ∷ [] ≡ take 8 l
first-eight [] h = absurd (omega arith)
first-eight (a ∷ []) h = absurd (omega arith)
first-eight (a ∷ b ∷ []) h = absurd (omega arith)
first-eight (a ∷ b ∷ c ∷ []) h = absurd (omega arith)
first-eight (a ∷ b ∷ c ∷ d ∷ l) h = ap (λ (r : List ℕ). a ∷ b ∷ c ∷ d ∷ r) (first-four l (omega arith))

-- ---- bodies, end to end
up : (start end : ℕ) (es : List Entry) → end_to_end start end es ≡ true → start ≤ end
unfolding end_to_end
up start end [] p = omega (arith, eqb-true start end p)
up start end (e ∷ es) p = omega (arith, up (start + e.length) end es (both (eqb e.offset start) (end_to_end (start + e.length) end es) p).1)

bodies-again : (set : List ℕ) (start : ℕ) (es : List Entry) → end_to_end start (length set) es ≡ true → body_bytes (map (piece_for set) es) ≡ drop start set
unfolding end_to_end body_bytes
bodies-again set start [] p = let h : length set ≤ start = omega (arith, eqb-true start (length set) p) in sym (drop_of_length-le set h)
bodies-again set start (e ∷ es) p =
    let (o, q) = both (eqb e.offset start) (end_to_end (start + e.length) (length set) es) p in
    rw (bodies-again set (start + e.length) es q, eqb-true e.offset start o, ← drop-drop e.length start set) (take-append-drop e.length (drop start set))

-- ---- contents
body-size : (set : List ℕ) (e : Entry) (start : ℕ) → e.offset ≡ start → start + e.length ≤ length set → length (body_of set e) ≡ e.length
body-size set e start o h = length-take-le e.length (drop e.offset set) (rw length-drop (omega arith))

entry-again : (set bytes : List ℕ) (start : ℕ) → Bytes bytes → 8 ≤ length bytes → (entry_of bytes).offset ≡ start → length (body_of set (entry_of bytes)) ≡ (entry_of bytes).length
    → entry_bytes (piece_for set (entry_of bytes)) start ≡ take 8 bytes
entry-again set bytes start small h o l =
    rw (
      l,
      ← o,
      low (byte bytes 2) (byte bytes 3) (small 2),
      high (byte bytes 2) (byte bytes 3) (small 2),
      low (byte bytes 4) (byte bytes 5) (small 4),
      high (byte bytes 4) (byte bytes 5) (small 4),
      low (byte bytes 6) (byte bytes 7) (small 6),
      high (byte bytes 6) (byte bytes 7) (small 6),
    ) (first-eight bytes h)

contents-again : (set : List ℕ) (n start : ℕ) (bytes : List ℕ) → Bytes bytes → 8 * n ≤ length bytes → end_to_end start (length set) (entries_from n bytes) ≡ true
    → contents start (map (piece_for set) (entries_from n bytes)) ≡ take (8 * n) bytes
unfolding end_to_end entries_from contents
contents-again set zero start bytes small h p = refl
contents-again set (suc n) start bytes small h p =
    let e = entry_of bytes in
    let es = entries_from n (drop 8 bytes) in
    let (o, q) = both (eqb e.offset start) (end_to_end (start + e.length) (length set) es) p in
    let l = body-size set e start (eqb-true e.offset start o) (up (start + e.length) (length set) es q) in
    let later = contents-again set n (start + e.length) (drop 8 bytes) (drop-bytes 8 bytes small) (rw length-drop (omega arith)) q in
    let here = entry-again set bytes start small (omega arith) (eqb-true e.offset start o) l in
    let k : 8 * suc n ≡ 8 + 8 * n = omega arith in
    rw (k, take-add 8 (8 * n) bytes, ← here, ← later, l)

pub entries-length : (n : ℕ) (bytes : List ℕ) → length (entries_from n bytes) ≡ n
unfolding entries_from
entries-length zero bytes = refl
entries-length (suc n) bytes = ap suc (entries-length n (drop 8 bytes))

-- ---- the whole
three-parts : {a b c x y z : List ℕ} → a ≡ x → b ≡ y → c ≡ z → a ++ (b ++ c) ≡ x ++ (y ++ z)
three-parts p q r = rw (p, q, r)

pub canonical : (limits : Limits) (set : List ℕ) → Bytes set → good_frame set ≡ true → good_contents limits set ≡ true → laid (pieces_in set) ≡ set
unfolding good_frame good_contents
canonical limits set small f g =
    let frame = leb 4 (length set) ∷ leb (length set) 16384 ∷ eqb (total set) (length set) ∷ leb 1 (count set) ∷ leb (count set) 64 ∷ eqb (byte set 3) 0 ∷ leb (bodies_at set) (total set) ∷ [] in
    let rules = every (λ e. named limits.entries e.kind) (entries set) ∷ neighbours before (entries set) ∷ every (λ e. leb 2 e.length) (entries set) ∷ end_to_end (bodies_at set) (total set) (entries set) ∷ [] in
    let four = leb-true 4 (length set) (conjunct 0 frame f) in
    let all = eqb-true (total set) (length set) (conjunct 2 frame f) in
    let three = eqb-true (byte set 3) 0 (conjunct 5 frame f) in
    let fits = leb-true (bodies_at set) (total set) (conjunct 6 frame f) in
    let laid_out = rw all at (conjunct 3 rules g) in
    let n : length (pieces_in set) ≡ count set = length-map (entries set) (piece_for set) ∙ entries-length (count set) (drop 4 set) in
    let b = bodies-again set (bodies_at set) (entries set) laid_out in
    let inside : 8 * count set ≤ length (drop 4 set) = rw length-drop (omega arith) in
    let c = contents-again set (count set) (bodies_at set) (drop 4 set) (drop-bytes 4 set small) inside laid_out in
    let t : pieces.laid_length (pieces_in set) ≡ total set = omega (arith, n, ap length b, length-drop (bodies_at set) set) in
    let h : header (pieces_in set) ≡ take 4 set = rw (t, n, low (byte set 0) (byte set 1) (small 0), high (byte set 0) (byte set 1) (small 0)) (rw three at (first-four set four)) in
    let d : drop (bodies_at set) set ≡ drop (8 * count set) (drop 4 set) = sym (drop-drop (8 * count set) 4 set) in
    let e : contents (front (pieces_in set)) (pieces_in set) ≡ take (8 * count set) (drop 4 set) = ap (λ (k : ℕ). contents (4 + 8 * k) (pieces_in set)) n ∙ c in
    laid-parts (pieces_in set) ∙ three-parts h e (b ∙ d) ∙ rw (take-append-drop (8 * count set) (drop 4 set)) (take-append-drop 4 set)
