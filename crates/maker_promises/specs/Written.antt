-- Document 02, L1, sentence by sentence: what is promised of a set that the writer wrote. A stream is any list of numbers, for any row of limits;
-- only where it is said must one be bytes.
use Rattle.std.specs.Prelude.{ℕ, ◌≤◌, ◌≡◌, refl, Bool, true, not, take, drop}
use Rattle.std.proofs.Common.{arith, ◌∙◌}
use Rattle.std.proofs.Math.Path.{sym, ap}
use Rattle.std.proofs.Math.Option.{some}
use mathlib.Core.List.{List, [], ◌∷◌, Memᴰ}
use Rattle.std.proofs.Math.ListN.{length, length-map}
use Rattle.std.proofs.Math.Dec.{eqb, leb}
use borrow.Author.Tests.{leb-true, le-ltb}
use Rattle.octets.specs.Octets.{byte, Bytes}
use Rattle.octets.specs.Sentences.{pick, first}
use Rattle.octets.proofs.Sentences.{cases, conjunct}
use Rattle.descriptors.specs.declared.limits.Limits.{Limits}
use Rattle.sets.specs.declared.Entry.{Entry}
use Rattle.sets.specs.Contents.{entries, body_of, total, count, bodies_at, good_frame}
use Rattle.sets.specs.Found.{is_at}
use Rattle.set_writer.specs.Writer.{ends, pieces, precedes, sorted, laid, set_of, opens_as, writing, Filled}
use Rattle.set_writer.specs.Stream.{stream_of}
use Rattle.sets.specs.Pieces.{Piece, piece_for, pieces_in}
use Rattle.set_writer.specs.Shuffled.{Shuffled}
use Rattle.set_writer.proofs.Ascending.{Ascends}
use Rattle.set_writer.proofs.Bytewise.{small-pieces, laid-bytes}
use Rattle.set_writer.proofs.Canonical.{canonical, entries-length}
use Rattle.set_writer.proofs.Laid.{laid-length}
use Rattle.set_writer.proofs.Order.{shuffled, sorted-is}
use Rattle.set_writer.proofs.ReadBack.{read_back}
use Rattle.set_writer.proofs.Shuffled.{itself, back, among}
use Rattle.set_writer.proofs.Sizes.{sorted-length}
use Rattle.set_writer.proofs.Stream.{stream-read, stream-whole}
use Rattle.set_writer.proofs.Filling as filling
use Rattle.set_writer.proofs.Accepted.{mapped, mapping, zero-opens, framed, ascends, entries-ascend, looked-up, same-sorted, answer-accepted, answer-refused}

-- ---- "What it writes, with the serial block given, the opener accepts"
pub opens : (limits : Limits) (stream serial : List ℕ) (room : ℕ) → writing limits stream serial room ≡ 0 → opens_as limits (set_of stream) serial ≡ true
opens = zero-opens

-- ---- "Bytes past the set stay as they were"; "the buffer is then untouched"
module _ {text buffer after : List ℕ} {asked n : ℕ} (w : Filled text buffer after asked n) where
  pub untouched : (n ≡ 0 → ⊥) → after ≡ buffer
  untouched = filling.untouched w

  pub there : n ≡ 0 → take (length text) after ≡ text
  there = filling.there w

  pub behind : n ≡ 0 → drop (length text) after ≡ drop (length text) buffer
  behind = filling.behind w

-- ---- "every piece is found again unchanged": it is an entry of the set with its body; and every entry is some piece
pub found : (stream : List ℕ) (p : Piece) → Memᴰ p (pieces stream) → (e : Entry) × Memᴰ e (entries (set_of stream)) × (p ≡ piece_for (set_of stream) e)
found stream p m = mapped (piece_for (set_of stream)) (entries (set_of stream)) (rw (read_back (sorted (pieces stream))) (among (back (shuffled (pieces stream))) m))

pub nothing_else : (stream : List ℕ) (e : Entry) → Memᴰ e (entries (set_of stream)) → Memᴰ (piece_for (set_of stream) e) (pieces stream)
nothing_else stream e m = among (shuffled (pieces stream)) (rw (read_back (sorted (pieces stream))) at (mapping (piece_for (set_of stream)) m))

-- "under its type, index and language": looking these up gives an entry, and its body is the piece's
pub record Under (set : List ℕ) (p : Piece) (e : Entry) : Type 0 where
  pub lookup : first (is_at p.kind p.index p.language) (entries set) ≡ some e
  pub body : body_of set e ≡ p.body

under : (set : List ℕ) → Ascends precedes (pieces_in set) → (e : Entry) → Memᴰ e (entries set) → (p : Piece) → p ≡ piece_for set e → Under set p e
under set a e m p q = rw q (record { lookup = looked-up set e (entries set) (entries-ascend set (entries set) a) m; body = refl })

pub found_under : (limits : Limits) (stream serial : List ℕ) (room : ℕ) → writing limits stream serial room ≡ 0 → (p : Piece) → Memᴰ p (pieces stream) → (e : Entry) × Under (set_of stream) p e
found_under limits stream serial room w p m =
    let (e, n, q) = found stream p m in
    let up = ascends limits (sorted (pieces stream)) serial (opens limits stream serial room w) in
    (e, under (set_of stream) (rw (read_back (sorted (pieces stream))) up) e n p q)

-- ---- "pieces end to end in any order": two streams with the same pieces, both whole or both broken, get the same number, whatever it is, and
-- the same set where that is 0
pub same_answer : (limits : Limits) (s t : List ℕ) → Shuffled (pieces s) (pieces t) → ends s ≡ ends t → (serial : List ℕ) (room : ℕ) → writing limits s serial room ≡ writing limits t serial room
same_answer limits s t r e serial room =
    cases (opens_as limits (set_of s) serial) (λ p. answer-accepted limits s t r serial p room e)
    (λ p. cases (opens_as limits (set_of t) serial) (λ q. sym (answer-accepted limits t s (back r) serial q room (sym e)))
    (λ q. answer-refused limits s serial room p ∙ ap (λ (b : Bool). pick (not b) 20 21) e ∙ sym (answer-refused limits t serial room q)))

pub same_bytes : (limits : Limits) (s t : List ℕ) → Shuffled (pieces s) (pieces t) → (serial : List ℕ) (room : ℕ) → writing limits s serial room ≡ 0 → set_of s ≡ set_of t
same_bytes limits s t r serial room w = ap laid (same-sorted limits s t r serial (opens limits s serial room w))

-- ---- every acceptable set can be written: its own pieces, in any order, are answered 0 if the buffer holds the set, and give it back byte for byte
module _ (limits : Limits) (set serial : List ℕ) (bytes : Bytes set) (ok : opens_as limits set serial ≡ true) where
  its_own : laid (pieces_in set) ≡ set
  its_own = let (f, g) = framed limits set serial ok in canonical limits set bytes f g

  module _ (stream : List ℕ) (r : Shuffled (pieces stream) (pieces_in set)) where
    in_order : sorted (pieces stream) ≡ pieces_in set
    in_order = sorted-is (pieces stream) (pieces_in set) r (ascends limits (pieces_in set) serial (ap (λ (l : List ℕ). opens_as limits l serial) its_own ∙ ok))

    pub written_again : set_of stream ≡ set
    written_again = ap laid in_order ∙ its_own

    pub answers_zero : ends stream ≡ true → (room : ℕ) → length set ≤ room → writing limits stream serial room ≡ 0
    unfolding good_frame
    answers_zero e room h =
        let frame = leb 4 (length set) ∷ leb (length set) 16384 ∷ eqb (total set) (length set) ∷ leb 1 (count set) ∷ leb (count set) 64 ∷ eqb (byte set 3) 0 ∷ leb (bodies_at set) (total set) ∷ [] in
        let f = (framed limits set serial ok).0 in
        let small = leb-true (length set) 16384 (conjunct 1 frame f) in
        let few = leb-true (count set) 64 (conjunct 4 frame f) in
        let n : length (pieces stream) ≡ count set =
        sym (sorted-length (pieces stream)) ∙ ap length in_order ∙ length-map (entries set) (piece_for set) ∙ entries-length (count set) (drop 4 set) in
        rw (e, n, written_again, le-ltb 64 (count set) few, le-ltb 16384 (length set) small, ok, le-ltb room (length set) h)

  -- so there is a stream that writes it: its pieces end to end
  pub complete : (set_of (stream_of (pieces_in set)) ≡ set) × ((room : ℕ) → length set ≤ room → writing limits (stream_of (pieces_in set)) serial room ≡ 0)
  complete =
      let r : Shuffled (pieces (stream_of (pieces_in set))) (pieces_in set) = rw (stream-read (pieces_in set)) (itself (pieces_in set)) in
      (written_again (stream_of (pieces_in set)) r, answers_zero (stream_of (pieces_in set)) r (stream-whole (pieces_in set)))

-- ---- "Demands 2 and 3 read the written set like any other": it is bytes if the stream is, and it is accepted (`opens`); they ask no more of a set
pub written_bytes : (limits : Limits) (stream serial : List ℕ) (room : ℕ) → Bytes stream → writing limits stream serial room ≡ 0 → Bytes (set_of stream)
unfolding good_frame
written_bytes limits stream serial room b w =
    let ps = sorted (pieces stream) in
    let set = set_of stream in
    let frame = leb 4 (length set) ∷ leb (length set) 16384 ∷ eqb (total set) (length set) ∷ leb 1 (count set) ∷ leb (count set) 64 ∷ eqb (byte set 3) 0 ∷ leb (bodies_at set) (total set) ∷ [] in
    let f = (framed limits set serial (opens limits stream serial room w)).0 in
    let small = leb-true (length set) 16384 (conjunct 1 frame f) in
    let few = leb-true (count set) 64 (conjunct 4 frame f) in
    let n : length ps ≡ count set = sym (ap length (read_back ps)) ∙ length-map (entries set) (piece_for set) ∙ entries-length (count set) (drop 4 set) in
    laid-bytes ps (λ p m. small-pieces stream b p (among (shuffled (pieces stream)) m)) (omega (arith, laid-length ps, small)) (omega (arith, n, few))
