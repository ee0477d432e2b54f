-- The trimmed set reads back, keeps what is named, and is trimmed already. Assumes nothing: not even that the set opens.
use Rattle.octets.proofs.Vocabulary.{◌≡◌, refl, sym, ap, ◌∙◌, ℕ, ◌-◌, List, [], ◌∷◌, map, append-nil, List-as-Memᴰ, Bool, true, false, ◌&&◌, or-true, Option, some, none, length, take, drop, replicate, eqb, leb, take-append_seam, drop-append_seam, arith, sub_self, eqb-true, eq-eqb, ne_eqb, leb-true}
use Rattle.octets.specs.Sentences.{pick, any, only, first, member}
use Rattle.octets.proofs.Sentences.{cases, never, both, any-map, any-alike, only-alike, only-member, member-only, none_first}
use Rattle.descriptors.specs.declared.limits.Limits.{Limits}
use Rattle.sets.specs.declared.Entry.{Entry}
use Rattle.sets.specs.Contents.{entries}
use Rattle.sets.specs.Found.{is_at}
use Rattle.sets.specs.Pieces.{Piece, piece_for, pieces_in, kind_of}
use Rattle.sets.proofs.Pieces.{map-only}
use Rattle.set_writer.specs.Writer.{laid}
use Rattle.set_writer.proofs.ReadBack.{read_back}
use Rattle.trimming.specs.Trim.{referenced, referenced_string, zero_stays, kept_pieces, trimmed, zero_filled, Trims}
use Rattle.trimming.specs.Asked.{body_in, body_under, left}
use Rattle.set_writer.proofs.InPieces.{only-only, any-only, first-only, Alike, same-device, same_references}

-- ---- in pieces
abbrev pub kept_piece : List ℕ → Piece → Bool
kept_piece set p = left set p.kind p.index

abbrev pub string_named : List ℕ → Piece → Bool
string_named set p = kind_of 3 p && leb 1 p.index && referenced set p.index

module _ (set : List ℕ) where
  pub kept_pieces_lem : kept_pieces set ≡ only (kept_piece set) (pieces_in set)
  kept_pieces_lem = map-only (piece_for set) (kept_piece set) (entries set)

  -- "every kept piece is found again with its body", and nothing else
  pub reads-back : pieces_in (trimmed set) ≡ only (kept_piece set) (pieces_in set)
  reads-back = read_back (kept_pieces set) ∙ kept_pieces_lem

  pub stays : (p : Piece) → List-as-Memᴰ p (pieces_in set) → kept_piece set p ≡ true → List-as-Memᴰ p (pieces_in (trimmed set))
  stays p m k = rw reads-back (member-only (kept_piece set) m k)

  pub was-there : (p : Piece) → List-as-Memᴰ p (pieces_in (trimmed set)) → List-as-Memᴰ p (pieces_in set) × (kept_piece set p ≡ true)
  was-there p m = only-member (kept_piece set) (pieces_in set) (rw reads-back at m)

  -- nothing but strings is dropped, and no string that a reference names
  pub not-string : (t : ℕ) → eqb t 3 ≡ false → (p : Piece) → kind_of t p ≡ true → kept_piece set p ≡ true
  not-string t h p k = rw (eqb-true p.kind t k, h)

  named-kept : (p : Piece) → string_named set p ≡ true → kept_piece set p ≡ true
  named-kept p h =
      let (a, n) = both (kind_of 3 p && leb 1 p.index) (referenced set p.index) h in
      let i = leb-true 1 p.index (both (kind_of 3 p) (leb 1 p.index) a).1 in
      rw (ne_eqb p.index 0 (λ e. omega arith), n, or-true)

  pub nothing-named-dropped : (p : Piece) → List-as-Memᴰ p (pieces_in set) → string_named set p ≡ true → List-as-Memᴰ p (pieces_in (trimmed set))
  nothing-named-dropped p m h = stays p m (named-kept p h)

  pub alike : Alike (trimmed set) set
  alike = record {
    device = ap (only (kind_of 1)) reads-back ∙ only-only (kind_of 1) (kept_piece set) (not-string 1 refl) (pieces_in set);
    configurations = ap (only (kind_of 2)) reads-back ∙ only-only (kind_of 2) (kept_piece set) (not-string 2 refl) (pieces_in set);
    store = ap (only (kind_of 15)) reads-back ∙ only-only (kind_of 15) (kept_piece set) (not-string 15 refl) (pieces_in set);
  }

  -- ---- trimming again
  named_again : (j : ℕ) → referenced (trimmed set) j ≡ referenced set j
  named_again j = ap (member j) (same_references alike)

  pub zero-pieces : any (referenced_string set) (entries set) ≡ any (string_named set) (pieces_in set)
  zero-pieces = sym (any-map (string_named set) (piece_for set) (entries set))

named-still : (set : List ℕ) → any (referenced_string (trimmed set)) (entries (trimmed set)) ≡ any (referenced_string set) (entries set)
named-still set =
    zero-pieces (trimmed set)
    ∙ any-alike (string_named (trimmed set)) (string_named set) (pieces_in (trimmed set)) (λ p m. ap (λ (b : Bool). kind_of 3 p && leb 1 p.index && b) (named_again set p.index))
    ∙ ap (any (string_named set)) (reads-back set)
    ∙ any-only (string_named set) (kept_piece set) (named-kept set) (pieces_in set)
    ∙ sym (zero-pieces set)

zero-again : (set : List ℕ) → zero_stays (trimmed set) ≡ zero_stays set
zero-again set = rw (named-still set, same-device (alike set))

left-again : (set : List ℕ) (kind index : ℕ) → left (trimmed set) kind index ≡ left set kind index
left-again set kind index = rw (zero-again set, named_again set index)

-- "trimming those again changes nothing"
pub trimmed-again : (set : List ℕ) → trimmed (trimmed set) ≡ trimmed set
trimmed-again set =
    ap laid
    (kept_pieces_lem (trimmed set)
    ∙ only-alike (kept_piece (trimmed set)) (kept_piece set) (pieces_in (trimmed set)) (λ p m. left-again set p.kind p.index)
    ∙ ap (only (kept_piece set)) (reads-back set)
    ∙ only-only (kept_piece set) (kept_piece set) (λ p k. k) (pieces_in set)
    ∙ sym (kept_pieces_lem set))

padded-whole : (bytes : List ℕ) → zero_filled bytes (length bytes) ≡ bytes
padded-whole bytes = rw (sub_self (length bytes)) (append-nil bytes)

pub unchanged : (limits : Limits) (set serial : List ℕ) {after : List ℕ} {n : ℕ} → Trims limits (trimmed set) serial after n → after ≡ trimmed set
unchanged limits set serial {n = n} t = t.bytes ∙ go (eqb n 0)
  where
    go : (b : Bool) → pick b (zero_filled (trimmed (trimmed set)) (length (trimmed set))) (trimmed set) ≡ trimmed set
    go true = ap (λ (l : List ℕ). zero_filled l (length (trimmed set))) (trimmed-again set) ∙ padded-whole (trimmed set)
    go false = refl

-- ---- the buffer: "That set is the buffer's first total bytes", "the freed bytes at the end become zero", "A refused set is left unchanged"
module _ {limits : Limits} {set serial after : List ℕ} {n : ℕ} (t : Trims limits set serial after n) where
  pub untouched : (n ≡ 0 → ⊥) → after ≡ set
  untouched h = t.bytes ∙ rw (ne_eqb n 0 h)

  pub there : n ≡ 0 → take (length (trimmed set)) after ≡ trimmed set
  there h = rw (t.bytes, eq-eqb n 0 h) (take-append_seam (trimmed set) _)

  pub zeros-behind : n ≡ 0 → drop (length (trimmed set)) after ≡ replicate (length set - length (trimmed set)) 0
  zeros-behind h = rw (t.bytes, eq-eqb n 0 h) (drop-append_seam (trimmed set) _)

-- ---- "every request other than for a dropped string gets the same bytes"
abbrev piece_at : ℕ → ℕ → ℕ → Piece → Bool
piece_at kind index language p = eqb p.kind kind && eqb p.index index && eqb p.language language

abbrev body_of_piece : Option Piece → Option (List ℕ)
body_of_piece none = none
body_of_piece (some p) = some p.body

module _ (kind index language : ℕ) where
  under-pieces : (set : List ℕ) (es : List Entry) → body_in set (first (is_at kind index language) es) ≡ body_of_piece (first (piece_at kind index language) (map (piece_for set) es))
  unfolding first
  under-pieces set [] = refl
  under-pieces set (e ∷ es) = go (is_at kind index language e) (under-pieces set es)
    where
      go : (b : Bool) → body_in set (first (is_at kind index language) es) ≡ body_of_piece (first (piece_at kind index language) (map (piece_for set) es))
          → body_in set (pick b (some e) (first (is_at kind index language) es)) ≡ body_of_piece (pick b (some (piece_for set e)) (first (piece_at kind index language) (map (piece_for set) es)))
      go true h = refl
      go false h = h

  as-left : (set : List ℕ) (p : Piece) → piece_at kind index language p ≡ true → kept_piece set p ≡ left set kind index
  as-left set p h =
      let (a, l) = both (eqb p.kind kind && eqb p.index index) (eqb p.language language) h in
      let (k, i) = both (eqb p.kind kind) (eqb p.index index) a in
      rw (eqb-true p.kind kind k, eqb-true p.index index i)

  pub same_bytes : (set : List ℕ) → left set kind index ≡ true → body_under (trimmed set) kind index language ≡ body_under set kind index language
  same_bytes set h =
      under-pieces (trimmed set) (entries (trimmed set))
      ∙ ap body_of_piece (ap (first (piece_at kind index language)) (reads-back set) ∙ first-only (piece_at kind index language) (kept_piece set) (λ p q. as-left set p q ∙ h) (pieces_in set))
      ∙ sym (under-pieces set (entries set))

  pub gone : (set : List ℕ) → left set kind index ≡ false → body_under (trimmed set) kind index language ≡ none
  gone set h =
      under-pieces (trimmed set) (entries (trimmed set))
      ∙ ap body_of_piece
      (none_first (piece_at kind index language) (pieces_in (trimmed set))
      (λ p m. cases (piece_at kind index language p) (λ q. never (was-there set p m).1 (as-left set p q ∙ h)) (λ q. q)))
