-- "The trimmed set opens with the same serial block." No axiom.
use Rattle.octets.proofs.Vocabulary.{◌≡◌, refl, sym, ap, ◌∙◌, ℕ, ◌≤◌, List, [], ◌∷◌, List-as-Memᴰ, List·Memᴰ·head, List·Memᴰ·tail, Bool, true, false, ◌&&◌, ◌||◌, and_assoc, length, drop, length-map, leb, arith}
use Rattle.octets.specs.Sentences.{pick, every, any, only, neighbours, member}
use Rattle.octets.proofs.Sentences.{cases, never, joined, conjunct, any-alike, only-alike, only-member}
use Rattle.descriptors.specs.declared.limits.Limits.{Limits}
use Rattle.descriptors.specs.Limits as rows
use Rattle.sets.specs.Contents.{entries, count, good_frame, good_contents}
use Rattle.sets.specs.Device.{device_body, iSerialNumber}
use Rattle.sets.specs.Strings.{references, good_strings}
use Rattle.sets.specs.Opening.{lent, opening}
use Rattle.sets.proofs.Groups.{Groups, groups, all-six, one-device, GoodTexts, texts-in, texts-out}
use Rattle.octets.specs.Octets.{Bytes}
use Rattle.sets.specs.Pieces.{Piece, piece_for, pieces_in, kind_of, pieces_of, sole}
use Rattle.set_writer.specs.Writer.{precedes, laid_length, laid}
use Rattle.set_writer.proofs.Laid.{laid-length}
use Rattle.set_writer.proofs.Canonical.{canonical}
use Rattle.set_writer.proofs.Ascending.{neighbours-ascend}
use Rattle.set_writer.proofs.Precedes.{transitive}
use Rattle.trimming.specs.Trim.{zero_stays, trimmed}
use Rattle.trimming.proofs.Rebuilding.{framed, entries-length}
use Rattle.set_writer.proofs.InPieces.{only-only, same-devices, same-configurations, same_block}
use Rattle.maker_laws.proofs.TrimAgain.{kept_piece, string_named, kept_pieces_lem, reads-back, alike, zero-pieces, not-string}
use Rattle.set_writer.proofs.LaidOut.{laid-frame, laid-contents, ordered, every_some, some-length, some-neighbours, some-bodies}
use Rattle.maker_laws.proofs.TrimStrings.{needed, staying_piece, still-strings}

-- ---- lists
module _ {A : Type 0} (f g : A → Bool) where
  commute : (xs : List A) → only f (only g xs) ≡ only g (only f xs)
  unfolding only
  commute [] = refl
  commute (x ∷ xs) = cases (f x)
      (λ p. cases (g x) (λ q. rw (p, q, p) (ap (λ (l : List A). x ∷ l) (commute xs))) (λ q. rw (p, q) (commute xs)))
      (λ p. cases (g x) (λ q. rw (p, q, p) (commute xs)) (λ q. rw (p, q) (commute xs)))

  any-both : (xs : List A) → any f (only g xs) ≡ any (λ x. g x && f x) xs
  unfolding any only
  any-both [] = refl
  any-both (x ∷ xs) = go (g x) (any-both xs)
    where
      go : (b : Bool) → any f (only g xs) ≡ any (λ x. g x && f x) xs → any f (pick b (x ∷ only g xs) (only g xs)) ≡ ((b && f x) || any (λ x. g x && f x) xs)
      go true e = rw e
      go false e = e

a-device : (good : List ℕ → Bool) (ps : List Piece) → sole good ps ≡ true → 1 ≤ length ps
a-device good [] p = never p refl
a-device good (p ∷ ps) q = omega arith

module _ (limits : Limits) (set serial : List ℕ) (small : Bytes set) (p : opening limits (lent set serial) ≡ 0) where
  g : Groups limits (lent set serial)
  g = groups limits (lent set serial) p

  abbrev ps : List Piece
  ps = pieces_in set

  abbrev k : Piece → Bool
  k = kept_piece set

  whole : laid ps ≡ set
  whole = canonical limits set small g.frame g.contents

  is-laid : trimmed set ≡ laid (only k ps)
  is-laid = ap laid (kept_pieces_lem set)

  -- ---- group 1
  few : length ps ≤ 64
  few = omega (arith, length-map (entries set) (piece_for set), entries-length (count set) (drop 4 set), (framed set g.frame).few)

  fits : laid_length ps ≤ 16384
  fits = omega (arith, laid-length ps, ap length whole, (framed set g.frame).most)

  one : 1 ≤ length (only k ps)
  one =
      let d = a-device _ (pieces_of 1 ps) (one-device limits (lent set serial) g) in
      omega (arith, d, ap length (only-only (kind_of 1) k (not-string set 1 refl) ps), some-length (kind_of 1) (only k ps))

  frame : good_frame (trimmed set) ≡ true
  frame = rw is-laid (laid-frame (only k ps) one (omega (arith, few, some-length k ps)) (omega (arith, fits, some-length k ps, some-bodies k ps)))

  -- ---- group 2
  contents : good_contents limits (trimmed set) ≡ true
  contents =
      let o : ordered limits ps ≡ true = sym (laid-contents limits ps) ∙ ap (good_contents limits) whole ∙ g.contents in
      let rules = every (λ p. rows.named limits.entries p.kind) ps ∷ neighbours precedes ps ∷ every (λ p. leb 2 (length p.body)) ps ∷ [] in
      let up = neighbours-ascend precedes transitive ps (conjunct 1 rules o) in
      ap (good_contents limits) is-laid ∙ laid-contents limits (only k ps)
      ∙ joined (joined (every_some k _ ps (conjunct 0 rules o)) (some-neighbours k precedes ps up)) (every_some k _ ps (conjunct 2 rules o))

  -- ---- group 5
  abbrev refs : List ℕ
  refs = references set

  abbrev serial_index : ℕ
  serial_index = iSerialNumber (device_body set)

  serial-in : List-as-Memᴰ serial_index refs
  unfolding references
  serial-in = List·Memᴰ·tail (List·Memᴰ·tail (List·Memᴰ·head refl))

  abbrev ss : List Piece
  ss = only (kind_of 3) ps

  strings-before : GoodTexts refs serial_index ss
  unfolding good_strings references
  strings-before = texts-in refs serial_index ss g.strings

  abbrev j : Piece → Bool
  j = staying_piece refs serial_index serial-in ss strings-before

  same-need : zero_stays set ≡ needed refs serial_index serial-in ss strings-before
  same-need =
      ap (λ (b : Bool). b || leb 1 serial_index)
      (zero-pieces set
      ∙ any-alike (string_named set) (λ p. kind_of 3 p && (leb 1 p.index && member p.index refs)) ps (λ p m. and_assoc (kind_of 3 p) (leb 1 p.index) (member p.index refs))
      ∙ sym (any-both (λ p. leb 1 p.index && member p.index refs) (kind_of 3) ps))

  same-strings : only (kind_of 3) (pieces_in (trimmed set)) ≡ only j ss
  same-strings =
      ap (only (kind_of 3)) (reads-back set) ∙ commute (kind_of 3) k ps
      ∙ only-alike k j ss (λ p m. rw ((only-member (kind_of 3) ps m).1, same-need))

  strings : good_strings (pieces_in (trimmed set)) ≡ true
  unfolding good_strings references
  strings =
      let s = texts-out refs serial_index (only j ss) (still-strings refs serial_index serial-in ss strings-before) in
      rw ((alike set).device, (alike set).configurations, same-strings) s

  six : Groups limits (lent (trimmed set) serial)
  six = record {
    frame = frame;
    contents = contents;
    devices = same-devices (alike set) limits ∙ g.devices;
    configurations = same-configurations (alike set) limits ∙ g.configurations;
    strings = strings;
    serial = same_block (alike set) serial ∙ g.serial;
  }

  pub opens-again : opening limits (lent (trimmed set) serial) ≡ 0
  opens-again = all-six limits (lent (trimmed set) serial) six
