-- Groups 1 and 2 of a set that is laid out, asked of its pieces. No axiom.
use Rattle.octets.proofs.Vocabulary.{◌≡◌, refl, sym, ap, ◌∙◌, ℕ, ◌+◌, ◌*◌, ◌≤◌, List, [], ◌∷◌, List·Memᴰ·head, Bool, true, ◌&&◌, and-true, length, length-append, leb, arith, eq-eqb, le-leb}
use Rattle.octets.specs.Octets.{byte}
use Rattle.octets.specs.Sentences.{every, only, neighbours}
use Rattle.octets.proofs.Sentences.{cases, both, joined, only-member}
use Rattle.descriptors.specs.declared.limits.Limits.{Limits}
use Rattle.descriptors.specs.Limits.{named}
use Rattle.sets.specs.declared.Entry.{Entry}
use Rattle.sets.specs.Contents as sets
use Rattle.sets.specs.Contents.{entries, before, end_to_end, good_frame, good_contents}
use Rattle.sets.specs.Pieces.{Piece}
use Rattle.set_writer.specs.Writer.{precedes, body_bytes, front, laid_length, laid}
use Rattle.set_writer.proofs.Laid.{laid-length}
use Rattle.set_writer.proofs.Stream.{two_bytes}
use Rattle.set_writer.proofs.ReadBack.{entries_for, entries-read}
use Rattle.set_writer.proofs.Ascending.{Ascends}

module _ (ps : List Piece) where
  laid-entries : entries (laid ps) ≡ entries_for (front ps) ps
  unfolding laid
  laid-entries = entries-read (front ps) ps (body_bytes ps)

  laid-total : sets.total (laid ps) ≡ laid_length ps
  unfolding laid
  laid-total = two_bytes (laid_length ps)

  laid-count : sets.count (laid ps) ≡ length ps
  unfolding laid
  laid-count = refl

  laid-zero : byte (laid ps) 3 ≡ 0
  unfolding laid
  laid-zero = refl

  pub laid-frame : 1 ≤ length ps → length ps ≤ 64 → laid_length ps ≤ 16384 → good_frame (laid ps) ≡ true
  unfolding good_frame
  laid-frame one most fits =
      let l = laid-length ps in
      let t = laid-total in
      let c = laid-count in
      joined (joined (joined (joined (joined (joined
      (le-leb 4 (length (laid ps)) (omega (arith, l)))
      (le-leb (length (laid ps)) 16384 (omega (arith, l))))
      (eq-eqb (sets.total (laid ps)) (length (laid ps)) (t ∙ sym l)))
      (le-leb 1 (sets.count (laid ps)) (omega (arith, c))))
      (le-leb (sets.count (laid ps)) 64 (omega (arith, c))))
      (eq-eqb (byte (laid ps) 3) 0 laid-zero))
      (le-leb (sets.bodies_at (laid ps)) (sets.total (laid ps)) (omega (arith, c, t)))

-- ---- group 2
kinds-laid : (f : ℕ → Bool) (o : ℕ) (ps : List Piece) → every (λ e. f e.kind) (entries_for o ps) ≡ every (λ p. f p.kind) ps
unfolding every
kinds-laid f o [] = refl
kinds-laid f o (p ∷ ps) = rw (kinds-laid f (o + length p.body) ps)

lengths-laid : (o : ℕ) (ps : List Piece) → every (λ e. leb 2 e.length) (entries_for o ps) ≡ every (λ p. leb 2 (length p.body)) ps
unfolding every
lengths-laid o [] = refl
lengths-laid o (p ∷ ps) = rw (lengths-laid (o + length p.body) ps)

before-laid : (o : ℕ) (ps : List Piece) → neighbours before (entries_for o ps) ≡ neighbours precedes ps
unfolding neighbours
before-laid o [] = refl
before-laid o (p ∷ []) = refl
before-laid o (p ∷ q ∷ ps) = rw (before-laid (o + length p.body) (q ∷ ps))

ends-laid : (o end : ℕ) (ps : List Piece) → o + length (body_bytes ps) ≡ end → end_to_end o end (entries_for o ps) ≡ true
unfolding end_to_end body_bytes
ends-laid o end [] h = eq-eqb o end (omega arith)
ends-laid o end (p ∷ ps) h = joined (eq-eqb o o refl) (ends-laid (o + length p.body) end ps (omega (arith, h, length-append p.body (body_bytes ps))))

abbrev pub ordered : Limits → List Piece → Bool
ordered limits ps = every (λ p. named limits.entries p.kind) ps && neighbours precedes ps && every (λ p. leb 2 (length p.body)) ps

pub laid-contents : (limits : Limits) (ps : List Piece) → good_contents limits (laid ps) ≡ ordered limits ps
unfolding good_contents
laid-contents limits ps =
    let o = front ps in
    let n : sets.bodies_at (laid ps) ≡ o = ap (λ (k : ℕ). 4 + 8 * k) (laid-count ps) in
    let e : end_to_end (sets.bodies_at (laid ps)) (sets.total (laid ps)) (entries_for o ps) ≡ true =
    ap (λ (k : ℕ). end_to_end k (sets.total (laid ps)) (entries_for o ps)) n ∙ ends-laid o (sets.total (laid ps)) ps (sym (laid-total ps)) in
    ap (λ (es : List Entry). every (λ e. named limits.entries e.kind) es && neighbours before es && every (λ e. leb 2 e.length) es && end_to_end (sets.bodies_at (laid ps)) (sets.total (laid ps)) es) (laid-entries ps)
    ∙ rw (e, kinds-laid (named limits.entries) o ps, before-laid o ps, lengths-laid o ps) (and-true (ordered limits ps))

-- ---- some of the pieces
module _ {A : Type 0} (k : A → Bool) where
  pub every_some : (f : A → Bool) (xs : List A) → every f xs ≡ true → every f (only k xs) ≡ true
  unfolding every only
  every_some f [] p = refl
  every_some f (x ∷ xs) p =
      let (a, q) = both (f x) (every f xs) p in
      cases (k x) (λ h. rw h (joined a (every_some f xs q))) (λ h. rw h (every_some f xs q))

  pub some-length : (xs : List A) → length (only k xs) ≤ length xs
  unfolding only
  some-length [] = omega arith
  some-length (x ∷ xs) = let ih = some-length xs in cases (k x) (λ h. rw h (omega arith)) (λ h. rw h (omega arith))

  module _ (less : A → A → Bool) where
    some-ascends : (xs : List A) → Ascends less xs → Ascends less (only k xs)
    unfolding only
    some-ascends [] a = tt
    some-ascends (x ∷ xs) a = cases (k x)
        (λ h. rw h (λ y m. a.0 y (only-member k xs m).0, some-ascends xs a.1))
        (λ h. rw h (some-ascends xs a.1))

    ascends-neighbours : (xs : List A) → Ascends less xs → neighbours less xs ≡ true
    unfolding neighbours
    ascends-neighbours [] a = refl
    ascends-neighbours (x ∷ []) a = refl
    ascends-neighbours (x ∷ y ∷ ys) a = joined (a.0 y (List·Memᴰ·head refl)) (ascends-neighbours (y ∷ ys) a.1)

    pub some-neighbours : (xs : List A) → Ascends less xs → neighbours less (only k xs) ≡ true
    some-neighbours xs a = ascends-neighbours (only k xs) (some-ascends xs a)

pub some-bodies : (k : Piece → Bool) (ps : List Piece) → length (body_bytes (only k ps)) ≤ length (body_bytes ps)
unfolding only body_bytes
some-bodies k [] = omega arith
some-bodies k (p ∷ ps) =
    let ih = some-bodies k ps in
    let l = length-append p.body (body_bytes ps) in
    cases (k p) (λ h. rw h (omega (arith, ih, l, length-append p.body (body_bytes (only k ps))))) (λ h. rw h (omega (arith, ih, l)))
