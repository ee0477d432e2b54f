-- In a set that opens, the device and the configuration bodies lie end to end, from where the bodies begin. No axiom.
use Rattle.octets.proofs.Vocabulary.{◌≡◌, refl, sym, ap, ◌∙◌, ℕ, ◌+◌, ◌-◌, ◌*◌, ◌≤◌, ◌<◌, List, [], ◌∷◌, ◌++◌, map, append_assoc, append-nil, Bool, true, false, ⊎_elim, length, take, drop, length-drop, eqb, leb, ltb, drop-drop, take-add, length-take-le, arith, zero-add, add-sub_cancel_left, eqb-true, ltb-true, eqb-false, ne_eqb, le-leb, lt-leb, lt-ltb, le-ltb, leb-true}
use Rattle.octets.specs.Octets.{byte, part}
use Rattle.octets.specs.Sentences.{pick, every, only, neighbours}
use Rattle.octets.proofs.Sentences.{cases, both, either, conjunct, never, neighbours-cons}
use Rattle.descriptors.specs.Limits.{named, full_speed}
use Rattle.sets.specs.declared.Entry.{Entry}
use Rattle.sets.specs.Contents.{entries, body_of, bodies, before, is_kind, total, count, bodies_at, end_to_end, good_frame, good_contents}
use Rattle.sets.specs.Pieces.{Piece, pieces_in, pieces_of, body_is, head_body, sole}
use Rattle.sets.specs.Opening.{opening, lent}
use Rattle.sets.proofs.Entries.{only-later, only-empty, every-cons}
use Rattle.sets.proofs.Groups.{groups, one-device}
use Rattle.sets.proofs.Pieces.{bodies_of_lem}
use Rattle.dumps.specs.Dump.{flat, exported}
use Rattle.dumps.specs.Export.{share, shares, Dumped, Exports}

-- ---- the types go up
abbrev pub Up : ℕ → List Entry → Type 0
Up k [] = Unit {0}
Up k (e ∷ es) = (k ≤ e.kind) × Up e.kind es

before-up : (e f : Entry) → before e f ≡ true → e.kind ≤ f.kind
before-up e f p =
    ⊎_elim (λ a. omega (arith, ltb-true e.kind f.kind a))
    (λ b. omega (arith, eqb-true e.kind f.kind (both (eqb e.kind f.kind) _ b).0))
    (either (ltb e.kind f.kind) _ p)

rising : (e : Entry) (es : List Entry) → neighbours before (e ∷ es) ≡ true → Up e.kind es
rising e [] p = tt
rising e (f ∷ es) p =
    let (a, q) = both (before e f) (neighbours before (f ∷ es)) (sym (neighbours-cons before e f es) ∙ p) in
    (before-up e f a, rising f es q)

known : (e : Entry) → named full_speed.entries e.kind ≡ true → 1 ≤ e.kind
known e p = cases (eqb e.kind 0) (λ q. zeroth e.kind (eqb-true e.kind 0 q) p) (λ q. let h = eqb-false e.kind 0 q in omega arith)
  where
    zeroth : (k : ℕ) → k ≡ 0 → named full_speed.entries k ≡ true → 1 ≤ k
    zeroth k e p = never (rw e at p) refl

pub all_up : (es : List Entry) → every (λ e. named full_speed.entries e.kind) es ≡ true → neighbours before es ≡ true → Up 1 es
all_up [] p q = tt
all_up (e ∷ es) p q =
    (known e (both (named full_speed.entries e.kind) _ (sym (every-cons (λ e. named full_speed.entries e.kind) e es) ∙ p)).0, rising e es q)

pub shares-more : (e : Entry) (es : List Entry) → shares (e ∷ es) ≡ share e + shares es
unfolding shares
shares-more e es = refl

pub shares-none : shares [] ≡ 0
unfolding shares
shares-none = refl

-- none of a type below
pub none_below : (t k : ℕ) (es : List Entry) → t < k → Up k es → only (is_kind t) es ≡ []
none_below t k [] h u = only-empty (is_kind t)
none_below t k (e ∷ es) h u =
    let n : e.kind ≡ t → ⊥ = λ q. omega arith in
    only-later (is_kind t) e es (ne_eqb e.kind t n) ∙ none_below t e.kind es (omega arith) u.1

none-shared : (k : ℕ) (es : List Entry) → 2 < k → Up k es → shares es ≡ 0
unfolding shares
none-shared k [] h u = refl
none-shared k (e ∷ es) h u = rw (lt-leb e.kind 2 (omega arith), zero-add) (none-shared e.kind es (omega arith) u.1)

-- ---- bodies, end to end
module _ (set : List ℕ) where
  abbrev devices : List Entry → List (List ℕ)
  devices es = map (body_of set) (only (is_kind 1) es)

  abbrev configurations : List Entry → List (List ℕ)
  configurations es = map (body_of set) (only (is_kind 2) es)

  on : (start size : ℕ) (e : Entry) → e.offset ≡ start → {rest : List ℕ} → rest ≡ part set (start + e.length) size → body_of set e ++ rest ≡ part set start (e.length + size)
  on start size e o q = rw (q, o, take-add, drop-drop)

  together : (start end : ℕ) (es : List Entry) → Up 1 es → end_to_end start end es ≡ true → flat (devices es) ++ flat (configurations es) ≡ part set start (shares es)
  unfolding end_to_end flat shares only
  together start end [] u p = refl
  together start end (e ∷ es) u p =
      let (o, q) = both (eqb e.offset start) (end_to_end (start + e.length) end es) p in
      let s = eqb-true e.offset start o in
      go (together (start + e.length) end es) s q
    where
      go : (Up 1 es → end_to_end (start + e.length) end es ≡ true → flat (devices es) ++ flat (configurations es) ≡ part set (start + e.length) (shares es))
          → e.offset ≡ start → end_to_end (start + e.length) end es ≡ true
          → flat (devices (e ∷ es)) ++ flat (configurations (e ∷ es)) ≡ part set start (share e + shares es)
      go later s q =
          cases (eqb e.kind 1)
          (λ k. let i = eqb-true e.kind 1 k in
          rw (k, ne_eqb e.kind 2 (λ z. omega arith), le-leb e.kind 2 (omega arith), append_assoc (body_of set e) (flat (devices es)) (flat (configurations es)))
          (on start (shares es) e s (later (rw i at u.1) q)))
          (λ k. cases (eqb e.kind 2)
          (λ l. let i = eqb-true e.kind 2 l in
          let none = none_below 1 2 es (omega arith) (rw i at u.1) in
          rw (k, l, le-leb e.kind 2 (omega arith), none)
          (on start (shares es) e s (rw none at (later (weaker es (rw i at u.1)) q))))
          (λ l.
          let a = eqb-false e.kind 1 k in
          let b = eqb-false e.kind 2 l in
          let h : 2 < e.kind = omega (arith, u.0) in
          rw (k, l, lt-leb e.kind 2 h, none_below 1 e.kind es (omega arith) u.1, none_below 2 e.kind es h u.1, none-shared e.kind es h u.1)))
        where
          weaker : (es : List Entry) → Up 2 es → Up 1 es
          weaker [] u = u
          weaker (e ∷ es) u = (omega arith, u.1)

share-small : (e : Entry) → share e ≤ e.length
share-small e = go (leb e.kind 2)
  where
    go : (b : Bool) → pick b e.length 0 ≤ e.length
    go true = omega arith
    go false = omega arith

within : (start end : ℕ) (es : List Entry) → end_to_end start end es ≡ true → start + shares es ≤ end
unfolding end_to_end shares
within start end [] p = omega (arith, eqb-true start end p)
within start end (e ∷ es) p =
    let (o, q) = both (eqb e.offset start) (end_to_end (start + e.length) end es) p in
    omega (arith, within (start + e.length) end es q, share-small e)

one-body : (good : List ℕ → Bool) (ps : List Piece) → sole good ps ≡ true → flat (map body_is ps) ≡ head_body ps
unfolding flat
one-body good [] p = never p refl
one-body good (p ∷ []) q = append-nil p.body
one-body good (p ∷ q ∷ ps) r = never r refl

-- ---- the whole
pub record Dump (set : List ℕ) : Type 0 where
  pub fits : bodies_at set + shares (entries set) ≤ length set
  pub bytes : exported set ≡ part set (bodies_at set) (shares (entries set))
  pub size : length (exported set) ≡ shares (entries set)
  pub small : length set ≤ 16384

pub dump : (set serial : List ℕ) → opening full_speed (lent set serial) ≡ 0 → Dump set
unfolding good_frame good_contents
dump set serial p =
    let g = groups full_speed (lent set serial) p in
    let frame = leb 4 (length set) ∷ leb (length set) 16384 ∷ eqb (total set) (length set) ∷ leb 1 (count set) ∷ leb (count set) 64 ∷ eqb (byte set 3) 0 ∷ leb (bodies_at set) (total set) ∷ [] in
    let rules = every (λ e. named full_speed.entries e.kind) (entries set) ∷ neighbours before (entries set) ∷ every (λ e. leb 2 e.length) (entries set) ∷ end_to_end (bodies_at set) (total set) (entries set) ∷ [] in
    let all = eqb-true (total set) (length set) (conjunct 2 frame g.frame) in
    let laid_out = conjunct 3 rules g.contents in
    let up = all_up (entries set) (conjunct 0 rules g.contents) (conjunct 1 rules g.contents) in
    let f : bodies_at set + shares (entries set) ≤ length set = omega (arith, within (bodies_at set) (total set) (entries set) laid_out) in
    let b : exported set ≡ part set (bodies_at set) (shares (entries set)) =
    ap (λ (l : List ℕ). l ++ flat (bodies 2 set)) (sym (one-body _ (pieces_of 1 (pieces_in set)) (one-device full_speed (lent set serial) g)) ∙ ap flat (sym (bodies_of_lem set 1))) ∙ together set (bodies_at set) (total set) (entries set) up laid_out in
    record {
      fits = f;
      bytes = b;
      size = ap length b ∙ length-take-le (shares (entries set)) (drop (bodies_at set) set) (rw length-drop (omega arith));
      small = leb-true (length set) 16384 (conjunct 1 frame g.frame);
    }

-- ---- what export answers, in the terms of its contract
abbrev pub answer : ℕ → ℕ → Dumped
answer number written = record { number = number; written = written }

module _ (set serial out : List ℕ) (opens : 0 ≡ opening full_speed (lent set serial)) (k : ℕ) (i : k ≡ count set) (size : ℕ) (q : size ≡ shares (entries set)) where
  d : Dump set
  d = dump set serial (sym opens)

  pub fits : 4 + 8 * k + size ≤ length set
  fits = rw (i, q) d.fits

  -- a set that opens is not longer than two bytes can say
  pub small : size < 65536
  small = omega (arith, q, d.fits, d.small)

  -- what the code lends to `copy_from_slice`
  abbrev copied : List ℕ
  copied = take (4 + 8 * k + size - (4 + 8 * k)) (drop (4 + 8 * k) set)

  copied_is : copied ≡ exported set
  copied_is = rw (add-sub_cancel_left, i, q) (sym d.bytes)

  pub short : length out < size → Exports set serial out out (answer 22 0)
  short l = record { fills = record { number = sym (rw (← opens, lt-ltb (length out) (length (exported set)) (omega (arith, d.size, q)))); bytes = refl }; counts = refl }

  pub given : size ≤ length out → {written : List ℕ} → written ≡ copied → Exports set serial out (written ++ drop size out) (answer 0 size)
  given l p = record {
    fills = record {
      number = sym (rw (← opens, le-ltb (length out) (length (exported set)) (omega (arith, d.size, q))));
      bytes = rw (p ∙ copied_is, q, ← d.size);
    };
    counts = q ∙ sym d.size;
  }
