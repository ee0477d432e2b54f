-- The set anew: contents, bodies, zeros and header, one after another, are the set of the pieces that stay. No axiom.
use Rattle.octets.proofs.Vocabulary.{◌≡◌, refl, sym, ap, ◌∙◌, ℕ, zero, suc, ◌+◌, ◌-◌, ◌*◌, ◌/◌, ◌%◌, ◌≤◌, ◌<◌, List, [], ◌∷◌, ◌++◌, map, append_assoc, append-nil, Bool, true, false, length, take, drop, set, replicate, length-append, length-drop, length-map, length-replicate, drop_of_length-le, take-append-drop, eqb, leb, sets, sets-eq, length-sets, drop-set-lt, drop_at, length-take-le, drop-append-le, arith, eqb-true, leb-true}
use Rattle.octets.specs.Octets.{byte, part}
use Rattle.octets.specs.Sentences.{pick, only}
use Rattle.octets.proofs.Sentences.{cases, conjunct}
use Rattle.sets.specs.declared.Entry.{Entry}
use Rattle.sets.specs.Contents.{entry_of, entries_from, entries, count, total, bodies_at, body_of, end_to_end, good_frame}
use Rattle.sets.proofs.Entries.{only_here, only-later, only-empty}
use Rattle.sets.specs.Pieces.{Piece, piece_for}
use Rattle.set_writer.specs.Writer as pieces
use Rattle.set_writer.specs.Writer.{contents, body_bytes, front, header, laid}
use Rattle.set_writer.proofs.Laid.{laid-parts, laid-length}
use Rattle.buffers.specs.declared.Writer.{Writer}
use Rattle.buffers.specs.Written.{Wrote}
use Rattle.buffers.proofs.Written.{wrote-both}
use Rattle.trimming.specs.Entries.{contents_with, lengths, bodies_with}
use Rattle.trimming.specs.Trim.{zero_filled}
use Rattle.trimming.proofs.Moving.{Next, next-body, bodies-here, bodies-fit, still}

only-length : {A : Type 0} (f : A → Bool) (xs : List A) → length (only f xs) ≤ length xs
unfolding only
only-length f [] = omega arith
only-length f (x ∷ xs) = go (f x) (only-length f xs)
  where
    go : (b : Bool) → length (only f xs) ≤ length xs → length (pick b (x ∷ only f xs) (only f xs)) ≤ length (x ∷ xs)
    go true h = omega arith
    go false h = omega arith

contents-long : (o : ℕ) (es : List Entry) → length (contents_with o es) ≡ 8 * length es
unfolding contents_with
contents-long o [] = refl
contents-long o (e ∷ es) = omega (arith, contents-long (o + e.length) es)

-- what is written before a place leaves what is behind it
drop-sets : (k : ℕ) (l : List ℕ) (i : ℕ) (vs : List ℕ) → i + length vs ≤ k → drop k (sets l i vs) ≡ drop k l
drop-sets k l i [] h = refl
drop-sets k l i (a ∷ vs) h = drop-sets k (set l i a) (suc i) vs (omega arith) ∙ drop-set-lt k l i a (omega arith)

module _ (f : Entry → Bool) where
  -- bodies lie behind their beginning
  same-bodies : (a b : List ℕ) (es : List Entry) (start end : ℕ) → end_to_end start end es ≡ true → drop start a ≡ drop start b → bodies_with a (only f es) ≡ bodies_with b (only f es)
  same-bodies a b [] start end p e = ap (bodies_with a) (only-empty f) ∙ sym (ap (bodies_with b) (only-empty f))
  same-bodies a b (x ∷ es) start end p e =
      let n : Next start end x es = next-body refl p in
      let ih = same-bodies a b es (start + x.length) end n.later (still b a start x.length e) in
      cases (f x)
      (λ q. bodies-here a f refl q n ∙ ap (λ (l : List ℕ). take x.length l ++ bodies_with a (only f es)) e ∙ ap (λ (l : List ℕ). part b start x.length ++ l) ih ∙ sym (bodies-here b f refl q n))
      (λ q. ap (bodies_with a) (only-later f x es q) ∙ ih ∙ sym (ap (bodies_with b) (only-later f x es q)))

  module _ (set : List ℕ) where
    body-long : {start : ℕ} {e : Entry} {es : List Entry} → Next start (length set) e es → length (body_of set e) ≡ e.length
    body-long {start} {e} n = length-take-le e.length (drop e.offset set) (rw length-drop (omega (arith, n.offset, n.inside)))

    same-contents : (es : List Entry) (start : ℕ) → end_to_end start (length set) es ≡ true → (o : ℕ) → contents o (map (piece_for set) (only f es)) ≡ contents_with o (only f es)
    unfolding contents contents_with
    same-contents [] start p o = rw (only-empty f)
    same-contents (x ∷ es) start p o =
        let n : Next start (length set) x es = next-body refl p in
        let l = body-long n in
        cases (f x)
        (λ q. rw (only_here f x es q, l, same-contents es (start + x.length) n.later (o + x.length)))
        (λ q. rw (only-later f x es q) (same-contents es (start + x.length) n.later o))

    same-lengths : (es : List Entry) (start : ℕ) → end_to_end start (length set) es ≡ true → length (bodies_with set (only f es)) ≡ lengths (only f es)
    unfolding body_bytes lengths
    same-lengths [] start p = rw (only-empty f)
    same-lengths (x ∷ es) start p =
        let n : Next start (length set) x es = next-body refl p in
        let l = body-long n in
        let ih = same-lengths es (start + x.length) n.later in
        cases (f x)
        (λ q. rw (only_here f x es q, length-append (body_of set x) (bodies_with set (only f es)), l, ih))
        (λ q. rw (only-later f x es q) ih)

-- ---- step by step
pub record Ready (set : List ℕ) (f : Entry → Bool) (all : List Entry) (k n : ℕ) : Type 0 where
  pub ends : end_to_end k (length set) all ≡ true
  pub begins : k ≡ 4 + 8 * length all
  pub small : length set ≤ 16384
  pub few : length all ≤ 64
  pub number : n ≡ length (only f all)

module _ {set : List ℕ} {f : Entry → Bool} {all : List Entry} {k n : ℕ} (ready : Ready set f all k n) where
  ends : end_to_end k (length set) all ≡ true
  ends = ready.ends

  begins : k ≡ 4 + 8 * length all
  begins = ready.begins

  small : length set ≤ 16384
  small = ready.small

  e : n ≡ length (only f all)
  e = ready.number

  abbrev es : List Entry
  es = only f all

  abbrev ps : List Piece
  ps = map (piece_for set) es

  fit : k + length (bodies_with set es) ≤ length set
  fit = bodies-fit set f all k (length set) ends

  pub less : n ≤ length all
  less = omega (arith, e, only-length f all)

  sizes : length (bodies_with set es) ≡ lengths es
  sizes = same-lengths f set all k ends

  pub contents-room : 4 + length (contents_with (4 + 8 * n) es) ≤ length set
  contents-room = omega (arith, contents-long (4 + 8 * n) es, e, less, fit, begins)

  pub contents-small : 4 + 8 * n + lengths es < 65536
  contents-small = omega (arith, e, less, fit, begins, sizes, small)

  module _ {w w₁ : Writer} (four : w.at ≡ 4) (given : w.out.now ≡ set) (c : Wrote w (contents_with (4 + 8 * n) es) w₁) where
    at : w₁.at ≡ 4 + 8 * n
    at = omega (arith, c.place, contents-long (4 + 8 * n) es, e, four)

    pub bodies-at : w₁.at ≤ k
    bodies-at = omega (arith, at, less, begins)

    bytes₁ : w₁.out.now ≡ sets set 4 (contents_with (4 + 8 * n) es)
    bytes₁ = c.bytes ∙ rw (four, given)

    long : length w₁.out.now ≡ length set
    long = ap length bytes₁ ∙ length-sets set 4 (contents_with (4 + 8 * n) es)

    pub ends-still : end_to_end k (length w₁.out.now) all ≡ true
    ends-still = rw long ends

    behind : drop k w₁.out.now ≡ drop k set
    behind = ap (drop k) bytes₁ ∙ drop-sets k set 4 (contents_with (4 + 8 * n) es) (omega (arith, contents-long (4 + 8 * n) es, e, less, begins))

    same : bodies_with w₁.out.now es ≡ bodies_with set es
    same = same-bodies f w₁.out.now set all k (length set) ends behind

    module _ {w₂ : Writer} (v : Wrote w₁ (bodies_with w₁.out.now es) w₂) where
      long₂ : length w₂.out.now ≡ length set
      long₂ = ap length v.bytes ∙ length-sets w₁.out.now w₁.at (bodies_with w₁.out.now es) ∙ long

      end_is : w₂.at ≡ 4 + 8 * n + length (bodies_with set es)
      end_is = omega (arith, v.place, ap length same, at)

      pub end-in : w₂.at ≤ length w₂.out.now
      end-in = omega (arith, end_is, less, fit, begins, long₂)

      pub end-small : w₂.at ≤ 16384
      end-small = omega (arith, end-in, long₂, small)

      total-is : w₂.at ≡ pieces.laid_length ps
      total-is = omega (arith, end_is, e, length-map es (piece_for set))

      abbrev zeros : List ℕ
      zeros = replicate (length w₂.out.now - w₂.at) 0

      module _ {w₃ : Writer} (z : Wrote w₂ zeros w₃) where
        long₃ : length w₃.out.now ≡ length set
        long₃ = ap length z.bytes ∙ length-sets w₂.out.now w₂.at zeros ∙ long₂

        pub header-room : 0 + 4 ≤ length w₃.out.now
        header-room = omega (arith, long₃, end-in, end_is, long₂)

        abbrev text : List ℕ
        text = (contents_with (4 + 8 * n) es ++ bodies_with set es) ++ zeros

        text-long : 4 + length text ≡ length set
        text-long =
            omega (
              arith,
              length-append (contents_with (4 + 8 * n) es ++ bodies_with set es) zeros,
              length-append (contents_with (4 + 8 * n) es) (bodies_with set es),
              contents-long (4 + 8 * n) es,
              length-replicate {A = ℕ} (length w₂.out.now - w₂.at) 0,
              end_is,
              end-in,
              long₂,
              e,
            )

        all-written : Wrote w text w₃
        all-written = wrote-both (wrote-both c (rw same at v)) z

        three : w₃.out.now ≡ take 4 set ++ text
        three =
            all-written.bytes ∙ rw (four, given) (sets-eq text set 4 (omega (arith, text-long)))
            ∙ (let h : length set ≤ 4 + length text = omega (arith, text-long) in ap (λ (l : List ℕ). take 4 set ++ text ++ l) (drop_of_length-le set h)) ∙ append-nil (take 4 set ++ text)

        tail : drop 4 w₃.out.now ≡ text
        tail = ap (drop 4) three ∙ drop_at (take 4 set) text 4 (length-take-le 4 set (omega (arith, text-long)))

        head : w₂.at % 256 ∷ w₂.at / 256 ∷ n ∷ 0 ∷ [] ≡ header ps
        head = rw (← total-is, length-map es (piece_for set), ← e)

        laid-is : laid ps ≡ header ps ++ (contents_with (4 + 8 * n) es ++ bodies_with set es)
        laid-is =
            let s : contents (front ps) ps ≡ contents_with (4 + 8 * n) es = ap (λ (k : ℕ). contents (4 + 8 * k) ps) (length-map es (piece_for set) ∙ sym e) ∙ same-contents f set all k ends (4 + 8 * n) in
            laid-parts ps ∙ ap (λ (l : List ℕ). header ps ++ (l ++ body_bytes ps)) s

        zeros-are : zeros ≡ replicate (length set - length (laid ps)) 0
        zeros-are = ap (λ (m : ℕ). replicate {A = ℕ} m 0) (let q : length w₂.out.now - w₂.at ≡ length set - length (laid ps) = omega (arith, long₂, total-is, laid-length ps) in q)

        pub rebuilt : {w₄ w₅ : Writer} {after : List ℕ} → w₄.at ≡ 0 → w₄.out.now ≡ w₃.out.now → Wrote w₄ (w₂.at % 256 ∷ w₂.at / 256 ∷ n ∷ 0 ∷ []) w₅ → after ≡ w₅.out.now → after ≡ zero_filled (laid ps) (length set)
        rebuilt first kept h left =
            left ∙ h.bytes ∙ rw (first, kept) (sets-eq (w₂.at % 256 ∷ w₂.at / 256 ∷ n ∷ 0 ∷ []) w₃.out.now 0 header-room)
            ∙ ap (λ (l : List ℕ). (w₂.at % 256 ∷ w₂.at / 256 ∷ n ∷ 0 ∷ []) ++ l) tail
            ∙ ap (λ (l : List ℕ). l ++ text) head
            ∙ sym (append_assoc (header ps) (contents_with (4 + 8 * n) es ++ bodies_with set es) zeros)
            ∙ ap (λ (l : List ℕ). l ++ zeros) (sym laid-is)
            ∙ ap (λ (l : List ℕ). laid ps ++ l) zeros-are

-- ---- the contents laid aside
entry-front : (a b : List ℕ) → 8 ≤ length a → entry_of (a ++ b) ≡ entry_of a
entry-front [] b h = absurd (omega arith)
entry-front (x0 ∷ []) b h = absurd (omega arith)
entry-front (x0 ∷ x1 ∷ []) b h = absurd (omega arith)
entry-front (x0 ∷ x1 ∷ x2 ∷ []) b h = absurd (omega arith)
entry-front (x0 ∷ x1 ∷ x2 ∷ x3 ∷ []) b h = absurd (omega arith)
entry-front (x0 ∷ x1 ∷ x2 ∷ x3 ∷ x4 ∷ []) b h = absurd (omega arith)
entry-front (x0 ∷ x1 ∷ x2 ∷ x3 ∷ x4 ∷ x5 ∷ []) b h = absurd (omega arith)
entry-front (x0 ∷ x1 ∷ x2 ∷ x3 ∷ x4 ∷ x5 ∷ x6 ∷ []) b h = absurd (omega arith)
entry-front (x0 ∷ x1 ∷ x2 ∷ x3 ∷ x4 ∷ x5 ∷ x6 ∷ x7 ∷ a) b h = refl

entries-front : (n : ℕ) (a b : List ℕ) → 8 * n ≤ length a → entries_from n (a ++ b) ≡ entries_from n a
unfolding entries_from
entries-front zero a b h = refl
entries-front (suc n) a b h = rw (entry-front a b (omega arith), drop-append-le 8 a b (omega arith), entries-front n (drop 8 a) b (rw length-drop (omega arith)))

pub entries-length : (n : ℕ) (bytes : List ℕ) → length (entries_from n bytes) ≡ n
unfolding entries_from
entries-length zero bytes = refl
entries-length (suc n) bytes = ap suc (entries-length n (drop 8 bytes))

-- two lists that begin alike have the same entries
alike : (a b c : List ℕ) → 4 + 8 * byte a 2 ≤ length a → entries (a ++ b) ≡ entries (a ++ c)
alike [] b c h = absurd (omega arith)
alike (x0 ∷ []) b c h = absurd (omega arith)
alike (x0 ∷ x1 ∷ []) b c h = absurd (omega arith)
alike (x0 ∷ x1 ∷ x2 ∷ []) b c h = absurd (omega arith)
alike (x0 ∷ x1 ∷ x2 ∷ x3 ∷ a) b c h = entries-front x2 a b (omega arith) ∙ sym (entries-front x2 a c (omega arith))

alike-count : (a b c : List ℕ) → 4 ≤ length a → count (a ++ b) ≡ count (a ++ c)
alike-count [] b c h = absurd (omega arith)
alike-count (x0 ∷ []) b c h = absurd (omega arith)
alike-count (x0 ∷ x1 ∷ []) b c h = absurd (omega arith)
alike-count (x0 ∷ x1 ∷ x2 ∷ a) b c h = refl

front-count : (a b : List ℕ) → 4 ≤ length a → byte a 2 ≡ count (a ++ b)
front-count [] b h = absurd (omega arith)
front-count (x0 ∷ []) b h = absurd (omega arith)
front-count (x0 ∷ x1 ∷ []) b h = absurd (omega arith)
front-count (x0 ∷ x1 ∷ x2 ∷ a) b h = refl

pub record Frame (set : List ℕ) : Type 0 where
  pub least : 4 ≤ length set
  pub most : length set ≤ 16384
  pub few : count set ≤ 64
  pub inside : bodies_at set ≤ length set

pub framed : (set : List ℕ) → good_frame set ≡ true → Frame set
unfolding good_frame
framed set f =
    let frame = leb 4 (length set) ∷ leb (length set) 16384 ∷ eqb (total set) (length set) ∷ leb 1 (count set) ∷ leb (count set) 64 ∷ eqb (byte set 3) 0 ∷ leb (bodies_at set) (total set) ∷ [] in
    let all = eqb-true (total set) (length set) (conjunct 2 frame f) in
    record {
      least = leb-true 4 (length set) (conjunct 0 frame f);
      most = leb-true (length set) 16384 (conjunct 1 frame f);
      few = leb-true (count set) 64 (conjunct 4 frame f);
      inside = omega (arith, all, leb-true (bodies_at set) (total set) (conjunct 6 frame f));
    }

module _ (set rest : List ℕ) (g : Frame set) {size : ℕ} (s : size ≡ bodies_at set) {aside : List ℕ} (e : aside ≡ take size set ++ rest) where
  front_long : length (take size set) ≡ bodies_at set
  front_long = length-take-le size set (omega (arith, s, g.inside)) ∙ s

  split : set ≡ take size set ++ drop size set
  split = sym (take-append-drop size set)

  here : byte (take size set) 2 ≡ count set
  here = front-count (take size set) (drop size set) (omega (arith, front_long)) ∙ ap count (sym split)

  aside-count : count aside ≡ count set
  aside-count = ap count e ∙ alike-count (take size set) rest (drop size set) (omega (arith, front_long)) ∙ ap count (sym split)

  aside-entries : entries aside ≡ entries set
  aside-entries = ap entries e ∙ alike (take size set) rest (drop size set) (omega (arith, front_long, here)) ∙ ap entries (sym split)

-- what was copied, as the code has it: the part from 0 on, and behind it what was there
module _ (set : List ℕ) (g : Frame set) (p : ℕ) (c : p ≡ count set) {written : List ℕ} (e : written ≡ take (4 + 8 * p) set) (rest : List ℕ) where
  abbrev aside : List ℕ
  aside = written ++ rest

  size_is : 4 + 8 * p ≡ bodies_at set
  size_is = rw c

  copied : aside ≡ take (4 + 8 * p) set ++ rest
  copied = ap (λ (l : List ℕ). l ++ rest) e

  pub copied-entries : entries aside ≡ entries set
  copied-entries = aside-entries set rest g size_is copied

  copied-count : count aside ≡ count set
  copied-count = aside-count set rest g size_is copied

  pub prepared : (f : Entry → Bool) (n : ℕ) → end_to_end (bodies_at set) (length set) (entries set) ≡ true → n ≡ length (only f (entries aside)) → Ready set f (entries aside) (bodies_at aside) n
  prepared f n h q = record {
    ends = ap (λ (es : List Entry). end_to_end (bodies_at aside) (length set) es) copied-entries ∙ ap (λ (k : ℕ). end_to_end (4 + 8 * k) (length set) (entries set)) copied-count ∙ h;
    begins = ap (λ (k : ℕ). 4 + 8 * k) (sym (entries-length (count aside) (drop 4 aside)));
    small = g.most;
    few = omega (arith, entries-length (count aside) (drop 4 aside), copied-count, g.few);
    number = q;
  }
