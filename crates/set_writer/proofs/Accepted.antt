-- What the number 0 tells of a stream, and what an accepted set tells of its pieces: the laws behind the promises. No axiom.
use Rattle.octets.proofs.Vocabulary.{◌≡◌, refl, sym, ap, ◌∙◌, ℕ, List, [], ◌∷◌, map, List-as-Memᴰ, List·Memᴰ·head, List·Memᴰ·tail, List·Memᴰ·cases-cons, List·Memᴰ·not-nil, Bool, true, false, ◌&&◌, not, some, ◌⊎◌, inl, inr, ⊎_elim, length, eqb, leb, ltb, arith, eqb-true, eq-eqb, not-false}
use Rattle.octets.specs.Sentences.{pick, every, neighbours, first}
use Rattle.octets.proofs.Sentences.{both, never, conjunct, joined}
use Rattle.descriptors.specs.declared.limits.Limits.{Limits}
use Rattle.descriptors.specs.Limits.{named}
use Rattle.sets.specs.declared.Entry.{Entry}
use Rattle.sets.specs.Contents.{entries, before, total, bodies_at, end_to_end, good_frame, good_contents}
use Rattle.sets.specs.Opening.{lent, opening}
use Rattle.sets.specs.Found.{is_at}
use Rattle.sets.proofs.Groups.{groups}
use Rattle.set_writer.specs.Writer.{ends, pieces, precedes, sorted, laid, set_of, too_large, opens_as, handing, writing}
use Rattle.sets.specs.Pieces.{Piece, piece_for, pieces_in}
use Rattle.set_writer.specs.Shuffled.{Shuffled, onward}
use Rattle.set_writer.proofs.Ascending.{Ascends, neighbours-ascend}
use Rattle.set_writer.proofs.Order.{shuffled, sorted-is, before-map}
use Rattle.set_writer.proofs.Precedes.{transitive, unlike}
use Rattle.set_writer.proofs.ReadBack.{read_back}
use Rattle.set_writer.proofs.Shuffled.{back}
use Rattle.set_writer.proofs.Sizes.{sorted-length}

-- ---- members of a list of images
pub mapped : {A B : Type 0} (f : A → B) (xs : List A) {b : B} → List-as-Memᴰ b (map f xs) → (a : A) × List-as-Memᴰ a xs × (b ≡ f a)
mapped f [] m = absurd (List·Memᴰ·not-nil m)
mapped f (x ∷ xs) m = ⊎_elim (λ e. (x, List·Memᴰ·head refl, e)) (λ n. let (a, k, e) = mapped f xs n in (a, List·Memᴰ·tail k, e)) (List·Memᴰ·cases-cons m)

pub mapping : {A B : Type 0} (f : A → B) {a : A} {xs : List A} → List-as-Memᴰ a xs → List-as-Memᴰ (f a) (map f xs)
mapping f (List·Memᴰ·head e) = List·Memᴰ·head (ap f e)
mapping f (List·Memᴰ·tail m) = List·Memᴰ·tail (mapping f m)

-- ---- 0 is answered where no refusal is
picked : (t : Bool) (a b : ℕ) → (a ≡ 0 → ⊥) → pick t a b ≡ 0 → (t ≡ false) × (b ≡ 0)
picked true a b h p = absurd (h p)
picked false a b h p = (refl, p)

pub zero-opens : (limits : Limits) (stream serial : List ℕ) (room : ℕ) → writing limits stream serial room ≡ 0 → opens_as limits (set_of stream) serial ≡ true
zero-opens limits stream serial room p =
    let (a, q) = picked (not (ends stream)) 20 _ (omega arith) p in
    let (b, r) = picked (too_large stream) 21 (handing limits (set_of stream) serial room) (omega arith) q in
    let (c, s) = picked (not (opens_as limits (set_of stream) serial)) 21 (pick (ltb room (length (set_of stream))) 22 0) (omega arith) r in
    not-false (opens_as limits (set_of stream) serial) c

-- an accepted set passes groups 1 and 2
pub framed : (limits : Limits) (set serial : List ℕ) → opens_as limits set serial ≡ true → (good_frame set ≡ true) × (good_contents limits set ≡ true)
framed limits set serial p =
    let g = groups limits (lent set serial) (eqb-true (opening limits (lent set serial)) 0 p) in
    (g.frame, g.contents)

-- ---- an accepted set's entries ascend, so its pieces do
pub ascends : (limits : Limits) (ps : List Piece) (serial : List ℕ) → opens_as limits (laid ps) serial ≡ true → Ascends precedes ps
unfolding good_contents
ascends limits ps serial p =
    let set = laid ps in
    let rules = every (λ e. named limits.entries e.kind) (entries set) ∷ neighbours before (entries set) ∷ every (λ e. leb 2 e.length) (entries set) ∷ end_to_end (bodies_at set) (total set) (entries set) ∷ [] in
    let n : neighbours precedes (pieces_in set) ≡ true = before-map set (entries set) ∙ conjunct 1 rules (framed limits set serial p).1 in
    neighbours-ascend precedes transitive ps (rw (read_back ps) at n)

pub entries-ascend : (set : List ℕ) (es : List Entry) → Ascends precedes (map (piece_for set) es) → Ascends before es
entries-ascend set [] a = tt
entries-ascend set (e ∷ es) a = (λ f m. a.0 (piece_for set f) (mapping (piece_for set) m), entries-ascend set es a.1)

-- what is looked up under an entry's type, index and language is that entry
pub looked-up : (set : List ℕ) (e : Entry) (es : List Entry) → Ascends before es → List-as-Memᴰ e es → first (is_at e.kind e.index e.language) es ≡ some e
unfolding first
looked-up set e [] a m = absurd (List·Memᴰ·not-nil m)
looked-up set e (f ∷ es) a m = go (List·Memᴰ·cases-cons m) (is_at e.kind e.index e.language f) refl (λ n. looked-up set e es a.1 n)
  where
    go : (e ≡ f) ⊎ List-as-Memᴰ e es → (b : Bool) → is_at e.kind e.index e.language f ≡ b
        → (List-as-Memᴰ e es → first (is_at e.kind e.index e.language) es ≡ some e)
        → pick b (some f) (first (is_at e.kind e.index e.language) es) ≡ some e
    go (inl q) true p later = ap some (sym q)
    go (inl q) false p later = never (rw (← q) (joined (joined (eq-eqb e.kind e.kind refl) (eq-eqb e.index e.index refl)) (eq-eqb e.language e.language refl))) p
    go (inr n) true p later =
        let (o, l) = both (eqb f.kind e.kind && eqb f.index e.index) (eqb f.language e.language) p in
        let (k, i) = both (eqb f.kind e.kind) (eqb f.index e.index) o in
        absurd (unlike (piece_for set f) (piece_for set e) (a.0 e n) (eqb-true _ _ k) (eqb-true _ _ l) (eqb-true _ _ i))
    go (inr n) false p later = later n

-- ---- pieces in another order
module _ (limits : Limits) (s t : List ℕ) (r : Shuffled (pieces s) (pieces t)) (serial : List ℕ) (p : opens_as limits (set_of s) serial ≡ true) where
  pub same-sorted : sorted (pieces s) ≡ sorted (pieces t)
  same-sorted = sym (sorted-is (pieces t) (sorted (pieces s)) (onward (back r) (back (shuffled (pieces s)))) (ascends limits (sorted (pieces s)) serial p))

  pub answer-accepted : (room : ℕ) → ends s ≡ ends t → writing limits s serial room ≡ writing limits t serial room
  answer-accepted room e =
      let l : length (pieces s) ≡ length (pieces t) = sym (sorted-length (pieces s)) ∙ ap length same-sorted ∙ sorted-length (pieces t) in
      rw (e, l, same-sorted)

pub answer-refused : (limits : Limits) (stream serial : List ℕ) (room : ℕ) → opens_as limits (set_of stream) serial ≡ false → writing limits stream serial room ≡ pick (not (ends stream)) 20 21
answer-refused limits stream serial room p = rw p (ap (pick (not (ends stream)) 20) (go (too_large stream)))
  where
    go : (b : Bool) → ◌≡◌ {A = ℕ} (pick b 21 21) 21
    go true = refl
    go false = refl
