-- The laws of a set's contents: its entries, one after another, and the bodies that they name. No axiom.
use Rattle.octets.proofs.Vocabulary.{◌≡◌, refl, sym, ap, ◌∙◌, ℕ, zero, suc, ◌+◌, ◌-◌, ◌*◌, ◌≤◌, ◌<◌, List, [], ◌∷◌, List-as-Memᴰ, List·Memᴰ·head, List·Memᴰ·tail, Bool, true, false, ◌&&◌, ◌||◌, and-false, some, none, length, take, drop, get_elem?, eqb, leb, ltb, get_or-take, drop-drop, arith, sub-zero, zero-add, eqb-true, eqb-false, ltb-true, ltb-false, lt-ltb, le-ltb, eq-eqb, ne_eqb}
use Rattle.octets.proofs.Sentences.{cases}
use Rattle.octets.specs.Octets.{byte}
use Rattle.octets.specs.Sentences.{pick, every, any, only, first, neighbours}
use Rattle.descriptors.specs.declared.limits.Limits.{Limits}
use Rattle.descriptors.specs.Limits.{named}
use Rattle.sets.specs.declared.Entry.{Entry}
use Rattle.sets.specs.Contents.{total, count, entry_of, entries_from, entries, entries_of, is_kind, before, end_to_end, good_contents}
use Rattle.sets.specs.Checks.{good_entry, good_placed, rank_of}

-- ---- reading
-- an entry is its first eight bytes, or as many as are there
pub entry_whole : (bytes : List ℕ) (n : ℕ) → 8 ≤ n → entry_of (take n bytes) ≡ entry_of bytes
entry_whole bytes n h =
    let at : (i : ℕ) → i < 8 → byte (take n bytes) i ≡ byte bytes i = λ i l. get_or-take n bytes i 0 (omega arith) in
    rw (at 0 (omega arith), at 1 (omega arith), at 2 (omega arith), at 3 (omega arith), at 4 (omega arith), at 5 (omega arith), at 6 (omega arith), at 7 (omega arith))

-- ---- the entries from the i-th on
abbrev pub rest : List ℕ → ℕ → List Entry
rest set i = entries_from (count set - i) (drop (4 + 8 * i) set)

pub rest-start : (set : List ℕ) → entries set ≡ rest set 0
rest-start set = rw sub-zero

pub rest_end : (set : List ℕ) (i : ℕ) → count set ≤ i → rest set i ≡ []
unfolding entries_from
rest_end set i h = let e : count set - i ≡ 0 = omega arith in rw e

from_more : (n : ℕ) (bytes : List ℕ) → entries_from (suc n) bytes ≡ entry_of bytes ∷ entries_from n (drop 8 bytes)
unfolding entries_from
from_more n bytes = refl

pub rest_more : (set : List ℕ) (i : ℕ) → i < count set → rest set i ≡ entry_of (drop (4 + 8 * i) set) ∷ rest set (i + 1)
rest_more set i h =
    let e : count set - i ≡ suc (count set - (i + 1)) = omega arith in
    let f : 4 + 8 * i + 8 ≡ 4 + 8 * (i + 1) = omega arith in
    rw (e, from_more, drop-drop, f)

-- a turn of a loop over the entries, and its end: n is what the code read for the count, e for the i-th entry
module _ (set : List ℕ) (n : ℕ) (p : n ≡ count set) (i : ℕ) where
  pub next-entry : i < n → (e : Entry) → e ≡ entry_of (drop (4 + 8 * i) set) → rest set i ≡ e ∷ rest set (i + 1)
  next-entry h e q = rest_more set i (rw p at h) ∙ rw q

  pub no-entry : n ≤ i → rest set i ≡ []
  no-entry h = rest_end set i (rw p at h)

-- ---- at the head of a list and at its end
module _ {A : Type 0} (f : A → Bool) (x : A) (xs : List A) where
  pub first-here : f x ≡ true → first f (x ∷ xs) ≡ some x
  unfolding first
  first-here p = rw p

  pub first-later : f x ≡ false → first f (x ∷ xs) ≡ first f xs
  unfolding first
  first-later p = rw p

  pub only_here : f x ≡ true → only f (x ∷ xs) ≡ x ∷ only f xs
  unfolding only
  only_here p = rw p

  pub only-later : f x ≡ false → only f (x ∷ xs) ≡ only f xs
  unfolding only
  only-later p = rw p

  pub every-cons : every f (x ∷ xs) ≡ (f x && every f xs)
  unfolding every
  every-cons = refl

  pub any-cons : any f (x ∷ xs) ≡ (f x || any f xs)
  unfolding any
  any-cons = refl

module _ {A : Type 0} (f : A → Bool) where
  pub every-empty : every f [] ≡ true
  unfolding every
  every-empty = refl

  pub any-empty : any f [] ≡ false
  unfolding any
  any-empty = refl

  pub first-empty : first f [] ≡ none
  unfolding first
  first-empty = refl

  pub only-empty : only f [] ≡ []
  unfolding only
  only-empty = refl

-- the entries of one type, from the i-th entry on: a turn of a loop over them, and its end
abbrev pub rest_of : ℕ → List ℕ → ℕ → List Entry
rest_of kind set i = only (is_kind kind) (rest set i)

module _ (kind : ℕ) (set : List ℕ) (n : ℕ) (p : n ≡ count set) (i : ℕ) where
  pub kind-next : i < n → (e : Entry) → e ≡ entry_of (drop (4 + 8 * i) set) → e.kind ≡ kind → rest_of kind set i ≡ e ∷ rest_of kind set (i + 1)
  kind-next h e q k = ap (only (is_kind kind)) (next-entry set n p i h e q) ∙ only_here (is_kind kind) e (rest set (i + 1)) (eq-eqb e.kind kind k)

  pub kind-other : i < n → (e : Entry) → e ≡ entry_of (drop (4 + 8 * i) set) → (e.kind ≡ kind → ⊥) → rest_of kind set i ≡ rest_of kind set (i + 1)
  kind-other h e q k = ap (only (is_kind kind)) (next-entry set n p i h e q) ∙ only-later (is_kind kind) e (rest set (i + 1)) (ne_eqb e.kind kind k)

  pub kind-end : n ≤ i → rest_of kind set i ≡ []
  kind-end h = ap (only (is_kind kind)) (no-entry set n p i h) ∙ only-empty (is_kind kind)

-- ---- the law of a loop over the entries: before the i-th, what is asked of all of them is asked of those from there on. n is what the code read
-- for the count, e for the i-th entry
module _ {A : Type 0} (asks : List Entry → A) {whole : A} (set : List ℕ) (n : ℕ) (p : n ≡ count set) (i : ℕ) (inv : whole ≡ asks (rest set i)) where
  pub asked-next : i < n → (e : Entry) → e ≡ entry_of (drop (4 + 8 * i) set) → whole ≡ asks (e ∷ rest set (i + 1))
  asked-next h e q = inv ∙ ap asks (next-entry set n p i h e q)

  pub asked-end : n ≤ i → whole ≡ asks []
  asked-end h = inv ∙ ap asks (no-entry set n p i h)

-- the same of the entries of one type: this one is of it, or not, or none is left
module _ {A : Type 0} (kind : ℕ) (asks : List Entry → A) {whole : A} (set : List ℕ) (n : ℕ) (p : n ≡ count set) (i : ℕ) (inv : whole ≡ asks (rest_of kind set i)) where
  pub asked_here : i < n → (e : Entry) → e ≡ entry_of (drop (4 + 8 * i) set) → e.kind ≡ kind → whole ≡ asks (e ∷ rest_of kind set (i + 1))
  asked_here h e q k = inv ∙ ap asks (kind-next kind set n p i h e q k)

  pub asked-other : i < n → (e : Entry) → e ≡ entry_of (drop (4 + 8 * i) set) → (e.kind ≡ kind → ⊥) → whole ≡ asks (rest_of kind set (i + 1))
  asked-other h e q k = inv ∙ ap asks (kind-other kind set n p i h e q k)

  pub asked-none : n ≤ i → whole ≡ asks []
  asked-none h = inv ∙ ap asks (kind-end kind set n p i h)

-- the k-th of a list: its head, or one behind it
module _ {A : Type 0} (x : A) (xs : List A) where
  pub kth-here : (k : ℕ) → k ≡ 0 → get_elem? (x ∷ xs) k ≡ some x
  kth-here k q = rw q

  pub kth-passed : (k : ℕ) → (k ≡ 0 → ⊥) → get_elem? (x ∷ xs) k ≡ get_elem? xs (k - 1)
  kth-passed zero q = absurd (q refl)
  kth-passed (suc k) q = let e : suc k - 1 ≡ k = omega arith in rw e

-- ---- the order by one number
module _ (k l i k' l' i' : ℕ) (hl : l < 65536) (hi : i < 256) (hl' : l' < 65536) (hi' : i' < 256) where
  under : 16777216 * k + 256 * l + i < 16777216 * k' + 256 * l' + i' → ltb (16777216 * k + 256 * l + i) (16777216 * k' + 256 * l' + i') ≡ true
  under = lt-ltb (16777216 * k + 256 * l + i) (16777216 * k' + 256 * l' + i')

  over : 16777216 * k' + 256 * l' + i' ≤ 16777216 * k + 256 * l + i → ltb (16777216 * k + 256 * l + i) (16777216 * k' + 256 * l' + i') ≡ false
  over = le-ltb (16777216 * k + 256 * l + i) (16777216 * k' + 256 * l' + i')

  pub by_rank : ltb (16777216 * k + 256 * l + i) (16777216 * k' + 256 * l' + i') ≡ (ltb k k' || (eqb k k' && (ltb l l' || (eqb l l' && ltb i i'))))
  by_rank = cases (ltb k k')
      (λ p. let q = ltb-true k k' p in rw p (under (omega arith)))
      (λ p. let q = ltb-false k k' p in rw p (cases (eqb k k')
      (λ r. let s = eqb-true k k' r in rw r (cases (ltb l l')
      (λ t. let u = ltb-true l l' t in rw t (under (omega arith)))
      (λ t. let u = ltb-false l l' t in rw t (cases (eqb l l')
      (λ v. let w = eqb-true l l' v in rw v (cases (ltb i i')
      (λ x. let y = ltb-true i i' x in rw x (under (omega arith)))
      (λ x. let y = ltb-false i i' x in rw x (over (omega arith)))))
      (λ v. let w = eqb-false l l' v in rw v (over (omega arith)))))))
      (λ r. let s = eqb-false k k' r in rw r (over (omega arith)))))

-- ---- group 2, entry by entry
unfoldable pub contents_from : Limits → ℕ → Bool → Entry → ℕ → List Entry → Bool
contents_from limits end first last start [] = eqb start end
contents_from limits end first last start (e ∷ es) = good_entry limits first last start e && contents_from limits end false e (start + e.length) es

module _ (limits : Limits) (end : ℕ) where
  pub contents-end : (first : Bool) (last : Entry) (start : ℕ) → contents_from limits end first last start [] ≡ eqb start end
  unfolding contents_from
  contents-end first last start = refl

  pub contents-more : (first : Bool) (last : Entry) (start : ℕ) (e : Entry) (es : List Entry)
      → contents_from limits end first last start (e ∷ es) ≡ (good_entry limits first last start e && contents_from limits end false e (start + e.length) es)
  unfolding contents_from
  contents-more first last start e es = refl

  -- the i-th entry is good: on to the next
  pub contents-turn : (i : ℕ) (last : Entry) (start : ℕ) (e : Entry) (es : List Entry) → good_entry limits (eqb i 0) last start e ≡ true
      → contents_from limits end (eqb i 0) last start (e ∷ es) ≡ contents_from limits end (eqb (i + 1) 0) e (start + e.length) es
  contents-turn i last start e es p = rw (contents-more, p, ne_eqb (i + 1) 0 (λ q. omega arith))

  sorted : (n l o b n' b' l' o' : Bool) → (n && l && o && b && (n' && b' && l' && o')) ≡ ((n && n') && (b && b') && (l && l') && (o && o'))
  sorted false l o b n' b' l' o' = refl
  sorted true false o b n' b' l' o' = simp and-false
  sorted true true false b n' b' l' o' = simp and-false
  sorted true true true false n' b' l' o' = simp and-false
  sorted true true true true n' b' l' o' = refl

  after : (last : Entry) (start : ℕ) (es : List Entry)
      → contents_from limits end false last start es
      ≡ (every (λ e. named limits.entries e.kind) es && neighbours before (last ∷ es) && every (λ e. leb 2 e.length) es && end_to_end start end es)
  unfolding contents_from every neighbours end_to_end
  after last start [] = refl
  after last start (e ∷ es) = rw (after e (start + e.length) es) (sorted (named limits.entries e.kind) (leb 2 e.length) (eqb e.offset start) (before last e) _ _ _ _)

  pub contents-all : (last : Entry) (start : ℕ) (es : List Entry)
      → contents_from limits end true last start es
      ≡ (every (λ e. named limits.entries e.kind) es && neighbours before es && every (λ e. leb 2 e.length) es && end_to_end start end es)
  unfolding contents_from every neighbours end_to_end
  contents-all last start [] = refl
  contents-all last start (e ∷ es) = rw (after e (start + e.length) es) (sorted (named limits.entries e.kind) (leb 2 e.length) (eqb e.offset start) true _ _ _ _)

-- ---- counting: one entry more is of a type, or not
module _ (set : List ℕ) (n : ℕ) (p : n ≡ count set) (i : ℕ) (h : i < n) (e : Entry) (q : e ≡ entry_of (drop (4 + 8 * i) set)) where
  count_turn : (kind k : ℕ) → k + length (rest_of kind set i) ≡ pick (eqb e.kind kind) (k + 1) k + length (rest_of kind set (i + 1))
  count_turn kind k = cases (eqb e.kind kind)
      (λ t. rw (t, kind-next kind set n p i h e q (eqb-true e.kind kind t)) (omega arith))
      (λ t. rw (t, kind-other kind set n p i h e q (eqb-false e.kind kind t)))

  pub counts-on : (kind k : ℕ) → length (entries_of kind set) ≡ k + length (rest_of kind set i)
      → length (entries_of kind set) ≡ pick (eqb e.kind kind) (k + 1) k + length (rest_of kind set (i + 1))
  counts-on kind k inv = inv ∙ count_turn kind k

pub counts_start : (kind : ℕ) (set : List ℕ) → length (entries_of kind set) ≡ 0 + length (rest_of kind set 0)
counts_start kind set = rw zero-add (ap (λ es. length (only (is_kind kind) es)) (rest-start set))

pub counts_end : (kind k : ℕ) (set : List ℕ) (n : ℕ) (p : n ≡ count set) (i : ℕ) → length (entries_of kind set) ≡ k + length (rest_of kind set i) → n ≤ i → k ≡ length (entries_of kind set)
counts_end kind k set n p i inv h = sym (inv ∙ rw (kind-end kind set n p i h) (omega arith))

pub pick-few : (b : Bool) (k i : ℕ) → k ≤ i → pick b (k + 1) k ≤ i + 1
pick-few true k i h = omega arith
pick-few false k i h = omega arith

-- ---- the one pass over the contents: the entries before the i-th are good and counted, and the last of them has this rank
pub record Outlined (limits : Limits) (set : List ℕ) (start rank devices configurations i : ℕ) : Type 0 where
  pub last : Entry
  pub language : last.language < 65536
  pub index : last.index < 256
  pub ranked : rank ≡ rank_of last
  pub bound : start ≤ 2044 + 65535 * i
  pub few : devices ≤ i
  pub fewer : configurations ≤ i
  pub good : good_contents limits set ≡ contents_from limits (total set) (eqb i 0) last start (rest set i)
  pub one : length (entries_of 1 set) ≡ devices + length (rest_of 1 set i)
  pub two : length (entries_of 2 set) ≡ configurations + length (rest_of 2 set i)

module _ (limits : Limits) (set : List ℕ) {start rank devices configurations : ℕ} (i : ℕ) (o : Outlined limits set start rank devices configurations i)
    (n : ℕ) (p : n ≡ count set) (h : i < n) (e : Entry) (q : e ≡ entry_of (drop (4 + 8 * i) set)) (l : e.language < 65536) (x : e.index < 256) where
  -- what the code tests of the next entry
  next-good : contents_from limits (total set) (eqb i 0) o.last start (rest set i)
      ≡ (good_placed limits e start (eqb i 0 || ltb rank (rank_of e)) && contents_from limits (total set) false e (start + e.length) (rest set (i + 1)))
  next-good =
      ap (contents_from limits (total set) (eqb i 0) o.last start) (next-entry set n p i h e q)
      ∙ contents-more limits (total set) (eqb i 0) o.last start e (rest set (i + 1))
      ∙ rw (o.ranked, by_rank o.last.kind o.last.language o.last.index e.kind e.language e.index o.language o.index l x)

  pub outline-not : good_placed limits e start (eqb i 0 || ltb rank (rank_of e)) ≡ false → false ≡ good_contents limits set
  outline-not z = sym (o.good ∙ next-good ∙ rw z)

  pub outline-on : good_placed limits e start (eqb i 0 || ltb rank (rank_of e)) ≡ true → start + e.length ≤ 2044 + 65535 * (i + 1)
      → Outlined limits set (start + e.length) (rank_of e) (pick (eqb e.kind 1) (devices + 1) devices) (pick (eqb e.kind 2) (configurations + 1) configurations) (i + 1)
  outline-on z b = record {
    last = e;
    language = l;
    index = x;
    ranked = refl;
    bound = b;
    few = pick-few (eqb e.kind 1) devices i o.few;
    fewer = pick-few (eqb e.kind 2) configurations i o.fewer;
    good = o.good ∙ next-good ∙ rw (z, ne_eqb (i + 1) 0 (λ r. omega arith));
    one = counts-on set n p i h e q 1 devices o.one;
    two = counts-on set n p i h e q 2 configurations o.two;
  }

-- no entry is left: the last body has to end at the total
pub outline-end : (limits : Limits) (set : List ℕ) {start rank devices configurations : ℕ} (i : ℕ) → Outlined limits set start rank devices configurations i
    → (n : ℕ) → n ≡ count set → n ≤ i → good_contents limits set ≡ eqb start (total set)
outline-end limits set {start} i o n p h =
    o.good ∙ ap (contents_from limits (total set) (eqb i 0) o.last start) (no-entry set n p i h) ∙ contents-end limits (total set) (eqb i 0) o.last start

-- ---- the i-th entry is one of the entries
from_member : (n : ℕ) (bytes : List ℕ) (i : ℕ) → i < n → List-as-Memᴰ (entry_of (drop (8 * i) bytes)) (entries_from n bytes)
unfolding entries_from
from_member zero bytes i h = absurd (omega arith)
from_member (suc n) bytes zero h = List·Memᴰ·head refl
from_member (suc n) bytes (suc i) h =
    let e : 8 + 8 * i ≡ 8 * suc i = omega arith in
    List·Memᴰ·tail (rw (drop-drop, e) at (from_member n (drop 8 bytes) i (omega arith)))

pub entry-member : (set : List ℕ) (i : ℕ) → i < count set → List-as-Memᴰ (entry_of (drop (4 + 8 * i) set)) (entries set)
entry-member set i h = rw drop-drop at (from_member (count set) (drop 4 set) i h)

-- ---- how many there are
from-length : (n : ℕ) (bytes : List ℕ) → length (entries_from n bytes) ≡ n
unfolding entries_from
from-length zero bytes = refl
from-length (suc n) bytes = ap suc (from-length n (drop 8 bytes))

three-types : (es : List Entry) → length (only (is_kind 1) es) + length (only (is_kind 2) es) + length (only (is_kind 3) es) ≤ length es
unfolding only
three-types [] = omega arith
three-types (e ∷ es) =
    let t = three-types es in
    cases (eqb e.kind 1)
    (λ p. let k = eqb-true e.kind 1 p in rw (p, ne_eqb e.kind 2 (λ q. omega arith), ne_eqb e.kind 3 (λ q. omega arith)) (omega arith))
    (λ p. rw p (cases (eqb e.kind 2)
    (λ q. let k = eqb-true e.kind 2 q in rw (q, ne_eqb e.kind 3 (λ r. omega arith)) (omega arith))
    (λ q. rw q (cases (eqb e.kind 3) (λ r. rw r (omega arith)) (λ r. rw r (omega arith))))))

nothing-there : (es : List Entry) → length es ≡ 0 → es ≡ []
nothing-there [] p = refl
nothing-there (e ∷ es) p = absurd (omega arith)

module _ (set : List ℕ) (n : ℕ) (p : n ≡ length (entries_of 2 set)) (one : length (entries_of 1 set) ≡ 1) where
  pub few-entries : n + 1 ≤ count set
  few-entries = omega (arith, three-types (entries set), from-length (count set) (drop 4 set))

  -- no entry but the device's and the configurations': no string
  pub none-besides : count set ≡ n + 1 → entries_of 3 set ≡ []
  none-besides q = nothing-there (entries_of 3 set) (omega (arith, three-types (entries set), from-length (count set) (drop 4 set)))

-- all of a type are passed once so many were
module _ (kind : ℕ) (set : List ℕ) (n k i : ℕ) (p : n ≡ length (entries_of kind set)) (inv : length (entries_of kind set) ≡ k + length (rest_of kind set i)) where
  pub all-passed : n ≤ k → rest_of kind set i ≡ []
  all-passed h = nothing-there (rest_of kind set i) (omega arith)

  pub more-there : k < n → i < count set
  more-there h = cases (ltb i (count set)) (λ q. ltb-true i (count set) q)
      (λ q. absurd (let z : length (rest_of kind set i) ≡ 0 = ap length (kind-end kind set (count set) refl i (ltb-false i (count set) q)) in omega arith))
