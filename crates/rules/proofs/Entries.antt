-- A pass over the entries, asking rules: one entry, one that is passed by, and the end. No axiom.
use Rattle.std.specs.Prelude.{Option, Some}
use Rattle.octets.proofs.Vocabulary.{◌≡◌, refl, sym, ap, ◌∙◌, ℕ, ◌+◌, ◌-◌, ◌*◌, ◌/◌, ◌≤◌, ◌<◌, List, [], ◌∷◌, Bool, true, false, ◌&&◌, ◌||◌, not, length, drop, get_elem?, length-drop, length-take, eqb, leb, ltb, arith, eq-eqb, ne_eqb, le-leb, lt-leb, leb-true}
use Rattle.octets.specs.Octets.{word}
use Rattle.octets.specs.Sentences.{every}
use Rattle.octets.specs.Table.{has, with}
use Rattle.octets.proofs.Sentences.{same_test}
use Rattle.octets.proofs.Tables.{all_of, has-none, has-with}
use Rattle.descriptors.specs.declared.limits.Limits.{Limits}
use Rattle.descriptors.specs.Configuration.{bConfigurationValue}
use Rattle.sets.specs.declared.Entry.{Entry}
use Rattle.sets.specs.Contents.{body_of}
use Rattle.sets.specs.Pieces.{piece_for}
use Rattle.sets.specs.Strings.{words, listed}
use Rattle.sets.specs.Opening.{distinct_values}
use Rattle.sets.specs.Found.{found}
use Rattle.sets.proofs.Devices.{at_same, at-missing}
use Rattle.sets.proofs.Strings.{words-length, words_more, words-end}
use Rattle.rules.specs.declared.Fault.{Fault}
use Rattle.rules.specs.Findings.{asked, byte_at}
use Rattle.rules.specs.Frame.{entry_findings, contents_asked}
use Rattle.rules.specs.Device.{one_findings, device_entry_findings, behind_strings, store_findings, store_entry_findings}
use Rattle.rules.specs.Configuration.{configuration_findings, distinct_from, configurations_from}
use Rattle.rules.specs.Strings.{languages_from, string_entry_findings, strings_from, listed_from, body_references, references_from}
use Rattle.rules.specs.After.{after, is_first, last_of}
use Rattle.rules.proofs.After.{or_broken, after-append}

-- where the next entry stands
pub next-at : (i : ℕ) → 4 + 8 * i + 8 ≡ 4 + 8 * (i + 1)
next-at i = omega arith

-- ---- group 2
module _ (limits : Limits) (end i : ℕ) (last : Option Entry) (start : ℕ) (f : Option Fault) where
  pub contents-turn : (e : Entry) (es : List Entry) {g : Option Fault} → g ≡ after f (entry_findings limits (4 + 8 * i) (is_first last) (last_of last) start e)
      → after f (contents_asked limits end (4 + 8 * i) (is_first last) (last_of last) start (e ∷ es)) ≡ after g (contents_asked limits end (4 + 8 * (i + 1)) false e (start + e.length) es)
  unfolding contents_asked
  contents-turn e es p =
      after-append f (entry_findings limits (4 + 8 * i) (is_first last) (last_of last) start e) _ ∙ rw (p, next-at i)

  pub contents-end : (n : ℕ) → i ≡ n → after f (contents_asked limits end (4 + 8 * i) (is_first last) (last_of last) start []) ≡ or_broken f (asked 205 (byte_at 0 (2 + 8 * n) 0) (eqb start end))
  unfolding contents_asked after
  contents-end n p = let q : 4 + 8 * i - 2 ≡ 2 + 8 * n = omega arith in rw q

-- ---- group 3
module _ (limits : Limits) (set : List ℕ) where
  pub device-found : (es : List Entry) {e : Entry} → found (get_elem? es 0) ≡ Some e → device_entry_findings limits set es ≡ (asked 301 (byte_at 0 0 12) (leb (length es) 1) ∷ one_findings limits set e)
  device-found [] p = at-missing (sym p)
  device-found (d ∷ []) p = rw (at_same p)
  device-found (d ∷ x ∷ xs) p = rw (← at_same p, lt-leb (length (d ∷ x ∷ xs)) 1 (omega arith))

module _ (set : List ℕ) where
  pub store_found : (es : List Entry) {e : Entry} → found (get_elem? es 0) ≡ Some e → store_entry_findings set es ≡ (asked 312 (byte_at 0 (behind_strings set) 8) (leb (length es) 1) ∷ store_findings set (behind_strings set) e)
  store_found [] p = at-missing (sym p)
  store_found (d ∷ []) p = rw (at_same p)
  store_found (d ∷ x ∷ xs) p = rw (← at_same p, lt-leb (length (d ∷ x ∷ xs)) 1 (omega arith))

-- ---- group 4
-- the values of the bodies that were there, as a table has them
abbrev pub Seen : List ℕ → List (List ℕ) → Type 0
Seen seen earlier = (body : List ℕ) → bConfigurationValue body < 256 → not (has seen (bConfigurationValue body)) ≡ distinct_from earlier body

pub seen_none : Seen (all_of 0) []
unfolding every
seen_none body k = rw (has-none (bConfigurationValue body))

neither : (a b : Bool) → not (a || b) ≡ (not a && not b)
neither true b = refl
neither false b = refl

pub seen_more : (seen : List ℕ) (earlier : List (List ℕ)) (b : List ℕ) → bConfigurationValue b < 256 → length seen ≡ 8 → Seen seen earlier
    → Seen (with seen (bConfigurationValue b)) (b ∷ earlier)
unfolding every
seen_more seen earlier b h l s body k =
    let v = bConfigurationValue body in
    ap not (has-with seen (bConfigurationValue b) h l v) ∙ neither (eqb (bConfigurationValue b) v) (has seen v) ∙ ap (λ t. distinct_values b body && t) (s body k)

module _ (limits : Limits) (set : List ℕ) (i n : ℕ) (earlier : List (List ℕ)) (f : Option Fault) (e : Entry) (es : List Entry) where
  pub configuration-in : e.kind ≡ 2 → {g : Option Fault}
      → g ≡ after f (configuration_findings limits (4 + 8 * i) n (distinct_from earlier (body_of set e)) e (body_of set e))
      → after f (configurations_from limits set (4 + 8 * i) n earlier (e ∷ es))
      ≡ after g (configurations_from limits set (4 + 8 * (i + 1)) (n + 1) (body_of set e ∷ earlier) es)
  unfolding configurations_from
  configuration-in k p =
      rw (eq-eqb e.kind 2 k)
      (after-append f (configuration_findings limits (4 + 8 * i) n (distinct_from earlier (body_of set e)) e (body_of set e)) _ ∙ rw (p, next-at i))

  pub configuration-past : (e.kind ≡ 2 → ⊥)
      → after f (configurations_from limits set (4 + 8 * i) n earlier (e ∷ es)) ≡ after f (configurations_from limits set (4 + 8 * (i + 1)) n earlier es)
  unfolding configurations_from
  configuration-past k = rw (ne_eqb e.kind 2 k, next-at i)

pub configurations-end : (limits : Limits) (set : List ℕ) (at n : ℕ) (earlier : List (List ℕ)) (f : Option Fault) → after f (configurations_from limits set at n earlier []) ≡ f
unfolding configurations_from after
configurations-end limits set at n earlier f = refl

-- ---- group 5
-- the languages that string 0 lists, a word at a time: one more, and none is left
module _ (body : List ℕ) (i : ℕ) where
  pub words-next : i < length body / 2 → words (drop (2 * i) body) ≡ word body (2 * i) ∷ words (drop (2 * (i + 1)) body)
  words-next h = let e : 2 * i + 2 ≡ 2 * (i + 1) = omega arith in rw e at (words_more body (2 * i) (omega arith))

  pub words-none : length body / 2 ≤ i → words (drop (2 * i) body) ≡ []
  words-none h = words-end body (2 * i) (omega arith)

pub languages-turn : (start at last l : ℕ) (ls : List ℕ) (f : Option Fault)
    → after f (languages_from start at last (l ∷ ls))
    ≡ after (or_broken (or_broken f (asked 507 (byte_at start at 0) (leb 1 l))) (asked 508 (byte_at start at 0) (ltb last l))) (languages_from start (at + 2) l ls)
unfolding languages_from after
languages-turn start at last l ls f = refl

pub languages-end : (start at last : ℕ) (f : Option Fault) → after f (languages_from start at last []) ≡ f
unfolding languages_from after
languages-end start at last f = refl

-- how many languages a body lists, by its length
module _ (zero : List ℕ) where
  many : length (words (drop 2 zero)) ≡ (length zero - 2) / 2
  many = words-length (drop 2 zero) ∙ rw length-drop

  pub one-at-least : leb 4 (length zero) ≡ leb 1 (length (words (drop 2 zero)))
  one-at-least = let m = many in same_test _ _
      (λ p. le-leb 1 (length (words (drop 2 zero))) (let q = leb-true 4 (length zero) p in omega arith))
      (λ p. le-leb 4 (length zero) (let q = leb-true 1 (length (words (drop 2 zero))) p in omega arith))

  pub four-at-most : leb (length zero) 11 ≡ leb (length (words (drop 2 zero))) 4
  four-at-most = let m = many in same_test _ _
      (λ p. le-leb (length (words (drop 2 zero))) 4 (let q = leb-true (length zero) 11 p in omega arith))
      (λ p. le-leb (length zero) 11 (let q = leb-true (length (words (drop 2 zero))) 4 p in omega arith))

module _ (set ls : List ℕ) (serial i : ℕ) (f : Option Fault) (e : Entry) (es : List Entry) where
  pub string-in : e.kind ≡ 3 → {g : Option Fault} → g ≡ after f (string_entry_findings ls serial (4 + 8 * i) e (body_of set e))
      → after f (strings_from set ls serial (4 + 8 * i) (e ∷ es)) ≡ after g (strings_from set ls serial (4 + 8 * (i + 1)) es)
  unfolding strings_from
  string-in k p = rw (eq-eqb e.kind 3 k) (after-append f (string_entry_findings ls serial (4 + 8 * i) e (body_of set e)) _ ∙ rw (p, next-at i))

  pub string-past : (e.kind ≡ 3 → ⊥) → after f (strings_from set ls serial (4 + 8 * i) (e ∷ es)) ≡ after f (strings_from set ls serial (4 + 8 * (i + 1)) es)
  unfolding strings_from
  string-past k = rw (ne_eqb e.kind 3 k, next-at i)

pub strings-end : (set ls : List ℕ) (serial at : ℕ) (f : Option Fault) → after f (strings_from set ls serial at []) ≡ f
unfolding strings_from after
strings-end set ls serial at f = refl

module _ (set ls : List ℕ) (i : ℕ) (f : Option Fault) (e : Entry) (es : List Entry) where
  pub listed_in : e.kind ≡ 3 → {g : Option Fault} → g ≡ or_broken f (asked 509 (byte_at 0 (4 + 8 * i) 2) (listed ls (piece_for set e)))
      → after f (listed_from set ls (4 + 8 * i) (e ∷ es)) ≡ after g (listed_from set ls (4 + 8 * (i + 1)) es)
  unfolding listed_from after
  listed_in k p = rw (eq-eqb e.kind 3 k, p, next-at i)

  pub listed-past : (e.kind ≡ 3 → ⊥) → after f (listed_from set ls (4 + 8 * i) (e ∷ es)) ≡ after f (listed_from set ls (4 + 8 * (i + 1)) es)
  unfolding listed_from
  listed-past k = rw (ne_eqb e.kind 3 k, next-at i)

pub listed-end : (set ls : List ℕ) (at : ℕ) (f : Option Fault) → after f (listed_from set ls at []) ≡ f
unfolding listed_from after
listed-end set ls at f = refl

module _ (set : List ℕ) (f : Option Fault) (e : Entry) (es : List Entry) where
  pub references-in : e.kind ≡ 2 → {g : Option Fault} → g ≡ after f (body_references set e.offset (body_of set e))
      → after f (references_from set (e ∷ es)) ≡ after g (references_from set es)
  unfolding references_from
  references-in k p = rw (eq-eqb e.kind 2 k) (after-append f (body_references set e.offset (body_of set e)) _ ∙ rw p)

  pub references-past : (e.kind ≡ 2 → ⊥) → after f (references_from set (e ∷ es)) ≡ after f (references_from set es)
  unfolding references_from
  references-past k = rw (ne_eqb e.kind 2 k)

pub references-end : (set : List ℕ) (f : Option Fault) → after f (references_from set []) ≡ f
unfolding references_from after
references-end set f = refl

-- an entry of a list of bytes gives its body a length below 65,536
pub short : (set : List ℕ) (e : Entry) → length (body_of set e) ≤ e.length
short set e = simp length-take (omega arith)
