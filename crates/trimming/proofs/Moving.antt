-- Writing over what is read: entries that stay and bodies that move down. No axiom.
use Rattle.octets.proofs.Vocabulary.{◌≡◌, refl, sym, ap, ◌∙◌, ℕ, ◌+◌, ◌-◌, ◌≤◌, List, [], ◌∷◌, ◌++◌, map, Bool, true, false, length, take, drop, length-append, length-drop, length-take, eqb, sets-eq, paste, drop-paste, drop-drop, length-take-le, arith, eqb-true}
use Rattle.octets.specs.Octets.{part}
use Rattle.octets.specs.Sentences.{only}
use Rattle.octets.proofs.Sentences.{both, cases}
use Rattle.sets.specs.declared.Entry.{Entry}
use Rattle.sets.specs.Contents.{body_of, end_to_end}
use Rattle.sets.proofs.Entries.{only_here, only-later, only-empty}
use Rattle.set_writer.proofs.Laid.{bodies-none, bodies-more}
use Rattle.buffers.specs.declared.Writer.{Writer}
use Rattle.buffers.specs.Written.{Wrote}
use Rattle.sets.specs.Pieces.{piece_for}
use Rattle.trimming.specs.Entries.{entry_with, contents_with, lengths, bodies_with}

pub length-take-le-any : (n : ℕ) (l : List ℕ) → length (take n l) ≤ n
length-take-le-any n l = rw length-take (omega arith)

-- ---- the entries that are left, where the first of them stays, goes, or there is none
module _ (f : Entry → Bool) {left : List Entry} {e : Entry} {es : List Entry} (q : left ≡ e ∷ es) where
  pub stays : f e ≡ true → only f left ≡ e ∷ only f es
  stays p = ap (only f) q ∙ only_here f e es p

  pub goes : f e ≡ false → only f left ≡ only f es
  goes p = ap (only f) q ∙ only-later f e es p

pub none_left : (f : Entry → Bool) {left : List Entry} → left ≡ [] → only f left ≡ []
none_left f q = ap (only f) q ∙ only-empty f

pub contents-more : {left : List Entry} {e : Entry} {es : List Entry} (o : ℕ) → left ≡ e ∷ es → contents_with o left ≡ entry_with e o ++ contents_with (o + e.length) es
unfolding contents_with
contents-more o q = rw q

pub contents-none : {left : List Entry} (o : ℕ) → left ≡ [] → contents_with o left ≡ []
unfolding contents_with
contents-none o q = rw q

pub lengths-more : {left : List Entry} {e : Entry} {es : List Entry} → left ≡ e ∷ es → lengths left ≡ e.length + lengths es
unfolding lengths
lengths-more q = rw q

bodies-next : (set : List ℕ) {left : List Entry} {e : Entry} {es : List Entry} → left ≡ e ∷ es → bodies_with set left ≡ body_of set e ++ bodies_with set es
bodies-next set {e = e} {es} q = ap (bodies_with set) q ∙ bodies-more (piece_for set e) (map (piece_for set) es)

pub bodies-end : (set : List ℕ) {left : List Entry} → left ≡ [] → bodies_with set left ≡ []
bodies-end set q = ap (bodies_with set) q ∙ bodies-none

-- ---- end to end
up : (start end : ℕ) (es : List Entry) → end_to_end start end es ≡ true → start ≤ end
unfolding end_to_end
up start end [] p = omega (arith, eqb-true start end p)
up start end (e ∷ es) p = omega (arith, up (start + e.length) end es (both (eqb e.offset start) (end_to_end (start + e.length) end es) p).1)

pub record Next (start end : ℕ) (e : Entry) (es : List Entry) : Type 0 where
  pub offset : e.offset ≡ start
  pub later : end_to_end (start + e.length) end es ≡ true
  pub inside : start + e.length ≤ end

pub next-body : {start end : ℕ} {left : List Entry} {e : Entry} {es : List Entry} → left ≡ e ∷ es → end_to_end start end left ≡ true → Next start end e es
unfolding end_to_end
next-body {start} {end} {left} {e} {es} q p =
    let (o, r) = both (eqb e.offset start) (end_to_end (start + e.length) end es) (rw q at p) in
    record { offset = eqb-true e.offset start o; later = r; inside = up (start + e.length) end es r }

pub bodies-here : (set : List ℕ) (f : Entry → Bool) {left : List Entry} {e : Entry} {es : List Entry} {start end : ℕ} → left ≡ e ∷ es → f e ≡ true → Next start end e es
    → bodies_with set (only f left) ≡ part set start e.length ++ bodies_with set (only f es)
bodies-here set f {e = e} {es} q p n = bodies-next set (stays f q p) ∙ ap (λ (o : ℕ). part set o e.length ++ bodies_with set (only f es)) n.offset

-- ---- there is room for the bodies that stay
pub bodies-fit : (set : List ℕ) (f : Entry → Bool) (es : List Entry) (start end : ℕ) → end_to_end start end es ≡ true → start + length (bodies_with set (only f es)) ≤ end
unfolding end_to_end
bodies-fit set f [] start end p = rw (none_left f refl, bodies-end set refl) (omega (arith, eqb-true start end p))
bodies-fit set f (e ∷ es) start end p =
    let n : Next start end e es = next-body refl p in
    let ih = bodies-fit set f es (start + e.length) end n.later in
    cases (f e)
    (λ q. omega (arith, ap length (bodies-here set f refl q n) ∙ length-append (part set start e.length) (bodies_with set (only f es)), length-take-le-any e.length (drop start set)))
    (λ q. omega (arith, ap (λ (l : List Entry). length (bodies_with set l)) (only-later f e es q)))

pub room-bodies : (set : List ℕ) (f : Entry → Bool) (es : List Entry) {at start : ℕ} → at ≤ start → end_to_end start (length set) es ≡ true → at + length (bodies_with set (only f es)) ≤ length set
room-bodies set f es {at} {start} h p = omega (arith, bodies-fit set f es start (length set) p)

-- ---- a body moves down over what is read already
pub still : (start out : List ℕ) (from size : ℕ) → drop from out ≡ drop from start → drop (from + size) out ≡ drop (from + size) start
still start out from size same = sym (drop-drop size from out) ∙ ap (drop size) same ∙ drop-drop size from start

module _ (start : List ℕ) (w : Writer) (from size : ℕ) (same : drop from w.out.now ≡ drop from start) (l : w.at ≤ from) (h : from + size ≤ length w.out.now) where
  long : size ≤ length (drop from w.out.now)
  long = rw length-drop (omega arith)

  part-long : length (part w.out.now from size) ≡ size
  part-long = length-take-le size (drop from w.out.now) long

  pub moved-text : {is : Writer} → is.out.now ≡ paste w.out.now w.at (drop from w.out.now) size → is.at ≡ w.at + size → is.out.ghost_name ≡ w.out.ghost_name → Wrote w (part start from size) is
  moved-text {is} e p n =
      let out = w.out.now in
      let r : Wrote w (part out from size) is = record {
        bytes = e ∙ ap (λ (n : ℕ). take w.at out ++ part out from size ++ drop (w.at + n) out) (sym part-long) ∙ sym (sets-eq (part out from size) out w.at (omega (arith, part-long)));
        place = p ∙ ap (λ (n : ℕ). w.at + n) (sym part-long);
        same = n;
      } in
      rw (ap (take size) same) at r

  pub moved-behind : {after : List ℕ} → after ≡ paste w.out.now w.at (drop from w.out.now) size → drop (from + size) after ≡ drop (from + size) start
  moved-behind {after} e =
      let k : w.at + size + (from - w.at) ≡ from + size = omega arith in
      ap (λ (n : ℕ). drop n after) (sym k) ∙ sym (drop-drop (from - w.at) (w.at + size) after)
      ∙ ap (drop (from - w.at)) (ap (drop (w.at + size)) e ∙ drop-paste w.out.now w.at (drop from w.out.now) size (omega arith) long)
      ∙ drop-drop (from - w.at) (w.at + size) w.out.now ∙ ap (λ (n : ℕ). drop n w.out.now) k ∙ still start w.out.now from size same
