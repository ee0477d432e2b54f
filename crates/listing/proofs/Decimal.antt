-- A number in decimal, digit by digit from the front. No axiom.
use Rattle.octets.proofs.Vocabulary.{◌≡◌, refl, sym, ap, ◌∙◌, ℕ, zero, suc, ◌+◌, ◌*◌, ◌/◌, ◌%◌, ◌≤◌, ◌<◌, List, [], ◌∷◌, ◌++◌, append_assoc, Bool, true, false, leb, ltb, arith, div-div-eq-div-mul, ltb-true, ltb-false, leb-true, leb-false, lt-leb, le-leb, lt-ltb, le-ltb}
use Rattle.octets.specs.Sentences.{pick}
use Rattle.listing.specs.Listing.{digits, decimal}
use Rattle.listing.specs.Written.{lead}

digits_more : (n x : ℕ) → digits (suc n) x ≡ pick (ltb x 10) ((48 + x) ∷ []) (digits n (x / 10) ++ ((48 + x % 10) ∷ []))
unfolding digits
digits_more n x = refl

-- the last digit
abbrev pub last : ℕ → List ℕ
last x = (48 + x % 10) ∷ []

-- and those from some powers of ten on, as far as the number has them
abbrev pub from_powers : List ℕ → ℕ → List ℕ
from_powers [] x = last x
from_powers (p ∷ ps) x = lead p x ++ from_powers ps x

short : (n x : ℕ) → x < 10 → digits (suc n) x ≡ last x
short n x h = let e : x ≡ x % 10 = omega arith in digits_more n x ∙ rw (lt-ltb x 10 h) (ap (λ k. (48 + k) ∷ []) e)

long : (n x : ℕ) → 10 ≤ x → digits (suc n) x ≡ digits n (x / 10) ++ last x
long n x h = digits_more n x ∙ rw (le-ltb x 10 h)

-- the digits before the last, as the digits of a tenth
abbrev leads : ℕ → ℕ → List ℕ
leads zero x = []
leads (suc n) x = leads n (x / 10) ++ lead 10 x

abbrev tens : ℕ → ℕ
tens zero = 1
tens (suc n) = 10 * tens n

lead-small : (x : ℕ) → x < 10 → lead 10 x ≡ []
lead-small x h = rw (lt-leb 10 x h)

lead-large : (x : ℕ) → 10 ≤ x → lead 10 x ≡ last (x / 10)
lead-large x h = rw (le-leb 10 x h)

leads-small : (n x : ℕ) → x < 10 → leads n x ≡ []
leads-small zero x h = refl
leads-small (suc n) x h = ap (λ (l : List ℕ). l ++ lead 10 x) (leads-small n (x / 10) (omega arith)) ∙ lead-small x h

by-leads : (n x : ℕ) → x < tens (suc n) → digits (suc n) x ≡ leads n x ++ last x
by-leads zero x h = short zero x h
by-leads (suc n) x h = go (ltb x 10) refl (λ l. by-leads n (x / 10) l)
  where
    go : (b : Bool) → ltb x 10 ≡ b → (x / 10 < tens (suc n) → digits (suc n) (x / 10) ≡ leads n (x / 10) ++ last (x / 10)) → digits (suc (suc n)) x ≡ leads (suc n) x ++ last x
    go true p before = let l = ltb-true x 10 p in short (suc n) x l ∙ sym (ap (λ (l : List ℕ). l ++ last x) (leads-small (suc n) x l))
    go false p before =
        let l = ltb-false x 10 p in
        long (suc n) x l ∙ ap (λ (l : List ℕ). l ++ last x) (before (omega arith) ∙ ap (λ (l : List ℕ). leads n (x / 10) ++ l) (sym (lead-large x l)))

-- a digit of a tenth is the digit of the tenfold power
lead-ten : (p x : ℕ) → lead p (x / 10) ≡ lead (10 * p) x
lead-ten p x = go (leb p (x / 10)) refl
  where
    go : (b : Bool) → leb p (x / 10) ≡ b → lead p (x / 10) ≡ lead (10 * p) x
    go true q = let l = leb-true p (x / 10) q in rw (q, le-leb (10 * p) x (omega arith), div-div-eq-div-mul)
    go false q = let l = leb-false p (x / 10) q in rw (q, lt-leb (10 * p) x (omega arith))

pub spelled : (x : ℕ) → x < 65536 → decimal x ≡ from_powers (10000 ∷ 1000 ∷ 100 ∷ 10 ∷ []) x
spelled x h =
    let a = lead-ten 10 x in
    let b = lead-ten 10 (x / 10) ∙ lead-ten 100 x in
    let c = lead-ten 10 (x / 10 / 10) ∙ lead-ten 100 (x / 10) ∙ lead-ten 1000 x in
    by-leads 4 x (omega arith) ∙ rw (a, b, c) (simp append_assoc)
