-- The check of a body, as to the order of interfaces and the count of their endpoints: a walk from any state says what the sentences about
-- the groups say. No axiom.
use Rattle.octets.proofs.Vocabulary.{◌≡◌, refl, sym, ap, ◌∙◌, ℕ, zero, suc, ◌+◌, ◌-◌, List, [], ◌∷◌, map, Bool, true, false, ◌&&◌, and-true, and-false, or-false, length, eqb, leb, eqb·suc-suc, eqb·zero-suc, leb·zero, leb·suc-suc, arith, eqb-true, eq-eqb}
use Rattle.octets.specs.Sentences.{every, neighbours, is_empty}
use Rattle.octets.proofs.Sentences.{cases, same_test}
use Rattle.descriptors.specs.declared.Setting.{Setting}
use Rattle.descriptors.specs.declared.walk.Stand.{Stand}
use Rattle.descriptors.specs.Descriptor.{bDescriptorType, is_interface, is_endpoint, bNumEndpoints}
use Rattle.descriptors.specs.Interfaces.{Groups, grouped, begun_by, setting_of, follows, starts_at_zero, ends_at, good_settings, counted}
use Rattle.descriptors.specs.Walk.{before, stand_of}
use Rattle.descriptors.specs.Check.{Progress, placed, in_order, onward, ended, beginning}
use Rattle.descriptors.proofs.Walks.{holding}

-- the descriptors come in order from the state w on, for n interfaces
abbrev pub ordered : ℕ → Progress → Stand → List (List ℕ) → Bool
ordered n = holding in_order onward (ended n)

-- what is known after a descriptor that follows one at `last`
abbrev pub passed : Progress → Stand → List ℕ → Progress
passed w last d = onward w last (stand_of last d) d

-- where a setting's endpoints stand
abbrev pub at : Setting → Stand
at s = record { inside = true; interface = s.interface; alternate = s.alternate }

-- each setting may come after the one before it, from `stand` on, and the last is that of n interfaces
unfoldable pub chain : ℕ → Stand → List Setting → Bool
chain n stand [] = stand.inside && eqb (stand.interface + 1) n
chain n stand (t ∷ ts) = placed stand t && chain n (at t) ts

-- what the rest of the descriptors has to be in the state w
abbrev pub Rest : ℕ → Progress → Stand → Groups → Bool
Rest n w last gs = chain n last (map setting_of gs.groups) && (eqb w.coming (length gs.loose) && every counted gs.groups)

pub not-both : (d : List ℕ) → is_interface d ≡ true → is_endpoint d ≡ true → ⊥
not-both d p q =
    let a = eqb-true (bDescriptorType d) 4 p in
    let b = eqb-true (bDescriptorType d) 5 q in
    omega arith

shuffle : (a p c k : Bool) → (a && p && true) && (c && k) ≡ (p && c) && (a && k)
shuffle true true c k = refl
shuffle true false c k = refl
shuffle false p c k = sym (and-false (p && c))

one_more : (l m : ℕ) → leb 1 l && eqb (l - 1) m ≡ eqb l (suc m)
one_more zero m = rw eqb·zero-suc
one_more (suc l) m =
    let q : suc l - 1 ≡ l = omega arith in
    rw (leb·suc-suc, leb·zero, q, eqb·suc-suc)

pull : (a c e k r : Bool) → a && e ≡ r → a && (c && (e && k)) ≡ c && (r && k)
pull true c e k r q = rw q
pull false c e k r q = rw (← q) (sym (and-false c))

pub eqb_swap : (a b : ℕ) → eqb a b ≡ eqb b a
eqb_swap a b = same_test (eqb a b) (eqb b a) (λ p. eq-eqb b a (sym (eqb-true a b p))) (λ p. eq-eqb a b (sym (eqb-true b a p)))

Same : ℕ → Progress → Stand → List (List ℕ) → Type 0
Same n w last ds = ordered n w last ds ≡ Rest n w last (grouped ds)

module _ (n : ℕ) (w : Progress) (last : Stand) (d : List ℕ) (ds : List (List ℕ)) where
  at-interface : is_interface d ≡ true → is_endpoint d ≡ false → Same n (passed w last d) (stand_of last d) ds → Same n w last (d ∷ ds)
  unfolding Same holding chain grouped every
  at-interface i e h =
      rw (i, e)
      (ap (λ (b : Bool). (eqb w.coming 0 && placed last (begun_by d) && true) && b) (rw (i, eqb_swap (bNumEndpoints d)) at h)
      ∙ shuffle (eqb w.coming 0) (placed last (begun_by d)) (chain n (at (begun_by d)) (map setting_of (grouped ds).groups)) _)

  at-endpoint : is_interface d ≡ false → is_endpoint d ≡ true → Same n (passed w last d) (stand_of last d) ds → Same n w last (d ∷ ds)
  unfolding Same holding chain grouped every
  at-endpoint i e h =
      rw (i, e)
      (ap (λ (b : Bool). leb 1 w.coming && b) (rw (i, e) at h)
      ∙ pull (leb 1 w.coming) (chain n last (map setting_of (grouped ds).groups)) (eqb (w.coming - 1) (length (grouped ds).loose)) _ _ (one_more w.coming (length (grouped ds).loose)))

  at_other : is_interface d ≡ false → is_endpoint d ≡ false → Same n (passed w last d) (stand_of last d) ds → Same n w last (d ∷ ds)
  unfolding Same holding chain grouped every
  at_other i e h = rw (i, e) (rw (i, e) at h)

-- by the kind of a descriptor
pub kinds : {A : Type 0} (d : List ℕ) → (is_interface d ≡ true → is_endpoint d ≡ false → A) → (is_interface d ≡ false → is_endpoint d ≡ true → A) → (is_interface d ≡ false → is_endpoint d ≡ false → A) → A
kinds d f g h = cases (is_interface d)
    (λ p. cases (is_endpoint d) (λ q. absurd (not-both d p q)) (λ q. f p q))
    (λ p. cases (is_endpoint d) (λ q. g p q) (λ q. h p q))

same : (n : ℕ) (w : Progress) (last : Stand) (ds : List (List ℕ)) → Same n w last ds
unfolding Same holding chain grouped every
same n w last [] = rw (and-true (eqb w.coming 0))
same n w last (d ∷ ds) = go (same n (passed w last d) (stand_of last d) ds)
  where
    go : Same n (passed w last d) (stand_of last d) ds → Same n w last (d ∷ ds)
    go h = kinds d (λ p q. at-interface n w last d ds p q h) (λ p q. at-endpoint n w last d ds p q h) (λ p q. at_other n w last d ds p q h)

-- ---- from the beginning: the sentences
sort : (f l m e a : Bool) → (f && l) && ((m && e) && a) ≡ ((f && m) && e) && (l && a)
sort true true m e a = refl
sort true false m e a = sym (and-false (m && e))
sort false l m e a = refl

after : (n : ℕ) (s : Setting) (ss : List Setting) → chain n (at s) ss ≡ (neighbours follows (s ∷ ss) && ends_at n (s ∷ ss) && every (λ t. leb t.alternate 15) ss)
unfolding chain neighbours ends_at every
after n s [] = sym (and-true (eqb (s.interface + 1) n))
after n s (t ∷ ts) = rw (or-false (follows s t), after n t ts) (sort (follows s t) (leb t.alternate 15) (neighbours follows (t ∷ ts)) (ends_at n (t ∷ ts)) (every (λ t. leb t.alternate 15) ts))

pub from-beginning : (n : ℕ) (ss : List Setting) → chain n before ss ≡ good_settings n ss
unfolding chain neighbours ends_at every
from-beginning n [] = refl
from-beginning n (s ∷ ss) = rw (after n s ss) (sort (starts_at_zero (s ∷ ss)) (leb s.alternate 15) (neighbours follows (s ∷ ss)) (ends_at n (s ∷ ss)) (every (λ t. leb t.alternate 15) ss))

empty : (xs : List (List ℕ)) → eqb 0 (length xs) ≡ is_empty xs
empty [] = refl
empty (x ∷ xs) = rw eqb·zero-suc

-- ordered from the beginning on, as the sentences say it
pub order_same : (n : ℕ) (ds : List (List ℕ))
    → ordered n beginning before ds ≡ (good_settings n (map setting_of (grouped ds).groups) && (is_empty (grouped ds).loose && every counted (grouped ds).groups))
unfolding Same
order_same n ds = same n beginning before ds ∙ rw (from-beginning, empty)
