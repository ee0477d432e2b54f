-- No two interfaces of a configuration share an address: so an address, its bit in the record and its current endpoint belong to one
-- interface. No axiom.
use Rattle.octets.proofs.Vocabulary.{◌≡◌, refl, sym, ap, ◌∙◌, ℕ, ◌+◌, ◌*◌, ◌/◌, ◌%◌, List, [], ◌∷◌, List-as-Memᴰ, List·Memᴰ·head, List·Memᴰ·tail, Bool, true, false, ◌&&◌, not, and-false, Option, some, none, Option·map, ◌⊎◌, inl, inr, get_or, eqb, arith, div-div-eq-div-mul, eqb-true, eq-eqb}
use native.Mathlib.Decide.{ℕ_discrete}
use Rattle.octets.specs.Bit.{bit, set_bit, clear_bit, flip_bit}
use Rattle.octets.specs.Sentences.{pick, only, first, is_some}
use Rattle.octets.proofs.Sentences.{cases, never, same_test, both, if-then, first_some, first_any, only-member, member-any, pairs-members, first_alike}
use Rattle.octets.proofs.Bits.{set_same, set_other, clear-same, clear-other, flip-same, flip-other}
use Rattle.descriptors.specs.declared.Endpoint.{Endpoint}
use Rattle.descriptors.specs.Descriptor.{good_address}
use Rattle.descriptors.specs.Interfaces.{apart}
use Rattle.descriptors.specs.Configuration.{Configuration, is_current, current_of, addressed, bit_of, cleared}
use Rattle.events.specs.Concerns.{listed_by}
use Rattle.sets.specs.Sound.{SoundConfiguration}
use Rattle.laws.specs.Parts.{home_in, or_nobody}

eqb-turn : (a b : ℕ) → eqb a b ≡ eqb b a
eqb-turn a b = same_test (eqb a b) (eqb b a) (λ p. eq-eqb b a (sym (eqb-true a b p))) (λ p. eq-eqb a b (sym (eqb-true b a p)))

apart-turn : (e f : Endpoint) → apart e f ≡ true → apart f e ≡ true
apart-turn e f h = rw (eqb-turn f.address e.address, eqb-turn f.interface e.interface, eqb-turn f.alternate e.alternate) h

-- a good address is known by its bit
address-of : (a : ℕ) → a / 16 % 8 ≡ 0 → a ≡ bit_of a % 16 + 128 * (bit_of a / 16)
address-of a h =
    let t : a / 128 ≡ a / 16 / 8 = sym (div-div-eq-div-mul a 16 8) in
    let low : bit_of a % 16 ≡ a % 16 = omega arith in
    let high : bit_of a / 16 ≡ a / 128 = omega arith in
    omega arith

bit-address : (a b : ℕ) → good_address a ≡ true → good_address b ≡ true → bit_of a ≡ bit_of b → a ≡ b
bit-address a b ga gb h =
    let p : a / 16 % 8 ≡ 0 = eqb-true _ _ (both _ _ ga).0 in
    let q : b / 16 % 8 ≡ 0 = eqb-true _ _ (both _ _ gb).0 in
    address-of a p ∙ ap (λ k. k % 16 + 128 * (k / 16)) h ∙ sym (address-of b q)

first-there : {A : Type 0} (f : A → Bool) (xs : List A) {x : A} → List-as-Memᴰ x xs → f x ≡ true → (y : A) × (first f xs ≡ some y)
first-there {A} f xs m p = go (first f xs) refl
  where
    go : (o : Option A) → first f xs ≡ o → (y : A) × (first f xs ≡ some y)
    go none q = never (member-any f m p) (sym (first_any f xs) ∙ ap is_some q)
    go (some y) q = (y, q)

first-only : {A : Type 0} (f g : A → Bool) (xs : List A) → first f (only g xs) ≡ first (λ x. g x && f x) xs
unfolding first only
first-only f g [] = refl
first-only f g (x ∷ xs) = go (g x) (first-only f g xs)
  where
    go : (b : Bool) → first f (only g xs) ≡ first (λ x. g x && f x) xs
        → first f (pick b (x ∷ only g xs) (only g xs)) ≡ pick (b && f x) (some x) (first (λ x. g x && f x) xs)
    go true h = rw h
    go false h = h

-- ---- a change of one bit, from two words that agree at k
change-both : (f : ℕ → ℕ → ℕ) (g : Bool → Bool) → ((w e : ℕ) → bit (f w e) e ≡ g (bit w e))
    → ((w e k : ℕ) → (e ≡ k → ⊥) → bit (f w e) k ≡ bit w k) → (b c e k : ℕ) → bit b k ≡ bit c k → bit (f b e) k ≡ bit (f c e) k
change-both f g same other b c e k h = go (ℕ_discrete e k)
  where
    go : Dec (e ≡ k) → bit (f b e) k ≡ bit (f c e) k
    go (yes p) = rw (← p) (same b e ∙ ap g (ap (bit b) p ∙ h ∙ sym (ap (bit c) p)) ∙ sym (same c e))
    go (no n) = other b e k n ∙ h ∙ sym (other c e k n)

pub set_both : (b c e k : ℕ) → bit b k ≡ bit c k → bit (set_bit b e) k ≡ bit (set_bit c e) k
set_both = change-both set_bit (λ t. true) set_same set_other

pub clear_both : (b c e k : ℕ) → bit b k ≡ bit c k → bit (clear_bit b e) k ≡ bit (clear_bit c e) k
clear_both = change-both clear_bit (λ t. false) clear-same clear-other

pub flip-both : (b c e k : ℕ) → bit b k ≡ bit c k → bit (flip_bit b e) k ≡ bit (flip_bit c e) k
flip-both = change-both flip_bit not flip-same flip-other

-- ---- the bits that SET_INTERFACE clears
pub cleared_both : (es : List Endpoint) (b c k : ℕ) → bit b k ≡ bit c k → bit (cleared es b) k ≡ bit (cleared es c) k
unfolding cleared
cleared_both [] b c k h = h
cleared_both (e ∷ es) b c k h = cleared_both es _ _ k (clear_both b c (bit_of e.address) k h)

pub cleared-other : (es : List Endpoint) (b k : ℕ) → ((e : Endpoint) → List-as-Memᴰ e es → bit_of e.address ≡ k → ⊥)
    → bit (cleared es b) k ≡ bit b k
unfolding cleared
cleared-other [] b k n = refl
cleared-other (e ∷ es) b k n =
    cleared-other es (clear_bit b (bit_of e.address)) k (λ f m. n f (List·Memᴰ·tail m))
    ∙ clear-other b (bit_of e.address) k (n e (List·Memᴰ·head refl))

-- every endpoint with this address stands in interface k
abbrev pub AllIn : Configuration → ℕ → ℕ → Type 0
AllIn c a k = (e : Endpoint) → List-as-Memᴰ e c.endpoints → e.address ≡ a → e.interface ≡ k

module _ (c : Configuration) (S : SoundConfiguration c) where
  -- two endpoints with one address stand in one interface
  same-interface : (e f : Endpoint) → List-as-Memᴰ e c.endpoints → List-as-Memᴰ f c.endpoints → e.address ≡ f.address
      → e.interface ≡ f.interface
  same-interface e f m n h = go (pairs-members apart apart-turn c.endpoints S.distinct m n)
    where
      go : (e ≡ f) ⊎ (apart e f ≡ true) → e.interface ≡ f.interface
      go (inl p) = ap (λ x. x.interface) p
      go (inr p) = eqb-true _ _ (both _ _ (if-then _ _ p (eq-eqb _ _ h))).0

  -- an endpoint's bit is at home in its interface
  pub at_home : (e : Endpoint) → List-as-Memᴰ e c.endpoints → home_in c (bit_of e.address) ≡ e.interface
  at_home e m =
      let (f, p) = first-there (λ x. eqb (bit_of x.address) (bit_of e.address)) c.endpoints m (eq-eqb (bit_of e.address) _ refl) in
      let (n, q) = first_some (λ x. eqb (bit_of x.address) (bit_of e.address)) c.endpoints p in
      let a : f.address ≡ e.address = bit-address _ _ (S.addresses f n) (S.addresses e m) (eqb-true _ _ q) in
      ap (λ o. or_nobody (Option·map (λ x. x.interface) o)) p ∙ same-interface f e n m a

  -- an endpoint's address is listed by its interface
  lists : (e : Endpoint) → List-as-Memᴰ e c.endpoints → listed_by c e.address ≡ some e.interface
  lists e m =
      let (f, p) = first-there (λ x. eqb x.address e.address) c.endpoints m (eq-eqb e.address _ refl) in
      let (n, q) = first_some (λ x. eqb x.address e.address) c.endpoints p in
      ap (Option·map (λ x. x.interface)) p ∙ ap some (same-interface f e n m (eqb-true _ _ q))

  pub all_in : (a k : ℕ) → ((j : ℕ) → listed_by c a ≡ some j → j ≡ k) → AllIn c a k
  all_in a k w e m p = w e.interface (ap (listed_by c) (sym p) ∙ lists e m)

  -- the bit of the current endpoint with an address is at home in the interface that lists the address
  pub found-home : (alternates : List ℕ) (a k : ℕ) → AllIn c a k → (e : Endpoint) → addressed a (current_of alternates c) ≡ some e
      → home_in c (bit_of e.address) ≡ k
  found-home alternates a k w e p =
      let (m, q) = first_some (λ x. eqb x.address a) (current_of alternates c) p in
      let (n, t) = only-member (is_current alternates) c.endpoints m in
      at_home e n ∙ w e n (eqb-true _ _ q)

-- which endpoint it is hangs on its interface's alternate setting alone
pub found_alike : (c : Configuration) (l m : List ℕ) (a k : ℕ) → AllIn c a k → get_or l k 0 ≡ get_or m k 0
    → addressed a (current_of l c) ≡ addressed a (current_of m c)
found_alike c l m a k w h =
    first-only (λ e. eqb e.address a) (is_current l) c.endpoints
    ∙ first_alike (λ e. is_current l e && eqb e.address a) (λ e. is_current m e && eqb e.address a) c.endpoints at
    ∙ sym (first-only (λ e. eqb e.address a) (is_current m) c.endpoints)
  where
    at : (e : Endpoint) → List-as-Memᴰ e c.endpoints → (is_current l e && eqb e.address a) ≡ (is_current m e && eqb e.address a)
    at e n = cases (eqb e.address a)
        (λ p. ap (λ (x : ℕ). eqb e.alternate x && eqb e.address a) (rw (w e n (eqb-true _ _ p)) h))
        (λ p. rw p (and-false (is_current l e) ∙ sym (and-false (is_current m e))))
