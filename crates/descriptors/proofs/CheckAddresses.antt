-- The check of a body, as to addresses: in descriptors that are good and in order, a walk that keeps three sets of addresses says that each two
-- endpoints are apart. No axiom.
use Rattle.octets.proofs.Vocabulary.{◌≡◌, refl, sym, ap, ◌∙◌, ℕ, ◌+◌, ◌*◌, ◌/◌, ◌%◌, ◌<◌, ◌≤◌, List, [], ◌∷◌, ◌++◌, map, Bool, true, false, ◌&&◌, ◌||◌, not, and-true, and-false, and_assoc, or-false, false≢true, ◌⊎◌, inl, inr, length, eqb, leb, ltb, arith, le_refl, div-div-eq-div-mul, eqb-true, eqb-false, eq-eqb, ne_eqb, ltb-true, lt-ltb, leb-true, le-leb}
use Rattle.octets.specs.Bit.{bit, set_bit}
use Rattle.octets.specs.Sentences.{◌⇒◌, every, pairs, is_empty}
use Rattle.octets.proofs.Sentences.{cases, both, joined, either, or_left, or_right, if-then, conjunct, every-member, member-every, every_append, every-alike}
use Rattle.octets.proofs.Bits.{set_same, set_other, bit-zero}
use Rattle.descriptors.specs.declared.limits.Limits.{Limits}
use Rattle.descriptors.specs.declared.Setting.{Setting}
use Rattle.descriptors.specs.declared.Endpoint.{Endpoint}
use Rattle.descriptors.specs.declared.walk.Stand.{Stand}
use Rattle.descriptors.specs.Descriptor.{bDescriptorType, is_interface, is_endpoint, bInterfaceNumber, bEndpointAddress, bmAttributes, wMaxPacketSize, bInterval, transfer_type, good_address, good_attributes, good_size, good_interval, type_allowed, good_endpoint, good_descriptor}
use Rattle.descriptors.specs.Interfaces.{Group, Groups, grouped, begun_by, setting_of, endpoint_of, endpoints_of, follows, apart}
use Rattle.descriptors.specs.Configuration.{bit_of}
use Rattle.descriptors.specs.Walk.{before}
use Rattle.descriptors.specs.Check.{Progress, placed, fresh, unshared, onward, beginning}
use Rattle.descriptors.proofs.Walks.{holding}
use Rattle.descriptors.proofs.CheckOrder.{at, passed, chain, kinds}

-- no address is shared where it may not be, from the state w on
abbrev pub unshared_all : Progress → Stand → List (List ℕ) → Bool
unshared_all = holding unshared onward (λ w last. true)

-- every endpoint of descriptors of which the first stand under the setting s
abbrev pub endpoints_in : Setting → Groups → List Endpoint
endpoints_in s gs = map (endpoint_of s) gs.loose ++ endpoints_of gs.groups

-- ---- good addresses have bits of their own
by_bit : (a : ℕ) → good_address a ≡ true → a ≡ bit_of a % 16 + 128 * (bit_of a / 16)
by_bit a p =
    let z = eqb-true (a / 16 % 8) 0 (both (eqb (a / 16 % 8) 0) (leb 1 (a % 16)) p).0 in
    let q : a / 16 / 8 ≡ a / 128 = div-div-eq-div-mul a 16 8 in
    let h : bit_of a / 16 ≡ a / 128 = omega arith in
    let l : bit_of a % 16 ≡ a % 16 = omega arith in
    rw (h, l) (omega arith)

pub own-bit : (a b : ℕ) → good_address a ≡ true → good_address b ≡ true → bit_of a ≡ bit_of b → a ≡ b
own-bit a b p q e = by_bit a p ∙ ap (λ (x : ℕ). x % 16 + 128 * (x / 16)) e ∙ sym (by_bit b q)

good-address : (limits : Limits) (d : List ℕ) → good_descriptor limits d ≡ true → is_endpoint d ≡ true → good_address (bEndpointAddress d) ≡ true
good-address limits d p q =
    let e = if-then (is_endpoint d) (good_endpoint limits d) (conjunct 2 (type_allowed (bDescriptorType d) ∷ (is_interface d ⇒ leb 9 (length d)) ∷ (is_endpoint d ⇒ good_endpoint limits d) ∷ []) p) q in
    let transfer = transfer_type (bmAttributes d) in
    conjunct 1 (leb 7 (length d) ∷ good_address (bEndpointAddress d) ∷ good_attributes (bmAttributes d) ∷ good_size limits transfer (wMaxPacketSize d) ∷ good_interval limits transfer (bInterval d) ∷ []) e

abbrev good_in : Endpoint → Bool
good_in e = good_address e.address

good-listed : (limits : Limits) (s : Setting) (ds : List (List ℕ)) → every (good_descriptor limits) ds ≡ true → every good_in (endpoints_in s (grouped ds)) ≡ true
unfolding every grouped endpoints_of
good-listed limits s [] p = refl
good-listed limits s (d ∷ ds) p = go (both (good_descriptor limits d) (every (good_descriptor limits) ds) p) (λ t q. good-listed limits t ds q)
  where
    go : (good_descriptor limits d ≡ true) × (every (good_descriptor limits) ds ≡ true)
        → ((t : Setting) → every (good_descriptor limits) ds ≡ true → every good_in (endpoints_in t (grouped ds)) ≡ true) → every good_in (endpoints_in s (grouped (d ∷ ds))) ≡ true
    go (q, r) ih = kinds d
        (λ i e. rw i (ih (begun_by d) r))
        (λ i e. rw (i, e) (joined (good-address limits d q e) (ih s r)))
        (λ i e. rw (i, e) (ih s r))

-- ---- settings that follow one another
abbrev pub Follows : Setting → Setting → Type 0
Follows s t = ((t.interface ≡ s.interface) × (t.alternate ≡ s.alternate + 1)) ⊎ ((t.interface ≡ s.interface + 1) × (t.alternate ≡ 0))

pub follows_is : (s t : Setting) → follows s t ≡ true → Follows s t
follows_is s t p = go (either _ (eqb t.interface (s.interface + 1) && eqb t.alternate 0) p)
  where
    go : ((eqb t.interface s.interface && eqb t.alternate (s.alternate + 1)) ≡ true) ⊎ ((eqb t.interface (s.interface + 1) && eqb t.alternate 0) ≡ true) → Follows s t
    go (inl q) = let (i, a) = both (eqb t.interface s.interface) _ q in inl (eqb-true _ _ i, eqb-true _ _ a)
    go (inr q) = let (i, a) = both (eqb t.interface (s.interface + 1)) _ q in inr (eqb-true _ _ i, eqb-true _ _ a)

-- an endpoint stands under the setting s or under a later one
abbrev pub NotBefore : Setting → Endpoint → Type 0
NotBefore s e = (s.interface < e.interface) ⊎ ((s.interface ≡ e.interface) × (s.alternate ≤ e.alternate))

not_before : Setting → Endpoint → Bool
not_before s e = ltb s.interface e.interface || (eqb s.interface e.interface && leb s.alternate e.alternate)

not-before : (s : Setting) (e : Endpoint) → NotBefore s e → not_before s e ≡ true
unfolding not_before
not-before s e (inl l) = or_left _ (lt-ltb _ _ l)
not-before s e (inr (p, l)) = or_right (ltb s.interface e.interface) (joined (eq-eqb _ _ p) (le-leb _ _ l))

not-before-is : (s : Setting) (e : Endpoint) → not_before s e ≡ true → NotBefore s e
unfolding not_before
not-before-is s e p = go (either (ltb s.interface e.interface) (eqb s.interface e.interface && leb s.alternate e.alternate) p)
  where
    go : (ltb s.interface e.interface ≡ true) ⊎ ((eqb s.interface e.interface && leb s.alternate e.alternate) ≡ true) → NotBefore s e
    go (inl q) = inl (ltb-true _ _ q)
    go (inr q) = let (i, a) = both (eqb s.interface e.interface) _ q in inr (eqb-true _ _ i, leb-true _ _ a)

-- what is not before t is not before an s that t follows
pub further : (s t : Setting) (e : Endpoint) → Follows s t → NotBefore t e → NotBefore s e
further s t e (inl (p, q)) (inl l) = inl (omega arith)
further s t e (inl (p, q)) (inr (r, l)) = inr (omega arith, omega arith)
further s t e (inr (p, q)) (inl l) = inl (omega arith)
further s t e (inr (p, q)) (inr (r, l)) = inl (omega arith)

all_under : (s : Setting) (ds : List (List ℕ)) → every (not_before s) (map (endpoint_of s) ds) ≡ true
unfolding every
all_under s [] = refl
all_under s (d ∷ ds) = joined (not-before s (endpoint_of s d) (inr (refl, le_refl _))) (all_under s ds)

follows_of : (s t : Setting) → placed (at s) t ≡ true → follows s t ≡ true
follows_of s t p = sym (or-false (follows s t)) ∙ (both (follows s t || false) (leb t.alternate 15) p).0

all-further : (s t : Setting) → follows s t ≡ true → (es : List Endpoint) → every (not_before t) es ≡ true → every (not_before s) es ≡ true
all-further s t f es p = member-every (not_before s) es (λ e m. not-before s e (further s t e (follows_is s t f) (not-before-is t e (every-member (not_before t) p m))))

in-chain : (n : ℕ) (s : Setting) (ds : List (List ℕ)) (gs : List Group) → chain n (at s) (map setting_of gs) ≡ true
    → every (not_before s) (map (endpoint_of s) ds ++ endpoints_of gs) ≡ true
unfolding chain endpoints_of every
in-chain n s ds [] p = every_append (not_before s) (map (endpoint_of s) ds) [] ∙ joined (all_under s ds) refl
in-chain n s ds (g ∷ gs) p =
    let t = setting_of g in
    let (q, r) = both (placed (at s) t) (chain n (at t) (map setting_of gs)) p in
    let es = map (endpoint_of t) g.endpoints ++ endpoints_of gs in
    every_append (not_before s) (map (endpoint_of s) ds) es ∙ joined (all_under s ds) (all-further s t (follows_of s t q) es (in-chain n t g.endpoints gs r))

-- ---- an endpoint against the addresses that a walk has seen
-- if its address was seen, then in this interface, and not in this setting
abbrev marked : ℕ → Endpoint → Bool
marked word e = bit word (bit_of e.address)

unfoldable pub clear : Setting → Progress → Endpoint → Bool
clear s w e = marked w.seen e ⇒ (eqb s.interface e.interface && (marked w.interface e && not (eqb s.alternate e.alternate && marked w.setting e)))

-- at an interface descriptor: a further setting of the interface, and a new interface
module _ (s t : Setting) (e : Endpoint) (seen interface setting : Bool) where
  same-interface : t.interface ≡ s.interface → t.alternate ≡ s.alternate + 1 → NotBefore t e
      → (seen ⇒ (eqb t.interface e.interface && (interface && not (eqb t.alternate e.alternate && false))))
      ≡ (seen ⇒ (eqb s.interface e.interface && (interface && not (eqb s.alternate e.alternate && setting))))
  same-interface p q (inl m) = rw (p, ne_eqb s.interface e.interface (λ r. omega arith))
  same-interface p q (inr (m, n)) = rw (p, ne_eqb s.alternate e.alternate (λ r. omega arith), and-false)

  new-interface : t.interface ≡ s.interface + 1 → NotBefore t e
      → (seen ⇒ (eqb t.interface e.interface && false))
      ≡ (seen ⇒ (eqb s.interface e.interface && (interface && not (eqb s.alternate e.alternate && setting))))
  new-interface p (inl m) = rw (ne_eqb s.interface e.interface (λ r. omega arith), and-false)
  new-interface p (inr (m, n)) = rw (ne_eqb s.interface e.interface (λ r. omega arith), and-false)

pub at-interface : (s : Setting) (w : Progress) (d : List ℕ) (e : Endpoint) → is_interface d ≡ true → Follows s (begun_by d) → NotBefore (begun_by d) e
    → clear (begun_by d) (passed w (at s) d) e ≡ clear s w e
unfolding clear
at-interface s w d e i (inl (p, q)) l =
    rw (i, eq-eqb (bInterfaceNumber d) s.interface p, bit-zero (bit_of e.address))
    (same-interface s (begun_by d) e (marked w.seen e) (marked w.interface e) (marked w.setting e) p q l)
at-interface s w d e i (inr (p, q)) l =
    rw (i, ne_eqb (bInterfaceNumber d) s.interface (λ r. omega arith), bit-zero (bit_of e.address))
    (new-interface s (begun_by d) e (marked w.seen e) (marked w.interface e) (marked w.setting e) p l)

-- at an endpoint: what is clear of the words with its address in them is clear of the words, and apart from it
met : (seen interface setting same alike : Bool) → ((seen ⇒ not setting) && (seen ⇒ interface)) ≡ true
    → (same && not (alike && true)) ≡ ((seen ⇒ (same && (interface && not (alike && setting)))) && (same && not alike))
met true false true same alike p = absurd (false≢true p)
met true false false same alike p = absurd (false≢true p)
met true true true same alike p = absurd (false≢true p)
met true true false true true p = refl
met true true false true false p = refl
met true true false false alike p = refl
met false interface setting same true p = refl
met false interface setting same false p = refl

module _ (s : Setting) (w : Progress) (d : List ℕ) (e : Endpoint) (i : is_interface d ≡ false) (j : is_endpoint d ≡ true)
    (g : good_address (bEndpointAddress d) ≡ true) (k : good_address e.address ≡ true) (f : fresh w (bEndpointAddress d) ≡ true) where
  pub at-endpoint : clear s (passed w (at s) d) e ≡ (clear s w e && apart (endpoint_of s d) e)
  unfolding clear
  at-endpoint = cases (eqb (bEndpointAddress d) e.address)
      (λ q. rw (i, j, alike q w.seen, alike q w.interface, alike q w.setting, q)
      (met (marked w.seen e) (marked w.interface e) (marked w.setting e) (eqb s.interface e.interface) (eqb s.alternate e.alternate) (rw (eqb-true (bEndpointAddress d) e.address q) at f)))
      (λ q. rw (i, j, other q w.seen, other q w.interface, other q w.setting, q) (sym (and-true (clear s w e))))
    where
      alike : eqb (bEndpointAddress d) e.address ≡ true → (word : ℕ) → bit (set_bit word (bit_of (bEndpointAddress d))) (bit_of e.address) ≡ true
      alike q word = rw (eqb-true (bEndpointAddress d) e.address q) (set_same word (bit_of e.address))

      other : eqb (bEndpointAddress d) e.address ≡ false → (word : ℕ) → bit (set_bit word (bit_of (bEndpointAddress d))) (bit_of e.address) ≡ bit word (bit_of e.address)
      other q word = set_other word (bit_of (bEndpointAddress d)) (bit_of e.address) (λ r. eqb-false (bEndpointAddress d) e.address q (own-bit (bEndpointAddress d) e.address g k r))

-- ---- the walk from a state that stands under the setting s
every-and : {A : Type 0} (f g : A → Bool) (xs : List A) → every (λ x. f x && g x) xs ≡ (every f xs && every g xs)
unfolding every
every-and f g [] = refl
every-and f g (x ∷ xs) = rw (every-and f g xs) (go (f x) (g x) (every f xs) (every g xs))
  where
    go : (a b c d : Bool) → (a && b) && (c && d) ≡ (a && c) && (b && d)
    go true true c d = refl
    go true false c d = sym (and-false c)
    go false b c d = refl

-- clear of what was seen, and each two of them apart
Apart : Setting → Progress → List Endpoint → Bool
Apart s w es = every (clear s w) es && pairs apart es

pub both-asked : (seen interface setting : Bool) → (seen ⇒ (interface && not setting)) ≡ ((seen ⇒ not setting) && (seen ⇒ interface))
both-asked false interface setting = refl
both-asked true true true = refl
both-asked true true false = refl
both-asked true false true = refl
both-asked true false false = refl

pub own-clear : (s : Setting) (w : Progress) (d : List ℕ) → clear s w (endpoint_of s d) ≡ fresh w (bEndpointAddress d)
unfolding clear
own-clear s w d =
    let k = bit_of (bEndpointAddress d) in
    rw (eq-eqb s.interface s.interface refl, eq-eqb s.alternate s.alternate refl) (both-asked (bit w.seen k) (bit w.interface k) (bit w.setting k))

one_more : {rest : Bool} (f x y z : Bool) → (f ≡ true → rest ≡ ((x && y) && z)) → f && rest ≡ (f && x) && (y && z)
one_more true x y z h = h refl ∙ and_assoc x y z
one_more false x y z h = refl

module _ (limits : Limits) (n : ℕ) where
  Same : List (List ℕ) → Type 0
  Same ds = (s : Setting) (w : Progress) → every (good_descriptor limits) ds ≡ true → chain n (at s) (map setting_of (grouped ds).groups) ≡ true
      → unshared_all w (at s) ds ≡ Apart s w (endpoints_in s (grouped ds))

  module _ (d : List ℕ) (ds : List (List ℕ)) (s : Setting) (w : Progress) (same : Same ds)
      (g : every (good_descriptor limits) (d ∷ ds) ≡ true) (c : chain n (at s) (map setting_of (grouped (d ∷ ds)).groups) ≡ true) where
    good-rest : (good_descriptor limits d ≡ true) × (every (good_descriptor limits) ds ≡ true)
    unfolding every
    good-rest = both (good_descriptor limits d) (every (good_descriptor limits) ds) g

    interface-same : is_interface d ≡ true → is_endpoint d ≡ false → unshared_all w (at s) (d ∷ ds) ≡ Apart s w (endpoints_in s (grouped (d ∷ ds)))
    unfolding Same holding grouped endpoints_of chain Apart
    interface-same i j =
        let t = begun_by d in
        let (p, q) = both (placed (at s) t) (chain n (at t) (map setting_of (grouped ds).groups)) (rw i at c) in
        let es = endpoints_in t (grouped ds) in
        let w' = passed w (at s) d in
        let u : unshared_all w' (at t) ds ≡ Apart t w' es = same t w' good-rest.1 q in
        let v : every (clear t w') es ≡ every (clear s w) es =
        every-alike (clear t w') (clear s w) es (λ e m. at-interface s w d e i (follows_is s t (follows_of s t p)) (not-before-is t e (every-member (not_before t) (in-chain n t (grouped ds).loose (grouped ds).groups q) m))) in
        rw (i, j) (rw i at (u ∙ ap (λ (b : Bool). b && pairs apart es) v))

    endpoint-same : is_interface d ≡ false → is_endpoint d ≡ true → unshared_all w (at s) (d ∷ ds) ≡ Apart s w (endpoints_in s (grouped (d ∷ ds)))
    unfolding Same holding grouped endpoints_of Apart every pairs
    endpoint-same i j =
        let a = bEndpointAddress d in
        let f = endpoint_of s d in
        let es = endpoints_in s (grouped ds) in
        let k = good-address limits d good-rest.0 j in
        let goods = good-listed limits s ds good-rest.1 in
        let w' = passed w (at s) d in
        let u : unshared_all w' (at s) ds ≡ Apart s w' es = same s w' good-rest.1 (rw (i, j) at c) in
        let v : fresh w a ≡ true → every (clear s w') es ≡ (every (clear s w) es && every (apart f) es) = λ p.
        every-alike (clear s w') (λ e. clear s w e && apart f e) es (λ e m. at-endpoint s w d e i j k (every-member good_in goods m) p)
        ∙ every-and (clear s w) (apart f) es in
        rw (i, j, own-clear s w d) (one_more (fresh w a) (every (clear s w) es) (every (apart f) es) (pairs apart es) (λ p. rw (i, j) at (u ∙ ap (λ (b : Bool). b && pairs apart es) (v p))))

    other-same : is_interface d ≡ false → is_endpoint d ≡ false → unshared_all w (at s) (d ∷ ds) ≡ Apart s w (endpoints_in s (grouped (d ∷ ds)))
    unfolding Same holding grouped endpoints_of
    other-same i j = rw (i, j) (same s w good-rest.1 (rw (i, j) at c))

  same : (ds : List (List ℕ)) → Same ds
  unfolding Same holding grouped endpoints_of Apart every pairs
  same [] s w g c = refl
  same (d ∷ ds) s w g c = go (same ds)
    where
      go : Same ds → unshared_all w (at s) (d ∷ ds) ≡ Apart s w (endpoints_in s (grouped (d ∷ ds)))
      go ih = kinds d (λ i j. interface-same d ds s w ih g c i j) (λ i j. endpoint-same d ds s w ih g c i j) (λ i j. other-same d ds s w ih g c i j)

  -- ---- from the beginning: nothing was seen
  unseen : (s : Setting) (w : Progress) → w.seen ≡ 0 → (es : List Endpoint) → every (clear s w) es ≡ true
  unfolding clear
  unseen s w p es = member-every (clear s w) es (λ e m. rw (p, bit-zero (bit_of e.address)))

  pub addresses-same : (ds : List (List ℕ)) → every (good_descriptor limits) ds ≡ true → is_empty (grouped ds).loose ≡ true → chain n before (map setting_of (grouped ds).groups) ≡ true
      → unshared_all beginning before ds ≡ pairs apart (endpoints_of (grouped ds).groups)
  unfolding Same holding grouped endpoints_of Apart every pairs chain
  addresses-same [] g l c = refl
  addresses-same (d ∷ ds) g l c = go (both (good_descriptor limits d) (every (good_descriptor limits) ds) g).1 (λ q m b. addresses-same ds q m b)
    where
      go : every (good_descriptor limits) ds ≡ true
          → (every (good_descriptor limits) ds ≡ true → is_empty (grouped ds).loose ≡ true → chain n before (map setting_of (grouped ds).groups) ≡ true
          → unshared_all beginning before ds ≡ pairs apart (endpoints_of (grouped ds).groups))
          → unshared_all beginning before (d ∷ ds) ≡ pairs apart (endpoints_of (grouped (d ∷ ds)).groups)
      go q ih = kinds d
          (λ i j.
          let t = begun_by d in
          let es = endpoints_in t (grouped ds) in
          let r = (both (placed before t) (chain n (at t) (map setting_of (grouped ds).groups)) (rw i at c)).1 in
          let w : Progress = passed beginning before d in
          let u : unshared_all w (at t) ds ≡ Apart t w es = same ds t w q r in
          rw (i, j) (rw i at (u ∙ ap (λ (b : Bool). b && pairs apart es) (unseen t w (rw i) es))))
          (λ i j. absurd (false≢true (rw (i, j) at l)))
          (λ i j. rw (i, j) (ih q (rw (i, j) at l) (rw (i, j) at c)))
