-- How the rules of a fitting record fare under each change that an event makes. No axiom.
use Rattle.octets.proofs.Vocabulary.{◌≡◌, refl, sym, ap, ◌∙◌, ℕ, ◌^◌, ◌<◌, List, [], ◌∷◌, List-as-Memᴰ, List·Memᴰ·head, List·Memᴰ·tail, List·Memᴰ·not-nil, List·Memᴰ·cases-cons, Bool, true, false, ◌&&◌, false≢true, Option, some, none, ◌⊎◌, inl, inr, get_or, set, get_or-replicate, length-set, eqb, get_or-set_same, get_or-set_other, arith, eqb-true, eq-eqb}
use native.Mathlib.Decide.{ℕ_discrete}
use Rattle.octets.specs.Bit.{bit, clear_bit}
use Rattle.octets.specs.Sentences.{pick, ◌⇒◌, any, only, first, pairs}
use Rattle.octets.proofs.Sentences.{never, both, joined, or_left, if-then, then_if, any-member, member-any, first_some, only-member, member-only, below_at, at-below}
use Rattle.octets.proofs.Bits.{clear-same, clear-other, clear-below, bit-zero}
use Rattle.descriptors.specs.declared.Setting.{Setting}
use Rattle.descriptors.specs.declared.Endpoint.{Endpoint}
use Rattle.descriptors.specs.Configuration.{Configuration, has_interface, has_setting, is_current, can_halt, bit_of, cleared, of_either}
use Rattle.sets.specs.View.{View, unconfigured, or_none}
use Rattle.records.specs.declared.Device.{Device}
use Rattle.records.specs.Device.{in_configured, zeros, Sized}
use Rattle.records.specs.Current.{selected, current_endpoints}
use Rattle.records.specs.Fits.{good_alternates, stands_at}
use Rattle.events.specs.Requests.{with_setting}
use Rattle.sets.specs.Sound.{SoundConfiguration, Sound}
use Rattle.laws.proofs.Fitting.{Fitting}

-- ---- words of bits
-- a bit of the word stands at an endpoint of the list that can halt
abbrev at : ℕ → Endpoint → Bool
at k e = can_halt e && eqb (bit_of e.address) k

standing : (es : List Endpoint) (word : ℕ) → ((k : ℕ) → k < 32 → bit word k ≡ true → any (at k) es ≡ true) → stands_at es word ≡ true
standing es word h = at-below (λ k. bit word k ⇒ any (at k) es) 32 (λ k l. then_if (bit word k) (any (at k) es) (h k l))

stands : (es : List Endpoint) (word : ℕ) → stands_at es word ≡ true → (k : ℕ) → k < 32 → bit word k ≡ true → any (at k) es ≡ true
stands es word p k l = if-then (bit word k) (any (at k) es) (below_at (λ k. bit word k ⇒ any (at k) es) 32 p k l)

-- no bit stands in 0
pub none-stand : (es : List Endpoint) → stands_at es 0 ≡ true
none-stand es = standing es 0 (λ k l p. never p (bit-zero k))

-- a word that changes only at an endpoint of the list that can halt
pub stand-changed : (es : List Endpoint) (old new : ℕ) (e : Endpoint) → List-as-Memᴰ e es → can_halt e ≡ true
    → ((k : ℕ) → (bit_of e.address ≡ k → ⊥) → bit new k ≡ bit old k) → stands_at es old ≡ true → stands_at es new ≡ true
stand-changed es old new e m c same p = standing es new (λ k l q. go k l q (ℕ_discrete (bit_of e.address) k))
  where
    go : (k : ℕ) → k < 32 → bit new k ≡ true → Dec (bit_of e.address ≡ k) → any (at k) es ≡ true
    go k l q (yes i) = member-any (at k) m (joined c (eq-eqb (bit_of e.address) k i))
    go k l q (no n) = stands es old p k l (sym (same k n) ∙ q)

-- the bits that are left when those of a list are cleared
uncleared : (es : List Endpoint) (word k : ℕ) → bit (cleared es word) k ≡ true → (bit word k ≡ true) × ((e : Endpoint) → List-as-Memᴰ e es → bit_of e.address ≡ k → ⊥)
unfolding cleared
uncleared [] word k p = (p, λ e m i. List·Memᴰ·not-nil m)
uncleared (x ∷ es) word k p =
    let (q, later) = uncleared es (clear_bit word (bit_of x.address)) k p in
    go q later (ℕ_discrete (bit_of x.address) k)
  where
    go : bit (clear_bit word (bit_of x.address)) k ≡ true → ((e : Endpoint) → List-as-Memᴰ e es → bit_of e.address ≡ k → ⊥)
        → Dec (bit_of x.address ≡ k) → (bit word k ≡ true) × ((e : Endpoint) → List-as-Memᴰ e (x ∷ es) → bit_of e.address ≡ k → ⊥)
    go q later (yes i) = never q (rw (← i) (clear-same word (bit_of x.address)))
    go q later (no n) = (sym (clear-other word (bit_of x.address) k n) ∙ q, λ e m i. one e (List·Memᴰ·cases-cons m) i)
      where
        one : (e : Endpoint) → (e ≡ x) ⊎ List-as-Memᴰ e es → bit_of e.address ≡ k → ⊥
        one e (inl j) i = n (ap (λ y. bit_of y.address) (sym j) ∙ i)
        one e (inr l) i = later e l i

cleared-below : (es : List Endpoint) (word : ℕ) → ((e : Endpoint) → List-as-Memᴰ e es → e.address < 256) → word < 2 ^ 32 → cleared es word < 2 ^ 32
unfolding cleared
cleared-below [] word h l = l
cleared-below (e ∷ es) word h l =
    cleared-below es (clear_bit word (bit_of e.address)) (λ x m. h x (List·Memᴰ·tail m)) (clear-below 32 word (bit_of e.address) (omega (arith, h e (List·Memᴰ·head refl))) l)

-- ---- the selected configuration of a sound view
-- nothing is wrong with no configuration
sound_none : SoundConfiguration unconfigured
unfolding any pairs
sound_none = record {
  interfaces = λ s m. absurd (List·Memᴰ·not-nil m);
  alternates = λ s m. absurd (List·Memᴰ·not-nil m);
  zero = λ j p. absurd (false≢true p);
  placed = λ e m. absurd (List·Memᴰ·not-nil m);
  addresses = λ e m. absurd (List·Memᴰ·not-nil m);
  octets = λ e m. absurd (List·Memᴰ·not-nil m);
  distinct = refl;
}

module _ (bytes : List ℕ) (v : View) (s : Sound bytes v) where
  pub sound_selected : (d : Device) → SoundConfiguration (selected v d)
  sound_selected d = at (eqb d.state in_configured)
    where
      go : (o : Option Configuration) → first (λ c. eqb c.value d.configuration) v.configurations ≡ o → SoundConfiguration (or_none o)
      go none p = sound_none
      go (some c) p = s.configurations c (first_some (λ c. eqb c.value d.configuration) v.configurations p).0

      at : (t : Bool) → SoundConfiguration (pick t (or_none (first (λ c. eqb c.value d.configuration) v.configurations)) unconfigured)
      at true = go (first (λ c. eqb c.value d.configuration) v.configurations) refl
      at false = sound_none

  -- a current endpoint's bit is one of 32
  pub bit_below : (d : Device) (e : Endpoint) → List-as-Memᴰ e (current_endpoints v d) → bit_of e.address < 32
  bit_below d e m = omega (arith, (sound_selected d).octets e (only-member (is_current d.alternates) (selected v d).endpoints m).0)

  -- ---- alternates
  -- every setting 0: "an interface has its setting 0"
  pub zeros-good : (d : Device) → d.alternates ≡ zeros → good_alternates (selected v d) d ≡ true
  zeros-good d z = at-below _ 16 (λ j l. let e : get_or d.alternates j 0 ≡ 0 = ap (λ x. get_or x j 0) z ∙ get_or-replicate {A = ℕ} 16 j 0 0 l in rw e (go j (has_interface (selected v d) j) refl))
    where
      go : (j : ℕ) (b : Bool) → has_interface (selected v d) j ≡ b → pick b (has_setting (selected v d) j 0) true ≡ true
      go j true p = (sound_selected d).zero j p
      go j false p = refl

  module _ (d : Device) (f : Fitting v d) (z : Sized d) (j a : ℕ) (h : has_setting (selected v d) j a ≡ true) where
    setting : (x : Setting) × List-as-Memᴰ x (selected v d).settings × (x.interface ≡ j)
    setting =
        let (x, m, p) = any-member (λ x. eqb x.interface j && eqb x.alternate a) (selected v d).settings h in
        (x, m, eqb-true x.interface j (both (eqb x.interface j) (eqb x.alternate a) p).0)

    there : j < 16
    there = let (x, m, i) = setting in rw (← i) ((sound_selected d).interfaces x m)

    there-is : has_interface (selected v d) j ≡ true
    there-is = let (x, m, i) = setting in member-any (λ x. eqb x.interface j) m (eq-eqb x.interface j i)

    pub set-good : good_alternates (selected v d) (with_setting v d j a) ≡ true
    set-good = at-below _ 16 (λ k l. go k l (ℕ_discrete k j))
      where
        go : (k : ℕ) → k < 16 → Dec (k ≡ j) → pick (has_interface (selected v d) k) (has_setting (selected v d) k (get_or (set d.alternates j a) k 0)) (eqb (get_or (set d.alternates j a) k 0) 0) ≡ true
        go k l (yes i) = rw (i, get_or-set_same d.alternates j a 0 (rw z.sixteen there), there-is) h
        go k l (no n) = rw (get_or-set_other d.alternates j k a 0 n) (below_at (λ k. pick (has_interface (selected v d) k) (has_setting (selected v d) k (get_or d.alternates k 0)) (eqb (get_or d.alternates k 0) 0)) 16 f.stands.alternates k l)

    -- what stays halted, or toggled, stands at another interface's endpoint, which stays current
    pub set-stands : (word : ℕ) → stands_at (current_endpoints v d) word ≡ true
        → stands_at (current_endpoints v (with_setting v d j a)) (cleared (only (of_either j (get_or d.alternates j 0) a) (selected v d).endpoints) word) ≡ true
    set-stands word p = standing _ _ (λ k l q. go k l (uncleared (only (of_either j (get_or d.alternates j 0) a) (selected v d).endpoints) word k q))
      where
        go : (k : ℕ) → k < 32 → (bit word k ≡ true) × ((e : Endpoint) → List-as-Memᴰ e (only (of_either j (get_or d.alternates j 0) a) (selected v d).endpoints) → bit_of e.address ≡ k → ⊥)
            → any (at k) (current_endpoints v (with_setting v d j a)) ≡ true
        go k l (q, gone) =
            let (e, m, t) = any-member (at k) (current_endpoints v d) (stands (current_endpoints v d) word p k l q) in
            let (n, c) = only-member (is_current d.alternates) (selected v d).endpoints m in
            let i = eqb-true (bit_of e.address) k (both (can_halt e) (eqb (bit_of e.address) k) t).1 in
            stays e n (eqb-true e.alternate (get_or d.alternates e.interface 0) c) t (λ y. gone e y i) (ℕ_discrete e.interface j)
          where
            stays : (e : Endpoint) → List-as-Memᴰ e (selected v d).endpoints → e.alternate ≡ get_or d.alternates e.interface 0 → at k e ≡ true
                → (List-as-Memᴰ e (only (of_either j (get_or d.alternates j 0) a) (selected v d).endpoints) → ⊥)
                → Dec (e.interface ≡ j) → any (at k) (current_endpoints v (with_setting v d j a)) ≡ true
            stays e n c t out (yes i) = absurd (out (member-only (of_either j (get_or d.alternates j 0) a) n
                (joined (eq-eqb e.interface j i) (or_left (eqb e.alternate a) (eq-eqb e.alternate (get_or d.alternates j 0) (c ∙ ap (λ x. get_or d.alternates x 0) i))))))
            stays e n c t out (no y) = member-any (at k) (member-only (is_current (set d.alternates j a)) n
                (eq-eqb e.alternate (get_or (set d.alternates j a) e.interface 0) (c ∙ sym (get_or-set_other d.alternates j e.interface a 0 y)))) t

    pub set-sized : Sized (with_setting v d j a)
    set-sized = record {
      sixteen = length-set d.alternates j a ∙ z.sixteen;
      halts-fit = cleared-below (only (of_either j (get_or d.alternates j 0) a) (selected v d).endpoints) d.halts octets z.halts-fit;
      toggles-fit = cleared-below (only (of_either j (get_or d.alternates j 0) a) (selected v d).endpoints) d.toggles octets z.toggles-fit;
    }
      where
        octets : (e : Endpoint) → List-as-Memᴰ e (only (of_either j (get_or d.alternates j 0) a) (selected v d).endpoints) → e.address < 256
        octets e m = (sound_selected d).octets e (only-member (of_either j (get_or d.alternates j 0) a) (selected v d).endpoints m).0
