-- A record fits, from what is told of the configuration with its value, which is the selected one if it does. No axiom.
use Rattle.octets.proofs.Vocabulary.{◌≡◌, refl, sym, ap, ◌∙◌, ℕ, ◌≤◌, List, [], ◌∷◌, Bool, true, false, ◌&&◌, ◌||◌, not, eqb, leb, arith, eqb-true, eqb-false, eq-eqb, leb-true}
use native.Mathlib.Decide.{ℕ_discrete}
use Rattle.octets.specs.Bit.{bit}
use Rattle.octets.specs.Sentences.{pick, ◌⇒◌, only, below}
use Rattle.octets.proofs.Sentences.{cases, both, conjunct, if-then, any_none, none_first}
use Rattle.descriptors.specs.Configuration.{Configuration, current_of, can_halt}
use Rattle.descriptors.specs.Lookup.{bits_of}
use Rattle.descriptors.specs.Survey.{good_alternate}
use Rattle.descriptors.proofs.EndpointBits.{stands}
use Rattle.sets.specs.View.{View, has_value, or_none, unconfigured, wakes}
use Rattle.records.specs.declared.Device.{Device}
use Rattle.records.specs.Device.{in_default, in_address, in_configured, nothing, test_waits}
use Rattle.records.specs.Change.{valued}
use Rattle.records.specs.Current.{selected}
use Rattle.records.specs.Fits.{good_speed, in_range, good_waiting, good_state, good_alternates, stands_at, fits}

-- the rules, of a configuration
abbrev fits_by : Configuration → View → Device → Bool
fits_by c v d =
    let es = current_of d.alternates c in
    in_range v.paired d && good_waiting d && good_state v d &&
    good_alternates c d &&
    stands_at es d.halts && stands_at es d.toggles &&
    (eqb d.wakeup 1 ⇒ wakes v)

module _ (v : View) (d : Device) (zero : has_value (record { 0 = 0 }) v.configurations ≡ false) where
  none-valued : d.configuration ≡ 0 → valued v d ≡ unconfigured
  none-valued z = ap or_none (none_first (λ c. eqb c.value d.configuration) v.configurations
      (λ c m. ap (eqb c.value) z ∙ any_none (λ c. eqb c.value 0) zero m))

  abbrev states : List Bool
  states =
      (eqb d.state in_default ⇒ (eqb d.address 0 && eqb d.configuration 0)) ∷
      (eqb d.state in_address ⇒ (leb 1 d.address && leb d.address 127 && eqb d.configuration 0)) ∷
      (eqb d.state in_configured ⇒ (leb 1 d.address && leb d.address 127 && has_value (record { 0 = d.configuration }) v.configurations && (eqb d.waiting nothing || test_waits d))) ∷ []

  -- elsewhere than in Configured the value is 0
  unvalued : d.state ≤ 2 → good_state v d ≡ true → (d.state ≡ in_configured → ⊥) → d.configuration ≡ 0
  unvalued l g n = go (ℕ_discrete d.state in_default) (ℕ_discrete d.state in_address)
    where
      go : Dec (d.state ≡ in_default) → Dec (d.state ≡ in_address) → d.configuration ≡ 0
      go (yes s) m = eqb-true _ _ (both (eqb d.address 0) (eqb d.configuration 0) (if-then _ _ (conjunct 0 states g) (eq-eqb _ _ s))).1
      go (no k) (yes s) = eqb-true _ _ (both (leb 1 d.address && leb d.address 127) (eqb d.configuration 0) (if-then _ _ (conjunct 1 states g) (eq-eqb _ _ s))).1
      go (no k) (no m) = absurd (n (omega arith))

  selects : d.state ≤ 2 → good_state v d ≡ true → valued v d ≡ selected v d
  selects l g = go (eqb d.state in_configured) refl
    where
      go : (t : Bool) → eqb d.state in_configured ≡ t → valued v d ≡ pick t (valued v d) unconfigured
      go true p = refl
      go false p = none-valued (unvalued l g (eqb-false _ _ p))

  in-range : in_range v.paired d ≡ true → d.state ≤ 2
  in-range r = leb-true _ _ (conjunct 0 (leb d.state 2 ∷ leb d.wakeup 1 ∷ leb d.power 1 ∷ leb d.suspended 1 ∷ good_speed v.paired d.speed ∷ []) r)

  refuted : (a w s x h t k : Bool) → (a && s) ≡ false → (a && w && s && x && h && t && k) ≡ false
  refuted false w s x h t k p = refl
  refuted true false s x h t k p = refl
  refuted true true s x h t k p = rw p

  none-fits : (c : Configuration) → (in_range v.paired d && good_state v d) ≡ false → fits_by c v d ≡ false
  none-fits c p =
      let es = current_of d.alternates c in
      refuted (in_range v.paired d) (good_waiting d) (good_state v d) (good_alternates c d) (stands_at es d.halts) (stands_at es d.toggles) (eqb d.wakeup 1 ⇒ wakes v) p

  -- where the ranges and the state are good the two are one; else neither fits
  by_value : fits_by (valued v d) v d ≡ fits v d
  unfolding fits
  by_value = cases (in_range v.paired d && good_state v d)
      (λ p. let (r, g) = both (in_range v.paired d) (good_state v d) p in ap (λ c. fits_by c v d) (selects (in-range r) g))
      (λ p. none-fits (valued v d) p ∙ sym (none-fits (selected v d) p))

  -- of a record that fits
  pub value-selects : fits v d ≡ true → valued v d ≡ selected v d
  value-selects f =
      let es = current_of d.alternates (valued v d) in
      let rules = in_range v.paired d ∷ good_waiting d ∷ good_state v d ∷ good_alternates (valued v d) d ∷ stands_at es d.halts ∷ stands_at es d.toggles ∷ (eqb d.wakeup 1 ⇒ wakes v) ∷ [] in
      let p = by_value ∙ f in
      selects (in-range (conjunct 0 rules p)) (conjunct 2 rules p)

  pub fitting : {range waiting state alternates halts toggles waking : Bool} {allowed : ℕ}
      → range ≡ in_range v.paired d → waiting ≡ good_waiting d → state ≡ good_state v d
      → alternates ≡ below 16 (good_alternate (valued v d) d.alternates)
      → allowed ≡ bits_of (only can_halt (current_of d.alternates (valued v d)))
      → halts ≡ below 32 (λ k. bit d.halts k ⇒ bit allowed k)
      → toggles ≡ below 32 (λ k. bit d.toggles k ⇒ bit allowed k)
      → waking ≡ wakes v
      → (range && waiting && state && alternates && halts && toggles && (not (eqb d.wakeup 1) || waking)) ≡ fits v d
  fitting r w s a m h t k =
      let es = current_of d.alternates (valued v d) in
      (rw (r, w, s, a, h, t, k, m, stands es d.halts, stands es d.toggles)) ∙ by_value
