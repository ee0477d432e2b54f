-- A record that fits, rule by rule: what `fits` says, in parts that a change can be followed through. No axiom.
use Rattle.octets.proofs.Vocabulary.{◌≡◌, refl, sym, ◌∙◌, ℕ, ◌≤◌, List, [], ◌∷◌, Bool, true, false, ◌&&◌, ◌||◌, false≢true, ◌⊎◌, inl, inr, eqb, leb, arith, eqb-true, eq-eqb, leb-true, le-leb}
use native.Mathlib.Decide.{ℕ_discrete}
use Rattle.octets.specs.Sentences.{◌⇒◌, any}
use Rattle.octets.proofs.Sentences.{both, joined, if-then, conjunct, either}
use Rattle.sets.specs.View.{View, wakes}
use Rattle.records.specs.declared.Device.{Device}
use Rattle.records.specs.Device.{in_default, in_address, in_configured, nothing, test_waiting, test_waits}
use Rattle.records.specs.Current.{selected, current_endpoints}
use Rattle.records.specs.Fits.{good_speed, in_range, good_waiting, good_state, good_alternates, stands_at, fits}

-- "those ranges hold", field by field
pub record Ranges (paired : Bool) (state wakeup power suspended speed : ℕ) : Type 0 where
  pub stated : state ≤ 2
  pub waking : wakeup ≤ 1
  pub powered : power ≤ 1
  pub sleeping : suspended ≤ 1
  pub running : good_speed paired speed ≡ true

-- no address waits: nothing does, or a test mode
abbrev pub unaddressed : ℕ → Bool
unaddressed waiting = eqb waiting nothing || (leb (test_waiting 1) waiting && leb waiting (test_waiting 5))

-- the three states' rules
pub data Stated (v : View) (state address waiting configuration : ℕ) : Type 0 where
  at_default : state ≡ in_default → address ≡ 0 → configuration ≡ 0 → Stated v state address waiting configuration
  at_address : state ≡ in_address → 1 ≤ address → address ≤ 127 → configuration ≡ 0 → Stated v state address waiting configuration
  at_configured : state ≡ in_configured → 1 ≤ address → address ≤ 127 → any (λ c. eqb c.value configuration) v.configurations ≡ true
      → unaddressed waiting ≡ true → Stated v state address waiting configuration

-- the rules of what is the whole device's, and those of its interfaces
pub record Common (v : View) (d : Device) : Type 0 where
  pub range : Ranges v.paired d.state d.wakeup d.power d.suspended d.speed
  pub waiting : good_waiting d ≡ true
  pub state : Stated v d.state d.address d.waiting d.configuration
  pub wakeup : (eqb d.wakeup 1 ⇒ wakes v) ≡ true

pub record Stands (v : View) (d : Device) : Type 0 where
  pub alternates : good_alternates (selected v d) d ≡ true
  pub halts : stands_at (current_endpoints v d) d.halts ≡ true
  pub toggles : stands_at (current_endpoints v d) d.toggles ≡ true

pub record Fitting (v : View) (d : Device) : Type 0 where
  pub common : Common v d
  pub stands : Stands v d

module _ (v : View) (d : Device) where
  -- ---- `in_range`, taken apart and put together again
  ranges : in_range v.paired d ≡ true → Ranges v.paired d.state d.wakeup d.power d.suspended d.speed
  ranges p =
      let row = leb d.state 2 ∷ leb d.wakeup 1 ∷ leb d.power 1 ∷ leb d.suspended 1 ∷ good_speed v.paired d.speed ∷ [] in
      record {
        stated = leb-true _ _ (conjunct 0 row p);
        waking = leb-true _ _ (conjunct 1 row p);
        powered = leb-true _ _ (conjunct 2 row p);
        sleeping = leb-true _ _ (conjunct 3 row p);
        running = conjunct 4 row p;
      }

  in-range : Ranges v.paired d.state d.wakeup d.power d.suspended d.speed → in_range v.paired d ≡ true
  in-range r =
      joined (joined (joined (joined (le-leb _ _ r.stated) (le-leb _ _ r.waking)) (le-leb _ _ r.powered)) (le-leb _ _ r.sleeping)) r.running

  -- ---- `good_state` likewise
  there : List Bool
  there = leb 1 d.address ∷ leb d.address 127 ∷ any (λ c. eqb c.value d.configuration) v.configurations ∷ unaddressed d.waiting ∷ []

  placed : List Bool
  placed = leb 1 d.address ∷ leb d.address 127 ∷ eqb d.configuration 0 ∷ []

  states : List Bool
  states =
      (eqb d.state in_default ⇒ (eqb d.address 0 && eqb d.configuration 0)) ∷
      (eqb d.state in_address ⇒ (leb 1 d.address && leb d.address 127 && eqb d.configuration 0)) ∷
      (eqb d.state in_configured ⇒ (leb 1 d.address && leb d.address 127 && any (λ c. eqb c.value d.configuration) v.configurations && unaddressed d.waiting)) ∷ []

  state-of : d.state ≤ 2 → good_state v d ≡ true → Stated v d.state d.address d.waiting d.configuration
  unfolding states placed there
  state-of l p = go (ℕ_discrete d.state 0) (ℕ_discrete d.state 1)
    where
      go : Dec (d.state ≡ 0) → Dec (d.state ≡ 1) → Stated v d.state d.address d.waiting d.configuration
      go (yes s) n =
          let (a, c) = both (eqb d.address 0) (eqb d.configuration 0) (if-then _ _ (conjunct 0 states p) (eq-eqb _ _ s)) in
          at_default s (eqb-true _ _ a) (eqb-true _ _ c)
      go (no n) (yes s) =
          let q = if-then _ _ (conjunct 1 states p) (eq-eqb _ _ s) in
          at_address s (leb-true _ _ (conjunct 0 placed q)) (leb-true _ _ (conjunct 1 placed q)) (eqb-true _ _ (conjunct 2 placed q))
      go (no n) (no m) =
          let s : d.state ≡ 2 = omega arith in
          let q = if-then _ _ (conjunct 2 states p) (eq-eqb _ _ s) in
          at_configured s (leb-true _ _ (conjunct 0 there q)) (leb-true _ _ (conjunct 1 there q)) (conjunct 2 there q) (conjunct 3 there q)

  good-state : Stated v d.state d.address d.waiting d.configuration → good_state v d ≡ true
  good-state (at_default s a c) = rw (s, a, c) refl
  good-state (at_address s l h c) = rw s (joined (joined (joined (le-leb _ _ l) (le-leb _ _ h)) (eq-eqb _ _ c)) refl)
  good-state (at_configured s l h m w) = rw s (joined (joined (joined (le-leb _ _ l) (le-leb _ _ h)) m) w)

  -- ---- `fits`
  rules : List Bool
  rules = in_range v.paired d ∷ good_waiting d ∷ good_state v d ∷ good_alternates (selected v d) d ∷ stands_at (current_endpoints v d) d.halts ∷ stands_at (current_endpoints v d) d.toggles ∷ (eqb d.wakeup 1 ⇒ wakes v) ∷ []

  pub fitting : fits v d ≡ true → Fitting v d
  unfolding fits rules
  fitting p =
      let r = ranges (conjunct 0 rules p) in
      record {
        common = record { range = r; waiting = conjunct 1 rules p; state = state-of r.stated (conjunct 2 rules p); wakeup = conjunct 6 rules p };
        stands = record { alternates = conjunct 3 rules p; halts = conjunct 4 rules p; toggles = conjunct 5 rules p };
      }

  pub fitted : Fitting v d → fits v d ≡ true
  unfolding fits
  fitted f =
      let c = f.common in
      let s = f.stands in
      joined (joined (joined (joined (joined (joined (in-range c.range) c.waiting) (good-state c.state)) s.alternates) s.halts) s.toggles) c.wakeup

  -- ---- in Configured no address waits, so nothing does where no test mode does
  pub unwaiting : fits v d ≡ true → d.state ≡ in_configured → test_waits d ≡ false → d.waiting ≡ nothing
  unwaiting f s t = go (fitting f).common.state
    where
      go : Stated v d.state d.address d.waiting d.configuration → d.waiting ≡ nothing
      go (at_default z a c) = absurd (omega arith)
      go (at_address z l h c) = absurd (omega arith)
      go (at_configured z l h m w) = neither (either (eqb d.waiting nothing) (test_waits d) w)
        where
          neither : (eqb d.waiting nothing ≡ true) ⊎ (test_waits d ≡ true) → d.waiting ≡ nothing
          neither (inl p) = eqb-true _ _ p
          neither (inr p) = absurd (false≢true (sym t ∙ p))
