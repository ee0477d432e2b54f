-- Locality, for every event: one that concerns interface k takes its answer and k's next part from k's part and the shared fields, leaves
-- every other interface's part, and changes the rest only by dropping what waits; one that concerns nobody answers alike, and leaves
-- alike, records that k cannot tell apart and whose rest is the same. No axiom.
use Rattle.octets.proofs.Vocabulary.{◌≡◌, refl, sym, ap, subst, ◌∙◌, ℕ, Bool, true, false, false≢true, Option, some, none, Option·some-injective, Option·none-ne-some, eqb, eqb-true, eqb-false}
use Rattle.octets.specs.Sentences.{pick, any, first, is_some}
use Rattle.sets.specs.Opening.{Board}
use Rattle.sets.specs.View.{View, by_value, unconfigured}
use Rattle.records.specs.declared.Device.{Device}
use Rattle.records.specs.Device.{in_configured, nothing, test_waits, enter_test_mode}
use Rattle.records.specs.Current.{set_for, set_at, view_for, view_at, selected_in, selected}
use Rattle.records.specs.Fits.{fits_on}
use Rattle.requests.specs.Table.{recipient}
use Rattle.events.specs.declared.Event.{Event}
use Rattle.events.specs.declared.Event.TheVariants.{Request, Malformed, StatusEnd, BusReset, Halt, PacketPassed, Power, Suspend, Resume, Wake}
use Rattle.events.specs.Answer.{Answer, Outcome, number_of}
use Rattle.events.specs.Step.{respond}
use Rattle.events.specs.Concerns.{Subject, a_setup, an_endpoint, the_device, subject_of, subject_concerns, event_concerns, concerns, concerns_on}
use Rattle.order.specs.Owners.{Owners}
use Rattle.sets.specs.Sound.{Sound}
use Rattle.laws.proofs.Fitting.{fitting, unwaiting}
use Rattle.laws.proofs.Changes.{address-waits, test-waits, entered-view}
use Rattle.laws.proofs.Keeping.{sound_selected}
use Rattle.laws.specs.Parts.{Good, or_nobody, Shared, shared, SameIn, Same, rest, owned, who, keeps, wakes, settled_by, drops, kind, settle}
use Rattle.laws.proofs.Same.{self, whole, same_view, turn_on, join-on, settled_same, settled-rest, settle-again, settle-commute}
use Rattle.laws.proofs.Alike.{Alike, alike-event}
use Rattle.laws.proofs.Touches.{Touches, touch-event}

-- ---- whom an event concerns
-- it is seen by everybody
pub concerns-by : (b : Board) (r s : Device) (e : Event) → shared r ≡ shared s → concerns_on b r e ≡ concerns_on b s e
unfolding concerns
concerns-by b r s e p =
    ap (λ (x : Shared). pick (eqb x.state in_configured) (event_concerns (selected_in (view_for b x.speed) x.state x.configuration) e) none) p

nobody-concerned : (u : Subject) → subject_concerns unconfigured u ≡ none
unfolding any first
nobody-concerned (a_setup q) = go (eqb (recipient q) 1) (eqb (recipient q) 2)
  where
    go : (a b : Bool) → ◌≡◌ {A = Option ℕ} (pick a none (pick b none none)) none
    go true b = refl
    go false true = refl
    go false false = refl
nobody-concerned (an_endpoint a) = refl
nobody-concerned the_device = refl

-- outside Configured nothing is selected, so no event concerns anybody
concerns-good : (v : View) (d : Device) (e : Event) → concerns v d e ≡ event_concerns (selected v d) e
unfolding concerns
concerns-good v d e = go (eqb d.state in_configured)
  where
    go : (b : Bool) → (let c = pick b (by_value (record { 0 = d.configuration }) v.configurations) unconfigured in pick b (event_concerns c e) none ≡ event_concerns c e)
    go true = refl
    go false = sym (nobody-concerned (subject_of e))

-- ---- the laws
whose : (o : Option ℕ) → is_some o ≡ true → o ≡ some (or_nobody o)
whose none p = absurd (false≢true p)
whose (some j) p = refl

nobodys : (o : Option ℕ) → is_some o ≡ false → o ≡ none
nobodys none p = refl
nobodys (some j) p = absurd (false≢true (sym p))

-- an event that concerns an interface arrives in Configured
configured : (b : Board) (d : Device) (e : Event) → owned b d e ≡ true → eqb d.state in_configured ≡ true
unfolding concerns
configured b d e o = go (eqb d.state in_configured) o
  where
    go : (t : Bool) → is_some (pick t (event_concerns (selected (view_at b d) d) e) none) ≡ true → t ≡ true
    go true p = refl
    go false p = p

-- in Configured no address waits: where the device is not suspended and no test mode waits that a setup would drop, such an event has nothing to settle
pub idle : (b : Board) (d : Device) (e : Event) (a : Answer) → fits_on b d ≡ true → d.suspended ≡ 0 → (drops e ≡ true → test_waits d ≡ false) → owned b d e ≡ true
    → settle (kind e a) (rest d) ≡ rest d
idle b d e a f z t o = go e t
  where
    kept : settle wakes (rest d) ≡ rest d
    kept = λ i. (d.waiting, sym z i)

    passed : (ok : Bool) → settle (pick ok wakes keeps) (rest d) ≡ rest d
    passed true = kept
    passed false = refl

    go : (e : Event) → (drops e ≡ true → test_waits d ≡ false) → settle (kind e a) (rest d) ≡ rest d
    go (Request s) n = λ i. (sym (unwaiting (view_at b d) d f (eqb-true _ _ (configured b d e o)) (n refl)) i, sym z i)
    go (PacketPassed x) n = passed (eqb (number_of a) 0)
    go (Halt x) n = refl
    go Malformed n = refl
    go StatusEnd n = refl
    go (BusReset speed) n = refl
    go (Power source) n = refl
    go Suspend n = refl
    go Resume n = refl
    go Wake n = refl

-- the step at a record that fits, by the set in use
abbrev pub respond_on : Board → Device → Event → Outcome
respond_on b d e = respond (view_at b d) d e

module _ (b : Board) (S : (speed : ℕ) → Sound (set_for b speed) (view_for b speed)) where
  -- an event of k's
  mine : (d : Device) (e : Event) → Good b d → owned b d e ≡ true → event_concerns (selected (view_at b d) d) e ≡ some (who b d e)
  mine d e g o = sym (concerns-good (view_at b d) d e) ∙ whose (concerns_on b d e) o

  -- from two records at one speed: the same set is in use
  on_both : {T : Type 0} {k : ℕ} {r s : Device} (e : Event) → Same b k r s → Alike (view_for b) T k (respond_on b r e) (respond (view_at b r) s e)
      → Alike (view_for b) T k (respond_on b r e) (respond_on b s e)
  on_both {T} {k} {r} {s} e h a = subst (λ v. Alike (view_for b) T k (respond_on b r e) (respond v s e)) (same_view b r s h.firm) a

  -- where a test mode is entered the set in use stays
  staying : (r : Device) → Good b r → test_waits r ≡ true → view_at b (enter_test_mode r) ≡ view_at b r
  staying r g t = entered-view b r (test-waits (fitting (view_at b r) r g.1).common t)

  -- and an address is taken elsewhere than in Configured
  elsewhere : (r : Device) → Good b r → eqb r.waiting nothing ≡ false → test_waits r ≡ false → eqb r.state in_configured ≡ false
  elsewhere r g n t = (address-waits (fitting (view_at b r) r g.1).common (eqb-false _ _ n) t).1

  alike-mine : (k : ℕ) (r s : Device) (e : Event) → Good b r → Good b s → owned b r e ≡ true → who b r e ≡ k → Same b k r s
      → Alike (view_for b) ⊥ k (respond_on b r e) (respond_on b s e)
  alike-mine k r s e g d o w h =
      let v = view_at b r in
      let c : event_concerns (selected v r) e ≡ some k = mine r e g o ∙ ap some w in
      on_both e h (alike-event (view_for b) ⊥ k r s e (sound_selected (set_at b r) v (S r.speed) r) g.0.sixteen d.0.sixteen (λ j p. Option·some-injective j k (sym p ∙ c))
      (λ p. Option·none-ne-some k (sym (ap (subject_concerns (selected v r)) p) ∙ c)) (staying r g) (elsewhere r g) (record { part = h; still = λ t. absurd t }))

  -- an event of nobody's
  alike-free : (k : ℕ) (r s : Device) (e : Event) → Good b r → Good b s → owned b r e ≡ false → Same b k r s → rest r ≡ rest s
      → Alike (view_for b) (rest r ≡ rest s) k (respond_on b r e) (respond_on b s e)
  alike-free k r s e g d o h w =
      let v = view_at b r in
      let c : event_concerns (selected v r) e ≡ none = sym (concerns-good v r e) ∙ nobodys (concerns_on b r e) o in
      on_both e h (alike-event (view_for b) (rest r ≡ rest s) k r s e (sound_selected (set_at b r) v (S r.speed) r) g.0.sixteen d.0.sixteen
      (λ j p. absurd (Option·none-ne-some j (sym c ∙ p))) (λ p. w) (staying r g) (elsewhere r g) (record { part = h; still = λ t. t }))

  touch-mine : (d : Device) (e : Event) → Good b d → owned b d e ≡ true
      → Touches (view_at b d) (who b d e) (settled_by (kind e (respond_on b d e).answer) d) (respond_on b d e).device
  touch-mine d e g o = touch-event (view_at b d) (who b d e) d (sound_selected (set_at b d) (view_at b d) (S d.speed) d) e (mine d e g o)

  -- the parts of the others, by the set in use after it
  apart-mine : (k : ℕ) (d : Device) (e : Event) → Good b d → owned b d e ≡ true → (who b d e ≡ k → ⊥) → Same b k (respond_on b d e).device d
  apart-mine k d e g o n =
      let m = kind e (respond_on b d e).answer in
      let t = (touch-mine d e g o).others k n in
      let u = settled_same b k d m in
      join-on b k _ _ _ (subst (λ v. SameIn v k (respond_on b d e).device (settled_by m d)) (sym (same_view b (respond_on b d e).device d (t.firm ∙ u.firm))) t) u

  pub locality : ((d : Device) (e : Event) → Good b d → Good b (respond_on b d e).device)
      → Owners (λ d e. (respond_on b d e).answer) (λ d e. (respond_on b d e).device) (Good b) (owned b) (who b) (Same b) rest kind settle
  locality stays = record {
    keeps = stays;
    self = λ k r. self (view_at b r) k r;
    turn = turn_on b;
    join = join-on b;
    owned_by = λ k r s e g d h. ap is_some (concerns-by b r s e h.firm);
    who-by = λ k r s e g d h. ap or_nobody (concerns-by b r s e h.firm);
    reply = λ k r s e g d o w h. (alike-mine k r s e g d o w h).answer;
    local = λ k r s e g d o w h. (alike-mine k r s e g d o w h).near.part;
    apart = apart-mine;
    rests = λ r e g o. (touch-mine r e g o).still ∙ settled-rest r (kind e (respond_on b r e).answer);
    again = settle-again;
    commute = settle-commute;
    free-reply = λ k r s e g d o h w. (alike-free k r s e g d o h w).answer;
    free_local = λ k r s e g d o h w. (alike-free k r s e g d o h w).near.part;
    free-rest = λ k r s e g d o h w. (alike-free k r s e g d o h w).near.still w;
    whole = λ r s g d h w. whole (view_at b r) r s g.0 d.0 h w;
  }
