-- A fitting record keeps fitting under every kind of outcome. No axiom.
use Rattle.octets.proofs.Vocabulary.{◌≡◌, refl, sym, ap, ◌∙◌, ℕ, ◌-◌, ◌%◌, ◌^◌, ◌≤◌, ◌<◌, List, List-as-Memᴰ, Bool, true, false, ◌&&◌, ◌||◌, not, false≢true, ◌⊎◌, inl, inr, length, eqb, leb, lit≤, arith, eqb-true, eqb-false, eq-eqb, ne_eqb, leb-true, le-leb}
use Rattle.octets.specs.Bit.{set_bit, clear_bit, flip_bit}
use Rattle.octets.specs.Sentences.{pick, any}
use Rattle.octets.proofs.Sentences.{both, joined, either, or_left, or_right, then_if}
use Rattle.octets.proofs.Bits.{set_other, clear-other, flip-other, set_below, clear-below, flip-below}
use Rattle.descriptors.specs.declared.Endpoint.{Endpoint}
use Rattle.descriptors.specs.Configuration.{has_setting, can_halt, bit_of}
use Rattle.sets.specs.Opening.{Board}
use Rattle.sets.specs.View.{View, wakes}
use Rattle.records.specs.declared.Device.{Device}
use Rattle.records.specs.Device.{in_default, in_address, in_configured, nothing, at_full_speed, at_high_speed, zeros, fresh, after_reset, test_waiting, test_waits, test_entered, in_test_mode, enter_test_mode, settled, with_waiting, with_wakeup, with_power, with_suspended, awake, with_address, with_configuration, with_endpoints, Sized}
use Rattle.records.specs.Current.{set_for, set_at, view_for, view_at, selected, current_endpoints}
use Rattle.records.specs.Fits.{good_speed, stands_at}
use Rattle.events.specs.declared.Event.{Event}
use Rattle.events.specs.Answer.{Outcome}
use Rattle.events.specs.Step.{good_reset}
use Rattle.events.specs.Requests.{clear_halt, set_halt, with_setting}
use Rattle.sets.specs.Sound.{Sound}
use Rattle.laws.proofs.Fitting.{Ranges, Stated, at_default, at_address, at_configured, Common, Stands, Fitting}
use Rattle.laws.specs.Parts.{Shared, shared, rest, with_common}
use Rattle.laws.proofs.Same.{one-view, one-board}
use Rattle.laws.proofs.Keeping.{none-stand, stand-changed, bit_below, zeros-good, set-good, set-stands, set-sized}
use Rattle.laws.proofs.Outcomes.{Changed, wakeup, halted, unhalted, toggled, waits, awaits, enters, applies, unconfigures, configures, sets, resets, powers, sleeps, Answered, reads, from_set, from_serial, changes, refused_with, in_test, Responded, answers, leaves, becomes, refuses}

-- a record that fits a view, and has the sizes that 32 bytes give it
pub record Fit (v : View) (d : Device) : Type 0 where
  pub fitting : Fitting v d
  pub sized : Sized d

-- ---- what a fitting record's rules say
module _ {v : View} {d : Device} (f : Common v d) where
  -- the ranges, with another state and wakeup
  ranged : {state on : ℕ} → state ≤ 2 → on ≤ 1 → Ranges v.paired state on d.power d.suspended d.speed
  ranged s w = record { stated = s; waking = w; powered = f.range.powered; sleeping = f.range.sleeping; running = f.range.running }

  -- past Default there is an address
  has_address : 1 ≤ d.state → (1 ≤ d.address) × (d.address ≤ 127)
  has_address p = go f.state
    where
      go : Stated v d.state d.address d.waiting d.configuration → (1 ≤ d.address) × (d.address ≤ 127)
      go (at_default s a c) = absurd (omega arith)
      go (at_address s l h c) = (l, h)
      go (at_configured s l h m w) = (l, h)

  -- what waits and is no test mode is an address, and the device is not Configured
  pub address-waits : (d.waiting ≡ nothing → ⊥) → test_waits d ≡ false → (d.configuration ≡ 0) × (eqb d.state in_configured ≡ false)
  address-waits n t = go f.state
    where
      no_test : (eqb d.waiting nothing ≡ true) ⊎ (test_waits d ≡ true) → ⊥
      no_test (inl p) = n (eqb-true d.waiting nothing p)
      no_test (inr p) = false≢true (sym t ∙ p)

      go : Stated v d.state d.address d.waiting d.configuration → (d.configuration ≡ 0) × (eqb d.state in_configured ≡ false)
      go (at_default s a c) = (c, rw s)
      go (at_address s k h c) = (c, rw s)
      go (at_configured s k h m w) = absurd (no_test (either (eqb d.waiting nothing) (test_waits d) w))

  -- it is at most 127
  low-address : (d.waiting ≡ nothing → ⊥) → test_waits d ≡ false → d.waiting ≤ 127
  low-address n t = go (either (eqb d.waiting nothing || (leb d.waiting 127 && not (in_test_mode d))) (test_waits d && eqb d.speed at_high_speed) f.waiting)
    where
      low : (eqb d.waiting nothing ≡ true) ⊎ ((leb d.waiting 127 && not (in_test_mode d)) ≡ true) → d.waiting ≤ 127
      low (inl p) = absurd (n (eqb-true d.waiting nothing p))
      low (inr p) = leb-true d.waiting 127 (both (leb d.waiting 127) (not (in_test_mode d)) p).0

      go : ((eqb d.waiting nothing || (leb d.waiting 127 && not (in_test_mode d))) ≡ true) ⊎ ((test_waits d && eqb d.speed at_high_speed) ≡ true) → d.waiting ≤ 127
      go (inl p) = low (either (eqb d.waiting nothing) (leb d.waiting 127 && not (in_test_mode d)) p)
      go (inr p) = absurd (false≢true (sym t ∙ (both (test_waits d) (eqb d.speed at_high_speed) p).0))

  -- a test mode waits at high speed
  pub test-waits : test_waits d ≡ true → d.speed ≡ at_high_speed
  test-waits t = go (either (eqb d.waiting nothing || (leb d.waiting 127 && not (in_test_mode d))) (test_waits d && eqb d.speed at_high_speed) f.waiting)
    where
      no_address : (eqb d.waiting nothing ≡ true) ⊎ ((leb d.waiting 127 && not (in_test_mode d)) ≡ true) → ⊥
      no_address (inl p) =
          let m = eqb-true d.waiting nothing p in
          let l = leb-true d.waiting 133 (both (leb 129 d.waiting) (leb d.waiting 133) t).1 in
          omega arith
      no_address (inr p) =
          let m = leb-true d.waiting 127 (both (leb d.waiting 127) (not (in_test_mode d)) p).0 in
          let l = leb-true 129 d.waiting (both (leb 129 d.waiting) (leb d.waiting 133) t).0 in
          omega arith

      go : ((eqb d.waiting nothing || (leb d.waiting 127 && not (in_test_mode d))) ≡ true) ⊎ ((test_waits d && eqb d.speed at_high_speed) ≡ true) → d.speed ≡ at_high_speed
      go (inl p) = absurd (no_address (either (eqb d.waiting nothing) (leb d.waiting 127 && not (in_test_mode d)) p))
      go (inr p) = eqb-true _ _ (both (test_waits d) (eqb d.speed at_high_speed) p).1

  -- nothing waits any more
  drops : Stated v d.state d.address nothing d.configuration
  drops = go f.state
    where
      go : Stated v d.state d.address d.waiting d.configuration → Stated v d.state d.address nothing d.configuration
      go (at_default s a c) = at_default s a c
      go (at_address s l h c) = at_address s l h c
      go (at_configured s l h m w) = at_configured s l h m refl

-- ---- byte 7
-- high speed needs two sets
pair_of : (paired : Bool) → good_speed paired at_high_speed ≡ true → paired ≡ true
pair_of true p = refl
pair_of false p = absurd (false≢true p)

-- a reset goes to a speed that fits
reset-good : (paired : Bool) (speed : ℕ) → good_reset paired speed ≡ true → good_speed paired speed ≡ true
reset-good paired speed p = go (either (eqb speed at_full_speed) (paired && eqb speed at_high_speed) p)
  where
    go : (eqb speed at_full_speed ≡ true) ⊎ ((paired && eqb speed at_high_speed) ≡ true) → good_speed paired speed ≡ true
    go (inl z) = or_left _ z
    go (inr z) =
        let (two, h) = both paired (eqb speed at_high_speed) z in
        let one = eqb-true speed at_high_speed h in
        or_right (eqb speed at_full_speed) (joined (joined two (eq-eqb (speed % 16) 1 (omega arith))) (le-leb speed 81 (omega arith)))

-- an entered test mode fits
entered-good : (w : ℕ) → (leb 129 w && leb w 133) ≡ true → good_speed true (test_entered (w - test_waiting 0)) ≡ true
entered-good w p =
    let (l, h) = both (leb 129 w) (leb w 133) p in
    let m = leb-true 129 w l in
    let n = leb-true w 133 h in
    or_right (eqb (test_entered (w - 128)) 0) (joined (eq-eqb (test_entered (w - 128) % 16) 1 (omega arith)) (le-leb (test_entered (w - 128)) 81 (omega arith)))

-- ---- the changes
-- asleep or awake
slept : {v : View} (x : Device) (on : ℕ) → on ≤ 1 → Fit v x → Fit v (with_suspended on x)
slept x on l g =
    let c = g.fitting.common in
    let s = g.fitting.stands in
    record {
      fitting = record {
        common = record { range = record { stated = c.range.stated; waking = c.range.waking; powered = c.range.powered; sleeping = l; running = c.range.running }; waiting = c.waiting; state = c.state; wakeup = c.wakeup };
        stands = record { alternates = s.alternates; halts = s.halts; toggles = s.toggles };
      };
      sized = record { sixteen = g.sized.sixteen; halts-fit = g.sized.halts-fit; toggles-fit = g.sized.toggles-fit };
    }

-- the view of an entered test mode is that of high speed
pub entered-view : (b : Board) (d : Device) → d.speed ≡ at_high_speed → view_at b (enter_test_mode d) ≡ view_at b d
entered-view b d h = one-view b (test_entered (d.waiting - test_waiting 0)) d.speed (ne_eqb (test_entered (d.waiting - test_waiting 0)) 0 (λ p. omega arith) ∙ sym (ne_eqb d.speed 0 (λ p. omega arith)))

module _ (b : Board) (sound : (speed : ℕ) → Sound (set_for b speed) (view_for b speed)) where
  -- every setting, halt and toggle 0
  cleared : (x : Device) → x.alternates ≡ zeros → x.halts ≡ 0 → x.toggles ≡ 0 → Common (view_at b x) x → Fit (view_at b x) x
  cleared x a h t c = record {
    fitting = record { common = c; stands = record { alternates = zeros-good (set_at b x) (view_at b x) (sound x.speed) x a; halts = rw h (none-stand (current_endpoints (view_at b x) x)); toggles = rw t (none-stand (current_endpoints (view_at b x) x)) } };
    sized = record { sixteen = ap length a; halts-fit = rw h (omega arith); toggles-fit = rw t (omega arith) };
  }

  pub fresh_fits : Fit (view_at b fresh) fresh
  fresh_fits = cleared fresh refl refl refl (record {
    range = record { stated = lit≤ tt; waking = lit≤ tt; powered = lit≤ tt; sleeping = lit≤ tt; running = refl };
    waiting = refl;
    state = at_default refl refl refl;
    wakeup = refl;
  })

  module _ (d : Device) (g : Fit (view_at b d) d) where
    abbrev v : View
    v = view_at b d

    abbrev bytes : List ℕ
    bytes = set_at b d

    s : Sound bytes v
    s = sound d.speed

    f : Common v d
    f = g.fitting.common

    z : Sized d
    z = g.sized

    -- other shared fields and another rest, at the same configuration, selected or not as before
    shares : (x : Shared) (w : ℕ × ℕ) → x.configuration ≡ d.configuration → eqb x.state in_configured ≡ eqb d.state in_configured → Common v (with_common x w d) → Fit v (with_common x w d)
    shares x w p q c = record {
      fitting = record { common = c; stands = record { alternates = rw (p, q) g.fitting.stands.alternates; halts = rw (p, q) g.fitting.stands.halts; toggles = rw (p, q) g.fitting.stands.toggles } };
      sized = record { sixteen = z.sixteen; halts-fit = z.halts-fit; toggles-fit = z.toggles-fit };
    }

    settles : Fit v (settled d)
    settles = slept (with_waiting nothing d) 0 (lit≤ tt) (shares (shared d) (nothing, d.suspended) refl refl (record { range = f.range; waiting = refl; state = drops f; wakeup = f.wakeup }))

    wakeable : (on : ℕ) → on ≤ 1 → wakes v ≡ true → Fit v (with_wakeup on d)
    wakeable on l w = shares (shared (with_wakeup on d)) (rest d) refl refl (record {
      range = ranged f f.range.stated l;
      waiting = f.waiting;
      state = f.state;
      wakeup = then_if (eqb on 1) (wakes v) (λ p. w);
    })

    powered : (source : ℕ) → source ≤ 1 → Fit v (with_power source d)
    powered source l = shares (shared (with_power source d)) (rest d) refl refl (record {
      range = record { stated = f.range.stated; waking = f.range.waking; powered = l; sleeping = f.range.sleeping; running = f.range.running };
      waiting = f.waiting;
      state = f.state;
      wakeup = f.wakeup;
    })

    reset : (speed : ℕ) → good_reset v.paired speed ≡ true → Fit (view_for b speed) (after_reset speed d)
    reset speed p = cleared (after_reset speed d) refl refl refl (record {
      range = record { stated = lit≤ tt; waking = lit≤ tt; powered = f.range.powered; sleeping = lit≤ tt; running = reset-good (view_for b speed).paired speed (rw (one-board b d.speed speed) at p) };
      waiting = refl;
      state = at_default refl refl refl;
      wakeup = refl;
    })

    waiting : (a : ℕ) → a ≤ 127 → d.state ≤ 1 → in_test_mode d ≡ false → Fit v (with_waiting a d)
    waiting a l p t = shares (shared d) (a, d.suspended) refl refl (record {
      range = f.range;
      waiting = or_left _ (or_right (eqb a nothing) (joined (le-leb a 127 l) (ap not t)));
      state = go f.state;
      wakeup = f.wakeup;
    })
      where
        go : Stated v d.state d.address d.waiting d.configuration → Stated v d.state d.address a d.configuration
        go (at_default s b c) = at_default s b c
        go (at_address s m h c) = at_address s m h c
        go (at_configured s m h n w) = absurd (omega arith)

    awaiting : (n : ℕ) → 1 ≤ n → n ≤ 5 → d.speed ≡ at_high_speed → Fit v (with_waiting (test_waiting n) d)
    awaiting n l h p = shares (shared d) (test_waiting n, d.suspended) refl refl (record {
      range = f.range;
      waiting = or_right (eqb (test_waiting n) nothing || (leb (test_waiting n) 127 && not (in_test_mode d))) (joined tests (eq-eqb d.speed at_high_speed p));
      state = go f.state;
      wakeup = f.wakeup;
    })
      where
        tests : (leb 129 (test_waiting n) && leb (test_waiting n) 133) ≡ true
        tests = joined (le-leb 129 (test_waiting n) (omega arith)) (le-leb (test_waiting n) 133 (omega arith))

        go : Stated v d.state d.address d.waiting d.configuration → Stated v d.state d.address (test_waiting n) d.configuration
        go (at_default s b c) = at_default s b c
        go (at_address s m h c) = at_address s m h c
        go (at_configured s m h k w) = at_configured s m h k (or_right (eqb (test_waiting n) nothing) tests)

    -- the test mode that waited: the high-speed set stays in use
    entered : test_waits d ≡ true → Fit (view_at b (enter_test_mode d)) (enter_test_mode d)
    entered t =
        let h = test-waits f t in
        let two = pair_of v.paired (rw h at f.range.running) in
        rw (entered-view b d h) (shares (shared (enter_test_mode d)) (nothing, d.suspended) refl refl (record {
          range = record { stated = f.range.stated; waking = f.range.waking; powered = f.range.powered; sleeping = f.range.sleeping; running = rw two (entered-good d.waiting t) };
          waiting = refl;
          state = drops f;
          wakeup = f.wakeup;
        }))

    -- the address that waited
    applied : (d.waiting ≡ nothing → ⊥) → test_waits d ≡ false → Fit v (with_address (pick (eqb d.waiting 0) in_default in_address) d.waiting d)
    applied n t = let (c, o) = address-waits f n t in go (eqb d.waiting 0) refl c o (low-address f n t)
      where
        go : (b : Bool) → eqb d.waiting 0 ≡ b → d.configuration ≡ 0 → eqb d.state in_configured ≡ false → d.waiting ≤ 127 → Fit v (with_address (pick b in_default in_address) d.waiting d)
        go true p c o l = shares (shared (with_address in_default d.waiting d)) (nothing, d.suspended) refl (sym o) (record {
          range = ranged f (lit≤ tt) f.range.waking;
          waiting = refl;
          state = at_default refl (eqb-true _ _ p) c;
          wakeup = f.wakeup;
        })
        go false p c o l = shares (shared (with_address in_address d.waiting d)) (nothing, d.suspended) refl (sym o) (record {
          range = ranged f (lit≤ tt) f.range.waking;
          waiting = refl;
          state = at_address refl (let n = eqb-false d.waiting 0 p in omega arith) l c;
          wakeup = f.wakeup;
        })

    unconfigured : 1 ≤ d.state → Fit v (with_configuration in_address 0 d)
    unconfigured l = cleared (with_configuration in_address 0 d) refl refl refl (record {
      range = ranged f (lit≤ tt) f.range.waking;
      waiting = f.waiting;
      state = let (a, b) = has_address f l in at_address refl a b refl;
      wakeup = f.wakeup;
    })

    configured : (c : ℕ) → 1 ≤ d.state → d.waiting ≡ nothing → any (λ k. eqb k.value c) v.configurations ≡ true → Fit v (with_configuration in_configured c d)
    configured c l w m = cleared (with_configuration in_configured c d) refl refl refl (record {
      range = ranged f (lit≤ tt) f.range.waking;
      waiting = f.waiting;
      state = let (a, b) = has_address f l in at_configured refl a b m (or_left _ (eq-eqb d.waiting nothing w));
      wakeup = f.wakeup;
    })

    -- other settings, halts and toggles
    stood : (l : List ℕ) (h t : ℕ) → Stands v (with_endpoints l h t d) → Sized (with_endpoints l h t d) → Fit v (with_endpoints l h t d)
    stood l h t p q = record {
      fitting = record { common = record { range = f.range; waiting = f.waiting; state = f.state; wakeup = f.wakeup }; stands = p };
      sized = q;
    }

    words : (h t : ℕ) → stands_at (current_endpoints v d) h ≡ true → stands_at (current_endpoints v d) t ≡ true → h < 2 ^ 32 → t < 2 ^ 32 → Fit v (with_endpoints d.alternates h t d)
    words h t p q k l = stood d.alternates h t (record { alternates = g.fitting.stands.alternates; halts = p; toggles = q })
        (record { sixteen = z.sixteen; halts-fit = k; toggles-fit = l })

    module _ (e : Endpoint) (m : List-as-Memᴰ e (current_endpoints v d)) (c : can_halt e ≡ true) where
      low : bit_of e.address < 32
      low = bit_below bytes v s d e m

      halts : Fit v (set_halt d (bit_of e.address))
      halts = words (set_bit d.halts (bit_of e.address)) d.toggles
          (stand-changed (current_endpoints v d) d.halts _ e m c (set_other d.halts (bit_of e.address)) g.fitting.stands.halts) g.fitting.stands.toggles
          (set_below 32 d.halts (bit_of e.address) low z.halts-fit) z.toggles-fit

      unhalts : Fit v (clear_halt d (bit_of e.address))
      unhalts = words (clear_bit d.halts (bit_of e.address)) (clear_bit d.toggles (bit_of e.address))
          (stand-changed (current_endpoints v d) d.halts _ e m c (clear-other d.halts (bit_of e.address)) g.fitting.stands.halts)
          (stand-changed (current_endpoints v d) d.toggles _ e m c (clear-other d.toggles (bit_of e.address)) g.fitting.stands.toggles)
          (clear-below 32 d.halts (bit_of e.address) low z.halts-fit) (clear-below 32 d.toggles (bit_of e.address) low z.toggles-fit)

      flips : Fit v (awake (with_endpoints d.alternates d.halts (flip_bit d.toggles (bit_of e.address)) d))
      flips = slept _ 0 (lit≤ tt) (words d.halts (flip_bit d.toggles (bit_of e.address)) g.fitting.stands.halts
          (stand-changed (current_endpoints v d) d.toggles _ e m c (flip-other d.toggles (bit_of e.address)) g.fitting.stands.toggles)
          z.halts-fit (flip-below 32 d.toggles (bit_of e.address) low z.toggles-fit))

    setting : (j a : ℕ) → has_setting (selected v d) j a ≡ true → Fit v (with_setting v d j a)
    setting j a h = stood _ _ _ (record {
      alternates = set-good bytes v s d g.fitting z j a h;
      halts = set-stands bytes v s d g.fitting z j a h d.halts g.fitting.stands.halts;
      toggles = set-stands bytes v s d g.fitting z j a h d.toggles g.fitting.stands.toggles;
    }) (set-sized bytes v s d g.fitting z j a h)

    changed_fits : {x : Device} → Changed v d x → Fit (view_at b x) x
    changed_fits (wakeup on l p) = wakeable on l p
    changed_fits (halted e m c) = halts e m c
    changed_fits (unhalted e m c) = unhalts e m c
    changed_fits (toggled e m c) = flips e m c
    changed_fits (waits a l h t) = waiting a l h t
    changed_fits (awaits n l h p) = awaiting n l h p
    changed_fits (enters t) = entered t
    changed_fits (applies n l) = applied n l
    changed_fits (unconfigures l) = unconfigured l
    changed_fits (configures c l w m) = configured c l w m
    changed_fits (sets j a h) = setting j a h
    changed_fits (resets speed p) = reset speed p
    changed_fits (powers source l) = powered source l
    changed_fits (sleeps on l) = slept d on l g

    answered_fits : {o : Outcome} → Answered v d o → Fit (view_at b o.device) o.device
    answered_fits (reads a p q) = g
    answered_fits (from_set e n m) = g
    answered_fits (from_serial n) = g
    answered_fits (changes c) = changed_fits c
    answered_fits (refused_with n l h) = g
    answered_fits (in_test t) = g

  pub responded_fits : (d : Device) → Fit (view_at b d) d → {e : Event} {o : Outcome} → Responded (view_at b d) d e o → Fit (view_at b o.device) o.device
  responded_fits d g (answers a) = answered_fits (settled d) (settles d g) a
  responded_fits d g leaves = g
  responded_fits d g (becomes c) = changed_fits d g c
  responded_fits d g (refuses r) = g
