-- Every setting can be chosen, and every bulk or interrupt endpoint halted and mended (specs/Works). No axiom.
use Rattle.octets.proofs.Vocabulary.{◌≡◌, refl, sym, ap, ◌∙◌, ℕ, ◌/◌, ◌%◌, ◌≤◌, List-as-Memᴰ, true, false, ◌&&◌, not, false≢true, Option, some, none, ◌⊎◌, inl, inr, get_or, eqb, leb, get_or-set_same, get_or-set_other, arith, le-leb, eq-eqb, ne_eqb, eqb-true, eqb-false, not-true, leb-true}
use Rattle.octets.specs.Sentences.{is_some}
use Rattle.octets.specs.Sentences as words
use Rattle.octets.proofs.Sentences.{cases, both, joined, if-then, member-any, only-member, first_any, first_some, pairs-members}
use Rattle.octets.proofs.Bits.{set_same, clear-same}
use Rattle.descriptors.specs.declared.Setting.{Setting}
use Rattle.descriptors.specs.declared.Endpoint.{Endpoint}
use Rattle.descriptors.specs.Interfaces.{apart}
use Rattle.descriptors.specs.Configuration.{has_interface, has_setting, is_current, can_halt, bit_of}
use Rattle.sets.specs.Opening.{Board, BytesOf}
use Rattle.sets.specs.View.{View, accepted}
use Rattle.sets.specs.Sound.{SoundConfiguration}
use Rattle.records.specs.declared.Device.{Device}
use Rattle.records.specs.Device.{in_configured, settled}
use Rattle.records.specs.Current.{set_at, view_at, selected, current_endpoints, endpoint_at}
use Rattle.requests.specs.Table.{refusal}
use Rattle.events.specs.Answer.{OneByte, TwoBytes, gives}
use Rattle.events.specs.Answer as events
use Rattle.events.specs.Requests as requests
use Rattle.events.specs.Step.{step, request}
use Rattle.laws.proofs.Keeping.{sound_selected}
use Rattle.promises.specs.Sound.{sound}
use Rattle.enumeration.specs.Script.{Ready, set_interface, get_interface, set_halt, clear_halt, get_endpoint_status}
use Rattle.enumeration.specs.Works.{after_selecting, after_halting, Chosen, Mended, EverySetting, EveryEndpoint}
use Rattle.enumeration.proofs.Asking.{raw, other-code, other-kind, lets}
use Rattle.enumeration.proofs.Playing.{ready, played, next}

eqb-turn : (x y : ℕ) → eqb x y ≡ eqb y x
eqb-turn x y = cases (eqb x y) (λ p. p ∙ sym (eq-eqb y x (sym (eqb-true x y p)))) (λ p. p ∙ sym (ne_eqb y x (λ z. eqb-false x y p (sym z))))

apart-turn : (e f : Endpoint) → apart e f ≡ true → apart f e ≡ true
apart-turn e f p = rw (eqb-turn f.address e.address, eqb-turn f.interface e.interface, eqb-turn f.alternate e.alternate) p

module _ (b : Board) (octets : BytesOf b) (ok : accepted b ≡ true) {d : Device} (r : Ready b d) (configured : d.state ≡ in_configured) where
  abbrev v : View
  v = view_at b d

  good : SoundConfiguration (selected v d)
  good = sound_selected (set_at b d) v (sound b octets ok d.speed) d

  -- ---- every setting of the selected configuration
  module _ (s : Setting) (m : List-as-Memᴰ s (selected v d).settings) where
    abbrev with_it : Device
    with_it = after_selecting b d s

    sets_it : step b d (set_interface s.interface s.alternate) ≡ events.done with_it
    unfolding refusal request requests.set_interface words.first
    sets_it =
        let j = good.interfaces s m in
        let a = good.alternates s m in
        let x = le-leb s.interface 65535 (omega arith) in
        let y = le-leb s.alternate 65535 (omega arith) in
        let n = ne_eqb (s.alternate / 256) 3 (λ z. omega arith) in
        let h : has_setting (selected v d) s.interface s.alternate ≡ true = member-any (λ (t : Setting). eqb t.interface s.interface && eqb t.alternate s.alternate) m (joined (eq-eqb s.interface s.interface refl) (eq-eqb s.alternate s.alternate refl)) in
        lets b ok r (raw 0x01 0x0B s.alternate s.interface 0) (other-code (is_some b.high) (raw 0x01 0x0B s.alternate s.interface 0) refl) (rw (configured, n, x, y) refl)
        ∙ rw h refl

    pub selecting_ready : Ready b (after_selecting b d s)
    selecting_ready = ready octets ok (set_interface s.interface s.alternate) r sets_it r.calm

    tells-it : step b with_it (get_interface s.interface) ≡ gives (OneByte s.alternate) with_it
    unfolding refusal request requests.get_interface words.first
    tells-it =
        let j = good.interfaces s m in
        let z = r.sized.sixteen in
        let x = le-leb s.interface 65535 (omega arith) in
        let h : has_interface (selected v d) s.interface ≡ true = member-any (λ (t : Setting). eqb t.interface s.interface) m (eq-eqb s.interface s.interface refl) in
        lets b ok selecting_ready (raw 0x81 0x0A 0 s.interface 1) (other-code (is_some b.high) (raw 0x81 0x0A 0 s.interface 1) refl) (rw (configured, x) refl)
        ∙ rw (h, get_or-set_same d.alternates s.interface s.alternate 0 (omega arith)) refl

    chosen : Chosen b d s
    chosen =
        let j = good.interfaces s m in
        let z = r.sized.sixteen in
        record {
          plays = next sets_it refl (next tells-it refl played);
          current = get_or-set_same d.alternates s.interface s.alternate 0 (omega arith);
          others = λ j n. get_or-set_other d.alternates s.interface j s.alternate 0 n;
        }

  -- ---- every bulk or interrupt endpoint of a current setting
  module _ (e : Endpoint) (m : List-as-Memᴰ e (current_endpoints v d)) (can : can_halt e ≡ true) where
    is-in : List-as-Memᴰ e (selected v d).endpoints × (is_current d.alternates e ≡ true)
    is-in = only-member (is_current d.alternates) (selected v d).endpoints m

    -- no other has its address
    alone : (f : Endpoint) → List-as-Memᴰ f (current_endpoints v d) → f.address ≡ e.address → f ≡ e
    alone f n same = go (pairs-members apart apart-turn (selected v d).endpoints good.distinct g.0 is-in.0)
      where
        g : List-as-Memᴰ f (selected v d).endpoints × (is_current d.alternates f ≡ true)
        g = only-member (is_current d.alternates) (selected v d).endpoints n

        go : (f ≡ e) ⊎ (apart f e ≡ true) → f ≡ e
        go (inl p) = p
        go (inr p) =
            let (i, a) = both (eqb f.interface e.interface) (not (eqb f.alternate e.alternate)) (if-then (eqb f.address e.address) _ p (eq-eqb f.address e.address same)) in
            let one : f.alternate ≡ e.alternate =
            eqb-true f.alternate _ g.1 ∙ ap (λ (x : ℕ). get_or d.alternates x 0) (eqb-true f.interface e.interface i) ∙ sym (eqb-true e.alternate _ is-in.1) in
            absurd (eqb-false f.alternate e.alternate (not-true _ a) one)

    found : endpoint_at v d e.address ≡ some e
    found = go (endpoint_at v d e.address) refl
      where
        go : (o : Option Endpoint) → endpoint_at v d e.address ≡ o → o ≡ some e
        go none p = absurd (false≢true (ap is_some (sym p) ∙ first_any (λ (x : Endpoint). eqb x.address e.address) (current_endpoints v d) ∙ member-any (λ (x : Endpoint). eqb x.address e.address) m (eq-eqb e.address e.address refl)))
        go (some f) p = let (n, q) = first_some (λ (x : Endpoint). eqb x.address e.address) (current_endpoints v d) p in ap some (alone f n (eqb-true f.address e.address q))

    -- its bit, and the records: halted, and cleared
    abbrev k : ℕ
    k = bit_of e.address

    abbrev halted : Device
    halted = requests.set_halt (settled d) k

    abbrev cleared : Device
    cleared = after_halting d e.address

    small : e.address ≤ 65535
    small = omega (arith, good.octets e is-in.0)

    not-zero : requests.is_endpoint_zero e.address ≡ false
    not-zero =
        let (a, n) = both (eqb (e.address / 16 % 8) 0) (leb 1 (e.address % 16)) (good.addresses e is-in.0) in
        let l = leb-true 1 (e.address % 16) n in
        rw (ne_eqb e.address 0 (λ z. omega arith), ne_eqb e.address 128 (λ z. omega arith)) refl

    halts-it : step b d (set_halt e.address) ≡ events.done halted
    unfolding refusal request requests.set_feature words.first
    halts-it =
        let x = le-leb e.address 65535 small in
        lets b ok r (raw 0x02 0x03 0 e.address 0) (other-kind (is_some b.high) (raw 0x02 0x03 0 e.address 0) refl) (rw (configured, x) refl)
        ∙ rw (not-zero, found, can) refl

    at-halted : Ready b halted
    at-halted = ready octets ok (set_halt e.address) r halts-it r.calm

    tells-halt : step b halted (get_endpoint_status e.address) ≡ gives (TwoBytes 1 0) halted
    unfolding refusal request requests.get_status words.first
    tells-halt =
        let x = le-leb e.address 65535 small in
        lets b ok at-halted (raw 0x82 0x00 0 e.address 2) (other-kind (is_some b.high) (raw 0x82 0x00 0 e.address 2) refl) (rw (configured, x) refl)
        ∙ rw (not-zero, found, can, set_same d.halts k) refl

    clears-it : step b halted (clear_halt e.address) ≡ events.done cleared
    unfolding refusal request requests.clear_feature words.first
    clears-it =
        let x = le-leb e.address 65535 small in
        lets b ok at-halted (raw 0x02 0x01 0 e.address 0) (other-kind (is_some b.high) (raw 0x02 0x01 0 e.address 0) refl) (rw (configured, x) refl)
        ∙ rw (not-zero, found, can) refl

    at-cleared : Ready b cleared
    at-cleared = ready octets ok (clear_halt e.address) at-halted clears-it r.calm

    tells-cleared : step b cleared (get_endpoint_status e.address) ≡ gives (TwoBytes 0 0) cleared
    unfolding refusal request requests.get_status words.first
    tells-cleared =
        let x = le-leb e.address 65535 small in
        lets b ok at-cleared (raw 0x82 0x00 0 e.address 2) (other-kind (is_some b.high) (raw 0x82 0x00 0 e.address 2) refl) (rw (configured, x) refl)
        ∙ rw (not-zero, found, can, clear-same halted.halts k) refl

    mended : Mended b d e
    mended = record {
      plays = next halts-it refl (next tells-halt refl (next clears-it refl (next tells-cleared refl played)));
      runs = clear-same halted.halts k;
      toggle = clear-same d.toggles k;
    }

pub every_setting : EverySetting
every_setting b octets ok d r configured s m = chosen b octets ok r configured s m

pub every_endpoint : EveryEndpoint
every_endpoint b octets ok d r configured e m can = mended b octets ok r configured e m can
