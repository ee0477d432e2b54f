-- A few numbers stand for the check's progress and for where the last descriptor stands. No axiom.
use Rattle.octets.proofs.Vocabulary.{◌≡◌, refl, sym, ap, ◌∙◌, ℕ, ◌+◌, ◌*◌, ◌%◌, ◌≤◌, ◌<◌, List, [], ◌∷◌, Bool, true, false, ◌&&◌, ◌||◌, not, and-true, and-false, or-true, or-false, length, eqb, leb, ltb, arith, eq-eqb, ne_eqb, lt-ltb, le-ltb, eqb-true, eqb-false, ltb-true, ltb-false, leb-true, leb-false}
use Rattle.octets.specs.Bit.{bit}
use Rattle.octets.specs.Octets.{word}
use Rattle.octets.specs.Sentences.{pick, ◌⇒◌}
use Rattle.octets.proofs.Sentences.{cases, never, both, conjunct}
use Rattle.octets.proofs.Bits.{bit-zero}
use Rattle.octets.proofs.Words.{set-digit}
use Rattle.descriptors.specs.declared.limits.Limits.{Limits}
use Rattle.descriptors.specs.declared.Setting.{Setting}
use Rattle.descriptors.specs.declared.walk.Stand.{Stand}
use Rattle.descriptors.specs.Descriptor.{bDescriptorType, is_interface, is_endpoint, bInterfaceNumber, bAlternateSetting, bEndpointAddress, type_allowed, good_endpoint}
use Rattle.descriptors.specs.Interfaces.{begun_by}
use Rattle.descriptors.specs.Configuration.{bit_of}
use Rattle.descriptors.specs.Walk.{before, before_first, stand_of}
use Rattle.descriptors.specs.Check.{Progress, placed, fresh, may_begin, may_list, allowed, at_interface, at_endpoint, ended, beginning}
use Rattle.descriptors.specs.declared.sequence.Order.{Order}
use Rattle.descriptors.specs.Low.{low as is_low}
use Rattle.descriptors.specs.Sequence.{next_of, settles, begins, BegunBy, free, listable, listed_in, setting_out}

pub record Models (o : Order) (w : Progress) (last : Stand) : Type 0 where
  pub comes : o.coming ≡ w.coming
  pub owns : o.own ≡ w.interface
  pub sets : o.setting ≡ w.setting
  pub others : (e : ℕ) → e < 32 → bit o.others e ≡ (bit w.seen e && not (bit w.interface e))
  pub within : (e : ℕ) → e < 32 → bit w.interface e ≡ true → bit w.seen e ≡ true
  pub listed : (e : ℕ) → e < 32 → bit w.setting e ≡ true → bit w.seen e ≡ true
  pub inside : last.inside ≡ true → (last.interface < 16) × (last.alternate ≤ 15) × (o.last ≡ last.interface + 256 * last.alternate)
  pub outside : last.inside ≡ false → (last.interface ≡ 0) × (w.interface ≡ 0) × (o.last ≡ before_first) × (w.coming ≡ 0)

pub models-begin : Models setting_out beginning before
models-begin = record {
  comes = refl;
  owns = refl;
  sets = refl;
  others = λ e _. rw (bit-zero e);
  within = λ e _ p. never p (bit-zero e);
  listed = λ e _ p. never p (bit-zero e);
  inside = λ p. never p refl;
  outside = λ _. (refl, refl, refl, refl);
}

-- the last setting is low
pub models-low : {o : Order} {w : Progress} {last : Stand} → Models o w last → is_low o.last ≡ true
models-low {o} {w} {last} m = cases last.inside
    (λ p.
    let x = m.inside p in
    let small = lt-ltb o.last 131072 (omega (arith, x.0, x.1, x.2)) in
    let one = lt-ltb (o.last % 256) 16 (omega (arith, x.0, x.1, x.2)) in
    rw (small, one, or-true))
    (λ p. rw (m.outside p).2)

-- ---- where an interface descriptor may come
module _ (last : Stand) (t : Setting) where
  module _ (e : t.interface ≡ last.interface) where
    again : last.inside ≡ true → last.interface < 16 → t.alternate ≡ last.alternate + 1 → leb t.alternate 15 ≡ (placed last t && ltb t.interface 16)
    again p l a =
        simp (p, eq-eqb t.interface last.interface e, ne_eqb t.interface (last.interface + 1) (λ q. omega arith), eq-eqb t.alternate (last.alternate + 1) a, lt-ltb t.interface 16 (omega arith), and-true)

    not-again : last.inside ≡ true → (t.alternate ≡ last.alternate + 1 → ⊥) → false ≡ (placed last t && ltb t.interface 16)
    not-again p a =
        simp (p, eq-eqb t.interface last.interface e, ne_eqb t.interface (last.interface + 1) (λ q. omega arith), ne_eqb t.alternate (last.alternate + 1) a)

  at_first : last.inside ≡ false → (eqb t.interface 0 && eqb t.alternate 0 && ltb t.interface 16) ≡ (placed last t && ltb t.interface 16)
  at_first p = rw p (cases (eqb t.alternate 0)
      (λ q. let z = eqb-true t.alternate 0 q in simp (z, and-true))
      (λ q. simp (q, and-false)))

  module _ (e : t.interface ≡ last.interface → ⊥) where
    too-high : 16 ≤ t.interface → false ≡ (placed last t && ltb t.interface 16)
    too-high l = simp (le-ltb t.interface 16 l, and-false)

    at_next : t.interface < 16 → t.alternate ≡ 0 → last.inside ≡ true → eqb t.interface (last.interface + 1) ≡ (placed last t && ltb t.interface 16)
    at_next l a p = simp (p, a, ne_eqb t.interface last.interface e, lt-ltb t.interface 16 l, and-true, or-false)

    not-next : last.inside ≡ true → (t.alternate ≡ 0 → ⊥) → false ≡ (placed last t && ltb t.interface 16)
    not-next p a = simp (p, ne_eqb t.interface last.interface e, ne_eqb t.alternate 0 a, and-false)

module _ (last : Stand) (t : Setting) (o : Order) (i : t.interface < 256) (j : t.alternate < 256) where
  abbrev s : ℕ
  s = t.interface + 256 * t.alternate

  settles-inside : last.inside ≡ true → last.interface < 16 → o.last ≡ last.interface + 256 * last.alternate
      → settles o.last s ≡ (placed last t && ltb t.interface 16)
  settles-inside p l m = cases (eqb s (o.last + 256))
      (λ q.
      let r = eqb-true s (o.last + 256) q in
      let a : t.alternate ≡ last.alternate + 1 = omega arith in
      let e : t.interface ≡ last.interface = omega arith in
      rw q (same e ∙ again last t e p l a))
      (λ q. rw q (cases (eqb s (next_of o.last))
      (λ u.
      let r = eqb-true s (next_of o.last) u in
      let a : t.alternate ≡ 0 = omega arith in
      let v : t.interface ≡ last.interface + 1 = omega arith in
      let e : t.interface ≡ last.interface → ⊥ = λ z. omega arith in
      rw u (cases (ltb s 16)
      (λ y. let z = ltb-true s 16 y in rw y (sym (eq-eqb t.interface (last.interface + 1) v) ∙ at_next last t e (omega arith) a p))
      (λ y. let z = ltb-false s 16 y in rw y (too-high last t e (omega arith)))))
      (λ u. rw u (neither (eqb-false s (o.last + 256) q) (eqb-false s (next_of o.last) u)))))
    where
      same : t.interface ≡ last.interface → ltb s 4096 ≡ leb t.alternate 15
      same e = cases (leb t.alternate 15)
          (λ y. let z = leb-true t.alternate 15 y in rw y (lt-ltb s 4096 (omega arith)))
          (λ y. let z = leb-false t.alternate 15 y in rw y (le-ltb s 4096 (omega arith)))

      neither : (s ≡ o.last + 256 → ⊥) → (s ≡ next_of o.last → ⊥) → false ≡ (placed last t && ltb t.interface 16)
      neither u v = cases (eqb t.interface last.interface)
          (λ y. let e = eqb-true t.interface last.interface y in not-again last t e p (λ a. u (omega arith)))
          (λ y.
          let e = eqb-false t.interface last.interface y in
          cases (eqb t.alternate 0)
          (λ z.
          let a = eqb-true t.alternate 0 z in
          cases (ltb t.interface 16)
          (λ k. sym (ne_eqb t.interface (last.interface + 1) (λ b. v (omega arith))) ∙ at_next last t e (ltb-true t.interface 16 k) a p)
          (λ k. too-high last t e (ltb-false t.interface 16 k)))
          (λ z. not-next last t e p (eqb-false t.alternate 0 z)))

  settles-outside : last.inside ≡ false → o.last ≡ before_first → settles o.last s ≡ (placed last t && ltb t.interface 16)
  settles-outside p m =
      let q : eqb s (o.last + 256) ≡ false = ne_eqb s (o.last + 256) (λ e. omega arith) in
      let z : next_of o.last ≡ 0 = rw m in
      rw (q, z) (first ∙ at_first last t p)
    where
      first : (eqb s 0 && ltb s 16) ≡ (eqb t.interface 0 && eqb t.alternate 0 && ltb t.interface 16)
      first = cases (eqb s 0)
          (λ u. let v = eqb-true s 0 u in rw (u, lt-ltb s 16 (omega arith), eq-eqb t.interface 0 (omega arith), eq-eqb t.alternate 0 (omega arith), lt-ltb t.interface 16 (omega arith)))
          (λ u. let v = eqb-false s 0 u in cases (eqb t.interface 0)
          (λ y. let x = eqb-true t.interface 0 y in rw (u, y, ne_eqb t.alternate 0 (λ a. v (omega arith))))
          (λ y. rw (u, y)))

module _ {o : Order} {w : Progress} {last : Stand} (m : Models o w last) (d : List ℕ) where
  pub models-settles : bInterfaceNumber d < 256 → bAlternateSetting d < 256 → settles o.last (word d 2) ≡ (placed last (begun_by d) && ltb (bInterfaceNumber d) 16)
  models-settles i j = cases last.inside
      (λ p. let x = m.inside p in settles-inside last (begun_by d) o i j p x.0 x.2)
      (λ p. let x = m.outside p in settles-outside last (begun_by d) o i j p x.2)

  -- ---- an address
  module _ (small : bit_of (bEndpointAddress d) < 32) where
    pub models-fresh : free o d ≡ fresh w (bEndpointAddress d)
    models-fresh = rw (m.others (bit_of (bEndpointAddress d)) small, m.sets) (go (bit w.seen (bit_of (bEndpointAddress d))) (bit w.interface (bit_of (bEndpointAddress d))) (bit w.setting (bit_of (bEndpointAddress d))) (m.listed (bit_of (bEndpointAddress d)) small))
      where
        go : (seen interface setting : Bool) → (setting ≡ true → seen ≡ true) → not ((seen && not interface) || setting) ≡ ((seen ⇒ not setting) && (seen ⇒ interface))
        go false interface true h = never (h refl) refl
        go false interface false h = refl
        go true true true h = refl
        go true true false h = refl
        go true false true h = refl
        go true false false h = refl

    -- after an endpoint descriptor
    module _ (may : free o d ≡ true) where
      not-another : (a b : Bool) → not (a || b) ≡ true → a ≡ false
      not-another true b e = sym e
      not-another false b e = refl

      on : (s i b : Bool) → (i ≡ true → s ≡ true) → (i || b) ≡ true → (s || b) ≡ true
      on true i b f q = refl
      on false true b f q = never (f refl) refl
      on false false b f q = q

      pub models-endpoint : last.inside ≡ true → Models (listed_in o d) (at_endpoint w d) last
      models-endpoint in_one = record {
        comes = rw m.comes;
        owns = rw m.owns;
        sets = rw m.sets;
        others = λ e l. rw (set-digit w.seen (bit_of (bEndpointAddress d)) e, set-digit w.interface (bit_of (bEndpointAddress d)) e) (cases (eqb (bit_of (bEndpointAddress d)) e)
            (λ q. rw (q, ← eqb-true (bit_of (bEndpointAddress d)) e q, not-another (bit o.others (bit_of (bEndpointAddress d))) (bit o.setting (bit_of (bEndpointAddress d))) may) (both-set (bit w.seen (bit_of (bEndpointAddress d))) (bit w.interface (bit_of (bEndpointAddress d)))))
            (λ q. rw (q, or-false, or-false) (m.others e l)));
        within = λ e l q. rw (set-digit w.seen (bit_of (bEndpointAddress d)) e) (on (bit w.seen e) (bit w.interface e) (eqb (bit_of (bEndpointAddress d)) e) (m.within e l) (sym (set-digit w.interface (bit_of (bEndpointAddress d)) e) ∙ q));
        listed = λ e l q. rw (set-digit w.seen (bit_of (bEndpointAddress d)) e) (on (bit w.seen e) (bit w.setting e) (eqb (bit_of (bEndpointAddress d)) e) (m.listed e l) (sym (set-digit w.setting (bit_of (bEndpointAddress d)) e) ∙ q));
        inside = m.inside;
        outside = λ p. never in_one p;
      }
        where
          both-set : (s i : Bool) → false ≡ ((s || true) && not (i || true))
          both-set true true = refl
          both-set true false = refl
          both-set false true = refl
          both-set false false = refl

  -- ---- after an interface descriptor: another setting of the same interface, or the first of the next one
  module _ (next : Order) (g : BegunBy o (word d 2) d next) (may : settles o.last (word d 2) ≡ true) (i : bInterfaceNumber d < 256) (j : bAlternateSetting d < 256) where
    abbrev stand : Stand
    stand = record { inside = true; interface = bInterfaceNumber d; alternate = bAlternateSetting d }

    low : (bInterfaceNumber d < 16) × (bAlternateSetting d ≤ 15)
    low =
        let (p, l) = both (placed last (begun_by d)) (ltb (bInterfaceNumber d) 16) (sym (models-settles i j) ∙ may) in
        let (_, r) = both ((last.inside && ((eqb (bInterfaceNumber d) last.interface && eqb (bAlternateSetting d) (last.alternate + 1)) || (eqb (bInterfaceNumber d) (last.interface + 1) && eqb (bAlternateSetting d) 0))) || (not last.inside && eqb (bInterfaceNumber d) 0 && eqb (bAlternateSetting d) 0)) (leb (bAlternateSetting d) 15) p in
        (ltb-true (bInterfaceNumber d) 16 l, leb-true (bAlternateSetting d) 15 r)

    -- the addresses of this interface's settings
    kept : next.own ≡ (at_interface w last stand d).interface
    kept = g.rest.owns ∙ cases (eqb (word d 2) (o.last + 256))
        (λ q. rw q (cases last.inside
        (λ p. let x = m.inside p in let r = eqb-true (word d 2) (o.last + 256) q in rw (eq-eqb (bInterfaceNumber d) last.interface (omega (arith, x.0, x.1, x.2))) m.owns)
        (λ p. let x = m.outside p in let r = eqb-true (word d 2) (o.last + 256) q in absurd (omega (arith, x.2)))))
        (λ q. rw q (cases last.inside
        (λ p. let x = m.inside p in rw (ne_eqb (bInterfaceNumber d) last.interface (λ e. other x.0 x.2 q e)))
        (λ p. let x = m.outside p in rw x.1 (sym (pick_same (eqb (bInterfaceNumber d) last.interface))))))
      where
        pick_same : (b : Bool) → ◌≡◌ {A = ℕ} (pick b 0 0) 0
        pick_same true = refl
        pick_same false = refl

        other : last.interface < 16 → o.last ≡ last.interface + 256 * last.alternate → eqb (word d 2) (o.last + 256) ≡ false → bInterfaceNumber d ≡ last.interface → ⊥
        other l a q e =
            let (u, _) = both (eqb (word d 2) (next_of o.last)) (ltb (word d 2) 16) (rw q at may) in
            let v = eqb-true (word d 2) (next_of o.last) u in
            omega arith

    left : (e : ℕ) → e < 32 → bit next.others e ≡ (bit w.seen e && not (bit next.own e))
    left e l = g.rest.takes e l ∙ rw g.rest.owns (cases (eqb (word d 2) (o.last + 256))
        (λ q. rw (q, m.others e l, m.owns))
        (λ q. rw (q, m.others e l, m.owns, bit-zero e) (new (bit w.seen e) (bit w.interface e) (m.within e l))))
      where
        new : (s i : Bool) → (i ≡ true → s ≡ true) → ((s && not i) || i) ≡ (s && true)
        new true true h = refl
        new true false h = refl
        new false true h = never (h refl) refl
        new false false h = refl

    pub models-interface : Models next (at_interface w last stand d) stand
    models-interface = record {
      comes = g.comes;
      owns = kept;
      sets = g.clear;
      others = λ e l. left e l ∙ rw kept;
      within = λ e l p. cases (eqb (bInterfaceNumber d) last.interface)
          (λ q. m.within e l (rw q at p))
          (λ q. never (rw q at p) (bit-zero e));
      listed = λ e _ p. never p (bit-zero e);
      inside = λ _. (low.0, low.1, g.last);
      outside = λ p. never refl p;
    }

-- ---- the end
module _ {o : Order} {w : Progress} {last : Stand} (m : Models o w last) where
  pub models-ended : (n : ℕ) → 1 ≤ n → (eqb (next_of o.last) n && eqb o.coming 0) ≡ ended n w last
  models-ended n one = cases last.inside
      (λ p. let x = m.inside p in let e : next_of o.last ≡ last.interface + 1 = omega (arith, x.0, x.2) in rw (p, e, m.comes))
      (λ p. let x = m.outside p in let z : next_of o.last ≡ 0 = rw x.2 in rw (p, z, ne_eqb 0 n (λ e. omega arith)))

-- ---- what may come is what the check allows
length-first : (named long due placed : Bool) → (long && (named && due && placed)) ≡ (named && long && (due && placed))
length-first true true due placed = refl
length-first true false due placed = refl
length-first false true due placed = refl
length-first false false due placed = refl

number-last : (a c p q : Bool) → (a && c && (p && q)) ≡ ((a && (c && p)) && q)
number-last true true p q = refl
number-last true false p q = refl
number-last false c p q = refl

module _ (limits : Limits) {o : Order} {w : Progress} {last : Stand} (m : Models o w last) (d : List ℕ) where
  pub begins-allowed : bInterfaceNumber d < 256 → bAlternateSetting d < 256 → is_interface d ≡ true → begins o (word d 2) d ≡ (allowed limits w last (stand_of last d) d && ltb (bInterfaceNumber d) 16)
  begins-allowed i j k =
      let p = eqb-true (bDescriptorType d) 4 k in
      let a : may_begin w last (stand_of last d) d ≡ allowed limits w last (stand_of last d) d = simp (p, and-true) (length-first (type_allowed 4) (leb 9 (length d)) (eqb w.coming 0) (placed last (begun_by d))) in
      rw (models-settles m d i j, m.comes) (number-last (leb 9 (length d)) (eqb w.coming 0) (placed last (begun_by d)) (ltb (bInterfaceNumber d) 16))
      ∙ ap (λ (b : Bool). b && ltb (bInterfaceNumber d) 16) (begun k ∙ a)
    where
      begun : is_interface d ≡ true → (leb 9 (length d) && (type_allowed 4 && eqb w.coming 0 && placed last (begun_by d))) ≡ may_begin w last (stand_of last d) d
      begun k = rw k

  pub lists-allowed : bit_of (bEndpointAddress d) < 32 → is_endpoint d ≡ true → listable limits o d ≡ allowed limits w last (stand_of last d) d
  lists-allowed small k =
      let p = eqb-true (bDescriptorType d) 5 k in
      let a : may_list limits w d ≡ allowed limits w last (stand_of last d) d = simp (p, and-true) in
      rw (models-fresh m d small, m.comes) a

  abbrev rules : List Bool
  rules = type_allowed 5 ∷ good_endpoint limits d ∷ leb 1 o.coming ∷ free o d ∷ []

  pub lists-inside : listable limits o d ≡ true → last.inside ≡ true
  lists-inside p = cases last.inside (λ q. q)
      (λ q.
      let z = (m.outside q).3 in
      let l = leb-true 1 o.coming (conjunct 2 rules p) in
      absurd (omega (arith, z, m.comes)))

  pub lists-free : listable limits o d ≡ true → free o d ≡ true
  lists-free p = conjunct 3 rules p
