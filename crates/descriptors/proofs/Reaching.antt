-- The check in few numbers: what the whole walk says, the walk from each place says, in the state that the order stands for. No axiom.
use Rattle.std.specs.Prelude.{Option, Some, IsTrue}
use Rattle.octets.proofs.Vocabulary.{◌≡◌, refl, sym, ap, ◌∙◌, ℕ, ◌+◌, ◌-◌, ◌≤◌, ◌<◌, List, Bool, true, false, ◌&&◌, not, not-true, and-true, and-false, or-true, some, none, length, drop, eqb, leb, ltb, arith, lt_of_not-le, add-sub_cancel_left, ne_eqb, le-leb, lt-leb, lt-ltb, eqb-true, eqb-false, leb-true, leb-false, ltb-true, ltb-false}
use Rattle.octets.specs.Octets.{byte, word, Bytes}
use Rattle.octets.specs.Sentences.{pick, ◌⇒◌, every}
use Rattle.octets.specs.Table.{has}
use Rattle.octets.proofs.Sentences.{cases, never, both}
use Rattle.descriptors.specs.declared.limits.Limits.{Limits}
use Rattle.descriptors.specs.declared.Setting.{Setting}
use Rattle.descriptors.specs.declared.walk.Stand.{Stand}
use Rattle.descriptors.specs.declared.checked.Checked.{Checked}
use Rattle.descriptors.specs.declared.check.Verdict.{Verdict}
use Rattle.descriptors.specs.declared.sequence.Order.{Order}
use Rattle.descriptors.specs.Limits.{refused_types, named}
use Rattle.descriptors.specs.Descriptor.{bDescriptorType, is_interface, is_endpoint, iInterface, type_allowed, good_descriptor}
use Rattle.descriptors.specs.Interfaces.{begun_by}
use Rattle.descriptors.specs.Cut.{Cutting, whole, broken, descriptor, cut}
use Rattle.descriptors.specs.Configuration.{bit_of}
use Rattle.descriptors.specs.Walk.{Pace, setting_at, before, stand_of, setting_after, steps_on, step_of, Plain, Plains, or_else, walked, collected}
use Rattle.descriptors.specs.Low.{low as is_low}
use Rattle.descriptors.specs.Check.{Progress, placed, in_order, unshared, allowed, accompanied, at_endpoint, onward, ended, beginning, Course, starting, passing, checking, reference_of, referring, verdict}
use Rattle.descriptors.specs.Sequence.{next_of, settles, begins, BegunBy, listable, listed_in, proceeds, setting_out, Turns, unaccompanied}
use Rattle.descriptors.proofs.Walks.{Walking, spanned, walk-stop, walk-on, walk_end}
use Rattle.descriptors.proofs.Plains.{plains-through, plain-kind, no-interface, no-endpoint}
use Rattle.descriptors.proofs.CheckOrder.{kinds}
use Rattle.descriptors.proofs.CheckWhole.{unasked, pass_on, pass-none, passed-without, check-stuck}
use Rattle.descriptors.proofs.CheckReferences.{asked-all, asked-on}
use Rattle.descriptors.proofs.SequenceRules.{others-allowed}
use Rattle.descriptors.proofs.Models.{Models, models-begin, models-settles, models-endpoint, models-interface, models-ended, begins-allowed, lists-allowed, lists-inside, lists-free}

-- ---- an interface whose number is too high: the body is not good, whatever follows
placed_on : (last : Stand) (t : Setting) (n : ℕ) → last.inside ≡ true → placed last t ≡ true → n ≤ last.interface → n ≤ t.interface
placed_on last t n p q l = cases (eqb t.interface last.interface)
    (λ e. let f = eqb-true t.interface last.interface e in omega arith)
    (λ e. cases (eqb t.interface (last.interface + 1))
    (λ f. let g = eqb-true t.interface (last.interface + 1) f in omega arith)
    (λ f. never q (rw (p, e, f))))

module _ (limits : Limits) (w : Progress) (last : Stand) (d : List ℕ) where
  allowed-placed : is_interface d ≡ true → allowed limits w last (stand_of last d) d ≡ true → placed last (setting_at (stand_of last d)) ≡ true
  allowed-placed i p =
      let stand = stand_of last d in
      let (q, _) = both (good_descriptor limits d && in_order w last stand d) (unshared w last stand d) p in
      let (_, r) = both (good_descriptor limits d) (in_order w last stand d) q in
      let (s, _) = both (is_interface d ⇒ (eqb w.coming 0 && placed last (setting_at stand))) (is_endpoint d ⇒ leb 1 w.coming) r in
      (both (eqb w.coming 0) (placed last (setting_at stand)) (ordered (is_interface d) i s)).1
    where
      ordered : (a : Bool) {b : Bool} → a ≡ true → (a ⇒ b) ≡ true → b ≡ true
      ordered a e h = rw e at h

  stands-late : (n : ℕ) → last.inside ≡ true → n ≤ last.interface → allowed limits w last (stand_of last d) d ≡ true → ((stand_of last d).inside ≡ true) × (n ≤ (stand_of last d).interface)
  stands-late n p l a = cases (is_interface d)
      (λ i. (rw i, rw i (placed_on last (begun_by d) n p (rw i at (allowed-placed i a)) l)))
      (λ i. (rw i p, rw i l))

module _ (limits : Limits) (n : ℕ) where
  late : (cs : Cutting) (c : Course) (last : Stand) → last.inside ≡ true → n ≤ last.interface → walked (checking limits n) c last cs ≡ false
  unfolding walked
  late whole c last p l = rw (ne_eqb (last.interface + 1) n (λ e. omega arith), and-false last.inside)
  late broken c last p l = refl
  late (descriptor d ds) c last p l =
      let stand = stand_of last d in
      go (allowed limits c.progress last stand d) (limits.companions ⇒ accompanied c.due d)
      (λ a. let q = stands-late limits c.progress last d n p l a in late ds (passing limits c last stand d) stand q.0 q.1)
    where
      go : (a b : Bool) {rest : Bool} → (a ≡ true → rest ≡ false) → or_else (pick (a && b) none (some false)) rest ≡ false
      go true true f = f refl
      go true false f = refl
      go false b f = refl

-- ---- what is known at a place: the state that the order stands for is no local's
abbrev pub verdict_of : Limits → ℕ → List ℕ → ℕ → Bool
verdict_of limits n body from = walked (checking limits n) starting before (cut (drop from body))

abbrev pub references_in : List ℕ → List ℕ → ℕ → Bool
references_in names body from = every (has names) (collected referring body before from)

pub record Reached (limits : Limits) (n : ℕ) (names body : List ℕ) (from : ℕ) (o : Order) (refers : Bool) (w : Progress) (last : Stand) (at : ℕ) : Type 0 where
  pub near : at ≤ length body + 255
  pub models : Models o w last
  pub checks : at ≤ length body → Walking (checking limits n) body (verdict_of limits n body from) (record { progress = w; due = false }) last at
  pub past : length body < at → verdict_of limits n body from ≡ false
  pub asks : at ≤ length body → references_in names body from ≡ (refers && every (has names) (collected referring body last at))

-- the same, with the state
pub record Stood (limits : Limits) (n : ℕ) (names body : List ℕ) (from : ℕ) (o : Order) (refers : Bool) (at : ℕ) : Type 0 where
  pub w : Progress
  pub last : Stand
  pub reached : Reached limits n names body from o refers w last at

pub reached-begin : {limits : Limits} {n : ℕ} {names body : List ℕ} {from : ℕ} → from ≤ length body
    → Reached limits n names body from setting_out true beginning before from
reached-begin l = record {
  near = omega arith;
  models = models-begin;
  checks = λ _. record { rest = refl };
  past = λ m. absurd (omega arith);
  asks = λ _. refl;
}

module _ {limits : Limits} {n : ℕ} {names body : List ℕ} {from : ℕ} {o : Order} {refers : Bool} {w : Progress} {last : Stand} {at : ℕ}
    (alone : limits.companions ≡ false) (r : Reached limits n names body from o refers w last at) where
  abbrev total : Bool
  total = verdict_of limits n body from

  abbrev course : Course
  course = record { progress = w; due = false }

  module _ (h : at < length body) where
    inv : Walking (checking limits n) body (verdict_of limits n body from) (record { progress = w; due = false }) last at
    inv = let l : at ≤ length body = omega arith in r.checks l

    stuck-here : steps_on body at ≡ false → total ≡ false
    stuck-here p = let e : (step_of body at last).end ≡ at = rw p in sym (check-stuck limits n inv {step = step_of body at last} refl h (omega arith))

    pub reached-small : byte body at < 2 → total ≡ false
    reached-small l = stuck-here (rw (lt-leb 2 (byte body at) l))

    pub reached-long : length body < at + byte body at → total ≡ false
    reached-long l = stuck-here (simp (lt-leb (byte body at) (length body - at) (omega arith), and-false))

    module _ (two : 2 ≤ byte body at) (end : ℕ) (e : end ≡ at + byte body at) (l : end ≤ length body) where
      abbrev d : List ℕ
      d = spanned body at end

      abbrev stand : Stand
      stand = stand_of last (spanned body at end)

      pub is-step : ◌≡◌ {A = Pace} (record { end = end; stand = stand_of last (spanned body at end) }) (step_of body at last)
      is-step = rw (e, le-leb 2 (byte body at) two, lt-ltb at (length body) h, le-leb (byte body at) (length body - at) (omega arith), add-sub_cancel_left)

      pub goes_on : at < end
      goes_on = omega arith

      checked : allowed limits w last stand d ≡ true
          → Walking (checking limits n) body (verdict_of limits n body from) (record { progress = onward w last stand d; due = false }) stand end
      checked a = walk-on inv is-step h goes_on (pass_on limits n course last stand d a (unasked _ alone)) (passed-without limits n course last stand d (onward w last stand d) refl alone)

      refused : allowed limits w last stand d ≡ false → total ≡ false
      refused a = sym (walk-stop inv is-step h goes_on false (pass-none limits n course last stand d a))

      asked-next : references_in names body from ≡ ((refers && every (has names) (reference_of d)) && every (has names) (collected referring body stand end))
      asked-next =
          let k : at ≤ length body = omega arith in
          asked-on (has names) body last at refers (references_in names body from) (r.asks k) (record { end = end; stand = stand_of last (spanned body at end) }) is-step h goes_on

      -- a descriptor that is neither an interface's nor an endpoint's
      module _ (i : is_interface d ≡ false) (k : is_endpoint d ≡ false) (free : named refused_types (bDescriptorType d) ≡ false) where
        other-allowed : allowed limits w last stand d ≡ true
        other-allowed = rw (i, k, free)

        pub other-checks : Walking (checking limits n) body (verdict_of limits n body from) (record { progress = w; due = false }) last end
        other-checks = rw (i, k) at (checked other-allowed)

        pub other-asks : references_in names body from ≡ (refers && every (has names) (collected referring body last end))
        unfolding every
        other-asks = (rw i at asked-next) ∙ rw (and-true refers)

        pub reached-other : Reached limits n names body from o refers w last end
        reached-other = record {
          near = omega arith;
          models = r.models;
          checks = λ _. other-checks;
          past = λ m. absurd (omega arith);
          asks = λ _. other-asks;
        }

      module _ (b2 : byte d 2 < 256) (b3 : byte d 3 < 256) where
        -- an endpoint descriptor
        module _ (i : is_interface d ≡ false) (k : is_endpoint d ≡ true) (may : listable limits o d ≡ true) where
          small : bit_of (byte d 2) < 32
          small = omega arith

          asked-none : references_in names body from ≡ (refers && every (has names) (collected referring body last end))
          unfolding every
          asked-none = (rw i at asked-next) ∙ rw (and-true refers)

          pub reached-endpoint : Reached limits n names body from (listed_in o d) refers (at_endpoint w d) last end
          reached-endpoint = record {
            near = omega arith;
            models = models-endpoint r.models d small (lists-free limits r.models d may) (lists-inside limits r.models d may);
            checks = λ _. rw (i, k) at (checked (sym (lists-allowed limits r.models d small k) ∙ may));
            past = λ m. absurd (omega arith);
            asks = λ _. asked-none;
          }

        -- an interface descriptor
        module _ (i : is_interface d ≡ true) where
          module _ (may : begins o (word d 2) d ≡ true) where
            pair : (allowed limits w last stand d ≡ true) × (ltb (byte d 2) 16 ≡ true)
            pair = both (allowed limits w last stand d) (ltb (byte d 2) 16) (sym (begins-allowed limits r.models d b2 b3 i) ∙ may)

            pub low : byte d 2 < 16
            low = ltb-true (byte d 2) 16 pair.1

            pub may-stand : placed last (begun_by d) ≡ true
            may-stand = rw i at (allowed-placed limits w last d i pair.0)

            settled : settles o.last (word d 2) ≡ true
            settled = models-settles r.models d b2 b3 ∙ rw (may-stand, pair.1)

            one-reference : every (has names) (reference_of d) ≡ has names (iInterface d)
            unfolding every
            one-reference = rw i (and-true (has names (iInterface d)))

            pub reached-interface : (next : Order) (g : BegunBy o (word d 2) d next) → Reached limits n names body from next (refers && has names (iInterface d)) (onward w last stand d) stand end
            reached-interface next g = record {
              near = omega arith;
              models = rw i (models-interface r.models d next g settled b2 b3);
              checks = λ _. checked pair.0;
              past = λ m. absurd (omega arith);
              asks = λ _. asked-next ∙ rw one-reference;
            }

          pub interface-refused : n ≤ 16 → begins o (word d 2) d ≡ false → total ≡ false
          interface-refused few p = cases (allowed limits w last stand d)
              (λ a.
              let high = ltb-false (byte d 2) 16 (too-high a) in
              (checked a).rest ∙ late limits n (cut (drop end body)) (record { progress = onward w last stand d; due = false }) stand (rw i) (rw i (omega arith)))
              (λ a. refused a)
            where
              too-high : allowed limits w last stand d ≡ true → ltb (byte d 2) 16 ≡ false
              too-high a = sym (rw a) ∙ sym (begins-allowed limits r.models d b2 b3 i) ∙ p

        -- any descriptor that may come
        pub reached-turn : {setting : ℕ} {turned : Checked} {l : IsTrue (is_low o.last)} → setting ≡ setting_after o.last d → Turns limits names (record { order = o; refers = refers; low = l }) setting d (Some turned)
            → Stood limits n names body from turned.order turned.refers end
        reached-turn {setting} {turned} {l} told t =
            let p = sym t.may in
            kinds d
            (λ i k. let s = t.on.starts i in let n : setting ≡ word d 2 = told ∙ rw i in record { w = onward w last stand d; last = stand; reached = rw s.1 (reached-interface i (rw (k, i, n) at p) turned.order (rw n at s.0)) })
            (λ i k. let s = t.on.lists k in record { w = at_endpoint w d; last = last; reached = rw (s.0, s.1) (reached-endpoint i k (rw k at p)) })
            (λ i k. record { w = w; last = last; reached = rw (t.on.passes i k) (reached-other i k (not-true (named refused_types (bDescriptorType d)) (rw (k, i) at p))) })

        -- any descriptor that may not come
        pub reached-refused : n ≤ 16 → {setting : ℕ} → setting ≡ setting_after o.last d → proceeds limits o setting d ≡ false → total ≡ false
        reached-refused few {setting} told p =
            kinds d
            (λ i k. let n : setting ≡ word d 2 = told ∙ rw i in interface-refused i few (rw (k, i, n) at p))
            (λ i k. refused (sym (lists-allowed limits r.models d (omega arith) k) ∙ (rw k at p)))
            (λ i k. refused (sym (another i k) ∙ (rw (k, i) at p)))
          where
            another : is_interface d ≡ false → is_endpoint d ≡ false → type_allowed (bDescriptorType d) ≡ allowed limits w last stand d
            another i k = simp (i, k, and-true)

-- of companions a turn says nothing
pub turns_alone : {limits : Limits} {names : List ℕ} {w : Checked} {setting : ℕ} {d : List ℕ} {r : Option Checked} → Turns limits names w setting d r → Turns (unaccompanied limits) names w setting d r
turns_alone t = record { may = t.may; on = t.on }

-- ---- a descriptor that is stepped over, by its type alone; where it ends past the body, the body is not good
module _ {limits : Limits} {n : ℕ} {names body : List ℕ} {from : ℕ} {o : Order} {refers : Bool} {w : Progress} {last : Stand} (alone : limits.companions ≡ false) where
  pub reached-skip : {at : ℕ} → Bytes body → Plain body at → Reached limits n names body from o refers w last at → Reached limits n names body from o refers w last (at + byte body at)
  reached-skip {at} bytes d r = record {
    near = let small = bytes at in omega (arith, d.inside);
    models = r.models;
    checks = λ m. other-checks alone r h d.two _ refl m i k unrefused;
    past = λ m. reached-long alone r h (omega arith);
    asks = λ m. other-asks alone r h d.two _ refl m i k unrefused;
  }
    where
      h : at < length body
      h = omega (arith, d.inside)

      i : is_interface (spanned body at (at + byte body at)) ≡ false
      i = no-interface body at d

      k : is_endpoint (spanned body at (at + byte body at)) ≡ false
      k = no-endpoint body at d

      unrefused : named refused_types (bDescriptorType (spanned body at (at + byte body at))) ≡ false
      unrefused = rw (plain-kind body at d) (others-allowed (byte body (at + 1)) d.plain)

  -- and behind it the others
  pub reached-behind : {at : ℕ} → Bytes body → Reached limits n names body from o refers w last at → Plain body at
      → {r : ℕ} → Plains body (at + byte body at) r → Reached limits n names body from o refers w last r
  reached-behind bytes reached d ds =
      plains-through (λ r. Reached limits n names body from o refers w last r) (λ r e p. reached-skip bytes e p) ds (reached-skip bytes d reached)

-- ---- the end
module _ {limits : Limits} {n : ℕ} {names body : List ℕ} {from : ℕ} {o : Order} {refers : Bool} {w : Progress} {last : Stand} {at : ℕ}
    (alone : limits.companions ≡ false) (r : Reached limits n names body from o refers w last at) where
  -- past the body, or one byte before its end
  broken-off : (at ≡ length body → ⊥) → length body ≤ at + 1 → verdict_of limits n body from ≡ false
  broken-off e l = cases (ltb at (length body))
      (λ p. let h = ltb-true at (length body) p in cases (leb 2 (byte body at))
      (λ q. let two = leb-true 2 (byte body at) q in reached-long alone r h (omega arith))
      (λ q. reached-small alone r h (leb-false 2 (byte body at) q)))
      (λ p. let h = ltb-false at (length body) p in r.past (lt_of_not-le (λ m. e (omega arith))))

  module _ (e : at ≡ length body) where
    l : at ≤ length body
    l = omega arith

    m : length body ≤ at
    m = omega arith

    ends : (ended n w last && (limits.companions ⇒ true)) ≡ verdict_of limits n body from
    ends = walk_end (r.checks l) m

    ends_so : 1 ≤ n → (eqb (next_of o.last) n && eqb o.coming 0) ≡ verdict_of limits n body from
    ends_so one = models-ended r.models n one ∙ sym (ap (λ (b : Bool). ended n w last && b) (or-true (not limits.companions)) ∙ and-true (ended n w last)) ∙ ends

    pub refers-so : references_in names body from ≡ refers
    refers-so = asked-all (has names) body last at refers (references_in names body from) (r.asks l) m

  -- how the walk ends, if nothing stopped it
  pub reached-end : 1 ≤ n → length body ≤ at + 1 → (eqb at (length body) && eqb (next_of o.last) n && eqb o.coming 0) ≡ verdict_of limits n body from
  reached-end one b = cases (eqb at (length body))
      (λ x. rw x (ends_so (eqb-true at (length body) x) one))
      (λ x. rw x (sym (broken-off (eqb-false at (length body) x) b)))

  -- the verdict then; of a body that is not good, nothing is said of its references
  pub verdict-end : 1 ≤ n → length body ≤ at + 1
      → let good = eqb at (length body) && eqb (next_of o.last) n && eqb o.coming 0 in
      ◌≡◌ {A = Verdict} (record { good = good; refers = good && refers }) (verdict (verdict_of limits n body from) (references_in names body from))
  verdict-end one b = cases (eqb at (length body))
      (λ x. rw (reached-end one b, refers-so (eqb-true at (length body) x)))
      (λ x. let t : verdict_of limits n body from ≡ false = sym (reached-end one b) ∙ rw x in rw (x, t))

-- the walk was broken off, and its place put one byte before the body's end
pub verdict-stopped : (body : List ℕ) {total : Bool} (references : Bool) (at : ℕ) (follows over refers : Bool) → 1 ≤ length body → at ≡ length body - 1 → total ≡ false
    → let good = eqb at (length body) && follows && over in
    ◌≡◌ {A = Verdict} (record { good = good; refers = good && refers }) (verdict total references)
verdict-stopped body references at follows over refers some_bytes e t = rw (ne_eqb at (length body) (λ q. omega arith), t)
