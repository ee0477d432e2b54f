-- What the walk finds is what a survey sees: one descriptor after another. No axiom.
use Rattle.octets.proofs.Vocabulary.{◌≡◌, refl, sym, ap, ◌∙◌, ℕ, ◌+◌, ◌*◌, ◌/◌, ◌%◌, ◌≤◌, ◌<◌, List, Bool, true, false, ◌&&◌, ◌||◌, or-false, get_or, eqb, leb, arith, lt_of_not-le, eq-eqb, ne_eqb, le-leb, lt-leb, lt-ltb, eqb-true, eqb-false, leb-true, leb-false}
use Rattle.octets.specs.Bit.{bit, set_bit}
use Rattle.octets.specs.Octets.{byte, word}
use Rattle.octets.specs.Sentences.{pick}
use Rattle.octets.proofs.Sentences.{cases, never}
use Rattle.octets.proofs.Bits.{bit-zero}
use Rattle.octets.proofs.Words.{set-digit}
use Rattle.descriptors.specs.declared.Setting.{Setting}
use Rattle.descriptors.specs.declared.walk.Stand.{Stand}
use Rattle.descriptors.specs.declared.survey.Asked.{Asked}
use Rattle.descriptors.specs.declared.survey.Survey.{Survey}
use Rattle.descriptors.specs.Descriptor.{is_interface, is_endpoint, bInterfaceNumber, bAlternateSetting, bEndpointAddress, bmAttributes}
use Rattle.descriptors.specs.Interfaces.{begun_by}
use Rattle.descriptors.specs.Walk.{setting_at, before}
use Rattle.descriptors.specs.Lookup.{listed}
use Rattle.descriptors.specs.Check.{placed}
use Rattle.descriptors.specs.Survey.{is_setting, earlier, found_here, nothing_seen, onward}
use Rattle.descriptors.specs.Survey.{at_current as seen_at_current, at_other as seen_at_other}
use Rattle.descriptors.proofs.Surveying.{earlier-none, current-adds, other-adds, outside-adds}
use Rattle.single_walk.specs.declared.walk.Finds.{Finds}
use Rattle.single_walk.specs.declared.walk.Wanted.{Wanted}
use Rattle.single_walk.specs.declared.course.Role.{Role}
use Rattle.single_walk.specs.declared.course.Role.TheVariants.{Other, AskedFor, Current, CurrentAskedFor}
use Rattle.single_walk.specs.Course.{wanted_of, role_of, begin_current, begin_other, with_setting, endpoint_of, first_found, with_endpoint, setting_out, Tells}

-- the role of the setting under which a descriptor stands
abbrev role_at : List ℕ → Asked → Stand → Role
role_at alternates asked stand =
    pick stand.inside
    (pick (eqb stand.alternate (get_or alternates stand.interface 0)) (pick (eqb stand.interface asked.interface) CurrentAskedFor Current)
    (pick (is_setting asked.interface asked.alternate (setting_at stand)) AskedFor Other))
    Other

-- what was found and the role of the setting, beside what a survey has seen
pub record Found (alternates : List ℕ) (asked : Asked) (f : Finds) (role : Role) (s : Survey) (last : Stand) : Type 0 where
  pub tells : Tells asked s f
  pub plays : role ≡ role_at alternates asked last
  pub exists : (k : ℕ) → k < 32 → bit s.existing k ≡ (last.inside && leb k last.interface)

pub found-begin : (alternates : List ℕ) (asked : Asked) → Found alternates asked setting_out.finds Other nothing_seen before
found-begin alternates asked = record {
  tells = record { current = refl; halting = refl; bits = refl; endpoint = refl; there = refl };
  plays = refl;
  exists = λ k _. bit-zero k;
}

-- what is found once a setting is begun, by what it is
begun-as : (f : Finds) (n : ℕ) (w : Wanted) (h m a : Bool) → with_setting f n (pick h (pick m CurrentAskedFor Current) (pick a AskedFor Other)) w ≡ pick h (begin_current f n w) (pick a (begin_other f) f)
begun-as f n w true true a = refl
begun-as f n w true false a = refl
begun-as f n w false m true = refl
begun-as f n w false m false = refl

-- the number of a setting is the one that is asked for
pub wanted-same : (high : Bool) (asked : Asked) (d : List ℕ) → bInterfaceNumber d < 256 → bAlternateSetting d < 256
    → eqb (word d 2) (wanted_of high asked).setting ≡ is_setting asked.interface asked.alternate (begun_by d)
wanted-same high asked d i j = cases (eqb (bInterfaceNumber d) asked.interface)
    (λ p. let e = eqb-true (bInterfaceNumber d) asked.interface p in cases (eqb (bAlternateSetting d) asked.alternate)
    (λ q. let f = eqb-true (bAlternateSetting d) asked.alternate q in rw (p, q) (eq-eqb (word d 2) (wanted_of high asked).setting (omega arith)))
    (λ q. let f = eqb-false (bAlternateSetting d) asked.alternate q in rw (p, q) (ne_eqb (word d 2) (wanted_of high asked).setting (λ z. f (omega arith)))))
    (λ p. let e = eqb-false (bInterfaceNumber d) asked.interface p in rw p (ne_eqb (word d 2) (wanted_of high asked).setting (λ z. e (omega arith))))

or-true : (b : Bool) → (b || true) ≡ true
or-true true = refl
or-true false = refl

-- ---- an interface descriptor
-- the numbers up to that of an interface that may come
up_to : (i j k : ℕ) → j ≤ i → i ≤ j + 1 → (leb k j || eqb i k) ≡ leb k i
up_to i j k l m = cases (leb k j)
    (λ p. let q = leb-true k j p in rw (p, le-leb k i (omega arith)))
    (λ p. let q = leb-false k j p in cases (eqb i k)
    (λ r. let x = eqb-true i k r in rw (p, r, le-leb k i (omega arith)))
    (λ r. let x = eqb-false i k r in rw (p, r, lt-leb k i (lt_of_not-le (λ y. x (omega arith))))))

begins-next : (stand : Stand) (t : Setting) (k : ℕ) → placed stand t ≡ true → ((stand.inside && leb k stand.interface) || eqb t.interface k) ≡ leb k t.interface
begins-next stand t k p = cases stand.inside
    (λ x. rw x (cases (eqb t.interface stand.interface)
    (λ y. let z = eqb-true t.interface stand.interface y in up_to t.interface stand.interface k (omega arith) (omega arith))
    (λ y. cases (eqb t.interface (stand.interface + 1))
    (λ u. let z = eqb-true t.interface (stand.interface + 1) u in up_to t.interface stand.interface k (omega arith) (omega arith))
    (λ u. never p (rw (x, y, u))))))
    (λ x. rw x (cases (eqb t.interface 0)
    (λ y. let z = eqb-true t.interface 0 y in cases (eqb t.interface k)
    (λ u. let v = eqb-true t.interface k u in rw (u, le-leb k t.interface (omega arith)))
    (λ u. let v = eqb-false t.interface k u in rw (u, lt-leb k t.interface (lt_of_not-le (λ m. v (omega arith))))))
    (λ y. never p (rw (x, y)))))

module _ {alternates : List ℕ} {asked : Asked} {f : Finds} {role : Role} {s : Survey} {last : Stand} (high : Bool) (g : Found alternates asked f role s last) (d : List ℕ) where
  module _ (i : is_interface d ≡ true) (low : bInterfaceNumber d < 16) (j : bAlternateSetting d < 256) (may : placed last (begun_by d) ≡ true) where
    abbrev stand : Stand
    stand = record { inside = true; interface = bInterfaceNumber d; alternate = bAlternateSetting d }

    abbrev here : Bool
    here = eqb (bAlternateSetting d) (get_or alternates (bInterfaceNumber d) 0)

    abbrev asks : Bool
    asks = is_setting asked.interface asked.alternate (begun_by d)

    same : eqb (word d 2) (wanted_of high asked).setting ≡ asks
    same = wanted-same high asked d (omega arith) j

    -- the digits of its number
    number : word d 2 % 256 ≡ bInterfaceNumber d
    number = omega arith

    alternate : word d 2 / 256 ≡ bAlternateSetting d
    alternate = omega arith

    role_same : role_of alternates (wanted_of high asked) (word d 2) ≡ role_at alternates asked stand
    role_same = rw (number, alternate, same)

    no-endpoint : is_endpoint d ≡ false
    no-endpoint = ap (λ (n : ℕ). eqb n 5) (eqb-true (byte d 1) 4 i)

    abbrev next : Survey
    next = record {
      existing = set_bit s.existing (bInterfaceNumber d);
      current = pick here (set_bit s.current (bInterfaceNumber d)) s.current;
      halting = s.halting;
      endpoint = s.endpoint;
      there = s.there || asks;
      bits = s.bits;
    }

    seen_next : onward alternates asked s stand d ≡ next
    seen_next = rw (i, no-endpoint, lt-ltb (bInterfaceNumber d) 32 (omega arith), earlier-none s.endpoint)

    abbrev begun : Bool → Finds
    begun a = record { current = set_bit f.current (bInterfaceNumber d); halting = f.halting; bits = f.bits; endpoint = f.endpoint; there = f.there || a }

    told : (h a : Bool) → Tells asked (record {
      existing = set_bit s.existing (bInterfaceNumber d);
      current = pick h (set_bit s.current (bInterfaceNumber d)) s.current;
      halting = s.halting;
      endpoint = s.endpoint;
      there = s.there || a;
      bits = s.bits;
    }) (pick h (begun a) (pick a (begin_other f) f))
    told true a = record { current = rw g.tells.current; halting = g.tells.halting; bits = g.tells.bits; endpoint = g.tells.endpoint; there = ap (λ (b : Bool). b || a) g.tells.there }
    told false true = record { current = g.tells.current; halting = g.tells.halting; bits = g.tells.bits; endpoint = g.tells.endpoint; there = sym (or-true s.there) }
    told false false = record { current = g.tells.current; halting = g.tells.halting; bits = g.tells.bits; endpoint = g.tells.endpoint; there = g.tells.there ∙ sym (or-false s.there) }

    finds_same : with_setting f (word d 2) (role_of alternates (wanted_of high asked) (word d 2)) (wanted_of high asked) ≡ pick here (begun asks) (pick asks (begin_other f) f)
    finds_same = rw (number, alternate, same) (begun-as f (word d 2) (wanted_of high asked) here (eqb (bInterfaceNumber d) asked.interface) asks ∙ rw (number, same))

    pub found-interface : (v : Finds) (r : Role) → v ≡ with_setting f (word d 2) (role_of alternates (wanted_of high asked) (word d 2)) (wanted_of high asked) → r ≡ role_of alternates (wanted_of high asked) (word d 2)
        → Found alternates asked v r (onward alternates asked s stand d) stand
    found-interface v r p q = rw (p, q, seen_next) (record {
      tells = rw finds_same (told here asks);
      plays = role_same;
      exists = λ k l. set-digit s.existing (bInterfaceNumber d) k ∙ ap (λ (b : Bool). b || eqb (bInterfaceNumber d) k) (g.exists k l) ∙ begins-next last (begun_by d) k may;
    })

  -- ---- an endpoint descriptor
  module _ (k : is_endpoint d ≡ true) (small : bEndpointAddress d < 256) (few : bmAttributes d < 256) (setting : ℕ)
      (stands : last.inside ≡ true → (last.interface < 16) × (last.alternate ≤ 15) × (setting ≡ last.interface + 256 * last.alternate)) where
    abbrev current : Bool
    current = eqb last.alternate (get_or alternates last.interface 0)

    module _ (p : last.inside ≡ true) where
      listed-same : endpoint_of setting d ≡ listed last d
      listed-same =
          let x = stands p in
          let interface : setting % 256 ≡ last.interface = omega (arith, x.0, x.1, x.2) in
          let alternate : setting / 256 % 256 ≡ last.alternate = omega (arith, x.0, x.1, x.2) in
          rw (interface, alternate)

      first-same : first_found f.endpoint setting d (wanted_of high asked) ≡ earlier s.endpoint (found_here (eqb (bEndpointAddress d) asked.address) last d)
      first-same = rw (g.tells.endpoint, listed-same)

      role-current : current ≡ true → role ≡ pick (eqb last.interface asked.interface) CurrentAskedFor Current
      role-current c = g.plays ∙ rw (p, c)

      role-other : current ≡ false → role ≡ pick (is_setting asked.interface asked.alternate (setting_at last)) AskedFor Other
      role-other c = g.plays ∙ rw (p, c)

      at-current : current ≡ true → Tells asked (seen_at_current asked s last d) (with_endpoint f d setting role (wanted_of high asked))
      at-current c = rw (role-current c) (cases (eqb last.interface asked.interface)
          (λ q. rw q (record { current = g.tells.current; halting = rw g.tells.halting; bits = rw g.tells.bits; endpoint = first-same; there = g.tells.there }))
          (λ q. rw q (record { current = g.tells.current; halting = rw g.tells.halting; bits = g.tells.bits; endpoint = first-same; there = g.tells.there })))

      at_other : current ≡ false → Tells asked (seen_at_other asked s last d) (with_endpoint f d setting role (wanted_of high asked))
      at_other c = rw (role-other c) (cases (is_setting asked.interface asked.alternate (setting_at last))
          (λ q. rw q (record { current = g.tells.current; halting = g.tells.halting; bits = rw g.tells.bits; endpoint = g.tells.endpoint; there = g.tells.there }))
          (λ q. rw q g.tells))

    existing-same : (onward alternates asked s last d).existing ≡ s.existing
    existing-same = let i : is_interface d ≡ false = ap (λ (n : ℕ). eqb n 4) (eqb-true (byte d 1) 5 k) in rw i

    tells-endpoint : Tells asked (onward alternates asked s last d) (with_endpoint f d setting role (wanted_of high asked))
    tells-endpoint = cases last.inside
        (λ p. cases (eqb last.alternate (get_or alternates last.interface 0))
        (λ c. rw (← current-adds alternates asked s last d k p c) (at-current p c))
        (λ c. rw (← other-adds alternates asked s last d k p c) (at_other p c)))
        (λ p. let z : role ≡ Other = g.plays ∙ rw p in rw (← outside-adds alternates asked s last d k p, z) g.tells)

    pub found-endpoint : Found alternates asked (with_endpoint f d setting role (wanted_of high asked)) role (onward alternates asked s last d) last
    found-endpoint = record { tells = tells-endpoint; plays = g.plays; exists = λ e l. rw existing-same (g.exists e l) }
