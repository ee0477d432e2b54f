-- Group 4 as the code's walk asks it, with bits for addresses, breaks first at the rule and the place that the list of rules says. No axiom.
use Rattle.octets.proofs.Vocabulary.{◌≡◌, refl, sym, ap, ◌∙◌, ℕ, zero, suc, ◌+◌, List, [], ◌∷◌, ◌++◌, map, Bool, true, false, ◌&&◌, not, or-true, Option, some, none, inr, length, get_or, eqb, leb, ltb, arith, add-zero, le_refl, eqb-true, eqb-false, eq-eqb, leb-true, le-leb, ltb-true, lt-ltb}
use Rattle.octets.specs.Bit.{bit, set_bit}
use Rattle.octets.specs.Sentences.{pick, every, first}
use Rattle.octets.proofs.Sentences.{cases, both, joined, same_test}
use Rattle.octets.proofs.Bits.{set_same, set_other, bit-zero}
use Rattle.descriptors.specs.declared.limits.Limits.{Limits}
use Rattle.descriptors.specs.declared.Setting.{Setting}
use Rattle.descriptors.specs.declared.Endpoint.{Endpoint}
use Rattle.descriptors.specs.declared.walk.Stand.{Stand}
use Rattle.descriptors.specs.Cut.{Cutting, whole, broken, descriptor, cut}
use Rattle.descriptors.specs.Descriptor.{bDescriptorType, is_interface, is_endpoint, bNumEndpoints, bEndpointAddress, bmAttributes, wMaxPacketSize, bInterval, transfer_type, good_address, type_allowed, endpoint_long_enough, interface_long_enough}
use Rattle.descriptors.specs.Interfaces.{Group, begun_by, setting_of, endpoint_of, follows, alternate_within, counted, apart}
use Rattle.descriptors.specs.Configuration.{bNumInterfaces, bit_of}
use Rattle.descriptors.specs.Walk.{before, stand_of}
use Rattle.descriptors.specs.Check.{Progress, once_in_setting, in_no_second_interface, fresh, beginning}
use Rattle.descriptors.specs.Check as check
use Rattle.descriptors.proofs.CheckOrder.{at, passed, kinds}
use Rattle.descriptors.proofs.CheckAddresses.{own-bit, follows_is, NotBefore, further, clear, at-interface, at-endpoint, own-clear}
use Rattle.sets.specs.declared.Entry.{Entry}
use Rattle.sets.specs.Contents.{body_of, is_kind, entries}
use Rattle.rules.specs.Findings.{Finding, asked, byte_at}
use Rattle.rules.specs.Explained.{is_broken}
use Rattle.rules.specs.Configurations.{is_whole, head_findings, head_numbers, number_findings, size_findings, interval_findings, distinct_from, begin_findings, rest_findings, cut_findings, body_findings, configuration_findings, configurations_from, configurations_findings}
use Rattle.rules.specs.Configuration as walk

-- ---- lists that break first at one rule
pub then_same : (xs ys zs : List Finding) → (every (λ x. x.holds) xs ≡ true → first is_broken ys ≡ first is_broken zs) → first is_broken (xs ++ ys) ≡ first is_broken (xs ++ zs)
unfolding every first
then_same [] ys zs h = h refl
then_same (x ∷ xs) ys zs h = go x.holds refl (λ p. then_same xs ys zs (λ q. h (joined p q)))
  where
    go : (b : Bool) → x.holds ≡ b → (x.holds ≡ true → first is_broken (xs ++ ys) ≡ first is_broken (xs ++ zs))
        → pick (not b) (some x) (first is_broken (xs ++ ys)) ≡ pick (not b) (some x) (first is_broken (xs ++ zs))
    go true p ih = ih p
    go false p ih = refl

-- the k-th of rules that all hold
holds_at : (k : ℕ) (xs : List Finding) → every (λ x. x.holds) xs ≡ true → get_or (map (λ (x : Finding). x.holds) xs) k true ≡ true
unfolding every
holds_at k [] p = refl
holds_at zero (x ∷ xs) p = (both x.holds (every (λ x. x.holds) xs) p).0
holds_at (suc k) (x ∷ xs) p = holds_at k xs (both x.holds (every (λ x. x.holds) xs) p).1

or_else : Option Finding → Option Finding → Option Finding
or_else none o = o
or_else (some x) o = some x

first-both : (xs ys : List Finding) → first is_broken (xs ++ ys) ≡ or_else (first is_broken xs) (first is_broken ys)
unfolding first or_else
first-both [] ys = refl
first-both (x ∷ xs) ys = go (not x.holds) (first-both xs ys)
  where
    go : (b : Bool) → first is_broken (xs ++ ys) ≡ or_else (first is_broken xs) (first is_broken ys)
        → pick b (some x) (first is_broken (xs ++ ys)) ≡ or_else (pick b (some x) (first is_broken xs)) (first is_broken ys)
    go true ih = refl
    go false ih = ih

pub both-same : (xs ys vs ws : List Finding) → first is_broken xs ≡ first is_broken ys → first is_broken vs ≡ first is_broken ws → first is_broken (xs ++ vs) ≡ first is_broken (ys ++ ws)
both-same xs ys vs ws p q = first-both xs vs ∙ ap (λ o. or_else o (first is_broken vs)) p ∙ ap (or_else (first is_broken ys)) q ∙ sym (first-both ys ws)

-- a rule that is broken, whatever follows
breaks-here : (x : Finding) (xs ys : List Finding) → x.holds ≡ false → first is_broken (x ∷ xs) ≡ first is_broken (x ∷ ys)
unfolding first
breaks-here x xs ys p = rw p

-- ---- what the walk knows of a group and of the endpoints that came
record Knows (w : Progress) (last : Stand) (g : Group) (es : List Endpoint) : Type 0 where
  stands : last ≡ at (setting_of g)
  counts : w.coming + length g.endpoints ≡ bNumEndpoints g.head
  own : (d : List ℕ) → good_address (bEndpointAddress d) ≡ true
      → once_in_setting w (bEndpointAddress d) ≡ every (λ e. apart e (endpoint_of (setting_of g) d)) (map (endpoint_of (setting_of g)) g.endpoints)
  all : (f : Endpoint) → good_address f.address ≡ true → NotBefore (setting_of g) f → clear (setting_of g) w f ≡ every (λ e. apart e f) es

record KnowsNone (w : Progress) (last : Stand) (es : List Endpoint) : Type 0 where
  outside : last.inside ≡ false
  counts : w.coming ≡ 0
  unseen : w.seen ≡ 0
  none_came : es ≡ []

KnowsOf : Progress → Stand → Option Group → List Endpoint → Type 0
KnowsOf w last none es = KnowsNone w last es
KnowsOf w last (some g) es = Knows w last g es

all-came : (c l b : ℕ) → c + l ≡ b → eqb c 0 ≡ eqb l b
all-came c l b e = same_test (eqb c 0) (eqb l b) (λ p. let z = eqb-true c 0 p in eq-eqb l b (omega arith)) (λ p. let z = eqb-true l b p in eq-eqb c 0 (omega arith))

one_more : (c l b : ℕ) → c + l ≡ b → leb 1 c ≡ ltb l b
one_more c l b e = same_test (leb 1 c) (ltb l b) (λ p. let z = leb-true 1 c p in lt-ltb l b (omega arith)) (λ p. let z = ltb-true l b p in le-leb 1 c (omega arith))

-- ---- after an interface descriptor
module _ (d : List ℕ) (i : is_interface d ≡ true) (w : Progress) (last : Stand) where
  abbrev begun : Group
  begun = record { head = d; endpoints = [] }

  abbrev after : Progress
  after = passed w last d

  none-own : (x : List ℕ) → good_address (bEndpointAddress x) ≡ true → once_in_setting after (bEndpointAddress x) ≡ true
  none-own x p = rw (i, bit-zero (bit_of (bEndpointAddress x))) (or-true (not (bit w.seen (bit_of (bEndpointAddress x)))))

  begins : (es : List Endpoint) → ((f : Endpoint) → good_address f.address ≡ true → NotBefore (begun_by d) f → clear (begun_by d) after f ≡ every (λ e. apart e f) es)
      → Knows after (stand_of last d) begun es
  unfolding every
  begins es h = record { stands = rw i; counts = rw i (add-zero (bNumEndpoints d)); own = none-own; all = h }

-- an endpoint of a setting does not stand before it
under : (s : Setting) (d : List ℕ) → NotBefore s (endpoint_of s d)
under s d = inr (refl, le_refl s.alternate)

-- ---- after an endpoint descriptor
module _ (d : List ℕ) (i : is_interface d ≡ false) (j : is_endpoint d ≡ true) (w : Progress) (g : Group) (es : List Endpoint) (k : Knows w (at (setting_of g)) g es)
    (good : good_address (bEndpointAddress d) ≡ true) (may : leb 1 w.coming ≡ true) (f : fresh w (bEndpointAddress d) ≡ true) where
  abbrev s : Setting
  s = setting_of g

  abbrev next : Progress
  next = passed w (at s) d

  abbrev more : Group
  more = record { head = g.head; endpoints = d ∷ g.endpoints }

  own-next : (x : List ℕ) → good_address (bEndpointAddress x) ≡ true
      → once_in_setting next (bEndpointAddress x) ≡ (apart (endpoint_of s d) (endpoint_of s x) && every (λ e. apart e (endpoint_of s x)) (map (endpoint_of s) g.endpoints))
  own-next x p = cases (eqb (bEndpointAddress d) (bEndpointAddress x))
      (λ q. rw (i, j, alike q w.seen, alike q w.setting, q, eq-eqb s.interface s.interface refl, eq-eqb s.alternate s.alternate refl))
      (λ q. rw (i, j, other q w.seen, other q w.setting, q) (k.own x p))
    where
      alike : eqb (bEndpointAddress d) (bEndpointAddress x) ≡ true → (word : ℕ) → bit (set_bit word (bit_of (bEndpointAddress d))) (bit_of (bEndpointAddress x)) ≡ true
      alike q word = rw (eqb-true (bEndpointAddress d) (bEndpointAddress x) q) (set_same word (bit_of (bEndpointAddress x)))

      other : eqb (bEndpointAddress d) (bEndpointAddress x) ≡ false → (word : ℕ) → bit (set_bit word (bit_of (bEndpointAddress d))) (bit_of (bEndpointAddress x)) ≡ bit word (bit_of (bEndpointAddress x))
      other q word = set_other word (bit_of (bEndpointAddress d)) (bit_of (bEndpointAddress x)) (λ r. eqb-false (bEndpointAddress d) (bEndpointAddress x) q (own-bit (bEndpointAddress d) (bEndpointAddress x) good p r))

  swap : (a b : Bool) → (a && b) ≡ (b && a)
  swap true true = refl
  swap true false = refl
  swap false true = refl
  swap false false = refl

  joins : Knows next (stand_of (at s) d) more (endpoint_of s d ∷ es)
  unfolding every
  joins = record {
    stands = rw i;
    counts = rw (i, j) (let m = leb-true 1 w.coming may in let c = k.counts in omega arith);
    own = own-next;
    all = λ e p l. at-endpoint s w d e i j good p f ∙ rw (k.all e p l) (swap (every (λ x. apart x e) es) (apart (endpoint_of s d) e));
  }

-- ---- the descriptors after the first
module _ (limits : Limits) (start n : ℕ) where
  Told : Cutting → Type 0
  Told ds = (from head : ℕ) (w : Progress) (last : Stand) (g : Option Group) (es : List Endpoint) → KnowsOf w last g es
      → first is_broken (walk.rest_findings limits start n from head w last ds) ≡ first is_broken (rest_findings limits start n from head g es ds)

  module _ (d : List ℕ) (ds : Cutting) (told : Told ds) (from head : ℕ) (w : Progress) (last : Stand) where
    abbrev walked : List Finding
    walked = walk.rest_findings limits start n from head w last (descriptor d ds)

    abbrev listed : Option Group → List Endpoint → List Finding
    listed g es = rest_findings limits start n from head g es (descriptor d ds)

    abbrev on_to : ℕ
    on_to = from + length d

    abbrev common : List Finding
    common = asked 404 (byte_at start from 0) (is_whole d) ∷ asked 411 (byte_at start from 1) (type_allowed (bDescriptorType d)) ∷ []

    -- any other
    another : is_interface d ≡ false → is_endpoint d ≡ false → (g : Option Group) (es : List Endpoint) → KnowsOf w last g es → first is_broken walked ≡ first is_broken (listed g es)
    unfolding rest_findings walk.rest_findings Told KnowsOf
    another i j none es k = rw (i, j) (then_same common _ _ (λ h. told on_to head w last none es k))
    another i j (some g) es k = rw (i, j) (then_same common _ _ (λ h. told on_to head w last (some g) es k))

    -- an interface descriptor: the first, and a later one
    first-interface : is_interface d ≡ true → is_endpoint d ≡ false → (es : List Endpoint) → KnowsNone w last es → first is_broken walked ≡ first is_broken (listed none es)
    unfolding rest_findings walk.rest_findings Told KnowsOf every clear
    first-interface i j es k =
        let findings = common ++ (asked 421 (byte_at start head 4) true ∷ asked 412 (byte_at start from 0) (interface_long_enough d) ∷ (begin_findings start from none (begun_by d) ++ (asked 420 (byte_at start from 3) (alternate_within (begun_by d)) ∷ []))) in
        let same : Knows (passed w last d) (stand_of last d) (record { head = d; endpoints = [] }) es =
        begins d i w last es (λ f p l. rw (k.none_came, i, k.unseen, bit-zero (bit_of f.address))) in
        rw (i, k.outside, k.counts) (then_same findings _ _ (λ h. rw i at (told on_to from (passed w last d) (stand_of last d) (some (record { head = d; endpoints = [] })) es same)))

    later-interface : is_interface d ≡ true → is_endpoint d ≡ false → (g : Group) (es : List Endpoint) → Knows w last g es → first is_broken walked ≡ first is_broken (listed (some g) es)
    unfolding rest_findings walk.rest_findings Told KnowsOf every
    later-interface i j g es k =
        let findings = common ++ (asked 421 (byte_at start head 4) (counted g) ∷ asked 412 (byte_at start from 0) (interface_long_enough d) ∷ (begin_findings start from (some g) (begun_by d) ++ (asked 420 (byte_at start from 3) (alternate_within (begun_by d)) ∷ []))) in
        let s = setting_of g in
        let t = begun_by d in
        let e = all-came w.coming (length g.endpoints) (bNumEndpoints g.head) k.counts in
        rw (i, j, k.stands, e)
        (then_same findings _ _ (λ h.
        let follow : follows s t ≡ true = holds_at 4 findings h in
        let same : Knows (passed w (at s) d) (stand_of (at s) d) (record { head = d; endpoints = [] }) es =
        begins d i w (at s) es (λ f p l. at-interface s w d f i (follows_is s t follow) l ∙ k.all f p (further s t f (follows_is s t follow) l)) in
        rw i at (told on_to from (passed w (at s) d) (stand_of (at s) d) (some (record { head = d; endpoints = [] })) es same)))

    -- an endpoint descriptor: before the first interface, and in a setting
    loose-endpoint : is_interface d ≡ false → is_endpoint d ≡ true → (es : List Endpoint) → KnowsNone w last es → first is_broken walked ≡ first is_broken (listed none es)
    unfolding rest_findings walk.rest_findings
    loose-endpoint i j es k =
        let findings = common ++ (asked 413 (byte_at start from 0) (endpoint_long_enough d) ∷ []) in
        rw (i, j, k.outside, k.counts) (then_same findings _ _ (λ h. breaks-here _ _ _ refl))

    -- its address
    addresses : is_interface d ≡ false → is_endpoint d ≡ true → (g : Group) (es : List Endpoint) → Knows w (at (setting_of g)) g es → good_address (bEndpointAddress d) ≡ true → leb 1 w.coming ≡ true
        → (let f = endpoint_of (setting_of g) d in
        first is_broken (asked 433 (byte_at start from 2) (once_in_setting w (bEndpointAddress d)) ∷ asked 434 (byte_at start from 2) (in_no_second_interface w (bEndpointAddress d)) ∷ walk.rest_findings limits start n on_to head (check.at_endpoint w d) (at (setting_of g)) ds)
        ≡ first is_broken (asked 433 (byte_at start from 2) (every (λ e. apart e f) (map (endpoint_of (setting_of g)) g.endpoints)) ∷ asked 434 (byte_at start from 2) (every (λ e. apart e f) es)
        ∷ rest_findings limits start n on_to head (some (record { head = g.head; endpoints = d ∷ g.endpoints })) (f ∷ es) ds))
    unfolding Told KnowsOf every
    addresses i j g es k good may =
        let s = setting_of g in
        let f = endpoint_of s d in
        let address = bEndpointAddress d in
        let fresh-same : fresh w address ≡ every (λ e. apart e f) es = sym (own-clear s w d) ∙ k.all f good (under s d) in
        rw (← k.own d good) (then_same (asked 433 (byte_at start from 2) (once_in_setting w address) ∷ []) _ _ (λ h.
        let once : once_in_setting w address ≡ true = holds_at 0 (asked 433 (byte_at start from 2) (once_in_setting w address) ∷ []) h in
        let no_second : in_no_second_interface w address ≡ every (λ e. apart e f) es = sym (ap (λ b. b && in_no_second_interface w address) once) ∙ fresh-same in
        rw (← no_second) (then_same (asked 434 (byte_at start from 2) (in_no_second_interface w address) ∷ []) _ _ (λ q.
        let both_hold = joined once (holds_at 0 (asked 434 (byte_at start from 2) (in_no_second_interface w address) ∷ []) q) in
        rw (i, j) at (told on_to head (passed w (at s) d) (stand_of (at s) d) (some (record { head = g.head; endpoints = d ∷ g.endpoints })) (f ∷ es) (joins d i j w g es k good may both_hold))))))

    endpoint : is_interface d ≡ false → is_endpoint d ≡ true → (g : Group) (es : List Endpoint) → Knows w last g es → first is_broken walked ≡ first is_broken (listed (some g) es)
    unfolding rest_findings walk.rest_findings Told KnowsOf every
    endpoint i j g es k =
        let s = setting_of g in
        let transfer = transfer_type (bmAttributes d) in
        let address = bEndpointAddress d in
        let e = one_more w.coming (length g.endpoints) (bNumEndpoints g.head) k.counts in
        let findings = common ++ (asked 413 (byte_at start from 0) (endpoint_long_enough d) ∷ asked 421 (byte_at start head 4) (ltb (length g.endpoints) (bNumEndpoints g.head)) ∷
        (number_findings start from address (bmAttributes d) ++ (size_findings limits start from transfer (wMaxPacketSize d) ++ interval_findings limits start from transfer (bInterval d)))) in
        rw (i, j, k.stands, e) (then_same findings _ _ (λ h.
        let may = holds_at 3 findings h in
        let bits = holds_at 4 findings h in
        let number = holds_at 5 findings h in
        addresses i j g es (rw k.stands at k) (joined bits number) (e ∙ may)))

    by_kind : (g : Option Group) (es : List Endpoint) → KnowsOf w last g es → first is_broken walked ≡ first is_broken (listed g es)
    unfolding KnowsOf
    by_kind none es k = kinds d (λ i j. first-interface i j es k) (λ i j. loose-endpoint i j es k) (λ i j. another i j none es k)
    by_kind (some g) es k = kinds d (λ i j. later-interface i j g es k) (λ i j. endpoint i j g es k) (λ i j. another i j (some g) es k)

  rest-told : (ds : Cutting) → Told ds
  unfolding Told KnowsOf rest_findings walk.rest_findings
  rest-told whole from head w last none es k = rw (k.counts, k.outside)
  rest-told whole from head w last (some g) es k = rw (k.stands, all-came w.coming (length g.endpoints) (bNumEndpoints g.head) k.counts)
  rest-told broken from head w last g es k = refl
  rest-told (descriptor d ds) from head w last g es k = by_kind d ds (rest-told ds) from head w last g es k

-- ---- a body, and the entries
cut-told : (limits : Limits) (size start : ℕ) (cs : Cutting) → first is_broken (walk.cut_findings limits size start cs) ≡ first is_broken (cut_findings limits size start cs)
unfolding KnowsOf Told
cut-told limits size start whole = refl
cut-told limits size start broken = refl
cut-told limits size start (descriptor d ds) =
    then_same (head_findings size start d) _ _ (λ h. then_same (head_numbers start d) _ _ (λ q.
    rest-told limits start (bNumInterfaces d) ds (length d) 0 beginning before none [] (record { outside = refl; counts = refl; unseen = refl; none_came = refl })))

module _ (limits : Limits) (set : List ℕ) where
  one_told : (place n : ℕ) (distinct : Bool) (e : Entry) (body : List ℕ)
      → first is_broken (walk.configuration_findings limits place n distinct e body) ≡ first is_broken (configuration_findings limits place n distinct e body)
  one_told place n distinct e body =
      then_same (asked 401 _ _ ∷ asked 402 _ _ ∷ []) _ _ (λ h. both-same (walk.body_findings limits e.offset body) (body_findings limits e.offset body) _ _ (cut-told limits (length body) e.offset (cut body)) refl)

  from_told : (place n : ℕ) (earlier : List (List ℕ)) (es : List Entry)
      → first is_broken (walk.configurations_from limits set place n earlier es) ≡ first is_broken (configurations_from limits set place n earlier es)
  unfolding configurations_from walk.configurations_from
  from_told place n earlier [] = refl
  from_told place n earlier (e ∷ es) = cases (is_kind 2 e)
      (λ p. rw p (both-same (walk.configuration_findings limits place n (distinct_from earlier (body_of set e)) e (body_of set e)) _ _ _ (one_told place n (distinct_from earlier (body_of set e)) e (body_of set e)) (from_told (place + 8) (n + 1) (body_of set e ∷ earlier) es)))
      (λ p. rw p (from_told (place + 8) n earlier es))

  pub configurations-told : first is_broken (walk.configurations_findings limits set) ≡ first is_broken (configurations_findings limits set)
  configurations-told = from_told 4 0 [] (entries set)
