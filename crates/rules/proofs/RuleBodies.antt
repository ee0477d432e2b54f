-- Group 4: all its rules hold exactly where opening's definition of the group does. No axiom.
use Rattle.octets.proofs.Vocabulary.{◌≡◌, refl, sym, ap, ◌∙◌, ℕ, zero, suc, ◌+◌, ◌-◌, ◌<◌, ◌≤◌, List, [], ◌∷◌, ◌++◌, map, Bool, true, false, ◌&&◌, ◌||◌, not, and-true, and-false, and_assoc, or-false, false≢true, some, none, length, take, leb, length-take-le, get_or-take, arith, eqb-true, eq-eqb, ne_eqb, leb-true, leb-false}
use Rattle.octets.specs.Octets.{byte}
use Rattle.octets.specs.Sentences.{pick, ◌⇒◌, every, only, first, pairs, is_some}
use Rattle.octets.proofs.Sentences.{cases, conjunct, every_append}
use Rattle.descriptors.specs.declared.limits.Limits.{Limits}
use Rattle.descriptors.specs.declared.Setting.{Setting}
use Rattle.descriptors.specs.declared.walk.Stand.{Stand}
use Rattle.descriptors.specs.Cut.{Cutting, whole, broken, descriptor, cut, cut_after, descriptors_of, well_cut}
use Rattle.descriptors.specs.Descriptor.{bDescriptorType, is_interface, is_endpoint, bEndpointAddress, bmAttributes, wMaxPacketSize, bInterval, transfer_type, good_descriptor}
use Rattle.descriptors.specs.Descriptor.{address_bits_zero, number_not_zero, high_bits_zero, not_control, middle_bits_zero, bulk_size, interrupt_size, isochronous_size, interrupt_interval, isochronous_interval, endpoint_long_enough, type_allowed, interface_long_enough}
use Rattle.descriptors.specs.Interfaces.{grouped, number_zero, alternate_zero, follows, alternate_within, good_interfaces}
use Rattle.descriptors.specs.Companion.{is_companion, long_companion, good_companions}
use Rattle.descriptors.specs.Configuration.{bNumInterfaces, is_configuration, head_long_enough, total_is_size, bit_seven_one, low_bits_zero, power_within, counts_interface, at_most16_interfaces, good_head, good_descriptors, good_configuration}
use Rattle.descriptors.specs.Sequence.{unaccompanied}
use Rattle.descriptors.specs.Walk.{setting_at, before, stand_of, or_else, walked}
use Rattle.descriptors.specs.Check.{Progress, placed, once_in_setting, in_no_second_interface, all_came, one_may_come, allowed, accompanied, reaches_last, ended, Course, starting, passing, checking}
use Rattle.descriptors.proofs.Walks.{after-short}
use Rattle.descriptors.proofs.CheckCompanions.{after, companions-same}
use Rattle.descriptors.proofs.CheckOrder.{kinds}
use Rattle.descriptors.proofs.CheckWhole.{rest-same}
use Rattle.sets.specs.declared.Entry.{Entry}
use Rattle.sets.specs.Contents.{body_of, is_kind, entries}
use Rattle.sets.specs.Pieces.{Piece, piece_with, piece_for, pieces_in, pieces_of, bodies_of, body_is, has_index, has_no_language}
use Rattle.sets.specs.Opening.{numbered_from, value_nonzero, distinct_values, good_configurations}
use Rattle.sets.proofs.Configurations.{every-both, ordered}
use Rattle.rules.specs.Findings.{Finding, asked, byte_at}
use Rattle.rules.specs.Configurations as list
use Rattle.rules.specs.Configurations.{companions_from, body_companions}
use Rattle.rules.specs.Explained.{is_broken}
use Rattle.rules.proofs.Bodies.{configurations-told}
use Rattle.rules.specs.Configuration.{is_whole, head_findings, head_numbers, placed_findings, surplus, descriptor_findings, rest_findings, cut_findings, body_findings, configuration_findings, distinct_from, configurations_from, configurations_findings}
use Rattle.rules.proofs.RuleFrames.{all_hold, if-asked}

-- ---- a body as it is cut: each descriptor is whole, or the body breaks off in it
pub data Proper : Cutting → Type 0 where
  ends : Proper whole
  breaks : Proper broken
  cut_off : {d : List ℕ} → Proper (descriptor d broken)
  goes : {d : List ℕ} {ds : Cutting} → is_whole d ≡ true → Proper ds → Proper (descriptor d ds)

pub proper : (k : ℕ) (xs : List ℕ) → Proper (cut_after k xs)
unfolding cut_after
proper zero [] = ends
proper (suc k) [] = breaks
proper (suc k) (b ∷ bs) = proper k bs
proper zero (b ∷ bs) = go (leb 2 b) refl (proper (b - 1) bs)
  where
    complete : 0 < b → b ≤ length (b ∷ bs) → is_whole (take b (b ∷ bs)) ≡ true
    complete h l = eq-eqb (length (take b (b ∷ bs))) (byte (take b (b ∷ bs)) 0) (length-take-le b (b ∷ bs) l ∙ sym (get_or-take b (b ∷ bs) 0 0 h))

    go : (t : Bool) → leb 2 b ≡ t → Proper (cut_after (b - 1) bs) → Proper (pick t (descriptor (take b (b ∷ bs)) (cut_after (b - 1) bs)) broken)
    go false p q = breaks
    go true p q =
        let l = leb-true 2 b p in
        cases (leb (b - 1) (length bs))
        (λ r. let m = leb-true (b - 1) (length bs) r in goes (complete (omega arith) (omega arith)) q)
        (λ r. rw (after-short (b - 1) bs (leb-false (b - 1) (length bs) r)) cut_off)

-- ---- one descriptor
place_same : (inside : Bool) (start at : ℕ) (s t : Setting) (x : Finding)
    → all_hold (placed_findings inside start at s t ++ (x ∷ []))
    ≡ (((inside && follows s t) || (not inside && number_zero t && alternate_zero t)) && x.holds)
unfolding every
place_same true start at s t x = simp (or-false, and-true)
place_same false start at s t x = simp (and-true, and_assoc)

interface-row : (nr l9 c0 p : Bool) → (nr && (c0 && (l9 && p))) ≡ ((((nr && l9) && true) && ((c0 && p) && true)) && true)
interface-row false l9 c0 p = refl
interface-row true true c0 p = simp and-true
interface-row true false c0 p = simp and-false

surplus-same : (inside : Bool) (start at head : ℕ) (w : Progress) → (surplus inside start at head w).holds ≡ one_may_come w
surplus-same true start at head w = refl
surplus-same false start at head w = refl

endpoint-row : (nr l7 c1 ab an b6 tt b5 s2 s3 s1 p3 p1 o n : Bool)
    → (nr && (l7 && (c1 && (ab && (an && (b6 && (tt && (b5 && (s2 && (s3 && (s1 && (p3 && (p1 && (o && (n && true)))))))))))))))
    ≡ ((((nr && true) && ((((l7 && (ab && an)) && ((b6 && tt) && b5)) && ((s2 && s3) && s1)) && (p3 && p1))) && c1) && (o && n))
endpoint-row nr l7 true ab an b6 tt b5 s2 s3 s1 p3 p1 o n = simp (and-true, and_assoc)
endpoint-row nr l7 false ab an b6 tt b5 s2 s3 s1 p3 p1 o n = simp and-false

module _ (limits : Limits) (start at head : ℕ) (w : Progress) (last stand : Stand) (d : List ℕ) (p : is_whole d ≡ true) where
  Same : Type 0
  Same = all_hold (descriptor_findings limits start at head w last stand d) ≡ allowed limits w last stand d

  interface : is_interface d ≡ true → is_endpoint d ≡ false → Same
  unfolding every Same
  interface i e =
      rw (p, i, e)
      (ap (λ b. type_allowed (bDescriptorType d) && (all_came w && (interface_long_enough d && b))) (place_same last.inside start at (setting_at last) (setting_at stand) (asked 420 (byte_at start at 3) (alternate_within (setting_at stand))))
      ∙ interface-row (type_allowed (bDescriptorType d)) (interface_long_enough d) (all_came w) (placed last (setting_at stand)))

  endpoint : is_interface d ≡ false → is_endpoint d ≡ true → Same
  unfolding every Same
  endpoint i e =
      let a = bmAttributes d in
      let t = transfer_type a in
      let address = bEndpointAddress d in
      let size = wMaxPacketSize d in
      rw (p, i, e, surplus-same last.inside start at head w)
      (endpoint-row (type_allowed (bDescriptorType d)) (endpoint_long_enough d) (one_may_come w) (address_bits_zero address) (number_not_zero address) (high_bits_zero a) (not_control a) (middle_bits_zero a)
      (bulk_size limits t size) (interrupt_size limits t size) (isochronous_size limits t size) (interrupt_interval limits t (bInterval d)) (isochronous_interval limits t (bInterval d))
      (once_in_setting w address) (in_no_second_interface w address))

  another : is_interface d ≡ false → is_endpoint d ≡ false → Same
  unfolding every Same
  another i e = rw (p, i, e) (simp and-true)

  descriptor-same : Same
  descriptor-same = kinds d interface endpoint another

-- ---- the descriptors after the first
stop-same : (b r : Bool) → or_else (pick b none (some false)) r ≡ (b && r)
stop-same true r = refl
stop-same false r = refl

swap : (a b : Bool) → (a && (b && true)) ≡ (b && a)
swap true b = refl
swap false b = sym (and-false b)

-- nothing is asked beside it without companions
alone : (a b : Bool) → (a && (false ⇒ b)) ≡ a
alone a b = and-true a

-- but for companions, which a walk of their own is about
rest-holds : (limits : Limits) (start n at head : ℕ) (c : Course) (last : Stand) {cs : Cutting} → Proper cs
    → all_hold (rest_findings limits start n at head c.progress last cs) ≡ walked (checking (unaccompanied limits) n) c last cs
unfolding every rest_findings walked Same
rest-holds limits start n at head c last ends =
    swap (all_came c.progress) (reaches_last n last) ∙ sym (alone (ended n c.progress last) (not c.due))
rest-holds limits start n at head c last breaks = refl
rest-holds limits start n at head c last (cut_off {d}) =
    let stand = stand_of last d in
    let found = descriptor_findings limits start at head c.progress last stand d in
    let asks = allowed limits c.progress last stand d && (false ⇒ accompanied c.due d) in
    every_append (λ x. x.holds) found (asked 403 (byte_at start (at + length d) 0) false ∷ []) ∙ and-false (all_hold found) ∙ sym (stop-same asks false ∙ and-false asks)
rest-holds limits start n at head c last (goes {d} {ds} p q) =
    let stand = stand_of last d in
    let next = pick (is_interface d) at head in
    let w = c.progress in
    let v = passing (unaccompanied limits) c last stand d in
    let found = descriptor_findings limits start at head w last stand d in
    let asks = allowed limits w last stand d && (false ⇒ accompanied c.due d) in
    every_append (λ x. x.holds) found (rest_findings limits start n (at + length d) next v.progress stand ds)
    ∙ ap (λ b. b && all_hold (rest_findings limits start n (at + length d) next v.progress stand ds))
    (descriptor-same limits start at head w last stand d p ∙ sym (alone (allowed limits w last stand d) (accompanied c.due d)))
    ∙ ap (λ b. asks && b) (rest-holds limits start n (at + length d) next v stand q)
    ∙ sym (stop-same asks (walked (checking (unaccompanied limits) n) v stand ds))

-- ---- companions
companion-row : (due companion long later : Bool)
    → ((due ⇒ companion) && ((companion ⇒ due) && ((companion ⇒ long) && later))) ≡ (pick due (companion && long) (not companion) && later)
companion-row true true long later = refl
companion-row true false long later = refl
companion-row false true long later = refl
companion-row false false long later = refl

companions-hold : (start at last : ℕ) (due : Bool) {cs : Cutting} → Proper cs → well_cut cs ≡ true → all_hold (companions_from start at last due cs) ≡ after due (descriptors_of cs)
unfolding every companions_from well_cut descriptors_of after
companions-hold start at last due ends w = and-true (not due)
companions-hold start at last due breaks w = absurd (false≢true w)
companions-hold start at last due (cut_off {d}) w = absurd (false≢true w)
companions-hold start at last due (goes {d} {ds} p q) w =
    rw p
    (ap (λ b. (due ⇒ is_companion d) && ((is_companion d ⇒ due) && (long_companion d && b))) (companions-hold start (at + length d) at (is_endpoint d) q w)
    ∙ companion-row due (is_companion d) (leb 6 (length d)) (after (is_endpoint d) (descriptors_of ds)))

-- ---- a body
past : (well head rest kinds interfaces whole behind : Bool) → rest ≡ (well && ((kinds && interfaces) && (false ⇒ behind)))
    → (well && (head && kinds && interfaces && (false ⇒ whole))) ≡ (head && rest)
past well true rest k i c b p = sym p
past true false rest k i c b p = refl
past false false rest k i c b p = refl

head-same : (size start : ℕ) (d : List ℕ) → is_whole d ≡ true → (xs : List Finding)
    → all_hold (head_findings size start d ++ (head_numbers start d ++ xs)) ≡ (good_head size d && all_hold xs)
unfolding every
head-same size start d p xs = rw p (simp and_assoc)

cut-same : (limits : Limits) (size start : ℕ) {cs : Cutting} → Proper cs
    → all_hold (cut_findings limits size start cs) ≡ (well_cut cs && good_descriptors (unaccompanied limits) size (descriptors_of cs))
unfolding every rest_findings well_cut good_descriptors descriptors_of
cut-same limits size start ends = refl
cut-same limits size start breaks = refl
cut-same limits size start (cut_off {d}) = simp and-false
cut-same limits size start (goes {d} {ds} p q) =
    let rest = descriptors_of ds in
    head-same size start d p (rest_findings limits start (bNumInterfaces d) (length d) 0 starting.progress before ds)
    ∙ ap (λ b. good_head size d && b) (rest-holds limits start (bNumInterfaces d) (length d) 0 starting before q)
    ∙ sym (past (well_cut ds) (good_head size d) _ (every (good_descriptor limits) rest) (good_interfaces (bNumInterfaces d) (grouped rest)) (good_companions (d ∷ rest)) (after false rest) (rest-same (unaccompanied limits) (bNumInterfaces d) ds))

-- the first descriptor is a configuration's
head-kind : (size : ℕ) (d : List ℕ) → good_head size d ≡ true → bDescriptorType d ≡ 2
head-kind size d p =
    eqb-true (bDescriptorType d) 2
    (conjunct 0 (is_configuration d ∷ head_long_enough d ∷ total_is_size size d ∷ bit_seven_one d ∷ low_bits_zero d ∷ power_within d ∷ counts_interface d ∷ at_most16_interfaces d ∷ []) p)

first-companion : (d : List ℕ) (ds : List (List ℕ)) → bDescriptorType d ≡ 2 → after false (d ∷ ds) ≡ good_companions (d ∷ ds)
unfolding after
first-companion d ds t =
    let c : is_companion d ≡ false = ne_eqb (bDescriptorType d) 48 (λ p. omega arith) in
    let e : is_endpoint d ≡ false = ne_eqb (bDescriptorType d) 5 (λ p. omega arith) in
    rw (c, e) (sym (companions-same d ds t))

whole_row : (well head kinds interfaces companions holds good : Bool) → (well ≡ true → head ≡ true → holds ≡ good)
    → ((well && (head && kinds && interfaces && true)) && (companions ⇒ holds)) ≡ (well && (head && kinds && interfaces && (companions ⇒ good)))
whole_row true true k i c h g f = ap (λ t. ((k && i) && true) && (c ⇒ t)) (f refl refl) ∙ ap (λ t. t && (c ⇒ g)) (and-true (k && i))
whole_row true false k i c h g f = refl
whole_row false head k i c h g f = refl

-- the same with its companions
both-same : (limits : Limits) (size start : ℕ) {cs : Cutting} → Proper cs
    → (all_hold (cut_findings limits size start cs) && (limits.companions ⇒ all_hold (companions_from start 0 0 false cs))) ≡ (well_cut cs && good_descriptors limits size (descriptors_of cs))
unfolding every well_cut good_descriptors descriptors_of
both-same limits size start ends = refl
both-same limits size start breaks = refl
both-same limits size start (cut_off {d}) = ap (λ t. t && (limits.companions ⇒ all_hold (companions_from start 0 0 false (descriptor d broken)))) (cut-same limits size start (cut_off {d = d}))
both-same limits size start (goes {d} {ds} p q) =
    let rest = descriptors_of ds in
    let asks = limits.companions ⇒ all_hold (companions_from start 0 0 false (descriptor d ds)) in
    ap (λ t. t && asks) (cut-same limits size start (goes {d = d} p q))
    ∙ whole_row (well_cut ds) (good_head size d) (every (good_descriptor limits) rest) (good_interfaces (bNumInterfaces d) (grouped rest)) limits.companions (all_hold (companions_from start 0 0 false (descriptor d ds))) (good_companions (d ∷ rest))
    (λ w h. companions-hold start 0 0 false (goes {d = d} p q) w ∙ first-companion d rest (head-kind size d h))

pub body_same : (limits : Limits) (start : ℕ) (body : List ℕ)
    → (all_hold (body_findings limits start body) && all_hold (body_companions limits start body)) ≡ good_configuration limits body
unfolding good_configuration
body_same limits start body =
    ap (λ t. all_hold (body_findings limits start body) && t) (if-asked limits.companions (companions_from start 0 0 false (cut body))) ∙ both-same limits (length body) start (proper 0 body)

-- ---- the entries
distinct_more : (b : List ℕ) (earlier bs : List (List ℕ)) → every (distinct_from (b ∷ earlier)) bs ≡ (every (distinct_values b) bs && every (distinct_from earlier) bs)
unfolding every
distinct_more b earlier bs = every-both (distinct_values b) (distinct_from earlier) bs

all-distinct : (bs : List (List ℕ)) → every (distinct_from []) bs ≡ true
unfolding every
all-distinct [] = refl
all-distinct (b ∷ bs) = all-distinct bs

six : (i l g c v s : Bool) → (i && (l && (g && (c && (v && (s && true)))))) ≡ (i && l && (g && c) && v && s)
six i l g c v s = simp (and-true, and_assoc)

configuration-same : (limits : Limits) (at n : ℕ) (distinct : Bool) (e : Entry) (body : List ℕ)
    → all_hold (configuration_findings limits at n distinct e body) ≡ (has_index n (piece_with e body) && has_no_language (piece_with e body) && good_configuration limits body && value_nonzero body && distinct)
unfolding every
configuration-same limits at n distinct e body =
    let v = value_nonzero body in
    let p = piece_with e body in
    let found = body_findings limits e.offset body in
    let companions = body_companions limits e.offset body in
    let last = asked 435 (byte_at e.offset 0 5) v ∷ asked 436 (byte_at e.offset 0 5) distinct ∷ [] in
    ap (λ b. has_index n p && (has_no_language p && b))
    (every_append (λ x. x.holds) found (companions ++ last) ∙ ap (λ b. all_hold found && b) (every_append (λ x. x.holds) companions last))
    ∙ six (has_index n p) (has_no_language p) (all_hold found) (all_hold companions) v distinct
    ∙ ap (λ g. has_index n p && has_no_language p && g && v && distinct) (body_same limits e.offset body)

-- all hold where none is the first that is broken
none-broken : (xs : List Finding) → all_hold xs ≡ not (is_some (first is_broken xs))
unfolding every first
none-broken [] = refl
none-broken (x ∷ xs) = go x.holds (none-broken xs)
  where
    go : (b : Bool) → all_hold xs ≡ not (is_some (first is_broken xs)) → (b && all_hold xs) ≡ not (is_some (pick (not b) (some x) (first is_broken xs)))
    go true p = p
    go false p = refl

module _ (limits : Limits) (set : List ℕ) where
  -- the configurations that are left, from index n on
  unfoldable good_from : ℕ → List (List ℕ) → List Piece → Bool
  good_from n earlier ps =
      numbered_from n ps &&
      every (good_configuration limits) (map body_is ps) &&
      every value_nonzero (map body_is ps) &&
      (every (distinct_from earlier) (map body_is ps) && pairs distinct_values (map body_is ps))

  more : (at n : ℕ) (earlier : List (List ℕ)) (e : Entry) (ps : List Piece)
      → (all_hold (configuration_findings limits at n (distinct_from earlier (body_of set e)) e (body_of set e)) && good_from (n + 1) (body_of set e ∷ earlier) ps)
      ≡ good_from n earlier (piece_for set e ∷ ps)
  unfolding good_from numbered_from every pairs
  more at n earlier e ps =
      let b = body_of set e in
      let bs = map body_is ps in
      ap (λ c. c && good_from (n + 1) (b ∷ earlier) ps) (configuration-same limits at n (distinct_from earlier b) e b)
      ∙ rw (distinct_more b earlier bs)
      (sym
      (ordered (has_index n (piece_for set e)) (has_no_language (piece_for set e)) (good_configuration limits b) (value_nonzero b) (distinct_from earlier b)
      (numbered_from (n + 1) ps) (every (good_configuration limits) bs) (every value_nonzero bs) (every (distinct_from earlier) bs) (every (distinct_values b) bs) (pairs distinct_values bs)))

  from-same : (at n : ℕ) (earlier : List (List ℕ)) (es : List Entry) → all_hold (configurations_from limits set at n earlier es) ≡ good_from n earlier (pieces_of 2 (map (piece_for set) es))
  unfolding every configurations_from only good_from numbered_from pairs
  from-same at n earlier [] = refl
  from-same at n earlier (e ∷ es) = go (is_kind 2 e) (from-same (at + 8) (n + 1) (body_of set e ∷ earlier) es) (from-same (at + 8) n earlier es)
    where
      found : List Finding
      found = configuration_findings limits at n (distinct_from earlier (body_of set e)) e (body_of set e)

      later : List Finding
      later = configurations_from limits set (at + 8) (n + 1) (body_of set e ∷ earlier) es

      rest : List Piece
      rest = pieces_of 2 (map (piece_for set) es)

      go : (b : Bool) → all_hold later ≡ good_from (n + 1) (body_of set e ∷ earlier) rest
          → all_hold (configurations_from limits set (at + 8) n earlier es) ≡ good_from n earlier rest
          → all_hold (pick b (found ++ later) (configurations_from limits set (at + 8) n earlier es)) ≡ good_from n earlier (pick b (piece_for set e ∷ rest) rest)
      go true p q = every_append (λ x. x.holds) found later ∙ ap (λ b. all_hold found && b) p ∙ more at n earlier e rest
      go false p q = q

  walked_same : all_hold (configurations_findings limits set) ≡ good_configurations limits (pieces_in set)
  unfolding good_configurations good_from
  walked_same = from-same 4 0 [] (entries set) ∙ rw (all-distinct (bodies_of 2 (pieces_in set)))

  -- the list of rules breaks where the walk does
  pub configurations-same : all_hold (list.configurations_findings limits set) ≡ good_configurations limits (pieces_in set)
  configurations-same =
      none-broken (list.configurations_findings limits set) ∙ ap (λ o. not (is_some o)) (sym (configurations-told limits set))
      ∙ sym (none-broken (configurations_findings limits set)) ∙ walked_same
