-- What events read of a board besides descriptors is the same before and after trimming, and what GET_DESCRIPTOR shows too. No axiom.
use Rattle.octets.proofs.Vocabulary.{◌≡◌, refl, sym, ap, ◌∙◌, ℕ, zero, suc, ◌/◌, ◌%◌, ◌≤◌, min, List, [], ◌∷◌, map, List-as-Memᴰ, List·Memᴰ·not-nil, Bool, true, false, ◌&&◌, not, Option, some, none, length, take, drop, get_elem?, length-take, eqb, leb, take-take, take_all, arith, min-eq_left, min-eq_right, eqb-true, leb-true, leb-false, eq-eqb, ne_eqb}
use Rattle.octets.specs.Octets.{Bytes}
use Rattle.octets.specs.Sentences.{pick, ◌⇒◌, every, any, first, member}
use Rattle.octets.proofs.Sentences.{cases, never, both, joined, neither, or_left, or_right, if-then, every-member, any_none, none_first}
use Rattle.descriptors.specs.Configuration.{Configuration}
use Rattle.descriptors.specs.Limits.{full_speed}
use Rattle.sets.specs.declared.Entry.{Entry}
use Rattle.sets.specs.Contents.{entries, entries_of, bodies, body_of, is_kind}
use Rattle.sets.specs.Device.{device_body, iManufacturer, iProduct, iSerialNumber}
use Rattle.sets.specs.Strings.{languages}
use Rattle.sets.specs.Opening.{lent, opening}
use Rattle.sets.specs.Found.{is_at}
use Rattle.sets.specs.View.{View, view_of, entry_by_index, accepted}
use Rattle.records.specs.declared.Device.{Device}
use Rattle.records.specs.Device.{in_test_mode, settled}
use Rattle.records.specs.Image.{device_of, image_of}
use Rattle.records.specs.Fits.{fits, fits_on}
use Rattle.requests.specs.declared.Setup.{Setup}
use Rattle.requests.specs.declared.Row.{Row}
use Rattle.requests.specs.Table.{request_table, row_of}
use Rattle.requests.proofs.Found.{without-row}
use Rattle.events.specs.declared.Event.{Event}
use Rattle.events.specs.declared.Event.TheVariants.{Request, Malformed, StatusEnd, BusReset, Halt, PacketPassed, Power, Suspend, Resume, Wake}
use Rattle.events.specs.declared.facts.Located.{Located}
use Rattle.events.specs.declared.facts.Located.TheVariants.{Body, Serial, Nowhere}
use Rattle.events.specs.Answer.{Refused, Outcome, part_of, refused, bytes_in}
use Rattle.events.specs.Requests.{is_entry, body_at, by_index, language_for, locate_string, locate, describe, get_status, clear_feature, set_feature, set_address, get_descriptor, get_configuration, set_configuration, get_interface, set_interface}
use Rattle.events.specs.Step.{request, refusal_for, answer_setup, halt, packet_passed, respond, step, Reply, reply_of, event}
use Rattle.set_writer.proofs.InPieces.{same-bodies}
use Rattle.trimming.specs.Trim.{referenced, referenced_string, zero_stays, kept, trimmed}
use Rattle.trimming.specs.Keeping.{named_in}
use Rattle.trimming.proofs.Naming.{named_by}
use Rattle.trimming.specs.Asked.{body_in, body_under, left}
use Rattle.laws.proofs.Outcomes.{Answered, reads, from_set, from_serial, changes, refused_with, in_test, Responded, answers, leaves, becomes, refuses, responded}
use Rattle.maker_laws.specs.TrimRequests.{dropped, asks_dropped, SaysSame}
use Rattle.maker_laws.proofs.TrimAgain.{alike, same_bytes, gone}
use Rattle.maker_laws.proofs.TrimBuffer.{same-configured, same-serial, same-languages}
use Rattle.maker_laws.proofs.TrimOpens.{opens-again}

-- ---- what is read of the configurations, and of whether two sets are lent, alone
-- a view with nothing else
abbrev bare : View → View
bare v = record { entries = []; languages = []; serial_index = 0; serial_length = 0; configurations = v.configurations; paired = v.paired }

fits-bare : (v : View) (d : Device) → fits v d ≡ fits (bare v) d
unfolding fits
fits-bare v d = refl

fits-alike : (v w : View) → bare v ≡ bare w → (d : Device) → fits v d ≡ fits w d
fits-alike v w e d = fits-bare v d ∙ ap (λ (x : View). fits x d) e ∙ sym (fits-bare w d)

abbrev gets_descriptor : Event → Bool
gets_descriptor (Request s) = eqb s.bRequest 0x06
gets_descriptor Malformed = false
gets_descriptor StatusEnd = false
gets_descriptor (BusReset speed) = false
gets_descriptor (Halt a) = false
gets_descriptor (PacketPassed a) = false
gets_descriptor (Power source) = false
gets_descriptor Suspend = false
gets_descriptor Resume = false
gets_descriptor Wake = false

request-bare : (v : View) (d : Device) (s : Setup) → eqb s.bRequest 0x06 ≡ false → request v d s ≡ request (bare v) d s
unfolding request get_status clear_feature set_feature set_address get_configuration set_configuration get_interface set_interface
request-bare v d s h = rw h

respond-bare : (v : View) (d : Device) (e : Event) → gets_descriptor e ≡ false → respond v d e ≡ respond (bare v) d e
unfolding answer_setup halt packet_passed
respond-bare v d (Request s) h =
    let n = refusal_for v.paired d s in
    ap (λ (o : Outcome). pick (in_test_mode d) (refused 17 (settled d)) (pick (eqb n 0) o (refused n (settled d)))) (request-bare v (settled d) s h)
respond-bare v d Malformed h = refl
respond-bare v d StatusEnd h = refl
respond-bare v d (BusReset speed) h = refl
respond-bare v d (Halt a) h = refl
respond-bare v d (PacketPassed a) h = refl
respond-bare v d (Power source) h = refl
respond-bare v d Suspend h = refl
respond-bare v d Resume h = refl
respond-bare v d Wake h = refl

-- without entries no part lies in the set, so what is shown hangs on the serial block alone
module _ (set other serial : List ℕ) where
  answered-alike : {v : View} {d : Device} {o : Outcome} → Answered v d o → v.entries ≡ [] → bytes_in set set serial (part_of o.answer) ≡ bytes_in other other serial (part_of o.answer)
  answered-alike (reads a n p) q = rw p
  answered-alike (from_set e asked m) q = absurd (List·Memᴰ·not-nil (rw q at m))
  answered-alike (from_serial asked) q = refl
  answered-alike (changes c) q = refl
  answered-alike (refused_with n a b) q = refl
  answered-alike (in_test t) q = refl

  shown-alike : {v : View} {d : Device} {e : Event} {o : Outcome} → Responded v d e o → v.entries ≡ [] → bytes_in set set serial (part_of o.answer) ≡ bytes_in other other serial (part_of o.answer)
  shown-alike (answers a) q = answered-alike a q
  shown-alike leaves q = refl
  shown-alike (becomes c) q = refl
  shown-alike (refuses r) q = refl

  -- the same outcome, from two sets, without a part in either
  same_outcome : (x y z : Outcome) → x ≡ z → y ≡ z → bytes_in set set serial (part_of z.answer) ≡ bytes_in other other serial (part_of z.answer) → SaysSame set other serial x.answer y.answer × (x.device ≡ y.device)
  same_outcome x y z p q h = rw (p, q) (record { number = refl; bytes = refl; shown = h }, refl)

  plain-alike : (v w : View) → bare v ≡ bare w → (d : Device) (e : Event) → gets_descriptor e ≡ false
      → SaysSame set other serial (respond v d e).answer (respond w d e).answer × ((respond v d e).device ≡ (respond w d e).device)
  plain-alike v w c d e h =
      same_outcome (respond v d e) (respond w d e) (respond (bare w) d e)
      (respond-bare v d e h ∙ ap (λ (x : View). respond x d e) c) (respond-bare w d e h)
      (shown-alike (responded (bare w) d e) refl)

-- ---- GET_DESCRIPTOR
-- the table knows it with the type 80 alone
device-alone : every (λ r. eqb r.bRequest 0x06 ⇒ eqb r.bmRequestType 0x80) request_table ≡ true
unfolding every
device-alone = refl

no_row : (s : Setup) → eqb s.bRequest 0x06 ≡ true → eqb s.bmRequestType 0x80 ≡ false → row_of s ≡ none
no_row s c t = none_first (λ r. eqb r.bmRequestType s.bmRequestType && eqb r.bRequest s.bRequest) request_table
    (λ r m. cases (eqb r.bmRequestType s.bmRequestType && eqb r.bRequest s.bRequest) (λ p. other r m p) (λ p. p))
  where
    other : (r : Row) → List-as-Memᴰ r request_table → (eqb r.bmRequestType s.bmRequestType && eqb r.bRequest s.bRequest) ≡ true
        → (eqb r.bmRequestType s.bmRequestType && eqb r.bRequest s.bRequest) ≡ false
    other r m p =
        let (k, j) = both (eqb r.bmRequestType s.bmRequestType) (eqb r.bRequest s.bRequest) p in
        let six = eq-eqb r.bRequest 0x06 (eqb-true r.bRequest s.bRequest j ∙ eqb-true s.bRequest 0x06 c) in
        let device = eqb-true r.bmRequestType 0x80 (if-then (eqb r.bRequest 0x06) (eqb r.bmRequestType 0x80) (every-member (λ r. eqb r.bRequest 0x06 ⇒ eqb r.bmRequestType 0x80) device-alone m) six) in
        never (eq-eqb s.bmRequestType 0x80 (sym (eqb-true r.bmRequestType s.bmRequestType k) ∙ device)) t

not-of-device : (d : Device) (s : Setup) → eqb s.bRequest 0x06 ≡ true → eqb s.bmRequestType 0x80 ≡ false → eqb (refusal_for false d s) 0 ≡ false
not-of-device d s c t = rw (without-row d.state s (no_row s c t))

-- "never more than wLength bytes, from the start of the body"
pub cut-body : (n m : ℕ) (l : List ℕ) → take (min n m) l ≡ take m (take n l)
cut-body n m l = cases (leb n m)
    (λ p. let h = leb-true n m p in rw (min-eq_left h) (sym (take_all m (take n l) (rw length-take (omega arith)))))
    (λ p. let h : m ≤ n = omega (arith, leb-false n m p) in rw (min-eq_right h) (sym (take-take m n l h)))

-- a descriptor's place does not change what is left: GET_DESCRIPTOR leaves the settled record
described-leaves : (d : Device) (asked : ℕ) (l : Located) → (describe d asked l).device ≡ d
described-leaves d asked (Body offset size) = refl
described-leaves d asked (Serial size) = refl
described-leaves d asked Nowhere = refl

describes-leaves : (x : View) (d : Device) (e : Event) → gets_descriptor e ≡ true → (respond x d e).device ≡ settled d
unfolding answer_setup request get_descriptor locate
describes-leaves x d (Request s) c = go (in_test_mode d) (eqb (refusal_for x.paired d s) 0)
  where
    go : (t b : Bool) → (pick t (refused 17 (settled d)) (pick b (request x (settled d) s) (refused (refusal_for x.paired d s) (settled d)))).device ≡ settled d
    go true b = refl
    go false true = rw (eqb-true s.bRequest 0x06 c) (described-leaves (settled d) s.wLength (locate x s))
    go false false = refl
describes-leaves x d Malformed c = never c refl
describes-leaves x d StatusEnd c = never c refl
describes-leaves x d (BusReset speed) c = never c refl
describes-leaves x d (Halt a) c = never c refl
describes-leaves x d (PacketPassed a) c = never c refl
describes-leaves x d (Power source) c = never c refl
describes-leaves x d Suspend c = never c refl
describes-leaves x d Resume c = never c refl
describes-leaves x d Wake c = never c refl

-- the same bytes at two places, each in a set of its own
data SameBytes (set other : List ℕ) : Located → Located → Type 0 where
  in_bodies : (e f : Entry) → body_of set e ≡ body_of other f → SameBytes set other (Body e.offset e.length) (Body f.offset f.length)
  in_serial : (n : ℕ) → SameBytes set other (Serial n) (Serial n)
  nowhere : SameBytes set other Nowhere Nowhere

module _ {set other : List ℕ} where
  -- two choices by one test
  both_ways : (b : Bool) {x y z t : Located} → (b ≡ true → SameBytes set other x z) → (b ≡ false → SameBytes set other y t) → SameBytes set other (pick b x y) (pick b z t)
  both_ways true p q = p refl
  both_ways false p q = q refl

  found_alike : (o p : Option Entry) → body_in set o ≡ body_in other p → SameBytes set other (body_at o) (body_at p)
  found_alike none none q = nowhere
  found_alike none (some f) q = let z : ◌≡◌ {A = ℕ} 0 1 = cc in absurd (omega arith)
  found_alike (some e) none q = let z : ◌≡◌ {A = ℕ} 0 1 = cc in absurd (omega arith)
  found_alike (some e) (some f) q = in_bodies e f cc

  described : (serial : List ℕ) (d : Device) (asked : ℕ) {l m : Located} → SameBytes set other l m
      → SaysSame set other serial (describe d asked l).answer (describe d asked m).answer × ((describe d asked l).device ≡ (describe d asked m).device)
  described serial d asked (in_bodies e f b) =
      let h = cut-body e.length asked (drop e.offset set) ∙ ap (take asked) b ∙ sym (cut-body f.length asked (drop f.offset other)) in
      (record { number = refl; bytes = refl; shown = h }, refl)
  described serial d asked (in_serial n) = (record { number = refl; bytes = refl; shown = refl }, refl)
  described serial d asked nowhere = (record { number = refl; bytes = refl; shown = refl }, refl)

-- ---- a set and what trimming leaves of it
-- the body of the configuration at an index is that of all the bodies
body-at : (set : List ℕ) (es : List Entry) (k : ℕ) → body_in set (get_elem? es k) ≡ get_elem? (map (body_of set) es) k
body-at set [] k = refl
body-at set (e ∷ es) zero = refl
body-at set (e ∷ es) (suc k) = body-at set es k

module _ (set serial : List ℕ) where
  abbrev v : View
  v = view_of (lent set serial)

  abbrev w : View
  w = view_of (lent (trimmed set) serial)

  same_view : bare v ≡ bare w
  unfolding view_of
  same_view = ap (λ (cs : List Configuration). record { entries = []; languages = []; serial_index = 0; serial_length = 0; configurations = cs; paired = false }) (sym (same-configured set))

  abbrev SameAt : Located → Located → Type 0
  SameAt l m = SameBytes set (trimmed set) l m

  -- a body under a type, an index and a language that stay
  entry-alike : (kind index language : ℕ) → left set kind index ≡ true → SameAt (body_at (first (is_entry kind index language) (entries set))) (body_at (first (is_entry kind index language) (entries (trimmed set))))
  entry-alike kind index language h =
      found_alike (first (is_entry kind index language) (entries set)) (first (is_entry kind index language) (entries (trimmed set))) (sym (same_bytes kind index language set h))

  -- a configuration, by its index
  configuration-alike : (k : ℕ) → SameAt (body_at (entry_by_index (record { 0 = k }) (entries set))) (body_at (entry_by_index (record { 0 = k }) (entries (trimmed set))))
  configuration-alike k =
      found_alike (get_elem? (entries_of 2 set) k) (get_elem? (entries_of 2 (trimmed set)) k)
      (body-at set (entries_of 2 set) k ∙ ap (λ (bs : List (List ℕ)). get_elem? bs k) (sym (same-bodies (alike set))) ∙ sym (body-at (trimmed set) (entries_of 2 (trimmed set)) k))

  -- a string, where string 0 stays: the languages are the same, so the one chosen is
  listed-alike : (index asked : ℕ) → left set 3 index ≡ true → zero_stays set ≡ true → SameAt (locate_string v index (language_for v index asked)) (locate_string w index (language_for w index asked))
  unfolding view_of
  listed-alike index asked h z = rw (same-serial set, same-languages set z) (at (language_for v index asked))
    where
      at : (language : ℕ)
          → SameAt (pick (leb 1 index && eqb index (iSerialNumber (device_body set))) (pick (member language (languages set)) (Serial (length serial)) Nowhere) (body_at (first (is_entry 3 index language) (entries set))))
          (pick (leb 1 index && eqb index (iSerialNumber (device_body set))) (pick (member language (languages set)) (Serial (length serial)) Nowhere) (body_at (first (is_entry 3 index language) (entries (trimmed set)))))
      at language = both_ways (leb 1 index && eqb index (iSerialNumber (device_body set)))
          (λ e. both_ways (member language (languages set)) (λ e. in_serial (length serial)) (λ e. nowhere)) (λ e. entry-alike 3 index language h)

  -- where string 0 goes, no entry is named, nor a serial number
  module _ (index : ℕ) (i : eqb index 0 ≡ false) (h : left set 3 index ≡ true) (z : zero_stays set ≡ false) where
    index-named : referenced set index ≡ true
    index-named = rw i at h

    no-entry : (language : ℕ) → body_under set 3 index language ≡ none
    no-entry language = ap (body_in set) (none_first (is_at 3 index language) (entries set) (λ e m. cases (is_at 3 index language e) (λ p. never (is-named language e p) (any_none (referenced_string set) (neither (any (referenced_string set) (entries set)) (leb 1 (iSerialNumber (device_body set))) z).0 m)) (λ p. p)))
      where
        above : (k : ℕ) → eqb k 0 ≡ false → leb 1 k ≡ true
        above k q = cases (leb 1 k) (λ p. p) (λ p. never (eq-eqb k 0 (omega (arith, leb-false 1 k p))) q)

        is-named : (language : ℕ) (e : Entry) → is_at 3 index language e ≡ true → referenced_string set e ≡ true
        is-named language e p =
            let (a, l) = both (eqb e.kind 3 && eqb e.index index) (eqb e.language language) p in
            let (k, j) = both (eqb e.kind 3) (eqb e.index index) a in
            let n : referenced set e.index ≡ true = rw (eqb-true e.index index j) index-named in
            joined (joined k (rw (eqb-true e.index index j) (above index i))) n

    no-serial : (leb 1 index && eqb index (iSerialNumber (device_body set))) ≡ false
    no-serial = cases (leb 1 index && eqb index (iSerialNumber (device_body set)))
        (λ p. let (l, e) = both (leb 1 index) (eqb index (iSerialNumber (device_body set))) p in
        let y : leb 1 (iSerialNumber (device_body set)) ≡ true = rw (eqb-true index (iSerialNumber (device_body set)) e) at l in
        never y (neither (any (referenced_string set) (entries set)) (leb 1 (iSerialNumber (device_body set))) z).1)
        (λ p. p)

    unlisted-alike : (l m : ℕ) → SameAt (locate_string v index l) (locate_string w index m)
    unfolding view_of
    unlisted-alike l m = rw (same-serial set, no-serial)
        (found_alike (first (is_entry 3 index l) (entries set)) (first (is_entry 3 index m) (entries (trimmed set))) (no-entry l ∙ sym (same_bytes 3 index m set h ∙ no-entry m)))

  -- an index that trimming would not leave, but that no entry had: nowhere, before and after
  module _ (index : ℕ) (h : left set 3 index ≡ false) (n : dropped set index ≡ false) where
    absent : (language : ℕ) → body_under set 3 index language ≡ none
    absent language = ap (body_in set) (none_first (is_at 3 index language) (entries set)
        (λ e m. cases (is_at 3 index language e) (λ p. never (removed e p) (any_none (λ e. is_kind 3 e && eqb e.index index && not (kept set e)) n m)) (λ p. p)))
      where
        removed : (e : Entry) → is_at 3 index language e ≡ true → (is_kind 3 e && eqb e.index index && not (kept set e)) ≡ true
        removed e p =
            let (a, l) = both (eqb e.kind 3 && eqb e.index index) (eqb e.language language) p in
            let (k, j) = both (eqb e.kind 3) (eqb e.index index) a in
            let f : kept set e ≡ false = rw (k, eqb-true e.index index j) h in
            joined (joined k j) (ap not f)

    unnamed-serial : (leb 1 index && eqb index (iSerialNumber (device_body set))) ≡ false
    unnamed-serial = cases (leb 1 index && eqb index (iSerialNumber (device_body set)))
        (λ p. let (l, e) = both (leb 1 index) (eqb index (iSerialNumber (device_body set))) p in
        let i : eqb index 0 ≡ false = ne_eqb index 0 (λ z. omega (arith, leb-true 1 index l)) in
        let d = device_body set in
        let r : referenced set index ≡ true = named_by set index ∙ or_left (any (named_in index) (bodies 2 set)) (or_right (eqb index (iManufacturer d)) (or_right (eqb index (iProduct d)) e)) in
        never r (rw i at h))
        (λ p. p)

    absent-alike : (l m : ℕ) → SameAt (locate_string v index l) (locate_string w index m)
    unfolding view_of
    absent-alike l m = rw (same-serial set, unnamed-serial)
        (found_alike (first (is_entry 3 index l) (entries set)) (first (is_entry 3 index m) (entries (trimmed set))) (absent l ∙ sym (gone 3 index m set h)))

  string-alike : (index asked : ℕ) → left set 3 index ≡ true → SameAt (locate_string v index (language_for v index asked)) (locate_string w index (language_for w index asked))
  string-alike index asked h = cases (zero_stays set) (λ z. listed-alike index asked h z)
      (λ z. cases (eqb index 0) (λ i. let y : zero_stays set ≡ true = rw i at h in never y z) (λ i. unlisted-alike index i h z (language_for v index asked) (language_for w index asked)))

  either-alike : (index asked : ℕ) → dropped set index ≡ false → SameAt (locate_string v index (language_for v index asked)) (locate_string w index (language_for w index asked))
  either-alike index asked n = cases (left set 3 index) (λ h. string-alike index asked h) (λ h. absent-alike index h n (language_for v index asked) (language_for w index asked))

  locate-alike : (s : Setup) → (eqb (s.wValue / 256) 3 && dropped set (s.wValue % 256)) ≡ false → SameAt (locate v s) (locate w s)
  unfolding view_of locate
  locate-alike s h =
      both_ways (eqb (s.wValue / 256) 3) (λ p. either-alike (s.wValue % 256) s.wIndex (rw p at h))
      (λ p. both_ways (eqb (s.wValue / 256) 2) (λ p. configuration-alike (s.wValue % 256))
      (λ q. both_ways (by_index (s.wValue / 256)) (λ r. entry-alike (s.wValue / 256) (s.wValue % 256) 0 (stays_by p)) (λ r. nowhere)))
    where
      stays_by : eqb (s.wValue / 256) 3 ≡ false → left set (s.wValue / 256) (s.wValue % 256) ≡ true
      stays_by p = rw p

  abbrev Alike : Outcome → Outcome → Type 0
  Alike x y = SaysSame set (trimmed set) serial x.answer y.answer × (x.device ≡ y.device)

  setup-alike : (d : Device) (s : Setup) → asks_dropped set (Request s) ≡ false → eqb s.bmRequestType 0x80 ≡ true → eqb s.bRequest 0x06 ≡ true → Alike (request v d s) (request w d s)
  unfolding request get_descriptor locate
  setup-alike d s h t c = let six = eqb-true s.bRequest 0x06 c in rw six (described serial d s.wLength (locate-alike s (rw (t, c) at h)))

  answer-alike : (d : Device) (e : Event) → asks_dropped set e ≡ false → Alike (respond v d e) (respond w d e)
  unfolding answer_setup view_of
  answer-alike d e h = cases (gets_descriptor e) (λ c. asked d e h c) (λ c. plain-alike set (trimmed set) serial v w same_view d e c)
    where
      past : (n : ℕ) (d : Device) (s : Setup) → asks_dropped set (Request s) ≡ false → eqb s.bmRequestType 0x80 ≡ true → eqb s.bRequest 0x06 ≡ true → (b : Bool)
          → Alike (pick b (request v (settled d) s) (refused n (settled d))) (pick b (request w (settled d) s) (refused n (settled d)))
      past n d s h t c true = setup-alike (settled d) s h t c
      past n d s h t c false = (record { number = refl; bytes = refl; shown = refl }, refl)

      entered : (d : Device) (s : Setup) → asks_dropped set (Request s) ≡ false → eqb s.bRequest 0x06 ≡ true → (t : Bool)
          → Alike (pick t (refused 17 (settled d)) (pick (eqb (refusal_for false d s) 0) (request v (settled d) s) (refused (refusal_for false d s) (settled d))))
          (pick t (refused 17 (settled d)) (pick (eqb (refusal_for false d s) 0) (request w (settled d) s) (refused (refusal_for false d s) (settled d))))
      entered d s h c true = (record { number = refl; bytes = refl; shown = refl }, refl)
      entered d s h c false = cases (eqb s.bmRequestType 0x80)
          (λ t. past (refusal_for false d s) d s h t c (eqb (refusal_for false d s) 0))
          (λ t. rw (not-of-device d s c t) (record { number = refl; bytes = refl; shown = refl }, refl))

      asked : (d : Device) (e : Event) → asks_dropped set e ≡ false → gets_descriptor e ≡ true → Alike (respond v d e) (respond w d e)
      asked d (Request s) h c = entered d s h c (in_test_mode d)
      asked d Malformed h c = never c refl
      asked d StatusEnd h c = never c refl
      asked d (BusReset speed) h c = never c refl
      asked d (Halt a) h c = never c refl
      asked d (PacketPassed a) h c = never c refl
      asked d (Power source) h c = never c refl
      asked d Suspend h c = never c refl
      asked d Resume h c = never c refl
      asked d Wake h c = never c refl

  -- what an event leaves does not hang on the strings, also where it asks for a dropped one
  left-alike : (d : Device) (e : Event) → (respond v d e).device ≡ (respond w d e).device
  left-alike d e = cases (gets_descriptor e) (λ c. describes-leaves v d e c ∙ sym (describes-leaves w d e c)) (λ c. (plain-alike set (trimmed set) serial v w same_view d e c).1)

  pub fits-again : (d : Device) → fits_on (lent set serial) d ≡ fits_on (lent (trimmed set) serial) d
  unfolding view_of
  fits-again = fits-alike v w same_view

  module _ (small : Bytes set) (ok : accepted (lent set serial) ≡ true) where
    accepted-again : accepted (lent (trimmed set) serial) ≡ true
    accepted-again = eq-eqb (opening full_speed (lent (trimmed set) serial)) 0 (opens-again full_speed set serial small (eqb-true (opening full_speed (lent set serial)) 0 ok))

    pub step-alike : (d : Device) (e : Event) → asks_dropped set e ≡ false → Alike (step (lent set serial) d e) (step (lent (trimmed set) serial) d e)
    unfolding step view_of
    step-alike d e h = rw (ok, accepted-again, ← fits-again d) (go (fits v d))
      where
        go : (b : Bool) → Alike (pick b (respond v d e) (refused 8 d)) (pick b (respond w d e) (refused 8 d))
        go true = answer-alike d e h
        go false = (record { number = refl; bytes = refl; shown = refl }, refl)

    pub event-alike : (image : List ℕ) (e : Event) → asks_dropped set e ≡ false
        → SaysSame set (trimmed set) serial (event (lent set serial) image e).answer (event (lent (trimmed set) serial) image e).answer
        × ((event (lent set serial) image e).image ≡ (event (lent (trimmed set) serial) image e).image)
    unfolding event
    event-alike image e h = rw (ok, accepted-again) (go (eqb (length image) 32))
      where
        unread : Reply
        unread = record { answer = Refused 8; image = image }

        b : Outcome
        b = step (lent set serial) (device_of image) e

        c : Outcome
        c = step (lent (trimmed set) serial) (device_of image) e

        go : (t : Bool) → SaysSame set (trimmed set) serial (pick t (reply_of b) unread).answer (pick t (reply_of c) unread).answer × ((pick t (reply_of b) unread).image ≡ (pick t (reply_of c) unread).image)
        go true = let (s, n) = step-alike (device_of image) e h in (s, ap image_of n)
        go false = (record { number = refl; bytes = refl; shown = refl }, refl)

    -- the image that is left, whatever is asked for
    pub image-alike : (image : List ℕ) (e : Event) → (event (lent set serial) image e).image ≡ (event (lent (trimmed set) serial) image e).image
    unfolding event step view_of
    image-alike image e = rw (ok, accepted-again, ← fits-again (device_of image)) (go (eqb (length image) 32) (fits v (device_of image)))
      where
        unread : Reply
        unread = record { answer = Refused 8; image = image }

        go : (t f : Bool) → (pick t (reply_of (pick f (respond v (device_of image) e) (refused 8 (device_of image)))) unread).image
            ≡ (pick t (reply_of (pick f (respond w (device_of image) e) (refused 8 (device_of image)))) unread).image
        go true true = ap image_of (left-alike (device_of image) e)
        go true false = refl
        go false f = refl
