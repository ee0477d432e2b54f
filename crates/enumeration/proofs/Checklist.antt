-- Chapter 9's checklist (specs/Checklist). No axiom.
use Rattle.octets.proofs.Vocabulary.{◌≡◌, refl, sym, ap, ◌∙◌, ℕ, ◌+◌, ◌*◌, ◌/◌, ◌≤◌, ◌<◌, List, [], ◌∷◌, List-as-Memᴰ, List·Memᴰ·head, Bool, true, false, ◌&&◌, ◌||◌, and-false, false≢true, some, none, inl, inr, length, take, get_or, length-map, eqb, leb, arith, add-zero, le-leb, lt-leb, eq-eqb, ne_eqb, eqb-true, leb-true}
use Rattle.octets.specs.Sentences.{pick, every, any, member, is_some, is_empty}
use Rattle.octets.specs.Sentences as words
use Rattle.octets.proofs.Sentences.{cases, both, joined, neither, every-member, member-any, first_some, none_first}
use Rattle.octets.proofs.Counting.{none-some, at-beyond}
use Rattle.descriptors.specs.Configuration.{Configuration, configuration_of, bConfigurationValue}
use Rattle.sets.specs.declared.Entry.{Entry}
use Rattle.sets.specs.Contents.{entries, entries_of, body_of}
use Rattle.sets.specs.Pieces.{pieces_in, pieces_of}
use Rattle.sets.specs.Device.{device_body, bNumConfigurations, iSerialNumber, good_device}
use Rattle.sets.specs.Strings.{languages, references, is_string, is_nonzero}
use Rattle.sets.specs.Opening.{Board, BytesOf}
use Rattle.sets.specs.View.{View, accepted, has_value, view_of, wakes}
use Rattle.sets.proofs.Groups.{one-device}
use Rattle.set_writer.proofs.Accepted.{mapping}
use Rattle.records.specs.declared.Device.{Device}
use Rattle.records.specs.Device.{in_default, in_address, in_configured, after_reset, settled, awake, with_suspended, with_waiting, with_wakeup, with_address, with_configuration}
use Rattle.records.specs.Current.{set_at, view_at}
use Rattle.records.proofs.InUse.{row_for, bytes_for}
use Rattle.requests.specs.declared.Setup.{Setup}
use Rattle.requests.specs.declared.Row.{Row}
use Rattle.requests.specs.Table.{request_table, row_of, refusal}
use Rattle.events.specs.declared.Event.{Event}
use Rattle.events.specs.declared.Event.TheVariants.{Request, Suspend, Resume, Wake}
use Rattle.events.specs.declared.facts.Located.TheVariants.{Nowhere}
use Rattle.events.specs.Answer.{Answer, OneByte, TwoBytes, gives}
use Rattle.events.specs.Answer as events
use Rattle.events.specs.Requests as requests
use Rattle.events.specs.Requests.{locate}
use Rattle.events.specs.Step.{good_reset, step, request, asks_test_mode}
use Rattle.events.specs.Step as steps
use Rattle.laws.proofs.Recipients.{test-code}
use Rattle.promises.specs.Sound.{sound}
use Rattle.enumeration.specs.Script.{Seen, line, reading, seen_of, Plays, Ready, ask, get_descriptor, set_address, set_configuration, set_interface, get_interface, set_halt, get_endpoint_status, bus_reset, status_end}
use Rattle.enumeration.specs.Bodies.{configuration_body, string_body}
use Rattle.enumeration.specs.Checklist.{Stalls, Answers, get_configuration, get_device_status, get_interface_status, set_wakeup, clear_wakeup, Descriptors, Addresses, Configurations, Statuses, Halts, Wakeups, Interfaces, Others, Checklist}
use Rattle.enumeration.proofs.Asking.{raw, asked, other-code, other-kind, stated, lets, stops, gets}
use Rattle.enumeration.proofs.Found.{rules, many, configuration_entry}
use Rattle.enumeration.proofs.Located.{high_byte, low_byte}
use Rattle.enumeration.proofs.Playing.{ready, played, next}
use Rattle.enumeration.proofs.Reading.{Reads, reference_byte, language_word, reads_device, reads_configuration, reads_zero, reads_string}
use Rattle.enumeration.proofs.EveryPiece as EveryPiece
use Rattle.enumeration.proofs.EveryPiece.{sole-member, of-type}
use Rattle.enumeration.proofs.OtherSpeed.{reads_qualifier, reads_other}
use Rattle.enumeration.proofs.Settings.{every_setting, every_endpoint}

-- one step of a test
just : {b : Board} {d left : Device} {e : Event} {a : Answer} {s : Seen} → step b d e ≡ gives a left → seen_of b d.speed a ≡ s → Plays b d (line e s ∷ []) left
just p q = next p q played

stall : {b : Board} {d : Device} {e : Event} {n : ℕ} → step b d e ≡ events.refused n (settled d) → Stalls b d e n
stall p = just p refl

two : {b : Board} {d : Device} {e : Event} {x y : ℕ} → step b d e ≡ gives (TwoBytes x y) (settled d) → Answers b d e (x ∷ y ∷ [])
two p = just p refl

answers : {b : Board} {d : Device} {e : Event} {bytes : List ℕ} → Reads b d e bytes → Answers b d e bytes
answers x = just x.steps x.sees

has-feature : row_of (raw 0x00 0x03 0 0 0) ≡ some (get_or request_table 4 (record { bmRequestType = 0; bRequest = 0; value = 0; index = 0; string = 0; shortest = 0; longest = 0; lowest = 0; highest = 0 }))
unfolding words.first
has-feature = refl

-- every row but SET_ADDRESS's and GET_DESCRIPTOR's is for Address or Configured
late-rows : every (λ (y : Row). (eqb y.bRequest 0x05 || eqb y.bRequest 0x06) || leb 1 y.lowest) request_table ≡ true
unfolding every
late-rows = refl

-- rows for Address and Configured, for Default and Address, and for Configured
module _ (state : ℕ) (most : state ≤ 2) where
  upper : 1 ≤ state → (inner : ℕ) → pick (leb 1 state && leb state 2) inner 11 ≡ inner
  upper l inner = rw (le-leb 1 state l, le-leb state 2 most) refl

  lower : state ≤ 1 → (inner : ℕ) → pick (leb 0 state && leb state 1) inner 11 ≡ inner
  lower l inner = rw (le-leb 0 state (omega arith), le-leb state 1 l) refl

module _ (b : Board) (octets : BytesOf b) (ok : accepted b ≡ true) (d : Device) (r : Ready b d) where
  abbrev v : View
  v = view_at b d

  abbrev set : List ℕ
  set = set_at b d

  most : d.state ≤ 2
  most = stated b ok r

  -- ---- descriptors
  beyond : (i : ℕ) → bNumConfigurations (device_body set) ≤ i → i < 256 → (w : ℕ) → locate v (asked 2 i 0 w) ≡ Nowhere
  unfolding locate view_of
  beyond i l s w =
      let n : length (entries_of 2 set) ≤ i = omega (arith, many b ok d.speed, length-map (entries_of 2 set) (body_of set)) in
      rw (high_byte 2 i s, low_byte 2 i s, at-beyond (entries_of 2 set) i n) refl

  elsewhere : (kind index : ℕ) → member kind (1 ∷ 2 ∷ 3 ∷ 6 ∷ 7 ∷ []) ≡ false → index < 256 → (w : ℕ) → locate v (asked kind index 0 w) ≡ Nowhere
  unfolding locate any
  elsewhere kind index m i w =
      let (one, m1) = neither (eqb kind 1) _ m in
      let (two, m2) = neither (eqb kind 2) _ m1 in
      let (three, m3) = neither (eqb kind 3) _ m2 in
      let (six, m6) = neither (eqb kind 6) _ m3 in
      let (seven, m7) = neither (eqb kind 7) _ m6 in
      rw (high_byte kind index i, three, two, one, six, seven) refl

  -- no entry is of another speed's types where one set is lent
  one-speed : is_some b.high ≡ false → (kind : ℕ) → requests.by_index kind ≡ true → eqb kind 2 ≡ false → eqb kind 3 ≡ false → eqb 1 kind ≡ false → eqb 2 kind ≡ false → eqb 3 kind ≡ false
      → (i : ℕ) → i < 256 → (w : ℕ) → locate v (asked kind i 0 w) ≡ Nowhere
  unfolding locate view_of
  one-speed one kind by two three x y z i s w =
      rw (high_byte kind i s, low_byte kind i s, three, two, by, none_first (requests.is_entry kind i 0) (entries set) (λ e m. other e (EveryPiece.kind b octets ok r e m 0 (omega arith)))) refl
    where
      other : (e : Entry) → EveryPiece.Kind (is_some b.high) e.kind → requests.is_entry kind i 0 e ≡ false
      other e (EveryPiece.is_device q) = rw (q, x) refl
      other e (EveryPiece.is_configuration q) = rw (q, y) refl
      other e (EveryPiece.is_string q) = rw (q, z) refl
      other e (EveryPiece.is_qualifier t q) = absurd (false≢true (sym one ∙ t))
      other e (EveryPiece.is_other t q) = absurd (false≢true (sym one ∙ t))

  -- the one device entry has index 0
  other-device : (i : ℕ) → 1 ≤ i → i < 256 → (w : ℕ) → locate v (asked 1 i 0 w) ≡ Nowhere
  unfolding locate view_of
  other-device i l s w = rw (high_byte 1 i s, low_byte 1 i s, none_first (requests.is_entry 1 i 0) (entries set) (λ e m. at e m)) refl
    where
      at : (e : Entry) → List-as-Memᴰ e (entries set) → requests.is_entry 1 i 0 e ≡ false
      at e m = cases (eqb e.kind 1)
          (λ q.
          let device = of-type b octets ok r e m 0 (omega arith) 1 (eqb-true e.kind 1 q) in
          let zero = (sole-member (good_device (row_for b.high d.speed) (length (pieces_of 2 (pieces_in set)))) (pieces_of 1 (pieces_in set)) (one-device _ _ (rules b ok d.speed)) device).0 in
          rw (q, ne_eqb e.index i (λ n. omega (arith, zero))) refl)
          (λ q. rw q refl)

  -- a string that has no entry
  no-string : (index language : ℕ) → 1 ≤ index → index < 256 → eqb index (iSerialNumber (device_body set)) ≡ false → member language (languages set) ≡ true
      → any (is_string index language) (pieces_of 3 (pieces_in set)) ≡ false → (w : ℕ) → locate v (asked 3 index language w) ≡ Nowhere
  unfolding locate view_of
  no-string index language l s other m absent w =
      rw (high_byte 3 index s, low_byte 3 index s, ne_eqb index 0 (λ z. omega arith), m, other, and-false (leb 1 index), none_first (requests.is_entry 3 index language) (entries set) (λ e n. at e n)) refl
    where
      at : (e : Entry) → List-as-Memᴰ e (entries set) → requests.is_entry 3 index language e ≡ false
      at e n = cases (requests.is_entry 3 index language e)
          (λ q.
          let (k, x) = both (eqb e.kind 3 && eqb e.index index) (eqb e.language language) q in
          let (t, i) = both (eqb e.kind 3) (eqb e.index index) k in
          absurd (false≢true (sym absent ∙ member-any (is_string index language) (of-type b octets ok r e n 0 (omega arith) 3 (eqb-true e.kind 3 t)) (joined i x))))
          (λ q. q)

  nowhere : (kind index : ℕ) → kind < 256 → index < 256 → (w : ℕ) → w ≤ 65535 → locate v (asked kind index 0 w) ≡ Nowhere → Stalls b d (get_descriptor kind index 0 w) 13
  nowhere kind index k i w l p = stall (gets b ok r kind index 0 w k i (omega arith) l (inr refl) ∙ ap (requests.describe (settled d) w) p)

  -- a language that is not listed is the first one
  first-listed : is_empty (languages set) ≡ false → List-as-Memᴰ (get_or (languages set) 0 0) (languages set)
  first-listed = go (languages set)
    where
      go : (l : List ℕ) → is_empty l ≡ false → List-as-Memᴰ (get_or l 0 0) l
      go [] p = absurd (false≢true (sym p))
      go (x ∷ l) p = List·Memᴰ·head refl

  abbrev first : ℕ
  first = get_or (languages set) 0 0

  not-zero : (index : ℕ) → is_nonzero index ≡ true → eqb index 0 ≡ false
  not-zero index z = ne_eqb index 0 (λ q. omega (arith, leb-true 1 index z))

  unlisted : (index language : ℕ) → is_nonzero index ≡ true → member language (languages set) ≡ false → requests.language_for v index language ≡ first
  unfolding view_of
  unlisted index language z m = rw (not-zero index z, m) refl

  listed-first : (index : ℕ) → is_nonzero index ≡ true → is_empty (languages set) ≡ false → requests.language_for v index first ≡ first
  unfolding view_of
  listed-first index z l = rw (not-zero index z, member-any (eqb first) (first-listed l) (eq-eqb first first refl)) refl

  as_first : (index language : ℕ) → is_nonzero index ≡ true → index < 256 → member language (languages set) ≡ false → is_empty (languages set) ≡ false → (w : ℕ)
      → locate v (asked 3 index language w) ≡ locate v (asked 3 index first w)
  unfolding locate
  as_first index language z s m l w = rw (high_byte 3 index s, low_byte 3 index s) (ap (requests.locate_string v index) (unlisted index language z m ∙ sym (listed-first index z l)))

  in-first : (index language : ℕ) → List-as-Memᴰ index (references set) → is_nonzero index ≡ true → member language (languages set) ≡ false → language ≤ 65535 → is_empty (languages set) ≡ false
      → (w : ℕ) → w ≤ 65535 → Answers b d (get_descriptor 3 index language w) (take w (string_body b d.speed index (get_or (languages set) 0 0)))
  in-first index language m z n s l w t =
      let small = reference_byte set (bytes_for b d.speed octets) index m in
      let its = first-listed l in
      let x = reads_string b octets ok r index first m z its w t in
      let two = language_word set (bytes_for b d.speed octets) first its in
      just (gets b ok r 3 index language w (omega arith) small s t (inl refl)
      ∙ ap (requests.describe (settled d) w) (as_first index language z small n l w)
      ∙ sym (gets b ok r 3 index (get_or (languages set) 0 0) w (omega arith) small two t (inl refl)) ∙ x.steps) x.sees

  descriptors : Descriptors b d
  descriptors = record {
    device = λ w l. answers (reads_device b octets ok r w l);
    no_device = λ i n s w l. nowhere 1 i (omega arith) s w l (other-device i n s w);
    configurations = λ i n w l. answers (reads_configuration b octets ok r i n w l);
    no_configuration = λ i n s w l. nowhere 2 i (omega arith) s w l (beyond i n s w);
    string_zero = λ n w l. answers (reads_zero b octets ok r n w l);
    strings = λ i x m z n w l. answers (reads_string b octets ok r i x m z n w l);
    no_string = λ i x l s o m t n w q. stall (gets b ok r 3 i x w (omega arith) s t q (inl refl) ∙ ap (requests.describe (settled d) w) (no-string i x l s o m n w));
    other_language = in-first;
    qualifier = λ two w l. answers (reads_qualifier b octets ok two r w l);
    other_speeds = λ two i n w l. answers (reads_other b octets ok two r i n w l);
    one_speed = λ one i s w l. (
      nowhere 6 i (omega arith) s w l (one-speed one 6 refl refl refl refl refl refl i s w),
      nowhere 7 i (omega arith) s w l (one-speed one 7 refl refl refl refl refl refl i s w),
    );
    other_types = λ k i m s t w l. nowhere k i s t w l (elsewhere k i m t w);
  }

  -- ---- addresses
  module _ (low : d.state ≤ 1) (a : ℕ) (l : a ≤ 127) where
    abbrev waiting : Device
    waiting = with_waiting a (settled d)

    awaits : step b d (set_address a) ≡ events.done waiting
    unfolding refusal request requests.set_address words.first
    awaits = lets b ok r (raw 0x00 0x05 a 0 0) (other-code (is_some b.high) (raw 0x00 0x05 a 0 0) refl)
        (lower d.state most low _ ∙ rw (le-leb a 127 l, ne_eqb (a / 256) 3 (λ z. omega arith)) refl)

    at-waiting : Ready b waiting
    at-waiting = ready octets ok (set_address a) r awaits r.calm

    applied : step b waiting status_end ≡ events.done (with_address (pick (eqb a 0) in_default in_address) a (settled d))
    unfolding step steps.status_end
    applied = rw (ok, at-waiting.fit, ne_eqb a 255 (λ p. omega arith), lt-leb 129 a (omega arith)) refl

  addresses : Addresses b d
  unfolding refusal words.first
  addresses = record {
    waits = λ low a l. just (awaits low a l) refl;
    taken = λ low a l. next (awaits low a l) refl (just (applied low a l) refl);
    too_high = λ low a g s. just (stops b ok r (raw 0x00 0x05 a 0 0) (other-code (is_some b.high) (raw 0x00 0x05 a 0 0) refl) 12
        (lower d.state most low _ ∙ rw (lt-leb-not a g) refl) refl) refl;
    not_configured = λ c a. just (stops b ok r (raw 0x00 0x05 a 0 0) (other-code (is_some b.high) (raw 0x00 0x05 a 0 0) refl) 11 (rw c refl) refl) refl;
  }
    where
      lt-leb-not : (a : ℕ) → 128 ≤ a → leb a 127 ≡ false
      lt-leb-not a g = lt-leb a 127 (omega arith)

  -- ---- configurations
  module _ (l : 1 ≤ d.state) where
    chooses : (value : ℕ) → value ≤ 255 → step b d (set_configuration value) ≡ requests.set_configuration v (settled d) (raw 0x00 0x09 value 0 0)
    unfolding refusal request words.first
    chooses value s = lets b ok r (raw 0x00 0x09 value 0 0) (other-code (is_some b.high) (raw 0x00 0x09 value 0 0) refl)
        (upper d.state most l _ ∙ rw (le-leb value 255 s, ne_eqb (value / 256) 3 (λ z. omega arith)) refl)

    -- GET_CONFIGURATION at the record after it
    tells : (left : Device) → step b d (set_configuration left.configuration) ≡ events.done left → 1 ≤ left.state → settled left ≡ left → left.speed ≡ d.speed
        → step b left get_configuration ≡ gives (OneByte left.configuration) left
    unfolding refusal request requests.get_configuration words.first
    tells left p k still fast =
        let at = ready octets ok (set_configuration left.configuration) r p (ap (leb 2) fast ∙ r.calm) in
        lets b ok at (raw 0x80 0x08 0 0 1) (other-code (is_some b.high) (raw 0x80 0x08 0 0 1) refl) (upper left.state (stated b ok at) k _)
        ∙ ap (gives (OneByte left.configuration)) still

    module _ (i : ℕ) (there : i < bNumConfigurations (device_body set)) where
      abbrev value : ℕ
      value = bConfigurationValue (configuration_body set i)

      listed : List-as-Memᴰ (configuration_of (configuration_body set i)) v.configurations
      unfolding view_of
      listed = mapping configuration_of (configuration_entry b ok d.speed i there).listed

      range : (1 ≤ value) × (value < 256)
      unfolding configuration_of
      range = (sound b octets ok d.speed).values (configuration_of (configuration_body set i)) listed

      chosen-it : step b d (set_configuration value) ≡ events.done (with_configuration in_configured value (settled d))
      unfolding requests.set_configuration configuration_of
      chosen-it =
          let (g, s) = range in
          let has : has_value (record { 0 = value }) v.configurations ≡ true = member-any (λ (x : Configuration). eqb x.value value) listed (eq-eqb value value refl) in
          chooses value (omega arith) ∙ rw (ne_eqb value 0 (λ z. omega arith), has) refl

    unchosen : step b d (set_configuration 0) ≡ events.done (with_configuration in_address 0 (settled d))
    unfolding requests.set_configuration
    unchosen = chooses 0 (omega arith)

    no_value : (value : ℕ) → 1 ≤ value → value ≤ 255 → has_value (record { 0 = value }) v.configurations ≡ false → step b d (set_configuration value) ≡ events.refused 13 (settled d)
    unfolding requests.set_configuration
    no_value value g s n = chooses value s ∙ rw (ne_eqb value 0 (λ z. omega arith), n) refl

  configurations : Configurations b d
  configurations = record {
    set = λ l i there. next (chosen-it l i there) refl (just (tells l (with_configuration in_configured (value l i there) (settled d)) (chosen-it l i there) (omega arith) refl refl) refl);
    unset = λ l. next (unchosen l) refl (just (tells l (with_configuration in_address 0 (settled d)) (unchosen l) (omega arith) refl refl) refl);
    no_such = λ l value g s n. just (no_value l value g s n) refl;
  }

  -- ---- status
  module _ (l : 1 ≤ d.state) where
    device-status : step b d get_device_status ≡ gives (TwoBytes (d.power + 2 * d.wakeup) 0) (settled d)
    unfolding refusal request requests.get_status words.first
    device-status = lets b ok r (raw 0x80 0x00 0 0 2) (other-code (is_some b.high) (raw 0x80 0x00 0 0 2) refl) (upper d.state most l _)

    interface-status : (j : ℕ) → j ≤ 65535 → step b d (get_interface_status j) ≡ requests.get_interface_status v (settled d) j
    unfolding refusal request requests.get_status words.first
    interface-status j s = lets b ok r (raw 0x81 0x00 0 j 2) (other-code (is_some b.high) (raw 0x81 0x00 0 j 2) refl) (upper d.state most l _ ∙ rw (le-leb j 65535 s) refl)

    endpoint-status : (a : ℕ) → a ≤ 65535 → step b d (get_endpoint_status a) ≡ requests.get_endpoint_status v (settled d) a
    unfolding refusal request requests.get_status words.first
    endpoint-status a s = lets b ok r (raw 0x82 0x00 0 a 2) (other-code (is_some b.high) (raw 0x82 0x00 0 a 2) refl) (upper d.state most l _ ∙ rw (le-leb a 65535 s) refl)

    wrong-length : (w : ℕ) → (w ≡ 2 → ⊥) → step b d (ask 0x80 0x00 0 0 w) ≡ events.refused 12 (settled d)
    unfolding refusal words.first
    wrong-length w n = stops b ok r (raw 0x80 0x00 0 0 w) (other-code (is_some b.high) (raw 0x80 0x00 0 0 w) refl) 12
        (upper d.state most l _ ∙ cases (leb 2 w) (λ p. rw (p, lt-leb w 2 (omega (arith, leb-true 2 w p, n))) refl) (λ p. rw p refl)) refl

    halts_at : (a : ℕ) → a ≤ 65535 → step b d (set_halt a) ≡ requests.endpoint_feature requests.set_halt v (settled d) (raw 0x02 0x03 0 a 0)
    unfolding refusal request requests.set_feature words.first
    halts_at a s = lets b ok r (raw 0x02 0x03 0 a 0) (other-kind (is_some b.high) (raw 0x02 0x03 0 a 0) refl) (upper d.state most l _ ∙ rw (le-leb a 65535 s) refl)

    -- SET_FEATURE and CLEAR_FEATURE of remote wakeup
    woken : step b d set_wakeup ≡ requests.device_feature 1 v (settled d) (raw 0x00 0x03 1 0 0)
    unfolding refusal request requests.set_feature words.first view_of
    woken = lets b ok r (raw 0x00 0x03 1 0 0) (ap (λ (t : Bool). t && true && true) (and-false (is_some b.high))) (upper d.state most l _) ∙ rw (and-false (is_some b.high)) refl

  statuses : Statuses b d
  statuses = record {
    device = λ l. two (device-status l);
    interface = λ l j s h. two (interface-status l j s ∙ rw h refl);
    no_interface = λ l j s h. stall (interface-status l j s ∙ rw h refl);
    endpoint_zero = λ l a z s. two (endpoint-status l a s ∙ rw z refl);
    no_endpoint = λ l a z s n. stall (endpoint-status l a s ∙ rw (z, n) refl);
    length = λ l w n. stall (wrong-length l w n);
  }

  halts : Halts b d
  halts = record {
    every = λ c e m can. every_endpoint b octets ok d r c e m can;
    no_endpoint = λ l a z s n. stall (halts_at l a s ∙ rw (z, n) refl);
    not_zero = λ l a z s. stall (halts_at l a s ∙ rw z refl);
  }

  -- ---- remote wakeup
  module _ (l : 1 ≤ d.state) (w : wakes v ≡ true) where
    abbrev on : Device
    on = with_wakeup 1 (settled d)

    abbrev off : Device
    off = with_wakeup 0 (settled d)

    turned_on : step b d set_wakeup ≡ events.done on
    turned_on = woken l ∙ rw w refl

    at_on : Ready b on
    at_on = ready octets ok set_wakeup r turned_on r.calm

    told-on : step b on get_device_status ≡ gives (TwoBytes (d.power + 2) 0) on
    unfolding refusal request requests.get_status words.first
    told-on = lets b ok at_on (raw 0x80 0x00 0 0 2) (other-code (is_some b.high) (raw 0x80 0x00 0 0 2) refl) (upper d.state most l _)

    turned-off : step b on clear_wakeup ≡ events.done off
    unfolding refusal request requests.clear_feature words.first
    turned-off = lets b ok at_on (raw 0x00 0x01 1 0 0) (other-code (is_some b.high) (raw 0x00 0x01 1 0 0) refl) (upper d.state most l _) ∙ rw w refl

    at_off : Ready b off
    at_off = ready octets ok clear_wakeup at_on turned-off r.calm

    told-off : step b off get_device_status ≡ gives (TwoBytes (d.power + 0) 0) off
    unfolding refusal request requests.get_status words.first
    told-off = lets b ok at_off (raw 0x80 0x00 0 0 2) (other-code (is_some b.high) (raw 0x80 0x00 0 0 2) refl) (upper d.state most l _)

  sleeps : step b d Suspend ≡ events.done (with_suspended 1 d)
  unfolding step
  sleeps = rw (ok, r.fit) refl

  at-sleep : Ready b (with_suspended 1 d)
  at-sleep = ready octets ok Suspend r sleeps r.calm

  wakes-host : d.wakeup ≡ 1 → step b (with_suspended 1 d) Wake ≡ events.done (with_suspended 1 d)
  unfolding step
  wakes-host w = rw (ok, at-sleep.fit, w) refl

  may-not : d.wakeup ≡ 0 → step b (with_suspended 1 d) Wake ≡ events.refused 19 (with_suspended 1 d)
  unfolding step
  may-not w = rw (ok, at-sleep.fit, w) refl

  resumes : step b (with_suspended 1 d) Resume ≡ events.done (awake d)
  unfolding step
  resumes = rw (ok, at-sleep.fit) refl

  wakeups : Wakeups b d
  wakeups = record {
    supported = λ l w. next (turned_on l w) refl (next (told-on l w) refl (next (turned-off l w) refl (just (told-off l w) (ap (λ (x : ℕ). reading (x ∷ 0 ∷ [])) (add-zero d.power)))));
    unsupported = λ l w. stall (woken l ∙ rw w refl);
    asleep = λ w. next sleeps refl (next (wakes-host w) refl (just resumes refl));
    forbidden = λ w. next sleeps refl (just (may-not w) refl);
  }

  -- ---- interfaces
  module _ (c : d.state ≡ in_configured) where
    sets-setting : (j a : ℕ) → j ≤ 65535 → a ≤ 65535 → step b d (set_interface j a) ≡ requests.set_interface v (settled d) (raw 0x01 0x0B a j 0)
    unfolding refusal request words.first
    sets-setting j a s t = lets b ok r (raw 0x01 0x0B a j 0) (other-code (is_some b.high) (raw 0x01 0x0B a j 0) refl) (rw (c, le-leb a 65535 t) (index (eqb (a / 256) 3)))
      where
        index : (t : Bool) → ◌≡◌ {A = ℕ} (pick (leb j (pick t 65535 65535) && true && true) 0 12) 0
        index true = rw (le-leb j 65535 s) refl
        index false = rw (le-leb j 65535 s) refl

    tells-setting : (j : ℕ) → j ≤ 65535 → step b d (get_interface j) ≡ requests.get_interface v (settled d) (raw 0x81 0x0A 0 j 1)
    unfolding refusal request words.first
    tells-setting j s = lets b ok r (raw 0x81 0x0A 0 j 1) (other-code (is_some b.high) (raw 0x81 0x0A 0 j 1) refl) (rw (c, le-leb j 65535 s) refl)

  interfaces : Interfaces b d
  unfolding refusal words.first requests.set_interface requests.get_interface
  interfaces = record {
    every = λ c s m. every_setting b octets ok d r c s m;
    no_setting = λ c j a s t n. stall (sets-setting c j a s t ∙ rw n refl);
    no_interface = λ c j s n. stall (tells-setting c j s ∙ rw n refl);
    not_in_address = λ c j a. (
      just (stops b ok r (raw 0x01 0x0B a j 0) (other-code (is_some b.high) (raw 0x01 0x0B a j 0) refl) 11 (rw c refl) refl) refl,
      just (stops b ok r (raw 0x81 0x0A 0 j 1) (other-code (is_some b.high) (raw 0x81 0x0A 0 j 1) refl) 11 (rw c refl) refl) refl,
    );
  }

  -- ---- requests that are not there
  unknown-request : (s : Setup) → row_of s ≡ none → step b d (Request s) ≡ events.refused 10 (settled d)
  unfolding refusal
  unknown-request s n = stops b ok r s (cases (asks_test_mode (is_some b.high) s) (λ t. absurd (known s n (test-code (is_some b.high) s t))) (λ t. t)) 10 (rw n refl) refl
    where
      -- the table has a row for SET_FEATURE of a device
      known : (s : Setup) → row_of s ≡ none → (s.bmRequestType ≡ 0x00) × (s.bRequest ≡ 0x03) → ⊥
      known s n (k, c) = none-some (sym (rw (k, c) at n) ∙ has-feature)

  late-row : (s : Setup) (x : Row) → row_of s ≡ some x → (eqb s.bRequest 0x05 || eqb s.bRequest 0x06) ≡ false → leb x.lowest 0 ≡ false
  late-row s x p n =
      let (m, q) = first_some (λ (y : Row). eqb y.bmRequestType s.bmRequestType && eqb y.bRequest s.bRequest) request_table p in
      let code = eqb-true x.bRequest s.bRequest (both (eqb x.bmRequestType s.bmRequestType) (eqb x.bRequest s.bRequest) q).1 in
      if-then-false x.bRequest x.lowest (every-member (λ (y : Row). (eqb y.bRequest 0x05 || eqb y.bRequest 0x06) || leb 1 y.lowest) {xs = request_table} late-rows m) (rw code n)
    where
      if-then-false : (c l : ℕ) → ((eqb c 0x05 || eqb c 0x06) || leb 1 l) ≡ true → (eqb c 0x05 || eqb c 0x06) ≡ false → leb l 0 ≡ false
      if-then-false c l p q = let w : leb 1 l ≡ true = rw q at p in lt-leb l 0 (omega (arith, leb-true 1 l w))

  in-default : d.state ≡ in_default → (s : Setup) (x : Row) → row_of s ≡ some x → (eqb s.bRequest 0x05 || eqb s.bRequest 0x06) ≡ false → refusal d.state s ≡ 11
  unfolding refusal
  in-default z s x p n = rw (p, z, late-row s x p n) refl

  resets : (speed : ℕ) → good_reset (is_some b.high) speed ≡ true → step b d (bus_reset speed) ≡ events.done (after_reset speed d)
  unfolding step
  resets speed g = rw (ok, r.fit, g, r.calm) refl

  others : Others b d
  others = record {
    unknown = λ s n. just (unknown-request s n) refl;
    in_default = λ z s x p n u. just (stops b ok r s u 11 (in-default z s x p n) refl) refl;
    reset = λ speed g. just (resets speed g) refl;
  }

pub checklist : Checklist
checklist b octets ok d r = record {
  descriptors = descriptors b octets ok d r;
  addresses = addresses b octets ok d r;
  configurations = configurations b octets ok d r;
  statuses = statuses b octets ok d r;
  halts = halts b octets ok d r;
  wakeups = wakeups b octets ok d r;
  interfaces = interfaces b octets ok d r;
  others = others b octets ok d r;
}
