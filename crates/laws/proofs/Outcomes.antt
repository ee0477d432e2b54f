-- Every outcome of an event on a record that fits, by kind, with what is known where it comes about: the one walk over the events and
-- requests from which the promises about the step are proved. No axiom.
use Rattle.octets.proofs.Vocabulary.{◌≡◌, refl, ◌∙◌, ℕ, ◌≤◌, min, ◌/◌, ◌%◌, [], ◌∷◌, List-as-Memᴰ, Bool, true, false, ◌&&◌, not, Option, some, none, eqb, leb, lit≤, arith, eq-eqb, eqb-true, eqb-false, leb-true}
use Rattle.octets.specs.Bit.{bit, flip_bit}
use Rattle.octets.specs.Sentences.{pick, ◌⇒◌, any, every, first, member}
use Rattle.octets.proofs.Sentences.{both, if-then, conjunct, every-member, first_some}
use Rattle.laws.proofs.Recipients.{let_through, table-judges, refusal-of}
use Rattle.descriptors.specs.declared.Endpoint.{Endpoint}
use Rattle.descriptors.specs.Configuration.{has_interface, has_setting, can_halt, bit_of}
use Rattle.sets.specs.declared.Entry.{Entry}
use Rattle.descriptors.specs.declared.ConfigurationIndex.{ConfigurationIndex}
use Rattle.sets.specs.View.{View, entry_by_index, wakes}
use Rattle.sets.proofs.Lookups.{by-index-member}
use Rattle.records.specs.declared.Device.{Device}
use Rattle.records.specs.Device.{in_default, in_address, in_configured, nothing, at_high_speed, after_reset, test_waiting, test_waits, in_test_mode, enter_test_mode, settled, with_waiting, with_wakeup, with_power, with_suspended, awake, with_address, with_configuration, with_endpoints}
use Rattle.records.specs.Current.{selected, current_endpoints, endpoint_at}
use Rattle.requests.specs.declared.Setup.{Setup}
use Rattle.requests.specs.declared.Row.{Row}
use Rattle.requests.specs.Table.{recipient, request_table, row_of, in_state, fields_fit, refusal_at, refusal}
use Rattle.events.specs.declared.Event.{Event}
use Rattle.events.specs.declared.Event.TheVariants.{Request, Malformed, StatusEnd, BusReset, Halt, PacketPassed, Power, Suspend, Resume, Wake}
use Rattle.events.specs.declared.facts.Located.{Located}
use Rattle.events.specs.declared.facts.Located.TheVariants.{Body, Serial, Nowhere}
use Rattle.events.specs.Answer.{Answer, Done, SetPart, SerialPart, Outcome, number_of, part_of, gives, done, refused}
use Rattle.events.specs.Requests.{by_recipient, is_endpoint_zero, device_feature, names_test_mode, test_selector, set_test_mode, interface_feature, endpoint_feature, endpoint_status, halt_feature, clear_halt, set_halt, is_entry, body_at, by_index, language_for, locate_string, locate, describe, with_setting, get_status, clear_feature, set_feature, set_address, get_descriptor, get_configuration, set_configuration, get_interface, set_interface}
use Rattle.events.specs.Step.{request, refusal_for, answer_setup, status_end, good_reset, halt_at, halt, pass_at, packet_passed, respond}

-- a change of a record that fits, with what is known where it comes about
pub data Changed (v : View) (d : Device) : Device → Type 0 where
  wakeup : (on : ℕ) → on ≤ 1 → wakes v ≡ true → Changed v d (with_wakeup on d)
  halted : (e : Endpoint) → List-as-Memᴰ e (current_endpoints v d) → can_halt e ≡ true → Changed v d (set_halt d (bit_of e.address))
  unhalted : (e : Endpoint) → List-as-Memᴰ e (current_endpoints v d) → can_halt e ≡ true → Changed v d (clear_halt d (bit_of e.address))
  toggled : (e : Endpoint) → List-as-Memᴰ e (current_endpoints v d) → can_halt e ≡ true
      → Changed v d (awake (with_endpoints d.alternates d.halts (flip_bit d.toggles (bit_of e.address)) d))
  waits : (a : ℕ) → a ≤ 127 → d.state ≤ 1 → in_test_mode d ≡ false → Changed v d (with_waiting a d)
  awaits : (s : ℕ) → 1 ≤ s → s ≤ 5 → d.speed ≡ at_high_speed → Changed v d (with_waiting (test_waiting s) d)
  enters : test_waits d ≡ true → Changed v d (enter_test_mode d)
  applies : (d.waiting ≡ nothing → ⊥) → test_waits d ≡ false → Changed v d (with_address (pick (eqb d.waiting 0) in_default in_address) d.waiting d)
  unconfigures : 1 ≤ d.state → Changed v d (with_configuration in_address 0 d)
  configures : (c : ℕ) → 1 ≤ d.state → d.waiting ≡ nothing → any (λ k. eqb k.value c) v.configurations ≡ true
      → Changed v d (with_configuration in_configured c d)
  sets : (j a : ℕ) → has_setting (selected v d) j a ≡ true → Changed v d (with_setting v d j a)
  resets : (speed : ℕ) → good_reset v.paired speed ≡ true → Changed v d (after_reset speed d)
  powers : (source : ℕ) → source ≤ 1 → Changed v d (with_power source d)
  sleeps : (on : ℕ) → on ≤ 1 → Changed v d (with_suspended on d)

-- a setup's outcome, on the record d that it has settled
pub data Answered (v : View) (d : Device) : Outcome → Type 0 where
  reads : (a : Answer) → number_of a ≡ 0 → part_of a ≡ part_of Done → Answered v d (gives a d)
  from_set : (e : Entry) (asked : ℕ) → List-as-Memᴰ e v.entries → Answered v d (gives (SetPart e.offset (min e.length asked)) d)
  from_serial : (asked : ℕ) → Answered v d (gives (SerialPart (min v.serial_length asked)) d)
  changes : {x : Device} → Changed v d x → Answered v d (done x)
  refused_with : (n : ℕ) → 10 ≤ n → n ≤ 14 → Answered v d (refused n d)
  in_test : in_test_mode d ≡ true → Answered v d (refused 17 d)

-- the refusals of an event that settles nothing: "not 8 bytes" 9, a bus reset, a function event or a power event 16, a wake event 19
pub data Refusable : Event → ℕ → Type 0 where
  malformed : Refusable Malformed 9
  no_reset : {speed : ℕ} → Refusable (BusReset speed) 16
  no_halt : {a : ℕ} → Refusable (Halt a) 16
  no_pass : {a : ℕ} → Refusable (PacketPassed a) 16
  no_power : {source : ℕ} → Refusable (Power source) 16
  no_wake : Refusable Wake 19

-- an event's outcome
pub data Responded (v : View) (d : Device) : Event → Outcome → Type 0 where
  answers : {s : Setup} {o : Outcome} → Answered v (settled d) o → Responded v d (Request s) o
  leaves : {e : Event} → Responded v d e (done d)
  becomes : {e : Event} {x : Device} → Changed v d x → Responded v d e (done x)
  refuses : {e : Event} {n : ℕ} → Refusable e n → Responded v d e (refused n d)

-- by cases on the test of a choice
pub chosen : {A : Type 0} (P : A → Type 0) (b : Bool) {x y : A} → (b ≡ true → P x) → (b ≡ false → P y) → P (pick b x y)
chosen P true p q = p refl
chosen P false p q = q refl

-- ---- the table: what holds of a setup that it lets through
-- a rule of the table's rows, of the row that let a setup through
pub ruled : (f : Row → Bool) → every f request_table ≡ true → (state : ℕ) (s : Setup) → refusal state s ≡ 0
    → (r : Row) × (f r ≡ true) × (r.bRequest ≡ s.bRequest) × (in_state r state ≡ true) × (fields_fit r s ≡ true)
ruled f p state s q = let (r, m, k, c, i, h) = let_through state s q in (r, every-member f p m, c, i, h)

-- 05 is for Default and Address alone, with an address up to 127; 09 is not for Default
address_allowed : (state : ℕ) (s : Setup) → refusal state s ≡ 0 → s.bRequest ≡ 5 → (s.wValue ≤ 127) × (state ≤ 1)
unfolding every
address_allowed state s p c =
    let (r, f, k, i, h) = ruled (λ r. eqb r.bRequest 5 ⇒ leb r.value 127 && leb r.highest 1) refl state s p in
    let f' = if-then (eqb r.bRequest 5) (leb r.value 127 && leb r.highest 1) f (eq-eqb r.bRequest 5 (k ∙ c)) in
    let (a, b) = both (leb r.value 127) (leb r.highest 1) f' in
    let t = leb-true s.wValue r.value (conjunct 0 (leb s.wValue r.value ∷ _ ∷ _ ∷ _ ∷ []) h) in
    let u = leb-true state r.highest (both (leb r.lowest state) (leb state r.highest) i).1 in
    (omega (arith, leb-true r.value 127 a), omega (arith, leb-true r.highest 1 b))

configuration_allowed : (state : ℕ) (s : Setup) → refusal state s ≡ 0 → s.bRequest ≡ 9 → 1 ≤ state
unfolding every
configuration_allowed state s p c =
    let (r, f, k, i, h) = ruled (λ r. eqb r.bRequest 9 ⇒ leb 1 r.lowest) refl state s p in
    let f' = if-then (eqb r.bRequest 9) (leb 1 r.lowest) f (eq-eqb r.bRequest 9 (k ∙ c)) in
    let u = leb-true r.lowest state (both (leb r.lowest state) (leb state r.highest) i).0 in
    omega (arith, leb-true 1 r.lowest f')

-- the refusals of the table are 10, 11 and 12
table_refuses : (state : ℕ) (s : Setup) → (refusal state s ≡ 0 → ⊥) → (10 ≤ refusal state s) × (refusal state s ≤ 14)
unfolding refusal
table_refuses state s = go (row_of s)
  where
    tests : (a b : Bool) → (pick {A = ℕ} a (pick b 0 12) 11 ≡ 0 → ⊥) → (10 ≤ pick {A = ℕ} a (pick b 0 12) 11) × (pick {A = ℕ} a (pick b 0 12) 11 ≤ 14)
    tests true true n = absurd (n refl)
    tests true false n = (lit≤ tt, lit≤ tt)
    tests false b n = (lit≤ tt, lit≤ tt)

    go : (o : Option Row) → (refusal_at o state s ≡ 0 → ⊥) → (10 ≤ refusal_at o state s) × (refusal_at o state s ≤ 14)
    go none n = (lit≤ tt, lit≤ tt)
    go (some r) n = tests (in_state r state) (fields_fit r s) n

-- ---- a descriptor lies in the body of an entry, in the serial block, or nowhere
pub data Lies (v : View) : Located → Type 0 where
  in_body : (e : Entry) → List-as-Memᴰ e v.entries → Lies v (Body e.offset e.length)
  in_block : Lies v (Serial v.serial_length)
  nowhere : Lies v Nowhere

lies : (v : View) (s : Setup) → Lies v (locate v s)
unfolding locate
lies v s = chosen (Lies v) (eqb (s.wValue / 256) 3) (λ e. string (s.wValue % 256) (language_for v (s.wValue % 256) s.wIndex))
    (λ e. chosen (Lies v) (eqb (s.wValue / 256) 2) (λ e. numbered (record { 0 = s.wValue % 256 }) _ refl)
    (λ e. chosen (Lies v) (by_index (s.wValue / 256)) (λ e. entry (is_entry (s.wValue / 256) (s.wValue % 256) 0) _ refl) (λ e. nowhere)))
  where
    numbered : (i : ConfigurationIndex) (o : Option Entry) → entry_by_index i v.entries ≡ o → Lies v (body_at o)
    numbered i none e = nowhere
    numbered i (some x) e = in_body x (by-index-member i v.entries e)

    entry : (p : Entry → Bool) (o : Option Entry) → first p v.entries ≡ o → Lies v (body_at o)
    entry p none e = nowhere
    entry p (some x) e = in_body x (first_some p v.entries e).0

    string : (index language : ℕ) → Lies v (locate_string v index language)
    string index language = chosen (Lies v) (leb 1 index && eqb index v.serial_index)
        (λ e. chosen (Lies v) (member language v.languages) (λ e. in_block) (λ e. nowhere)) (λ e. entry (is_entry 3 index language) _ refl)

-- ---- the requests, a leaf at a time
module _ (v : View) (d : Device) (s : Setup) where
  missing : Answered v d (refused 13 d)
  missing = refused_with 13 (lit≤ tt) (lit≤ tt)

  no_feature : Answered v d (refused 14 d)
  no_feature = refused_with 14 (lit≤ tt) (lit≤ tt)

  recipients : {x y z : Outcome} → Answered v d x → Answered v d y → Answered v d z → Answered v d (pick (eqb (recipient s) 0) x (pick (eqb (recipient s) 1) y z))
  recipients p q r = chosen (Answered v d) (eqb (recipient s) 0) (λ e. p) (λ e. chosen (Answered v d) (eqb (recipient s) 1) (λ e. q) (λ e. r))

  status : Answered v d (get_status v d s)
  unfolding get_status
  status = recipients (reads _ refl refl)
      (chosen (Answered v d) (has_interface (selected v d) s.wIndex) (λ e. reads _ refl refl) (λ e. missing))
      (chosen (Answered v d) (is_endpoint_zero s.wIndex) (λ e. reads _ refl refl) (λ e. at (endpoint_at v d s.wIndex)))
    where
      at : (o : Option Endpoint) → Answered v d (endpoint_status d o)
      at none = missing
      at (some e) = reads _ refl refl

  wakes-or-not : (on : ℕ) → on ≤ 1 → Answered v d (device_feature on v d s)
  wakes-or-not on l = chosen (Answered v d) (eqb s.wValue 1 && wakes v) (λ e. changes (wakeup on l (both (eqb s.wValue 1) (wakes v) e).1)) (λ e. no_feature)

  test-mode : Answered v d (set_test_mode d s)
  test-mode = chosen (Answered v d) (eqb d.speed at_high_speed && leb 1 (test_selector s) && leb (test_selector s) 5)
      (λ e.
      let row = eqb d.speed at_high_speed ∷ leb 1 (test_selector s) ∷ leb (test_selector s) 5 ∷ [] in
      changes (awaits (test_selector s) (leb-true _ _ (conjunct 1 row e)) (leb-true _ _ (conjunct 2 row e)) (eqb-true _ _ (conjunct 0 row e))))
      (λ e. no_feature)

  features : (change : Device → ℕ → Device) {device : Outcome} → Answered v d device
      → ((e : Endpoint) → List-as-Memᴰ e (current_endpoints v d) → can_halt e ≡ true → Changed v d (change d (bit_of e.address)))
      → Answered v d (by_recipient s device (interface_feature v d s) (endpoint_feature change v d s))
  features change device changed = recipients device
      (chosen (Answered v d) (has_interface (selected v d) s.wIndex) (λ e. no_feature) (λ e. missing))
      (chosen (Answered v d) (is_endpoint_zero s.wIndex) (λ e. no_feature) (λ e. at (endpoint_at v d s.wIndex) refl))
    where
      at : (o : Option Endpoint) → endpoint_at v d s.wIndex ≡ o → Answered v d (halt_feature change d s o)
      at none e = missing
      at (some x) e = chosen (Answered v d) (eqb s.wValue 0 && can_halt x)
          (λ t. changes (changed x (first_some (λ x. eqb x.address s.wIndex) (current_endpoints v d) e).0 (both (eqb s.wValue 0) (can_halt x) t).1)) (λ t. no_feature)

  descriptors : Answered v d (get_descriptor v d s)
  unfolding get_descriptor
  descriptors = at (lies v s)
    where
      at : {l : Located} → Lies v l → Answered v d (describe d s.wLength l)
      at (in_body e m) = from_set e s.wLength m
      at in_block = from_serial s.wLength
      at nowhere = missing

  configurations : 1 ≤ d.state → d.waiting ≡ nothing → Answered v d (set_configuration v d s)
  unfolding set_configuration
  configurations l w = chosen (Answered v d) (eqb s.wValue 0) (λ e. changes (unconfigures l))
      (λ e. chosen (Answered v d) (any (λ c. eqb c.value s.wValue) v.configurations) (λ e. changes (configures s.wValue l w e)) (λ e. missing))

  answered : d.waiting ≡ nothing → in_test_mode d ≡ false → refusal_for v.paired d s ≡ 0 → Answered v d (request v d s)
  unfolding request clear_feature set_feature set_address get_configuration get_interface set_interface
  answered w t p =
      chosen (Answered v d) (eqb s.bRequest 0x00) (λ e. status)
      (λ e. chosen (Answered v d) (eqb s.bRequest 0x01) (λ e. features clear_halt (wakes-or-not 0 (lit≤ tt)) unhalted)
      (λ e. chosen (Answered v d) (eqb s.bRequest 0x03) (λ e. features set_halt (chosen (Answered v d) (names_test_mode v.paired s) (λ n. test-mode) (λ n. wakes-or-not 1 (lit≤ tt))) halted)
      (λ e. chosen (Answered v d) (eqb s.bRequest 0x05) (λ e. let c = eqb-true s.bRequest 5 e in let (a, b) = address_allowed d.state s (table-judges v.paired d s c refl p) c in changes (waits s.wValue a b t))
      (λ e. chosen (Answered v d) (eqb s.bRequest 0x06) (λ e. descriptors)
      (λ e. chosen (Answered v d) (eqb s.bRequest 0x08) (λ e. reads _ refl refl)
      (λ e. chosen (Answered v d) (eqb s.bRequest 0x09) (λ e. let c = eqb-true s.bRequest 9 e in configurations (configuration_allowed d.state s (table-judges v.paired d s c refl p) c) w)
      (λ e. chosen (Answered v d) (eqb s.bRequest 0x0A) (λ e. chosen (Answered v d) (has_interface (selected v d) s.wIndex) (λ e. reads _ refl refl) (λ e. missing))
      (λ e. chosen (Answered v d) (has_setting (selected v d) s.wIndex s.wValue) (λ e. changes (sets s.wIndex s.wValue e)) (λ e. missing)))))))))

-- ---- the events
module _ (v : View) (d : Device) where
  setup : (s : Setup) → Answered v (settled d) (answer_setup v d s)
  unfolding answer_setup
  setup s = chosen (Answered v (settled d)) (in_test_mode d) (λ t. in_test t)
      (λ t. chosen (Answered v (settled d)) (eqb (refusal_for v.paired d s) 0)
      (λ e. answered v (settled d) s refl t (eqb-true (refusal_for v.paired d s) 0 e))
      (λ e.
      let n = refusal_for v.paired d s in
      let (l, h) = refusal-of (λ n. (n ≡ 0 → ⊥) → (10 ≤ n) × (n ≤ 14)) v.paired d s (λ z. absurd (z refl)) (λ z. (lit≤ tt, lit≤ tt)) (λ z. (lit≤ tt, lit≤ tt)) (table_refuses d.state s) (eqb-false n 0 e) in refused_with n l h))

  found : (a : ℕ) {e : Endpoint} → endpoint_at v d a ≡ some e → List-as-Memᴰ e (current_endpoints v d)
  found a p = (first_some (λ e. eqb e.address a) (current_endpoints v d) p).0

  pub responded : (e : Event) → Responded v d e (respond v d e)
  unfolding status_end halt packet_passed
  responded (Request s) = answers (setup s)
  responded Malformed = refuses malformed
  responded StatusEnd = chosen (Responded v d StatusEnd) (eqb d.waiting nothing) (λ e. leaves)
      (λ e. chosen (Responded v d StatusEnd) (test_waits d)
      (λ t. becomes (enters t))
      (λ t. becomes (applies (eqb-false d.waiting nothing e) t)))
  responded (BusReset speed) = chosen (Responded v d (BusReset speed)) (good_reset v.paired speed)
      (λ g. chosen (λ x. Responded v d (BusReset speed) (done x)) (in_test_mode d) (λ t. leaves) (λ t. becomes (resets speed g)))
      (λ g. refuses no_reset)
  responded (Halt a) = at (endpoint_at v d a) refl
    where
      at : (o : Option Endpoint) → endpoint_at v d a ≡ o → Responded v d (Halt a) (halt_at d o)
      at none p = refuses no_halt
      at (some e) p = chosen (Responded v d (Halt a)) (can_halt e) (λ t. becomes (halted e (found a p) t)) (λ t. refuses no_halt)
  responded (PacketPassed a) = at (endpoint_at v d a) refl
    where
      at : (o : Option Endpoint) → endpoint_at v d a ≡ o → Responded v d (PacketPassed a) (pass_at d o)
      at none p = refuses no_pass
      at (some e) p = chosen (Responded v d (PacketPassed a)) (can_halt e && not (bit d.halts (bit_of e.address)))
          (λ t. becomes (toggled e (found a p) (both (can_halt e) (not (bit d.halts (bit_of e.address))) t).0)) (λ t. refuses no_pass)
  responded (Power source) = chosen (Responded v d (Power source)) (leb source 1) (λ t. becomes (powers source (leb-true source 1 t))) (λ t. refuses no_power)
  responded Suspend = becomes (sleeps 1 (lit≤ tt))
  responded Resume = becomes (sleeps 0 (lit≤ tt))
  responded Wake = chosen (Responded v d Wake) (eqb d.suspended 1 && eqb d.wakeup 1) (λ t. leaves) (λ t. refuses no_wake)
