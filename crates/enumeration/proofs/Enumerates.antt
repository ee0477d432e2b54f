-- Every accepted board enumerates, whatever happened before (specs/Enumerates). No axiom.
use Rattle.octets.proofs.Vocabulary.{◌≡◌, refl, ap, ◌∙◌, ℕ, ◌/◌, ◌≤◌, ◌<◌, List, [], ◌∷◌, ◌++◌, map, List-as-Memᴰ, Bool, true, false, ◌&&◌, ◌⊎◌, inl, inr, length, length-drop, eqb, leb, arith, le-leb, lt-leb, eq-eqb, ne_eqb, eqb-true}
use Rattle.octets.specs.Sentences.{pick, only, up_to, is_some, is_empty}
use Rattle.octets.specs.Sentences as words
use Rattle.octets.proofs.Sentences.{both, either, member-any, only-member}
use Rattle.descriptors.specs.Configuration.{Configuration, configuration_of, wTotalLength, bConfigurationValue}
use Rattle.sets.specs.Device.{device_body, bNumConfigurations}
use Rattle.sets.specs.Strings.{languages, references, is_nonzero}
use Rattle.sets.specs.Pair.{qualifier_of, retyped}
use Rattle.sets.specs.Opening.{Board, BytesOf}
use Rattle.sets.specs.View.{accepted, has_value, view_of}
use Rattle.set_writer.proofs.Accepted.{mapping}
use Rattle.records.specs.declared.Device.{Device}
use Rattle.records.specs.Device.{in_address, nothing, after_reset, with_waiting, with_address, settled}
use Rattle.records.specs.Current.{set_for, view_for}
use Rattle.requests.specs.Table.{refusal}
use Rattle.events.specs.declared.Event.{Event}
use Rattle.events.specs.Answer.{gives}
use Rattle.events.specs.Answer as events
use Rattle.events.specs.Requests as requests
use Rattle.events.specs.Step.{good_reset, step, request}
use Rattle.events.specs.Step as steps
use Rattle.order.specs.Run.{All}
use Rattle.laws.proofs.Outcomes.{chosen}
use Rattle.promises.specs.Sound.{sound}
use Rattle.enumeration.specs.Script.{Line, line, reading, Plays, get_descriptor, set_address, set_configuration, bus_reset, status_end, Ready}
use Rattle.enumeration.specs.Bodies.{configuration_body, piece_body, string_body}
use Rattle.enumeration.specs.Enumeration.{device_lines, configuration_lines, other_speed, other_configuration, other_lines, zero_lines, string_line, string_lines, addressed_lines, enumeration, ending, enumeration_by_transfers, enumerated}
use Rattle.enumeration.specs.Enumerates.{Enumerates, EnumeratesByTransfers}
use Rattle.enumeration.proofs.Asking.{raw, other-code, lets}
use Rattle.enumeration.proofs.Found.{eighteen, configuration_entry, whole_length, nine_bytes, two_byte_length}
use Rattle.enumeration.proofs.Located.{zero_at}
use Rattle.enumeration.proofs.Playing.{Stays, ready, played, next, each, all-members, all-below, all_append, all_map, all-flat}
use Rattle.enumeration.proofs.Reading.{Reads, whole, reads_device, reads_configuration, reads_zero, reads_string, string_short}
use Rattle.enumeration.proofs.OtherSpeed.{reads_qualifier, reads_other}

-- a speed that a bus reset may name is no test mode
pub calm-speed : (paired : Bool) (speed : ℕ) → good_reset paired speed ≡ true → leb 2 speed ≡ false
calm-speed paired speed g = go (either (eqb speed 0) (paired && eqb speed 1) g)
  where
    go : (eqb speed 0 ≡ true) ⊎ ((paired && eqb speed 1) ≡ true) → leb 2 speed ≡ false
    go (inl p) = lt-leb 2 speed (omega (arith, eqb-true speed 0 p))
    go (inr p) = lt-leb 2 speed (omega (arith, eqb-true speed 1 (both paired (eqb speed 1) p).1))

module _ (b : Board) (octets : BytesOf b) (ok : accepted b ≡ true) where
  -- ---- what is read at a record with nothing waiting and awake leaves it as it is
  module _ {d : Device} (r : Ready b d) (still : settled d ≡ d) where
    stays : {e : Event} {bytes : List ℕ} → Reads b d e bytes → Stays b d (line e (reading bytes))
    stays x = (x.answer, x.steps ∙ ap (gives x.answer) still, x.sees)

    pub device-stays : All (Stays b d) (device_lines (device_body (set_for b d.speed)))
    device-stays =
        let device = device_body (set_for b d.speed) in
        let long = eighteen b ok d.speed in (
          stays (reads_device b octets ok r 8 (omega arith)),
          (
            stays (whole 64 device (reads_device b octets ok r 64 (omega arith)) (omega (arith, long))),
            (stays (whole 18 device (reads_device b octets ok r 18 (omega arith)) (omega (arith, long))), tt),
          ),
        )

    module _ (i : ℕ) (there : i < bNumConfigurations (device_body (set_for b d.speed))) where
      pub configuration-stays : (let body = configuration_body (set_for b d.speed) i in All (Stays b d) (configuration_lines 2 i (wTotalLength body) body))
      configuration-stays =
          let body = configuration_body (set_for b d.speed) i in
          let total = whole_length b ok d.speed i there in
          let small = two_byte_length b ok d.speed i there octets in (
            stays (reads_configuration b octets ok r i there 9 (omega arith)),
            (stays (whole (wTotalLength body) body (reads_configuration b octets ok r i there (wTotalLength body) (omega arith)) (omega arith)), tt),
          )

    -- what the other speed has, of two sets
    module _ (two : is_some b.high ≡ true) where
      abbrev speed : ℕ
      speed = other_speed d.speed

      pub other-stays : All (Stays b d) (other_lines (set_for b speed))
      other-stays =
          let other = set_for b speed in (
            stays (whole 10 (qualifier_of (device_body other)) (reads_qualifier b octets ok two r 10 (omega arith)) (omega arith)),
            all-flat (Stays b d) (other_configuration other) (up_to (bNumConfigurations (device_body other)))
                (all-below _ (bNumConfigurations (device_body other)) (λ j there.
                let body = configuration_body other j in
                let total = whole_length b ok speed j there in
                let small = two_byte_length b ok speed j there octets in
                let long : length (retyped body) ≡ length body = omega (arith, length-drop 2 body, nine_bytes b ok speed j there) in (
                  stays (reads_other b octets ok two r j there 9 (omega arith)),
                  (stays (whole (wTotalLength body) (retyped body) (reads_other b octets ok two r j there (wTotalLength body) (omega arith)) (omega arith)), tt),
                ))),
          )

    pub zero-stays : All (Stays b d) (zero_lines (set_for b d.speed))
    zero-stays = go (is_empty (languages (set_for b d.speed))) refl
      where
        go : (t : Bool) → is_empty (languages (set_for b d.speed)) ≡ t
            → All (Stays b d) (pick t [] (line (get_descriptor 3 0 0 255) (reading (piece_body (set_for b d.speed) 3 0 0)) ∷ []))
        go true e = tt
        go false e = (stays (whole 255 (piece_body (set_for b d.speed) 3 0 0) (reads_zero b octets ok r e 255 (omega arith)) (omega (arith, (zero_at b ok d.speed e).short))), tt)

    pub strings-stay : All (Stays b d) (string_lines b d.speed)
    strings-stay =
        let set = set_for b d.speed in
        all-flat (Stays b d) (λ language. map (string_line b d.speed language) (only is_nonzero (references set))) (languages set)
        (all-members _ (languages set) (λ l m. all_map (Stays b d) (string_line b d.speed l) (only is_nonzero (references set))
        (all-members _ (only is_nonzero (references set)) (λ i n.
        let (k, z) = only-member is_nonzero (references set) n in
        stays (whole 255 (string_body b d.speed i l) (reads_string b octets ok r i l k z m 255 (omega arith)) (omega (arith, string_short b octets ok r i l k z m)))))))

    addressed-stay : (i : ℕ) → i < bNumConfigurations (device_body (set_for b d.speed)) → All (Stays b d) (addressed_lines b d.speed i)
    addressed-stay i there =
        let set = set_for b d.speed in
        let body = configuration_body set i in
        let strings = zero_lines set ++ string_lines b d.speed in
        let others = pick (is_some b.high) (other_lines (set_for b (other_speed d.speed))) [] in
        all_append (Stays b d) (configuration_lines 2 i (wTotalLength body) body) (others ++ strings) (configuration-stays i there)
        (all_append (Stays b d) others strings (chosen (All (Stays b d)) (is_some b.high) (λ two. other-stays two) (λ one. tt))
        (all_append (Stays b d) (zero_lines set) (string_lines b d.speed) zero-stays strings-stay))

  -- ---- a status end with nothing waiting changes nothing
  pub still-end : {d : Device} → Ready b d → d.waiting ≡ nothing → step b d status_end ≡ events.done d
  unfolding step steps.status_end
  still-end {d} r w = rw (ok, r.fit, eq-eqb d.waiting nothing w) refl

  each-ending : {d last : Device} {rest : List Line} → Ready b d → d.waiting ≡ nothing → (ls : List Line) → All (Stays b d) ls → Plays b d rest last
      → Plays b d (ending ls ++ rest) last
  each-ending r w [] all p = p
  each-ending r w (l ∷ ls) ((a, x, y), all) p = next x y (next (still-end r w) refl (each-ending r w ls all p))

  -- ---- the whole of it
  module _ (d : Device) (from : Ready b d) (speed : ℕ) (good : good_reset (is_some b.high) speed ≡ true)
      (a : ℕ) (low : 1 ≤ a) (high : a ≤ 127) (i : ℕ) (there : i < bNumConfigurations (device_body (set_for b speed))) where
    abbrev reset : Device
    reset = after_reset speed d

    abbrev waits : Device
    waits = with_waiting a reset

    abbrev addressed : Device
    addressed = with_address in_address a reset

    abbrev set : List ℕ
    set = set_for b speed

    abbrev body : List ℕ
    body = configuration_body set i

    abbrev value : ℕ
    value = bConfigurationValue body

    calm : leb 2 speed ≡ false
    calm = calm-speed (is_some b.high) speed good

    pub by-reset : step b d (bus_reset speed) ≡ events.done reset
    unfolding step
    by-reset = rw (ok, from.fit, good, from.calm) refl

    pub at-reset : Ready b reset
    at-reset = ready octets ok (bus_reset speed) from by-reset calm

    pub by_address : step b reset (set_address a) ≡ events.done waits
    unfolding refusal request requests.set_address words.first
    by_address = lets b ok at-reset (raw 0x00 0x05 a 0 0) (other-code (is_some b.high) (raw 0x00 0x05 a 0 0) refl) (rw (le-leb a 127 high, ne_eqb (a / 256) 3 (λ z. omega arith)) refl)

    at-waits : Ready b waits
    at-waits = ready octets ok (set_address a) at-reset by_address calm

    pub by-status : step b waits status_end ≡ events.done addressed
    unfolding step steps.status_end
    by-status = rw (ok, at-waits.fit, ne_eqb a 255 (λ p. omega arith), lt-leb 129 a (omega arith), ne_eqb a 0 (λ p. omega arith)) refl

    pub at-addressed : Ready b addressed
    at-addressed = ready octets ok status_end at-waits by-status calm

    listed : List-as-Memᴰ (configuration_of body) (view_for b speed).configurations
    unfolding view_of
    listed = mapping configuration_of (configuration_entry b ok speed i there).listed

    value-range : (1 ≤ value) × (value < 256)
    unfolding configuration_of
    value-range = (sound b octets ok speed).values (configuration_of body) listed

    pub by-configuration : step b addressed (set_configuration value) ≡ events.done (enumerated speed a value d)
    unfolding refusal request requests.set_configuration words.first configuration_of
    by-configuration =
        let (l, h) = value-range in
        let has : has_value (record { 0 = value }) (view_for b speed).configurations ≡ true = member-any (λ (x : Configuration). eqb x.value value) listed (eq-eqb value value refl) in
        lets b ok at-addressed (raw 0x00 0x09 value 0 0) (other-code (is_some b.high) (raw 0x00 0x09 value 0 0) refl) (rw (le-leb value 255 (omega arith), ne_eqb (value / 256) 3 (λ z. omega arith)) refl)
        ∙ rw (ne_eqb value 0 (λ z. omega arith), has) refl

    pub enumerated_ready : Ready b (enumerated speed a value d)
    enumerated_ready = ready octets ok (set_configuration value) at-addressed by-configuration calm

    plays : Plays b d (enumeration b speed a i) (enumerated speed a value d)
    plays =
        next by-reset refl
        (each (device_lines (device_body set)) (device-stays at-reset refl)
        (next by_address refl
        (next by-status refl
        (each (addressed_lines b speed i) (addressed-stay at-addressed refl i there)
        (next by-configuration refl played)))))

    plays-transfers : Plays b d (enumeration_by_transfers b speed a i) (enumerated speed a value d)
    plays-transfers =
        next by-reset refl
        (each-ending at-reset refl (device_lines (device_body set)) (device-stays at-reset refl)
        (next by_address refl
        (next by-status refl
        (each-ending at-addressed refl (addressed_lines b speed i) (addressed-stay at-addressed refl i there)
        (next by-configuration refl
        (next (still-end enumerated_ready refl) refl played))))))

-- ---- the sentence
pub enumerates : Enumerates
enumerates b octets ok d r speed good a low high i there = plays b octets ok d r speed good a low high i there

pub enumerates_by_transfers : EnumeratesByTransfers
enumerates_by_transfers b octets ok d r speed good a low high i there = plays-transfers b octets ok d r speed good a low high i there
