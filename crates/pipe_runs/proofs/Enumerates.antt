-- Enumeration, packet by packet (PIPE 57): from every record that fits, with whatever sixteen bytes as pipe record, and so after every run from power-on. No axiom.
use Rattle.octets.proofs.Vocabulary.{◌≡◌, refl, sym, ap, subst, ◌∙◌, ℕ, ◌≤◌, ◌<◌, List, [], ◌∷◌, ◌++◌, map, flat_map, append_assoc, true, false, length, eqb, eq-eqb}
use Rattle.octets.specs.Sentences.{pick, only, up_to, is_some, is_empty}
use Rattle.descriptors.specs.Configuration.{wTotalLength, bConfigurationValue}
use Rattle.sets.specs.Device.{device_body, bNumConfigurations}
use Rattle.sets.specs.Strings.{languages, references, is_nonzero}
use Rattle.sets.specs.Pair.{retyped}
use Rattle.sets.specs.Opening.{Board, BytesOf}
use Rattle.sets.specs.View.{accepted}
use Rattle.records.specs.declared.Device.{Device}
use Rattle.records.specs.Device.{nothing, after_reset, in_test_mode, settled}
use Rattle.records.specs.Image.{device_of}
use Rattle.records.specs.Current.{set_for}
use Rattle.requests.specs.declared.Setup.{Setup}
use Rattle.events.specs.declared.Event.{Event}
use Rattle.events.specs.declared.Event.TheVariants.{Request, BusReset}
use Rattle.events.specs.Answer.{gives}
use Rattle.events.specs.Step.{reply_of, good_reset, event}
use Rattle.order.specs.Run.{All}
use Rattle.laws.proofs.Outcomes.{chosen}
use Rattle.promises.specs.Keeps.{FitImage}
use Rattle.promises.specs.Images.{on_image}
use Rattle.pipes.specs.declared.Wire.TheVariants.{Reset}
use Rattle.pipes.specs.Transfer as pipes
use Rattle.pipes.specs.Pipe.{Records, restarts, heard}
use Rattle.enumeration.specs.Script.{Seen, Line, Ready}
use Rattle.enumeration.specs.Bodies.{configuration_body}
use Rattle.enumeration.specs.Enumeration.{device_lines, configuration_lines, other_speed, other_configuration, other_lines, zero_lines, string_line, string_lines, enumerated}
use Rattle.enumeration.proofs.Asking.{raw, other-code}
use Rattle.enumeration.proofs.Playing.{Stays, all-below, all_append, all_map, all-flat}
use Rattle.enumeration.proofs.Enumerates as enumeration
use Rattle.pipe_runs.specs.Host.{WireLine, PlaysOnWire, ReadsWhole, wire, transfer_for, transfer_on, transfers_on, configurations_lines, read_lines, size_for, enumeration_on_wire, at_rest}
use Rattle.pipe_runs.specs.Promises.{EnumeratesAnyhow}
use Rattle.pipe_runs.proofs.Playing.{played_out, next}
use Rattle.pipe_runs.proofs.OnWire.{one_transfer, one_reads}

-- ---- a line that is a request answered 0, and none that could ask for a test mode
abbrev Asks : Line → Type 0
Asks l = (s : Setup) × (l.0 ≡ Request s) × (eqb s.bRequest 0x03 ≡ false) × (l.1.number ≡ 0)

every : {A : Type 0} (P : A → Type 0) (xs : List A) → ((x : A) → P x) → All P xs
every P [] h = tt
every P (x ∷ xs) h = (h x, every P xs h)

configuration-asks : (kind i size : ℕ) (body : List ℕ) → All Asks (configuration_lines kind i size body)
configuration-asks kind i size body = ((_, refl, refl, refl), ((_, refl, refl, refl), tt))

device-asks : (device : List ℕ) → All Asks (device_lines device)
device-asks device = ((_, refl, refl, refl), ((_, refl, refl, refl), ((_, refl, refl, refl), tt)))

configurations-ask : (set : List ℕ) → All Asks (configurations_lines set)
configurations-ask set =
    let lines : ℕ → List Line = λ j. configuration_lines 2 j (wTotalLength (configuration_body set j)) (configuration_body set j) in
    all-flat Asks (λ j. configuration_lines 2 j (wTotalLength (configuration_body set j)) (configuration_body set j)) (up_to (bNumConfigurations (device_body set)))
    (every (λ j. All Asks (lines j)) (up_to (bNumConfigurations (device_body set))) (λ j. configuration-asks 2 j (wTotalLength (configuration_body set j)) (configuration_body set j)))

other-asks : (other : List ℕ) → All Asks (other_lines other)
other-asks other = (
  (_, refl, refl, refl),
  all-flat Asks (other_configuration other) (up_to (bNumConfigurations (device_body other)))
      (every (λ j. All Asks (other_configuration other j)) (up_to (bNumConfigurations (device_body other)))
      (λ j. configuration-asks 7 j (wTotalLength (configuration_body other j)) (retyped (configuration_body other j)))),
)

strings-ask : (b : Board) (speed : ℕ) → All Asks (string_lines b speed)
strings-ask b speed =
    let set = set_for b speed in
    let named = only is_nonzero (references set) in
    all-flat Asks (λ language. map (string_line b speed language) (only is_nonzero (references set))) (languages set)
    (every (λ l. All Asks (map (string_line b speed l) named)) (languages set)
    (λ l. all_map Asks (string_line b speed l) named (every (λ i. Asks (string_line b speed l i)) named (λ i. (_, refl, refl, refl)))))

read-asks : (b : Board) (speed : ℕ) → All Asks (read_lines b speed)
read-asks b speed =
    let set = set_for b speed in
    let others = pick (is_some b.high) (other_lines (set_for b (other_speed speed))) [] in
    let strings = zero_lines set ++ string_lines b speed in
    all_append Asks (configurations_lines set) (others ++ strings) (configurations-ask set)
    (all_append Asks others strings (chosen (All Asks) (is_some b.high) (λ _. other-asks (set_for b (other_speed speed))) (λ _. tt))
    (all_append Asks (zero_lines set) (string_lines b speed)
    (chosen (All Asks) (is_empty (languages set)) (λ _. tt) (λ _. ((_, refl, refl, refl), tt))) (strings-ask b speed)))

module _ (b : Board) (octets : BytesOf b) (ok : accepted b ≡ true) where
  -- ---- requests that leave the record as it is, one after the other
  module _ {d : Device} (r : Ready b d) (still : d.waiting ≡ nothing) where
    one : (l : Line) → Stays b d l → Asks l → {rest : List WireLine} {last : Records} → PlaysOnWire b (at_rest d) rest last
        → PlaysOnWire b (at_rest d) (transfer_on (size_for b d.speed) l ++ rest) last
    one l (a, x, y) (s, q, other, n) {rest} {last} p =
        subst (λ (e : Event). PlaysOnWire b (at_rest d) (transfer_for (size_for b d.speed) e l.1.reads ++ rest) last) (sym q)
        (one_transfer b octets ok r s (other-code (is_some b.high) s other) (rw q at x) (ap (λ (z : Seen). z.number) y ∙ n)
        (enumeration.still-end b octets ok r still) (ap (λ (z : Seen). z.reads) y) rest last p)

    one-reads : (l : Line) → Stays b d l → Asks l → ReadsWhole (size_for b d.speed) l
    one-reads l (a, x, y) (s, q, other, n) =
        subst (λ (e : Event). flat_map (λ (x : WireLine). x.1.packet) (transfer_for (size_for b d.speed) e l.1.reads) ≡ l.1.reads) (sym q)
        (one_reads b octets ok r s (other-code (is_some b.high) s other) (rw q at x) (ap (λ (z : Seen). z.number) y ∙ n)
        (enumeration.still-end b octets ok r still) (ap (λ (z : Seen). z.reads) y))

    each-reads : (ls : List Line) → All (Stays b d) ls → All Asks ls → All (ReadsWhole (size_for b d.speed)) ls
    each-reads [] all asks = tt
    each-reads (l ∷ ls) (x, all) (y, asks) = (one-reads l x y, each-reads ls all asks)

    each : (ls : List Line) → All (Stays b d) ls → All Asks ls → {rest : List WireLine} {last : Records} → PlaysOnWire b (at_rest d) rest last
        → PlaysOnWire b (at_rest d) (transfers_on (size_for b d.speed) ls ++ rest) last
    unfolding flat_map
    each [] all asks p = p
    each (l ∷ ls) (x, all) (y, asks) {rest} p = rw append_assoc (one l x y (each ls all asks p))

    read_stays : settled d ≡ d → All (Stays b d) (read_lines b d.speed)
    read_stays same =
        let set = set_for b d.speed in
        let strings = zero_lines set ++ string_lines b d.speed in
        all_append (Stays b d) (configurations_lines set) _
        (all-flat (Stays b d) (λ j. configuration_lines 2 j (wTotalLength (configuration_body set j)) (configuration_body set j)) (up_to (bNumConfigurations (device_body set)))
        (all-below _ (bNumConfigurations (device_body set)) (λ j there. enumeration.configuration-stays b octets ok r same j there)))
        (all_append (Stays b d) (pick (is_some b.high) (other_lines (set_for b (other_speed d.speed))) []) strings
        (chosen (All (Stays b d)) (is_some b.high) (λ two. enumeration.other-stays b octets ok r same two) (λ _. tt))
        (all_append (Stays b d) (zero_lines set) (string_lines b d.speed) (enumeration.zero-stays b octets ok r same) (enumeration.strings-stay b octets ok r same)))

  -- ---- the whole of it
  module _ (r : Records) (fit : FitImage b r.image) (long : length r.pipe ≡ 16) (calm : in_test_mode (device_of r.image) ≡ false)
      (speed : ℕ) (good : good_reset (is_some b.high) speed ≡ true) (a : ℕ) (low : 1 ≤ a) (high : a ≤ 127)
      (i : ℕ) (there : i < bNumConfigurations (device_body (set_for b speed))) where
    abbrev d : Device
    d = device_of r.image

    from : Ready b d
    from = record { fit = fit.fit; sized = fit.sized; calm = calm }

    abbrev reset : Device
    reset = after_reset speed d

    abbrev value : ℕ
    value = bConfigurationValue (configuration_body (set_for b speed) i)

    resets : heard b r (wire (Reset speed)) ≡ record { number = 0; order = pipes.nothing; bytes = []; left = at_rest reset }
    unfolding heard
    resets =
        let now : event b r.image (BusReset speed) ≡ reply_of (gives _ reset) =
        ap (λ x. event b x (BusReset speed)) (sym fit.back) ∙ on_image b d (BusReset speed) fit.sized ∙ ap reply_of (enumeration.by-reset b octets ok d from speed good a low high i there) in
        let one : heard b r (wire (Reset speed)) ≡ restarts r.pipe (event b r.image (BusReset speed)) = rw (eq-eqb (length r.pipe) 16 long) in
        one ∙ ap (restarts r.pipe) now

    plays_on_wire : PlaysOnWire b r (enumeration_on_wire b speed a i) (at_rest (enumerated speed a value d))
    plays_on_wire =
        let at-reset = enumeration.at-reset b octets ok d from speed good a low high i there in
        let at-addressed = enumeration.at-addressed b octets ok d from speed good a low high i there in
        let at-end = enumeration.enumerated_ready b octets ok d from speed good a low high i there in
        next r (wire (Reset speed)) _ resets refl
        (each at-reset refl (device_lines (device_body (set_for b speed))) (enumeration.device-stays b octets ok at-reset refl) (device-asks (device_body (set_for b speed)))
        (one_transfer b octets ok at-reset (raw 0x00 0x05 a 0 0) (other-code (is_some b.high) (raw 0x00 0x05 a 0 0) refl)
        (enumeration.by_address b octets ok d from speed good a low high i there) refl (enumeration.by-status b octets ok d from speed good a low high i there) refl _ _
        (each at-addressed refl (read_lines b speed) (read_stays at-addressed refl refl) (read-asks b speed)
        (one_transfer b octets ok at-addressed (raw 0x00 0x09 value 0 0) (other-code (is_some b.high) (raw 0x00 0x09 value 0 0) refl)
        (enumeration.by-configuration b octets ok d from speed good a low high i there) refl (enumeration.still-end b octets ok at-end refl) refl [] _ played_out))))

    reads_whole : All (ReadsWhole (size_for b speed)) (device_lines (device_body (set_for b speed)) ++ read_lines b speed)
    reads_whole =
        let at-reset = enumeration.at-reset b octets ok d from speed good a low high i there in
        let at-addressed = enumeration.at-addressed b octets ok d from speed good a low high i there in
        let device = device_lines (device_body (set_for b speed)) in
        all_append (ReadsWhole (size_for b speed)) device (read_lines b speed)
        (each-reads at-reset refl device (enumeration.device-stays b octets ok at-reset refl) (device-asks (device_body (set_for b speed))))
        (each-reads at-addressed refl (read_lines b speed) (read_stays at-addressed refl refl) (read-asks b speed))

pub enumerates_anyhow : EnumeratesAnyhow
enumerates_anyhow b octets ok r (fit, long) calm speed good a low high i there =
    (plays_on_wire b octets ok r fit long calm speed good a low high i there, reads_whole b octets ok r fit long calm speed good a low high i there)
