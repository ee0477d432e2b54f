-- The idle builds: a device that refuses everything, repeats one answer, never touches the record, handles the first event and then only echoes
-- success, or makes up the packet count does not meet the exports' statements, whatever it keeps to itself. No axiom.
use Rattle.std.specs.Prelude.{ℕ, ◌+◌, ◌<◌, List, [], ◌∷◌, true, length, replicate, eqb, ltb}
use native.Mathlib.Omega.{arith}
use Rattle.std.proofs.Math.Path.{◌≡◌, refl, sym, ap}
use Rattle.std.proofs.Common.{◌∙◌, ltb-true, ltb-false}
use Rattle.octets.specs.Octets.{byte, part, Bytes}
use Rattle.octets.specs.Sentences.{is_some}
use Rattle.octets.proofs.Sentences.{cases}
use Rattle.sets.specs.Opening.{Board, BytesOf}
use Rattle.sets.specs.View.{accepted}
use Rattle.records.specs.declared.Device.{Device}
use Rattle.records.specs.Device.{fresh, in_test_mode}
use Rattle.records.specs.Image.{device_of}
use Rattle.records.specs.Fits.{fits_on}
use Rattle.events.specs.Answer.{number_of}
use Rattle.events.specs.declared.Event.TheVariants.{StatusEnd}
use Rattle.events.specs.Step.{step, event, setup_event}
use Rattle.packets.specs.Packets.{packet_count, can_cut, packet}
use Rattle.promises.specs.Examples.{bytes, computed, S}
use Rattle.promises.specs.Inhabited.{octets, accepted_s, bytes_s}
use Rattle.promises.specs.Pairs.{pair, accepted_pair, bytes_pair}
use Rattle.promises.specs.Keeps.{fresh_fit}
use Rattle.promises.specs.Refusal.{fresh_image}
use Rattle.board.specs.Exports
use Rattle.board.specs.Exports.{Opens, Spot, Spots, CutsPacket, AnswersRecordEvent}
use Rattle.board.specs.Transfers.{few, within, beyond}
use Rattle.board.specs.Runs.{Happening, status_end, bus_reset, suspend, resume, wake, bus_reset_to, halt, packet_passed, power, Call, setup, tell, record_event, event_of, Given, number_given, Meets, gives, leaves, met, meets, number-of, opening}

-- ---- a build: from the calls before, which it may keep to itself, the image lent and the call, to what it gives and the image that it leaves
abbrev pub Build : Type 0
Build = List Call → List ℕ → Call → Given × List ℕ

-- what C can pass: an endpoint, a source, a speed and an event's number are of one byte, and a setup is bytes
abbrev pub OneByte : Happening → Type 0
OneByte status_end = Unit {0}
OneByte bus_reset = Unit {0}
OneByte suspend = Unit {0}
OneByte resume = Unit {0}
OneByte wake = Unit {0}
OneByte (bus_reset_to speed) = speed < 256
OneByte (halt endpoint) = endpoint < 256
OneByte (packet_passed endpoint) = endpoint < 256
OneByte (power source) = source < 256

abbrev pub CanPass : Call → Type 0
CanPass (setup bytes) = Bytes bytes
CanPass (tell h) = OneByte h
CanPass (record_event kind value bytes) = (kind < 256) × (value < 256) × Bytes bytes

-- on every image of 32 bytes (hk_record_event can be lent no other), at every call that C can make
abbrev pub MeetsAll : Board → Spots → Build → Type 0
MeetsAll b lie build =
    (before : List Call) (image : List ℕ) → length image ≡ 32 → Bytes image → (c : Call) → CanPass c → Meets b lie image c (build before image c).0 (build before image c).1

-- one does
pub by_rules : (b : Board) (lie : Spots) → MeetsAll b lie (λ before image c. (gives b lie image c, leaves b lie image c))
by_rules b lie before image long octets c can = meets b lie image c

-- ---- calls that tell a setup: hk_setup, and hk_record_event with event 0. Each law below is of either alone
abbrev pub TellsSetups : (List ℕ → Call) → Type 0
TellsSetups call = (bytes : List ℕ) → (event_of (call bytes) ≡ setup_event bytes) × (Bytes bytes → CanPass (call bytes))

pub setup_tells : TellsSetups setup
setup_tells bytes = (refl, λ o. o)

pub record_event_tells : TellsSetups (record_event 0 0)
record_event_tells bytes = (refl, λ o. (omega arith, omega arith, o))

-- SET_ADDRESS 5; and FF FF, which is in no table
abbrev pub set_address_five : List ℕ
set_address_five = bytes 8 0x0005050000000000

abbrev pub unknown : List ℕ
unknown = bytes 8 0xFFFF000000000000

five_octets : Bytes set_address_five
unfolding computed
five_octets = octets set_address_five refl

unknown_octets : Bytes unknown
unfolding computed
unknown_octets = octets unknown refl

fresh_octets : Bytes fresh_image
unfolding computed
fresh_octets = octets fresh_image refl

-- the image after SET_ADDRESS 5: it waits
abbrev pub five_waits : List ℕ
five_waits = 0 ∷ 0 ∷ 5 ∷ replicate 29 0

-- FF FF is refused on every board and every image
pub unknown-refused : (b : Board) (image : List ℕ) → number_of (event b image (setup_event unknown)).answer ≡ 0 → ⊥
unfolding computed
unknown-refused b image = cases (eqb (length image) 32)
    (λ p. cases (accepted b)
    (λ q. cases (fits_on b (device_of image))
    (λ r. cases (in_test_mode (device_of image)) (λ t. rw (p, q, r, t) (λ z. omega arith))
    (λ t. cases (is_some b.high) (λ u. rw (p, q, r, t, u) (λ z. omega arith)) (λ u. rw (p, q, r, t, u) (λ z. omega arith))))
    (λ r. rw (p, q, r) (λ z. omega arith)))
    (λ q. rw (p, q) (λ z. omega arith)))
    (λ p. cases (accepted b) (λ q. rw (p, q) (λ z. omega arith)) (λ q. rw (p, q) (λ z. omega arith)))

-- ---- on every accepted board, of one set or of two, whatever has been called before
module _ (b : Board) (small : BytesOf b) (opens : accepted b ≡ true) where
  -- SET_ADDRESS 5 is done on the fresh record, and the status end after it takes the address
  pub five-done : (number_of (event b fresh_image (setup_event set_address_five)).answer ≡ 0) × ((event b fresh_image (setup_event set_address_five)).image ≡ five_waits)
  unfolding computed
  five-done = let fit = (fresh_fit b small opens).0 in cases (is_some b.high) (λ p. rw (opens, fit, p) (refl, refl)) (λ p. rw (opens, fit, p) (refl, refl))

  five-taken : byte (event b five_waits StatusEnd).image 1 ≡ 5
  unfolding computed
  five-taken = rw opens refl

  module _ (lie : Spots) (build : Build) (ok : MeetsAll b lie build) (before : List Call) (call : List ℕ → Call) (tells : TellsSetups call) where
    abbrev numbered : List ℕ → ℕ
    numbered bytes = number_given (build before fresh_image (call bytes)).0

    said : (bytes : List ℕ) → Bytes bytes → numbered bytes ≡ number_of (event b fresh_image (setup_event bytes)).answer
    said bytes o = ap number_given (met b lie (ok before fresh_image refl fresh_octets (call bytes) ((tells bytes).1 o))).0
        ∙ number-of b lie fresh_image (call bytes) ∙ ap (λ e. number_of (event b fresh_image e).answer) (tells bytes).0

    five-said : numbered set_address_five ≡ 0
    five-said = said set_address_five five_octets ∙ five-done.0

    -- not every setup is refused: SET_ADDRESS 5 is done
    pub not_refusing : ((bytes : List ℕ) → Bytes bytes → numbered bytes ≡ 0 → ⊥) → ⊥
    not_refusing refuses = refuses set_address_five five_octets five-said

    -- not every setup is given one number: SET_ADDRESS 5 gets 0, FF FF does not
    pub not_repeating : (n : ℕ) → ((bytes : List ℕ) → Bytes bytes → numbered bytes ≡ n) → ⊥
    not_repeating n repeats =
        unknown-refused b fresh_image (sym (said unknown unknown_octets) ∙ repeats unknown unknown_octets ∙ sym (repeats set_address_five five_octets) ∙ five-said)

    -- not every setup leaves the image as it was: SET_ADDRESS 5 puts 5 into byte 2
    pub not_still : ((bytes : List ℕ) → Bytes bytes → (build before fresh_image (call bytes)).1 ≡ fresh_image) → ⊥
    not_still still =
        let meets = ok before fresh_image refl fresh_octets (call set_address_five) ((tells set_address_five).1 five_octets) in
        let left = (met b lie meets).1 ∙ ap (λ e. (event b fresh_image e).image) (tells set_address_five).0 ∙ five-done.1 in
        let p : ◌≡◌ {A = ℕ} 5 255 = ap (λ l. byte l 2) (sym left ∙ still set_address_five five_octets) in
        omega arith

  -- opening is not refused; and a record that is lent is changed where it stands
  pub not_refusing_to_open : {n : ℕ} {left : List ℕ} → Opens b fresh_image n left → n ≡ 0
  not_refusing_to_open o = (opening refl o).1 opens

  pub not_still_where_it_stands : (lie : Spots) {n : ℕ} {left : Device} {handed : List ℕ} {count : ℕ} {shown : List ℕ} {spot : Spot}
      → AnswersRecordEvent b lie fresh (Exports.numbered 0 0 set_address_five) n left handed count shown spot → left ≡ fresh → ⊥
  unfolding computed
  not_still_where_it_stands lie a still =
      let fit = (fresh_fit b small opens).0 in
      let five : (step b fresh (setup_event set_address_five)).device.waiting ≡ 5 = cases (is_some b.high) (λ p. rw (opens, fit, p) refl) (λ p. rw (opens, fit, p) refl) in
      let p : ◌≡◌ {A = ℕ} 5 255 = sym five ∙ ap (λ (d : Device). d.waiting) (sym a.leaves ∙ still) in
      omega arith

  -- the two calls of row 4 of table P suffice: after SET_ADDRESS 5 the status end leaves another image than it was lent
  pub second_counts : (lie : Spots) {g h : Given} {left last : List ℕ}
      → Meets b lie fresh_image (setup set_address_five) g left → Meets b lie left (tell status_end) h last → last ≡ left → ⊥
  second_counts lie one two still =
      let first = (met b lie one).1 ∙ five-done.1 in
      let second = (met b lie two).1 ∙ ap (λ i. (event b i StatusEnd).image) first in
      let p : ◌≡◌ {A = ℕ} 5 0 = sym five-taken ∙ ap (λ l. byte l 1) (sym second ∙ still ∙ first) in
      omega arith

-- ---- the first event by the rules, and then only the echo of success
module _ (b : Board) (lie : Spots) (call : List ℕ → Call) (tells : TellsSetups call) where
  -- on every board and every image, whatever came before, FF FF is no success
  pub no_echo : {image : List ℕ} {g : Given} {left : List ℕ} → Meets b lie image (call unknown) g left → number_given g ≡ 0 → ⊥
  no_echo {image} m z = unknown-refused b image
      (sym (ap number_given (met b lie m).0 ∙ number-of b lie image (call unknown) ∙ ap (λ e. number_of (event b image e).answer) (tells unknown).0) ∙ z)

  -- so no build that answers every setup after its first call with 0 meets the statements of any board
  pub not_echoing : (build : Build) → MeetsAll b lie build
      → ((first : Call) (bytes : List ℕ) → Bytes bytes → number_given (build (first ∷ []) fresh_image (call bytes)).0 ≡ 0) → ⊥
  not_echoing build ok echoes = no_echo (ok (tell bus_reset ∷ []) fresh_image refl fresh_octets (call unknown) ((tells unknown).1 unknown_octets)) (echoes (tell bus_reset) unknown unknown_octets)

-- ---- inhabited: S and the pair
pub bench_set : (lie : Spots) (build : Build) → MeetsAll S lie build → ((bytes : List ℕ) → Bytes bytes → number_given (build [] fresh_image (setup bytes)).0 ≡ 0 → ⊥) → ⊥
bench_set lie build ok = not_refusing S bytes_s accepted_s lie build ok [] setup setup_tells

pub bench_pair : (lie : Spots) (build : Build) → MeetsAll pair lie build → ((bytes : List ℕ) → Bytes bytes → number_given (build [] fresh_image (record_event 0 0 bytes)).0 ≡ 0 → ⊥) → ⊥
bench_pair lie build ok = not_refusing pair bytes_pair accepted_pair lie build ok [] (record_event 0 0) record_event_tells

-- ---- a cutter: from a reply, where it lies, what was asked, a size and a packet's number, to the number given, the packet and where it lies
abbrev pub Cutter : Type 0
Cutter = List ℕ → Spot → ℕ → ℕ → ℕ → ℕ × List ℕ × Spot

abbrev pub CutsAll : Cutter → Type 0
CutsAll cutter = (reply : List ℕ) (at : Spot) (asked size k : ℕ) → Bytes reply → asked < 65536 → size < 4294967296 → k < 4294967296 → (let c = cutter reply at asked size k in CutsPacket reply at asked size k c.0 c.1 c.2)

-- one does
pub cuts_by_rules : CutsAll (λ reply at asked size k. (let p = packet (length reply) asked size k in
    (p.number, part reply p.offset p.length, record { block = at.block; offset = at.offset + p.offset })))
cuts_by_rules reply at asked size k o a s h = record { number = refl; shows = refl; lies = refl }

module _ (cutter : Cutter) (ok : CutsAll cutter) (at : Spot) where
  -- one byte asked for as one: its only packet at size 8 is given, and size 7 is refused
  abbrev first : ℕ → ℕ
  first size = (cutter (0 ∷ []) at 1 size 0).0

  -- at a size that C can pass
  given-at : (size : ℕ) → size < 4294967296 → first size ≡ (packet 1 1 size 0).number
  unfolding computed
  given-at size h = (ok (0 ∷ []) at 1 size 0 (octets (0 ∷ []) refl) (omega arith) h (omega arith)).number

  pub not_refusing_packets : ((size : ℕ) → size < 4294967296 → first size ≡ 0 → ⊥) → ⊥
  unfolding computed
  not_refusing_packets refuses = refuses 8 (omega arith) (given-at 8 (omega arith))

  pub not_repeating_packets : (n : ℕ) → ((size : ℕ) → size < 4294967296 → first size ≡ n) → ⊥
  unfolding computed
  not_repeating_packets n repeats =
      let p : ◌≡◌ {A = ℕ} 0 n = sym (given-at 8 (omega arith)) ∙ repeats 8 (omega arith) in
      let q : ◌≡◌ {A = ℕ} 15 n = sym (given-at 7 (omega arith)) ∙ repeats 7 (omega arith) in
      omega arith

-- ---- the packet count: where a reply can be cut, the packets that get 0 are those below the rule's count and no others
module _ (reply : List ℕ) (at : Spot) (asked size : ℕ) (number : ℕ → ℕ) (shown : ℕ → List ℕ) (spot : ℕ → Spot)
    (cuts : (k : ℕ) → k < 4294967296 → CutsPacket reply at asked size k (number k) (shown k) (spot k)) (can : can_cut (length reply) asked size ≡ true) (small : asked < 65536) where
  pub not_made_up : (made : ℕ) → ((k : ℕ) → k < 4294967296 → (number k ≡ 0 → k < made) × (k < made → number k ≡ 0)) → made ≡ packet_count (length reply) asked size
  not_made_up made counts =
      let right = packet_count (length reply) asked size in
      let h : right < 4294967296 = few reply at asked size number shown spot cuts can small in
      let given = within reply at asked size number shown spot cuts can small in
      let past = beyond reply at asked size number shown spot cuts can small in
      cases (ltb made right)
      (λ p. absurd (let m = ltb-true made right p in let l = (counts made (omega (arith, m, h))).0 (given made m) in omega arith))
      (λ p. cases (ltb right made)
      (λ q. absurd (let z = (counts right h).1 (ltb-true right made q) in let f = past right h (omega arith) in omega arith))
      (λ q. let l = ltb-false made right p in let m = ltb-false right made q in omega arith))
