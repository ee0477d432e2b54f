-- The bench set S: it opens, it lists as the page says, and document 01's table P, as one statement over its eleven rows.
use Rattle.std.specs.Prelude.{ℕ, ◌+◌, ◌≡◌, refl, List, [], ◌∷◌, ◌++◌, map, length, set, replicate, eqb}
use Rattle.octets.specs.Sentences.{pick}
use Rattle.descriptors.specs.Limits.{full_speed}
use Rattle.sets.specs.Opening.{Board, lent, opening}
use Rattle.records.specs.declared.Device.{Device}
use Rattle.records.specs.Device.{in_address, in_configured, zeros, fresh, with_waiting, with_address, with_configuration, with_endpoints}
use Rattle.events.specs.declared.Event.{Event}
use Rattle.events.specs.declared.Event.TheVariants.{Request, Malformed, StatusEnd, BusReset, Halt, PacketPassed, Power, Suspend, Resume, Wake}
use Rattle.events.specs.Answer.{of_set}
use Rattle.events.specs.Step.{setup_event, opened}
use Rattle.order.specs.Run.{log}
use Rattle.packets.specs.Packets.{packets}
use Rattle.listing.specs.Listing.{listing, line}
use Rattle.promises.specs.Examples.{bytes, computed, S}
use Rattle.promises.specs.Refusal.{empty_part, fresh_image}
use Rattle.promises.specs.Rearranged.{Values, values_of, answer_of, next_of, after}

pub opens : opening full_speed S ≡ 0
unfolding computed
opens = refl

-- ACCEPTED 1, C 1 1, I 0 0 1, E 129 3 8
pub lists : listing full_speed S ≡
    line (65 ∷ 67 ∷ 67 ∷ 69 ∷ 80 ∷ 84 ∷ 69 ∷ 68 ∷ []) (1 ∷ []) ++
    line (67 ∷ []) (1 ∷ 1 ∷ []) ++ line (73 ∷ []) (0 ∷ 0 ∷ 1 ∷ []) ++ line (69 ∷ []) (129 ∷ 3 ∷ 8 ∷ [])
unfolding computed
lists = refl

-- ---- what a row asks, and what it finds: a run of events from a record, an opening on an image, or a reply cut into packets
pub data Asked : Type 0 where
  runs : Device → List Event → Asked
  opens_on : Board → List ℕ → Asked
  cuts : ℕ → ℕ → ℕ → Asked

-- document 01's number, bytes and part for each event, the lengths of the packets in which they go out, and the record after the run;
-- an opening's number and the image that it leaves
pub data Found : Type 0 where
  ran : List Values → List (List ℕ) → Device → Found
  numbered : ℕ → List ℕ → Found
  lengths : List ℕ → Found

-- the lengths of the packets of a reply of r bytes, asked with w, at size p
abbrev packet_lengths : ℕ → ℕ → ℕ → List ℕ
packet_lengths r w p = map (λ q. q.length) (packets r w p)

-- what a setup is answered goes out in packets of S's bMaxPacketSize0, 8; a refusal goes out as STALL
abbrev sent : Event → Values → List ℕ
sent (Request s) v = pick (eqb v.number 0) (packet_lengths (length v.bytes + v.part.length) s.wLength 8) []
sent Malformed v = []
sent StatusEnd v = []
sent (BusReset speed) v = []
sent (Halt n) v = []
sent (PacketPassed n) v = []
sent (Power source) v = []
sent Suspend v = []
sent Resume v = []
sent Wake v = []

-- each event with what it is answered on S
abbrev told : Device → List Event → List (Event × Values)
told d es = log (λ r e. values_of (answer_of S r e)) (next_of S) d es

abbrev pub found : Asked → Found
found (runs d es) = ran (map (λ p. p.1) (told d es)) (map (λ p. sent p.0 p.1) (told d es)) (after S d es)
found (opens_on b image) = numbered (opened b image).number (opened b image).image
found (cuts r w p) = lengths (packet_lengths r w p)

-- ---- answers
-- done, with these bytes; with this part of the set; refused with this number
abbrev pub done : List ℕ → Values
done handed = record { number = 0; bytes = handed; part = empty_part }

abbrev pub given : ℕ → ℕ → Values
given offset size = record { number = 0; bytes = []; part = record { block = of_set; offset = offset; length = size } }

abbrev pub refused : ℕ → Values
refused n = record { number = n; bytes = []; part = empty_part }

-- "in the named state with address 5, configuration 1 if Configured, all else fresh"
abbrev pub addressed : Device
addressed = with_address in_address 5 fresh

abbrev pub configured : Device
configured = with_configuration in_configured 1 addressed

abbrev pub setup : ℕ → Event
setup x = setup_event (bytes 8 x)

-- S with its interface's bLength 0
abbrev pub stands : Board
stands = lent (set S.set 47 0) []

pub record PRow : Type 0 where
  pub asked : Asked
  pub answer : Found

abbrev pub row : Asked → Found → PRow
row a f = record { asked = a; answer = f }

-- document 01's table P, rows 1 to 11
abbrev pub P : List PRow
P =
    row (runs fresh (setup 0x8006000100004000 ∷ [])) (ran (given 20 18 ∷ []) ((8 ∷ 8 ∷ 2 ∷ []) ∷ []) fresh) ∷
    row (runs fresh (setup 0x800600020000FF00 ∷ [])) (ran (given 38 25 ∷ []) ((8 ∷ 8 ∷ 8 ∷ 1 ∷ []) ∷ []) fresh) ∷
    row (runs fresh (setup 0x8008000000000100 ∷ [])) (ran (refused 11 ∷ []) ([] ∷ []) fresh) ∷
    row (runs fresh (setup 0x0005050000000000 ∷ StatusEnd ∷ [])) (ran (done [] ∷ done [] ∷ []) ([] ∷ [] ∷ []) addressed) ∷
    row (runs fresh (setup 0x0005800000000000 ∷ [])) (ran (refused 12 ∷ []) ([] ∷ []) fresh) ∷
    row (runs addressed (setup 0x0009020000000000 ∷ [])) (ran (refused 13 ∷ []) ([] ∷ []) addressed) ∷
    row (runs configured (setup 0x0203000081000000 ∷ setup 0x8200000081000200 ∷ [])) (ran (done [] ∷ done (1 ∷ 0 ∷ []) ∷ []) ([] ∷ (2 ∷ []) ∷ []) (with_endpoints zeros 0x20000 0 configured)) ∷
    row (runs configured (setup 0x0203000001000000 ∷ [])) (ran (refused 13 ∷ []) ([] ∷ []) configured) ∷
    row (runs (with_waiting 5 fresh) (setup 0x8006000600000A00 ∷ StatusEnd ∷ [])) (ran (refused 13 ∷ done [] ∷ []) ([] ∷ [] ∷ []) fresh) ∷
    row (opens_on stands (replicate 32 170)) (numbered 4 fresh_image) ∷
    row (cuts 16 64 8) (lengths (8 ∷ 8 ∷ 0 ∷ [])) ∷
    []

pub bench : map (λ r. found r.asked) P ≡ map (λ r. r.answer) P
unfolding computed
bench = refl
