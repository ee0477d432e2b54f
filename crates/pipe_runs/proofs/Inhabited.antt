-- The promises at work: on the bench set S, on the titrator T and on a pair, so that none is empty. No axiom.
use Rattle.octets.proofs.Vocabulary.{◌≡◌, refl, sym, ap, subst, ◌∙◌, ℕ, zero, suc, List, [], ◌∷◌, ◌++◌, map, true, false, take, replicate, arith, ne_eqb}
use Rattle.octets.specs.Octets.{Bytes}
use Rattle.descriptors.specs.Configuration.{bConfigurationValue}
use Rattle.sets.specs.Device.{device_body, bNumConfigurations}
use Rattle.records.specs.declared.Device.{Device}
use Rattle.records.specs.Device.{in_test_mode}
use Rattle.records.specs.Image.{device_of}
use Rattle.records.specs.Current.{set_for}
use Rattle.records.proofs.Image.{device-image}
use Rattle.events.specs.declared.Event.TheVariants.{StatusEnd}
use Rattle.order.specs.Run.{All}
use Rattle.promises.specs.Examples.{bytes, computed, S, T}
use Rattle.promises.specs.Bench.{setup}
use Rattle.promises.specs.Inhabited.{octets, accepted_s, bytes_s, accepted_t, bytes_t, configured, configured_sized}
use Rattle.promises.specs.InhabitedOrder.{configured_fits_t}
use Rattle.promises.specs.Keeps.{FitImage, image_fits}
use Rattle.promises.specs.Rearranged.{events_of, Rearranged}
use Rattle.promises.specs.Pairs.{pair, accepted_pair, bytes_pair}
use Rattle.pipes.specs.declared.Wire.{Wire}
use Rattle.pipes.specs.declared.Wire.TheVariants.{Taken, Received, Reset, Reply, Room, Accept}
use Rattle.pipes.specs.Transfer.{idle, stall, fits, nothing, send, receive, ask}
use Rattle.pipes.specs.Image.{transfer_of, image_of}
use Rattle.pipes.specs.Turns.{taken, received, replied, turned, roomed, accepted}
use Rattle.pipes.specs.Sending.{sent}
use Rattle.pipes.specs.Pipe.{Told, Records, packet_size, heard, Heard}
use Rattle.pipes.proofs.Inverse.{image-length}
use Rattle.enumeration.specs.Bodies.{configuration_body}
use Rattle.enumeration.specs.Enumeration.{device_lines, enumerated}
use Rattle.pipe_runs.specs.Runs.{power, suspend, Happening, on_wire, beside, leaves, after, heard_in, power_on, is_idle, a_setup, answered_with, is_quiet, ends_at, events_at, events_in, device_after, no_end, address_in}
use Rattle.pipe_runs.specs.Packets.{sent_in, awaits_in, reply_to, Within, Begins}
use Rattle.pipe_runs.specs.Addresses.{Readdresses}
use Rattle.pipe_runs.specs.Host.{PlaysOnWire, WireLine, ReadsWhole, read_lines, size_for, wire, sends, awaits, is_over, enumeration_on_wire, at_rest}
use Rattle.pipe_runs.specs.Promises.{requests_in, ToldOnce, SendsNothing, ran}
use Rattle.pipe_runs.proofs.Promises.{nothing_else_moves, reads_the_reply, reads_the_applications, own_address, once_per_transfer, never_for_a_dropped, order_does_not_count, no_lock_out, refused_sends_nothing, enumerates_by_packets, never_eight}

-- ---- the enumeration of S on the wire, at address 5, in packets of 8, packet by packet
abbrev asks : ℕ → Told
asks setup = a_setup (bytes 8 setup) []

abbrev takes : List ℕ → WireLine
takes packet = (wire Taken, sends packet)

abbrev last : List WireLine
last = (wire Taken, awaits) ∷ (wire (Received 0), is_over) ∷ []

pub script_s : enumeration_on_wire S 0 5 0 ≡
    (wire (Reset 0), is_over) ∷
    (asks 0x8006000100000800, sends (bytes 8 0x12010002FF000008)) ∷ last ++
    (asks 0x8006000100004000, sends (bytes 8 0x12010002FF000008)) ∷ takes (bytes 8 0x3412785600010000) ∷ takes (bytes 2 0x0001) ∷ last ++
    (asks 0x8006000100001200, sends (bytes 8 0x12010002FF000008)) ∷ takes (bytes 8 0x3412785600010000) ∷ takes (bytes 2 0x0001) ∷ last ++
    (asks 0x0005050000000000, sends []) ∷ (wire Taken, is_over) ∷
    (asks 0x8006000200000900, sends (bytes 8 0x0902190001010080)) ∷ takes (bytes 1 0x32) ∷ last ++
    (asks 0x8006000200001900, sends (bytes 8 0x0902190001010080)) ∷ takes (bytes 8 0x320904000001FF00) ∷ takes (bytes 8 0x0000070581030800) ∷ takes (bytes 1 0x0A) ∷ last ++
    (asks 0x0009010000000000, sends []) ∷ (wire Taken, is_over) ∷ []
unfolding computed
script_s = refl

calm : in_test_mode (device_of power_on.image) ≡ false
unfolding computed
calm = refl

one_s : bNumConfigurations (device_body (set_for S 0)) ≡ 1
unfolding computed
one_s = refl

size_s : size_for S 0 ≡ 8
unfolding computed
size_s = refl

pub enumerates_s : PlaysOnWire S power_on (enumeration_on_wire S 0 5 0) (at_rest (enumerated 0 5 (bConfigurationValue (configuration_body (set_for S 0) 0)) (device_of power_on.image)))
enumerates_s = (enumerates_by_packets S bytes_s accepted_s power_on (ran []) calm 0 refl 5 (omega arith) (omega arith) 0 (omega (arith, one_s))).0

-- and all that it reads
pub reads_all_s : All (ReadsWhole 8) (device_lines (device_body (set_for S 0)) ++ read_lines S 0)
reads_all_s = subst (λ (p : ℕ). All (ReadsWhole p) (device_lines (device_body (set_for S 0)) ++ read_lines S 0)) size_s
    (enumerates_by_packets S bytes_s accepted_s power_on (ran []) calm 0 refl 5 (omega arith) (omega arith) 0 (omega (arith, one_s))).1

one_t : bNumConfigurations (device_body (set_for T 0)) ≡ 1
unfolding computed
one_t = refl

pub enumerates_t : PlaysOnWire T power_on (enumeration_on_wire T 0 127 0) (at_rest (enumerated 0 127 (bConfigurationValue (configuration_body (set_for T 0) 0)) (device_of power_on.image)))
enumerates_t = (enumerates_by_packets T bytes_t accepted_t power_on (ran []) calm 0 refl 127 (omega arith) (omega arith) 0 (omega (arith, one_t))).0

one_pair : (bNumConfigurations (device_body (set_for pair 0)) ≡ 1) × (bNumConfigurations (device_body (set_for pair 1)) ≡ 1)
unfolding computed
one_pair = (refl, refl)

pub enumerates_full : PlaysOnWire pair power_on (enumeration_on_wire pair 0 7 0) (at_rest (enumerated 0 7 (bConfigurationValue (configuration_body (set_for pair 0) 0)) (device_of power_on.image)))
enumerates_full = (enumerates_by_packets pair bytes_pair accepted_pair power_on (ran []) calm 0 refl 7 (omega arith) (omega arith) 0 (omega (arith, one_pair.0))).0

pub enumerates_high : PlaysOnWire pair power_on (enumeration_on_wire pair 1 7 0) (at_rest (enumerated 1 7 (bConfigurationValue (configuration_body (set_for pair 1) 0)) (device_of power_on.image)))
enumerates_high = (enumerates_by_packets pair bytes_pair accepted_pair power_on (ran []) calm 1 refl 7 (omega arith) (omega arith) 0 (omega (arith, one_pair.1))).0

-- ---- S once more: the host reads the device, breaks in with SET_ADDRESS after two packets, and takes its status stage
abbrev device : Told
device = asks 0x8006000100004000

abbrev set_address : Told
set_address = asks 0x0005050000000000

-- a run of the pipe's events alone
abbrev runs : List Told → List Happening
runs es = map on_wire es

abbrev breaks_in : List Happening
breaks_in = runs (device ∷ wire Taken ∷ set_address ∷ [])

-- 2: its library events, and so its device record
events_s : events_in S power_on (breaks_in ++ on_wire (wire Taken) ∷ []) ≡ setup 0x8006000100004000 ∷ setup 0x0005050000000000 ∷ StatusEnd ∷ []
unfolding computed heard transfer_of image_of fits turned taken
events_s = refl

pub moves_s : (after S power_on (breaks_in ++ on_wire (wire Taken) ∷ [])).image ≡ device_after S power_on.image (setup 0x8006000100004000 ∷ setup 0x0005050000000000 ∷ StatusEnd ∷ [])
moves_s = nothing_else_moves S power_on (breaks_in ++ on_wire (wire Taken) ∷ []) ∙ ap (device_after S power_on.image) events_s

-- 3: the device descriptor, whose 18 bytes are three packets of 8, taken once, and wholly
device_bytes : Bytes (bytes 8 0x8006000100004000)
unfolding computed
device_bytes = octets (bytes 8 0x8006000100004000) refl

device_done : answered_with S power_on.image (bytes 8 0x8006000100004000) ≡ 0
unfolding computed
device_done = refl

pub reads_s : (es : List Happening) → All (Within []) es → Begins S power_on (on_wire device ∷ es) (reply_to S power_on.image (bytes 8 0x8006000100004000)) 64 (packet_size S power_on.image)
reads_s es q = reads_the_reply S power_on (bytes 8 0x8006000100004000) [] (image-length idle) refl device_bytes device_done (λ z. omega arith) es q

pub sent_s : sent_in S power_on (runs (device ∷ wire Taken ∷ wire Taken ∷ wire Taken ∷ [])) ≡ bytes 8 0x12010002FF000008 ∷ bytes 8 0x3412785600010000 ∷ bytes 2 0x0001 ∷ []
unfolding computed heard transfer_of image_of fits turned taken sent
sent_s = refl

-- 4: the address is taken at the end, and not before; a SET_ADDRESS that is dropped leaves it
pub address_s : (address_in (after S power_on breaks_in).image ≡ 0) × (address_in (after S power_on (breaks_in ++ on_wire (wire Taken) ∷ [])).image ≡ 5)
unfolding computed heard transfer_of image_of fits turned taken
address_s = (refl, refl)

pub own_s : Readdresses S (after S power_on breaks_in) (on_wire (wire Taken))
own_s = own_address S power_on is_idle breaks_in (on_wire (wire Taken))

pub dropped_s : address_in (after S power_on (runs (set_address ∷ asks 0x8006000100000800 ∷ wire Taken ∷ wire (Received 0) ∷ []))).image ≡ 0
unfolding computed heard transfer_of image_of fits turned taken received
dropped_s = refl

-- 5: a status end is told there, and none at the SETUP that breaks in
ends_s : ends_at S (after S power_on breaks_in) (wire Taken) ≡ true
unfolding computed heard transfer_of image_of fits turned taken
ends_s = refl

pub once_s : ToldOnce S (after S power_on breaks_in) (wire Taken)
once_s = once_per_transfer S (after S power_on breaks_in) (wire Taken) ends_s

goes_on_s : ends_at S (after S power_on (runs (device ∷ wire Taken ∷ []))) set_address ≡ false
unfolding computed heard transfer_of image_of fits turned taken
goes_on_s = refl

pub drop_s : All no_end (events_at S (after S power_on (runs (device ∷ wire Taken ∷ []))) set_address)
drop_s = never_for_a_dropped S (after S power_on (runs (device ∷ wire Taken ∷ []))) set_address goes_on_s

-- 6: sixteen bytes of A5
pub locked_s : heard S (record { image = power_on.image; pipe = replicate 16 0xA5 }) device ≡ heard S power_on device
locked_s = no_lock_out S power_on.image (replicate 16 0xA5) (bytes 8 0x8006000100004000) [] refl refl

-- 7: a descriptor of type 9 is refused with 13
refused_s : answered_with S power_on.image (bytes 8 0x8006000900004000) ≡ 13
unfolding computed
refused_s = refl

pub stalls_s : ((heard S power_on (asks 0x8006000900004000)).order ≡ stall)
    × ((es : List Happening) → All is_quiet es → All SendsNothing (heard_in S (leaves S power_on (asks 0x8006000900004000)) es))
stalls_s = refused_sends_nothing S power_on (bytes 8 0x8006000900004000) [] (image-length idle) refl (λ z. omega (arith, refused_s)) (λ z. omega (arith, refused_s))

-- ---- the application's reply: a vendor's request for 20 bytes, of which it has 12; then the host's empty packet ends the transfer, and no event got 8
abbrev vendor : Told
vendor = asks 0xC001000000001400

abbrev reply : List ℕ
reply = bytes 12 0x0102030405060708090A0B0C

abbrev lends : Wire → Told
lends w = record { wire = w; setup = []; reply = reply }

-- while it goes out the board tells its power source, and is suspended
abbrev answered : List Happening
answered = on_wire vendor ∷ on_wire (lends Reply) ∷ beside (power 1) ∷ on_wire (lends Taken) ∷ beside suspend ∷ on_wire (lends Taken) ∷ []

pub sent_by_application : (sent_in S power_on answered ≡ bytes 8 0x0102030405060708 ∷ bytes 4 0x090A0B0C ∷ []) × (awaits_in S power_on answered ≡ true)
unfolding computed heard transfer_of image_of fits turned taken replied sent
sent_by_application = (refl, refl)

-- the pipe record in which it is asked
asks_s : (after S power_on (runs (vendor ∷ []))).pipe ≡ 1 ∷ 0 ∷ 0 ∷ 0 ∷ 0 ∷ 0 ∷ 20 ∷ 0 ∷ 0 ∷ 0 ∷ 8 ∷ 1 ∷ 0 ∷ 0 ∷ 0 ∷ 0 ∷ []
unfolding computed heard transfer_of image_of
asks_s = refl

asking_bytes : Bytes (1 ∷ 0 ∷ 0 ∷ 0 ∷ 0 ∷ 0 ∷ 20 ∷ 0 ∷ 0 ∷ 0 ∷ 8 ∷ 1 ∷ 0 ∷ 0 ∷ 0 ∷ 0 ∷ [])
unfolding computed
asking_bytes = octets (1 ∷ 0 ∷ 0 ∷ 0 ∷ 0 ∷ 0 ∷ 20 ∷ 0 ∷ 0 ∷ 0 ∷ 8 ∷ 1 ∷ 0 ∷ 0 ∷ 0 ∷ 0 ∷ []) refl

asked_bytes : Bytes (after S power_on (runs (vendor ∷ []))).pipe
asked_bytes = subst Bytes (sym asks_s) asking_bytes

pub application_s : (es : List Happening) → All (Within reply) es → Begins S (after S power_on (runs (vendor ∷ []))) (on_wire (lends Reply) ∷ es) (take 20 reply) 20 8
unfolding computed heard transfer_of image_of fits
application_s es q = reads_the_applications S (after S power_on (runs (vendor ∷ []))) reply asked_bytes refl refl es q

vendor_bytes : Bytes (bytes 8 0xC001000000001400)
unfolding computed
vendor_bytes = octets (bytes 8 0xC001000000001400) refl

pub never_eight_s : (heard S (after S power_on answered) (lends (Received 0))).number ≡ 8 → ⊥
unfolding computed heard transfer_of image_of fits turned taken replied
never_eight_s = never_eight S bytes_s answered
    ((λ _. omega arith), vendor_bytes, ((λ _. omega arith), (λ i. omega arith), ((λ _. omega arith), (λ i. omega arith), ((λ _. omega arith), (λ i. omega arith), tt))))
    (lends (Received 0)) (λ _. omega arith)

-- ---- demand 3 on T: SET_INTERFACE of interface 1 and SET_FEATURE(HALT) of endpoint 81, which is interface 0's, each with its status stage, in both orders
abbrev setting_one : ℕ
setting_one = 0x010B010001000000

abbrev halt_in : ℕ
halt_in = 0x0203000081000000

abbrev at_t : Records
at_t = at_rest configured

abbrev one_order : List Happening
one_order = runs (asks setting_one ∷ wire Taken ∷ asks halt_in ∷ wire Taken ∷ [])

abbrev other_order : List Happening
other_order = runs (asks halt_in ∷ wire Taken ∷ asks setting_one ∷ wire Taken ∷ [])

one_requests : requests_in T at_t one_order ≡ setup setting_one ∷ setup halt_in ∷ []
unfolding computed heard transfer_of image_of fits turned taken
one_requests = refl

other_requests : requests_in T at_t other_order ≡ setup halt_in ∷ setup setting_one ∷ []
unfolding computed heard transfer_of image_of fits turned taken
other_requests = refl

fit_t : FitImage T at_t.image
fit_t = image_fits T bytes_t accepted_t configured (configured_fits_t, configured_sized)

back_t : device_of at_t.image ≡ configured
back_t = device-image configured configured_sized

same_events : (k : ℕ) → events_of T configured k (setup setting_one ∷ setup halt_in ∷ []) ≡ events_of T configured k (setup halt_in ∷ setup setting_one ∷ [])
unfolding computed
same_events zero = refl
same_events (suc zero) = refl
same_events (suc (suc k)) = rw (ne_eqb 1 (suc (suc k)) (λ z. omega arith), ne_eqb 0 (suc (suc k)) (λ z. omega arith))

rearranged : Rearranged T configured (setup setting_one ∷ setup halt_in ∷ []) (setup halt_in ∷ setup setting_one ∷ [])
unfolding computed
rearranged = record { one = refl; other = refl; same = same_events }

pub order_t : (after T at_t one_order).image ≡ (after T at_t other_order).image
order_t = (order_does_not_count T bytes_t accepted_t at_t fit_t (ap (λ (d : Device). d.waiting) back_t) one_order other_order (rw (back_t, one_requests, other_requests) rearranged)).0

-- ---- a vendor's request that writes 10 bytes: the application has room for them, 8 and 2 come, it accepts, and the host takes the empty packet
abbrev writes : List Told
writes = asks 0x4001000000000A00 ∷ wire (Room 16) ∷ wire (Received 8) ∷ wire (Received 2) ∷ wire Accept ∷ wire Taken ∷ []

pub orders_s : map (λ (h : Heard). h.order) (heard_in S power_on (runs writes)) ≡ ask ∷ receive ∷ receive ∷ ask ∷ send ∷ nothing ∷ []
unfolding computed heard transfer_of image_of fits turned taken received roomed accepted
orders_s = refl

-- ---- T: the serial number, string 3, from the serial block; and its reset in the middle of it
pub sent_t : sent_in T power_on (runs (asks 0x800603030904FF00 ∷ wire Taken ∷ wire (Received 0) ∷ [])) ≡ bytes 4 0x04033700 ∷ []
unfolding computed heard transfer_of image_of fits turned taken received sent
sent_t = refl

pub moves_t : (es : List Happening) → (after T power_on es).image ≡ device_after T power_on.image (events_in T power_on es)
moves_t es = nothing_else_moves T power_on es

pub own_t : (es : List Happening) (h : Happening) → Readdresses T (after T power_on es) h
own_t es h = own_address T power_on is_idle es h

-- ---- the pair, reset to high speed: its qualifier is one packet of 10 bytes, of the set in use
pub sent_pair : sent_in pair power_on (runs (wire (Reset 1) ∷ asks 0x8006000600004000 ∷ wire Taken ∷ [])) ≡ bytes 10 0x0A060002000000400100 ∷ []
unfolding computed heard transfer_of image_of fits turned taken sent
sent_pair = refl

pub own_pair : (es : List Happening) (h : Happening) → Readdresses pair (after pair power_on es) h
own_pair es h = own_address pair power_on is_idle es h
