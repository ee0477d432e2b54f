-- The step: from a board, a record and an event to the answer and the next record.
use Rattle.std.specs.Prelude.{ℕ, ◌%◌, List, Bool, ◌&&◌, ◌||◌, not, length, eqb, leb}
use Rattle.std.proofs.Math.Option.{Option, some, none}
use Rattle.octets.specs.Bit.{bit, flip_bit}
use Rattle.octets.specs.Sentences.{pick}
use Rattle.descriptors.specs.declared.Endpoint.{Endpoint}
use Rattle.sets.specs.Opening.{Board}
use Rattle.sets.specs.View.{View, opening_of, accepted}
use Rattle.records.specs.declared.Device.{Device}
use Rattle.records.specs.Device.{in_default, in_address, in_configured, nothing, at_full_speed, at_high_speed, fresh, after_reset, test_waits, in_test_mode, enter_test_mode, awake, settled, with_power, with_suspended, with_address, with_endpoints}
use Rattle.records.specs.Image.{device_of, image_of}
use Rattle.descriptors.specs.Configuration.{can_halt, bit_of}
use Rattle.records.specs.Current.{view_at, endpoint_at}
use Rattle.records.specs.Fits.{fits_on}
use Rattle.requests.specs.declared.Setup.{Setup}
use Rattle.requests.specs.Table.{setup_of, refusal}
use Rattle.events.specs.declared.Event.{Event}
use Rattle.events.specs.declared.Event.TheVariants.{Request, Malformed, StatusEnd, BusReset, Halt, PacketPassed, Power, Suspend, Resume, Wake}
use Rattle.events.specs.Answer.{Answer, Refused, Outcome, done, refused}
use Rattle.events.specs.Requests.{get_status, clear_feature, names_test_mode, set_feature, set_halt, set_address, get_descriptor, get_configuration, set_configuration, get_interface, set_interface}

-- ---- a setup: the request by its code (the table has no other)
unfoldable pub request : View → Device → Setup → Outcome
request v d s =
    pick (eqb s.bRequest 0x00) (get_status v d s)
    (pick (eqb s.bRequest 0x01) (clear_feature v d s)
    (pick (eqb s.bRequest 0x03) (set_feature v d s)
    (pick (eqb s.bRequest 0x05) (set_address v d s)
    (pick (eqb s.bRequest 0x06) (get_descriptor v d s)
    (pick (eqb s.bRequest 0x08) (get_configuration v d s)
    (pick (eqb s.bRequest 0x09) (set_configuration v d s)
    (pick (eqb s.bRequest 0x0A) (get_interface v d s)
    (set_interface v d s))))))))

-- the table's refusal, or else the request
abbrev pub unless_refused : ℕ → View → Device → Setup → Outcome
unless_refused n v d s = pick (eqb n 0) (request v d s) (refused n d)

-- SET_FEATURE(TEST_MODE), which "at high speed passes the state check in all three states" and at full speed where other features do, in Address and
-- Configured; it "needs wIndex's low byte 0 (else 12)" (L7), and wLength 0 as they do
abbrev pub asks_test_mode : Bool → Setup → Bool
asks_test_mode paired s = names_test_mode paired s && eqb s.bmRequestType 0x00 && eqb s.bRequest 0x03

abbrev pub test_mode_in_state : Device → Bool
test_mode_in_state d = eqb d.speed at_high_speed || eqb d.state in_address || eqb d.state in_configured

abbrev pub test_mode_fits : Setup → Bool
test_mode_fits s = eqb (s.wIndex % 256) 0 && eqb s.wLength 0

abbrev pub test_mode_refusal : Device → Setup → ℕ
test_mode_refusal d s = pick (test_mode_in_state d) (pick (test_mode_fits s) 0 12) 11

-- any other setup is judged by the table
abbrev pub refusal_for : Bool → Device → Setup → ℕ
refusal_for paired d s = pick (asks_test_mode paired s) (test_mode_refusal d s) (refusal d.state s)

-- "Past 7 to 9, a setup first drops any waiting address."; "any setup past 7 to 9" clears byte 6 (L12); "17 any 8-byte setup once test mode is
-- entered, after 9" (L7)
unfoldable pub answer_setup : View → Device → Setup → Outcome
answer_setup v d s = pick (in_test_mode d) (refused 17 (settled d)) (unless_refused (refusal_for v.paired d s) v (settled d) s)

-- ---- status end: "applies it and byte 2 is 255 again. Zero leads to Default, others to Address"; "nothing waiting changes nothing"; a test mode
-- is entered (L7)
unfoldable pub status_end : Device → Outcome
status_end d =
    pick (eqb d.waiting nothing) (done d)
    (pick (test_waits d) (done (enter_test_mode d))
    (done (with_address (pick (eqb d.waiting 0) in_default in_address) d.waiting d)))

-- ---- bus reset: "a reset to a speed above 1, or to 1 with one set lent, gets 16"; once test mode is entered "a valid bus reset then gives 0 and
-- changes nothing" (L7)
abbrev pub good_reset : Bool → ℕ → Bool
good_reset paired speed = eqb speed at_full_speed || (paired && eqb speed at_high_speed)

abbrev pub bus_reset : View → Device → ℕ → Outcome
bus_reset v d speed = pick (good_reset v.paired speed) (done (pick (in_test_mode d) d (after_reset speed d))) (refused 16 d)

-- ---- "Two function events name an endpoint address"
-- "halt (bulk or interrupt in a current setting)"
abbrev pub halt_at : Device → Option Endpoint → Outcome
halt_at d none = refused 16 d
halt_at d (some e) = pick (can_halt e) (done (set_halt d (bit_of e.address))) (refused 16 d)

unfoldable pub halt : View → Device → ℕ → Outcome
halt v d address = halt_at d (endpoint_at v d address)

-- "packet passed (flips the toggle; bulk or interrupt, current, not halted)"; "any accepted packet passed event" clears byte 6 (L12)
abbrev pub pass_at : Device → Option Endpoint → Outcome
pass_at d none = refused 16 d
pass_at d (some e) =
    let k = bit_of e.address in
    pick (can_halt e && not (bit d.halts k)) (done (awake (with_endpoints d.alternates d.halts (flip_bit d.toggles k) d))) (refused 16 d)

unfoldable pub packet_passed : View → Device → ℕ → Outcome
packet_passed v d address = pass_at d (endpoint_at v d address)

-- ---- the power source: "the power event leaves every other byte"; "a power event with a value above 1 gets 16" (L2)
abbrev pub power : Device → ℕ → Outcome
power d source = pick (leb source 1) (done (with_power source d)) (refused 16 d)

-- ---- "A wake event succeeds exactly if the device is suspended and wakeup is on, and changes nothing by itself"; "19 wake not allowed, nothing changed" (L12)
abbrev pub wake : Device → Outcome
wake d = pick (eqb d.suspended 1 && eqb d.wakeup 1) (done d) (refused 19 d)

-- ---- every event, on a record that fits
abbrev pub respond : View → Device → Event → Outcome
respond v d (Request s) = answer_setup v d s
respond v d Malformed = refused 9 d
respond v d StatusEnd = status_end d
respond v d (BusReset speed) = bus_reset v d speed
respond v d (Halt a) = halt v d a
respond v d (PacketPassed a) = packet_passed v d a
respond v d (Power source) = power d source
-- "Suspend sets it; resume, .. clear it" (L12)
respond v d Suspend = done (with_suspended 1 d)
respond v d Resume = done (awake d)
respond v d Wake = wake d

-- "Order: 7, 8, then for a setup 9 to 14, for a function event 16."
unfoldable pub step : Board → Device → Event → Outcome
step b d e = pick (accepted b) (pick (fits_on b d) (respond (view_at b d) d e) (refused 8 d)) (refused 7 d)

-- "setup not 8 bytes"
abbrev pub setup_event : List ℕ → Event
setup_event bytes = pick (eqb (length bytes) 8) (Request (setup_of bytes)) Malformed

-- ---- on images of any length
pub record Reply : Type 0 where
  pub answer : Answer
  pub image : List ℕ

abbrev pub reply_of : Outcome → Reply
reply_of o = record { answer = o.answer; image = image_of o.device }

-- 7 comes before 8, "record not 32 bytes"
unfoldable pub event : Board → List ℕ → Event → Reply
event b image e =
    pick (eqb (length image) 32) (reply_of (step b (device_of image) e))
    (record { answer = Refused (pick (accepted b) 8 7); image = image })

-- "an image not 32 bytes gives 8 before group 1; else it becomes the fresh record, accepted or not"
pub record Opened : Type 0 where
  pub number : ℕ
  pub image : List ℕ

unfoldable pub opened : Board → List ℕ → Opened
opened b image =
    pick (eqb (length image) 32) (record { number = opening_of b; image = image_of fresh })
    (record { number = 8; image = image })
