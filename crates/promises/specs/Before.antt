-- The step before a board could lend two sets: document 01 with L2, L6 and L12. Only what L7 changed stands here, in its old words, and opening in `Base`; `OneSet` says that
-- a board that lends one set has this step still.
use Rattle.std.specs.Prelude.{ℕ, ◌/◌, ◌%◌, Bool, true, ◌&&◌, ◌||◌, List, length, eqb, leb}
use Rattle.octets.specs.Sentences.{pick, ◌⇒◌, first}
use Rattle.sets.specs.Opening.{Board}
use Rattle.sets.specs.View.{View, view_of, entry_by_index, has_value, wakes}
use Rattle.records.specs.declared.Device.{Device}
use Rattle.records.specs.Device.{in_default, in_address, in_configured, nothing, fresh, awake, settled, with_power, with_suspended, with_address}
use Rattle.records.specs.Current.{selected, current_endpoints}
use Rattle.records.specs.Fits.{good_alternates, stands_at}
use Rattle.requests.specs.declared.Setup.{Setup}
use Rattle.requests.specs.Table.{refusal}
use Rattle.records.specs.Image.{device_of}
use Rattle.events.specs.declared.Event.{Event}
use Rattle.events.specs.declared.Event.TheVariants.{Request, Malformed, StatusEnd, BusReset, Halt, PacketPassed, Power, Suspend, Resume, Wake}
use Rattle.events.specs.declared.facts.Located.{Located}
use Rattle.events.specs.declared.facts.Located.TheVariants.{Nowhere}
use Rattle.events.specs.Answer.{Refused, Outcome, done, refused}
use Rattle.events.specs.Requests.{by_recipient, device_feature, interface_feature, endpoint_feature, set_halt, is_entry, body_at, language_for, locate_string, describe, get_status, clear_feature, set_address, get_configuration, set_configuration, get_interface, set_interface}
use Rattle.events.specs.Step.{halt, packet_passed, power, wake, Reply, reply_of}
use Rattle.promises.specs.Base.{opening}

-- ---- fits: byte 7 was zero, and only an address waited
abbrev pub in_range : Device → Bool
in_range d = leb d.state 2 && leb d.wakeup 1 && leb d.power 1 && leb d.suspended 1 && eqb d.speed 0

abbrev pub good_waiting : Device → Bool
good_waiting d = leb d.waiting 127 || eqb d.waiting nothing

abbrev pub good_state : View → Device → Bool
good_state v d =
    (eqb d.state in_default ⇒ (eqb d.address 0 && eqb d.configuration 0)) &&
    (eqb d.state in_address ⇒ (leb 1 d.address && leb d.address 127 && eqb d.configuration 0)) &&
    (eqb d.state in_configured ⇒ (leb 1 d.address && leb d.address 127 && has_value (record { 0 = d.configuration }) v.configurations && eqb d.waiting nothing))

unfoldable pub fits : View → Device → Bool
fits v d =
    let es = current_endpoints v d in
    in_range d && good_waiting d && good_state v d &&
    good_alternates (selected v d) d &&
    stands_at es d.halts && stands_at es d.toggles &&
    (eqb d.wakeup 1 ⇒ wakes v)

-- ---- the requests: SET_FEATURE had no test mode, and GET_DESCRIPTOR no types 6 and 7
abbrev pub set_feature : View → Device → Setup → Outcome
set_feature v d s = by_recipient s (device_feature 1 v d s) (interface_feature v d s) (endpoint_feature set_halt v d s)

abbrev pub locate : View → Setup → Located
locate v s =
    pick (eqb (s.wValue / 256) 3) (locate_string v (s.wValue % 256) (language_for v (s.wValue % 256) s.wIndex))
    (pick (eqb (s.wValue / 256) 2) (body_at (entry_by_index (record { 0 = s.wValue % 256 }) v.entries))
    (pick (eqb (s.wValue / 256) 1) (body_at (first (is_entry 1 (s.wValue % 256) 0) v.entries))
    Nowhere))

abbrev pub request : View → Device → Setup → Outcome
request v d s =
    pick (eqb s.bRequest 0x00) (get_status v d s)
    (pick (eqb s.bRequest 0x01) (clear_feature v d s)
    (pick (eqb s.bRequest 0x03) (set_feature v d s)
    (pick (eqb s.bRequest 0x05) (set_address v d s)
    (pick (eqb s.bRequest 0x06) (describe d s.wLength (locate v s))
    (pick (eqb s.bRequest 0x08) (get_configuration v d s)
    (pick (eqb s.bRequest 0x09) (set_configuration v d s)
    (pick (eqb s.bRequest 0x0A) (get_interface v d s)
    (set_interface v d s))))))))

abbrev pub answer_setup : View → Device → Setup → Outcome
answer_setup v d s = let n = refusal d.state s in pick (eqb n 0) (request v (settled d) s) (refused n (settled d))

-- ---- the other events: a status end applied an address, and a bus reset had no speed
abbrev pub status_end : Device → Outcome
status_end d =
    pick (eqb d.waiting nothing) (done d)
    (done (with_address (pick (eqb d.waiting 0) in_default in_address) d.waiting d))

-- the events that there were: a bus reset is one to full speed
abbrev pub known : Event → Bool
known (BusReset speed) = eqb speed 0
known (Request s) = true
known Malformed = true
known StatusEnd = true
known (Halt a) = true
known (PacketPassed a) = true
known (Power source) = true
known Suspend = true
known Resume = true
known Wake = true

abbrev pub respond : View → Device → Event → Outcome
respond v d (Request s) = answer_setup v d s
respond v d Malformed = refused 9 d
respond v d StatusEnd = status_end d
respond v d (BusReset speed) = done (with_power d.power fresh)
respond v d (Halt a) = halt v d a
respond v d (PacketPassed a) = packet_passed v d a
respond v d (Power source) = power d source
respond v d Suspend = done (with_suspended 1 d)
respond v d Resume = done (awake d)
respond v d Wake = wake d

unfoldable pub step : Board → Device → Event → Outcome
step b d e = pick (eqb (opening b.set b.serial) 0) (pick (fits (view_of b) d) (respond (view_of b) d e) (refused 8 d)) (refused 7 d)

-- on images of any length
unfoldable pub event : Board → List ℕ → Event → Reply
event b image e =
    pick (eqb (length image) 32) (reply_of (step b (device_of image) e))
    (record { answer = Refused (pick (eqb (opening b.set b.serial) 0) 8 7); image = image })
