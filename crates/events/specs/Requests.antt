-- One definition for each standard request, on a device that fits and with nothing waiting (document 01, below "States").
-- A request is given the view of the board, the record and the setup, past the table's refusals 10 to 12.
use Rattle.std.specs.Prelude.{ℕ, ◌+◌, ◌*◌, ◌/◌, ◌%◌, min, Bool, true, false, ◌&&◌, ◌||◌, get_or, set, eqb, leb}
use Rattle.std.proofs.Math.Option.{Option, some, none}
use Rattle.octets.specs.Bit.{bit, set_bit, clear_bit}
use Rattle.octets.specs.Sentences.{pick, only, first, member}
use Rattle.descriptors.specs.declared.Endpoint.{Endpoint}
use Rattle.descriptors.specs.Configuration.{has_interface, has_setting, can_halt, bit_of, cleared, of_either}
use Rattle.sets.specs.declared.Entry.{Entry}
use Rattle.sets.specs.View.{View, entry_by_index, has_value, wakes}
use Rattle.records.specs.declared.Device.{Device}
use Rattle.records.specs.Device.{in_address, in_configured, at_high_speed, test_waiting, with_waiting, with_wakeup, with_configuration, with_endpoints}
use Rattle.records.specs.Current.{selected, endpoint_at}
use Rattle.requests.specs.declared.Setup.{Setup}
use Rattle.requests.specs.Table.{recipient}
use Rattle.events.specs.declared.facts.Located.{Located}
use Rattle.events.specs.declared.facts.Located.TheVariants.{Body, Serial, Nowhere}
use Rattle.events.specs.Answer.{OneByte, TwoBytes, SetPart, SerialPart, Outcome, gives, done, refused}

-- the recipient decides: device, interface or endpoint (the table has no other)
abbrev pub by_recipient : Setup → Outcome → Outcome → Outcome → Outcome
by_recipient s device interface endpoint = pick (eqb (recipient s) 0) device (pick (eqb (recipient s) 1) interface endpoint)

-- "wIndex 0000 and 0080 both mean endpoint zero"
abbrev pub is_endpoint_zero : ℕ → Bool
is_endpoint_zero index = eqb index 0 || eqb index 128

-- ---- GET_STATUS
abbrev pub digit : Bool → ℕ
digit true = 1
digit false = 0

-- "D0 is that byte in every state", the power source (L2); "D1 is wakeup"
abbrev pub get_device_status : Device → Outcome
get_device_status d = gives (TwoBytes (d.power + 2 * d.wakeup) 0) d

-- "interface 0, 0"
abbrev pub get_interface_status : View → Device → ℕ → Outcome
get_interface_status v d j = pick (has_interface (selected v d) j) (gives (TwoBytes 0 0) d) (refused 13 d)

-- "endpoint its halt (zero and isochronous: 0)"; at an isochronous endpoint no halt stands
abbrev pub endpoint_status : Device → Option Endpoint → Outcome
endpoint_status d none = refused 13 d
endpoint_status d (some e) = gives (TwoBytes (digit (can_halt e && bit d.halts (bit_of e.address))) 0) d

abbrev pub get_endpoint_status : View → Device → ℕ → Outcome
get_endpoint_status v d index = pick (is_endpoint_zero index) (gives (TwoBytes 0 0) d) (endpoint_status d (endpoint_at v d index))

unfoldable pub get_status : View → Device → Setup → Outcome
get_status v d s = by_recipient s (get_device_status d) (get_interface_status v d s.wIndex) (get_endpoint_status v d s.wIndex)

-- ---- CLEAR_FEATURE and SET_FEATURE
-- "Features: device 1 (wakeup, if supported)"
abbrev pub device_feature : ℕ → View → Device → Setup → Outcome
device_feature on v d s = pick (eqb s.wValue 1 && wakes v) (done (with_wakeup on d)) (refused 14 d)

-- "Interfaces and endpoint zero have none. 13 comes before 14."
abbrev pub interface_feature : View → Device → Setup → Outcome
interface_feature v d s = pick (has_interface (selected v d) s.wIndex) (refused 14 d) (refused 13 d)

-- "endpoint 0 (halt, bulk and interrupt only)"
abbrev pub halt_feature : (Device → ℕ → Device) → Device → Setup → Option Endpoint → Outcome
halt_feature change d s none = refused 13 d
halt_feature change d s (some e) = pick (eqb s.wValue 0 && can_halt e) (done (change d (bit_of e.address))) (refused 14 d)

abbrev pub endpoint_feature : (Device → ℕ → Device) → View → Device → Setup → Outcome
endpoint_feature change v d s = pick (is_endpoint_zero s.wIndex) (refused 14 d) (halt_feature change d s (endpoint_at v d s.wIndex))

-- "Clearing a halt sets the toggle to 0, halted or not"
abbrev pub clear_halt : Device → ℕ → Device
clear_halt d k = with_endpoints d.alternates (clear_bit d.halts k) (clear_bit d.toggles k) d

-- "setting one keeps the toggle"
abbrev pub set_halt : Device → ℕ → Device
set_halt d k = with_endpoints d.alternates (set_bit d.halts k) d.toggles d

unfoldable pub clear_feature : View → Device → Setup → Outcome
clear_feature v d s = by_recipient s (device_feature 0 v d s) (interface_feature v d s) (endpoint_feature clear_halt v d s)

-- SET_FEATURE(TEST_MODE), "On two-set boards" (L7): the feature selector is the whole wValue, the test selector wIndex's high byte
abbrev pub names_test_mode : Bool → Setup → Bool
names_test_mode paired s = paired && eqb s.wValue 2

abbrev pub test_selector : Setup → ℕ
test_selector s = s.wIndex / 256

-- "a selector of 1–5"; "an invalid selector, or a test mode at full speed outside Default, gets 14"; "It waits for the status end"
abbrev pub set_test_mode : Device → Setup → Outcome
set_test_mode d s =
    pick (eqb d.speed at_high_speed && leb 1 (test_selector s) && leb (test_selector s) 5) (done (with_waiting (test_waiting (test_selector s)) d)) (refused 14 d)

abbrev pub set_device_feature : View → Device → Setup → Outcome
set_device_feature v d s = pick (names_test_mode v.paired s) (set_test_mode d s) (device_feature 1 v d s)

unfoldable pub set_feature : View → Device → Setup → Outcome
set_feature v d s = by_recipient s (set_device_feature v d s) (interface_feature v d s) (endpoint_feature set_halt v d s)

-- ---- SET_ADDRESS: "the address waits"
unfoldable pub set_address : View → Device → Setup → Outcome
set_address v d s = done (with_waiting s.wValue d)

-- ---- GET_DESCRIPTOR
abbrev pub is_entry : ℕ → ℕ → ℕ → Entry → Bool
is_entry kind index language e = eqb e.kind kind && eqb e.index index && eqb e.language language

abbrev pub body_at : Option Entry → Located
body_at none = Nowhere
body_at (some e) = Body e.offset e.length

-- the language in which a string is given: "String 0 is given from the set for any wIndex"; a string index "is answered in the first listed
-- language when the asked one is not listed" (L6; 0, in which no string stands, where none is listed)
abbrev pub language_for : View → ℕ → ℕ → ℕ
language_for v index asked = pick (eqb index 0) 0 (pick (member asked v.languages) asked (get_or v.languages 0 0))

-- where a string lies, in the language chosen: "The serial index is answered from the serial block", which is given in each listed language
abbrev pub locate_string : View → ℕ → ℕ → Located
locate_string v index language =
    pick (leb 1 index && eqb index v.serial_index) (pick (member language v.languages) (Serial v.serial_length) Nowhere)
    (body_at (first (is_entry 3 index language) v.entries))

-- the types of which an entry is asked for by its index, in language 0: the device, and in the sets of a pair alone the device_qualifier (6) and
-- the other_speed_configuration (7) (L7)
abbrev pub by_index : ℕ → Bool
by_index kind = eqb kind 1 || eqb kind 6 || eqb kind 7

-- where the descriptor lies that a setup asks for, whatever the record. "Device index must be 0 (13)": the one device entry has index 0;
-- a configuration goes by its index; any other type is nowhere
unfoldable pub locate : View → Setup → Located
locate v s =
    pick (eqb (s.wValue / 256) 3) (locate_string v (s.wValue % 256) (language_for v (s.wValue % 256) s.wIndex))
    (pick (eqb (s.wValue / 256) 2) (body_at (entry_by_index (record { 0 = s.wValue % 256 }) v.entries))
    (pick (by_index (s.wValue / 256)) (body_at (first (is_entry (s.wValue / 256) (s.wValue % 256) 0) v.entries))
    Nowhere))

-- "never more than wLength bytes, from the start of the body"; what is nowhere gives 13
abbrev pub describe : Device → ℕ → Located → Outcome
describe d asked (Body offset size) = gives (SetPart offset (min size asked)) d
describe d asked (Serial size) = gives (SerialPart (min size asked)) d
describe d asked Nowhere = refused 13 d

unfoldable pub get_descriptor : View → Device → Setup → Outcome
get_descriptor v d s = describe d s.wLength (locate v s)

-- ---- GET_CONFIGURATION
unfoldable pub get_configuration : View → Device → Setup → Outcome
get_configuration v d s = gives (OneByte d.configuration) d

-- ---- SET_CONFIGURATION: "0 leads to Address. Either way alternates, halts and toggles become 0, also for the same value again."
unfoldable pub set_configuration : View → Device → Setup → Outcome
set_configuration v d s =
    pick (eqb s.wValue 0) (done (with_configuration in_address 0 d))
    (pick (has_value (record { 0 = s.wValue }) v.configurations) (done (with_configuration in_configured s.wValue d)) (refused 13 d))

-- ---- GET_INTERFACE
unfoldable pub get_interface : View → Device → Setup → Outcome
get_interface v d s = pick (has_interface (selected v d) s.wIndex) (gives (OneByte (get_or d.alternates s.wIndex 0)) d) (refused 13 d)

-- ---- SET_INTERFACE: "clears halts and toggles of all endpoints of that interface, old and new setting, same setting included"
abbrev pub with_setting : View → Device → ℕ → ℕ → Device
with_setting v d j a =
    let es = only (of_either j (get_or d.alternates j 0) a) (selected v d).endpoints in
    with_endpoints (set d.alternates j a) (cleared es d.halts) (cleared es d.toggles) d

unfoldable pub set_interface : View → Device → Setup → Outcome
set_interface v d s = pick (has_setting (selected v d) s.wIndex s.wValue) (done (with_setting v d s.wIndex s.wValue)) (refused 13 d)
