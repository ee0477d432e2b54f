-- A host's script: what the host does, and what it must see. A script is played where each of its events is answered as it says.
use Rattle.std.specs.Prelude.{ℕ, ◌+◌, ◌*◌, ◌≡◌, List, [], ◌++◌, map, true, false}
use Rattle.sets.specs.Opening.{Board}
use Rattle.records.specs.declared.Device.{Device}
use Rattle.records.specs.Device.{in_test_mode, Sized}
use Rattle.records.specs.Fits.{fits_on}
use Rattle.events.specs.declared.Event.{Event}
use Rattle.events.specs.declared.Event.TheVariants.{Request, StatusEnd, BusReset}
use Rattle.events.specs.Answer.{Answer, number_of, bytes_of, part_of, bytes_at}
use Rattle.events.specs.Step.{step}
use Rattle.order.specs.Run.{log}
use Rattle.promises.specs.Rearranged.{next_of, after}

-- ---- what a host sees of an event: document 01's number, and the bytes that it reads: those handed back, or those of the part
pub record Seen : Type 0 where
  pub number : ℕ
  pub reads : List ℕ

-- `speed` is byte 7 of the record that the event found: it says which set is in use
abbrev pub seen_of : Board → ℕ → Answer → Seen
seen_of b speed a = record { number = number_of a; reads = bytes_of a ++ bytes_at b speed (part_of a) }

abbrev pub sees : Board → Device → Event → Seen
sees b d e = seen_of b d.speed (step b d e).answer

-- ---- a line of a script: the event, and what the host must see
abbrev pub Line : Type 0
Line = Event × Seen

abbrev pub line : Event → Seen → Line
line e s = (e, s)

abbrev pub does : List Line → List Event
does = map (λ (l : Line). l.0)

-- answered 0, and the host reads this; and nothing
abbrev pub reading : List ℕ → Seen
reading bytes = record { number = 0; reads = bytes }

abbrev pub done : Seen
done = reading []

-- ---- a script is played on a board from a record: the log of its events is the script itself, line for line, and it ends in the record `last`
pub record Plays (b : Board) (d : Device) (script : List Line) (last : Device) : Type 0 where
  pub heard : log (sees b) (next_of b) d (does script) ≡ script
  pub ends : after b d (does script) ≡ last

-- ---- from where: a record that fits, as every one does that the library's own calls leave, in no entered test mode, which only power-on ends
pub record Ready (b : Board) (d : Device) : Type 0 where
  pub fit : fits_on b d ≡ true
  pub sized : Sized d
  pub calm : in_test_mode d ≡ false

-- ---- what a host does
abbrev pub ask : ℕ → ℕ → ℕ → ℕ → ℕ → Event
ask kind code value index size = Request (record { bmRequestType = kind; bRequest = code; wValue = value; wIndex = index; wLength = size })

-- GET_DESCRIPTOR of a type and an index, in a language (0 but for strings), at most `size` bytes
abbrev pub get_descriptor : ℕ → ℕ → ℕ → ℕ → Event
get_descriptor kind index language size = ask 0x80 0x06 (256 * kind + index) language size

abbrev pub set_address : ℕ → Event
set_address a = ask 0x00 0x05 a 0 0

abbrev pub set_configuration : ℕ → Event
set_configuration value = ask 0x00 0x09 value 0 0

abbrev pub set_interface : ℕ → ℕ → Event
set_interface interface alternate = ask 0x01 0x0B alternate interface 0

abbrev pub get_interface : ℕ → Event
get_interface interface = ask 0x81 0x0A 0 interface 1

-- SET_FEATURE and CLEAR_FEATURE of ENDPOINT_HALT, and GET_STATUS, of an endpoint's address
abbrev pub set_halt : ℕ → Event
set_halt address = ask 0x02 0x03 0 address 0

abbrev pub clear_halt : ℕ → Event
clear_halt address = ask 0x02 0x01 0 address 0

abbrev pub get_endpoint_status : ℕ → Event
get_endpoint_status address = ask 0x82 0x00 0 address 2

abbrev pub bus_reset : ℕ → Event
bus_reset speed = BusReset speed

abbrev pub status_end : Event
status_end = StatusEnd
