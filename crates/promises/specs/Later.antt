-- What document 02's requests bring, on S and T: runs of events, each with its answers and the record that it leaves, as one computed test over a list.
use Rattle.std.specs.Prelude.{ℕ, ◌≡◌, refl, List, [], ◌∷◌, ◌++◌, map}
use Rattle.sets.specs.Opening.{Board}
use Rattle.records.specs.declared.Device.{Device}
use Rattle.records.specs.Device.{zeros, fresh, with_waiting, with_wakeup, with_power, with_suspended, with_endpoints}
use Rattle.events.specs.declared.Event.{Event}
use Rattle.events.specs.declared.Event.TheVariants.{StatusEnd, BusReset, Halt, PacketPassed, Power, Suspend, Resume, Wake}
use Rattle.events.specs.Answer.{of_serial}
use Rattle.events.specs.Step.{setup_event}
use Rattle.order.specs.Run.{log}
use Rattle.promises.specs.Examples.{computed, S, T}
use Rattle.promises.specs.Rearranged.{Values, values_of, answer_of, next_of, after}
use Rattle.promises.specs.Bench.{done, given, refused, addressed, configured, setup}

-- a run of events on a board, from a record
pub record Run : Type 0 where
  pub board : Board
  pub start : Device
  pub events : List Event

-- what is answered, and the record left
pub record Ending : Type 0 where
  pub answers : List Values
  pub left : Device

abbrev pub ending : Run → Ending
ending r = record { answers = map (λ p. p.1) (log (λ d e. values_of (answer_of r.board d e)) (next_of r.board) r.start r.events); left = after r.board r.start r.events }

pub record Later : Type 0 where
  pub run : Run
  pub ends : Ending

abbrev pub on : Board → Device → List Event → List Values → Device → Later
on b d es vs x = record { run = record { board = b; start = d; events = es }; ends = record { answers = vs; left = x } }

-- GET_STATUS of the device
abbrev status : Event
status = setup 0x8000000000000200

-- ---- L2: D0 is the power source, in Address and in Configured; T's configuration promises a supply of its own, S's does not
power : List Later
power =
    on T addressed (status ∷ Power 1 ∷ status ∷ Power 0 ∷ status ∷ []) (done (0 ∷ 0 ∷ []) ∷ done [] ∷ done (1 ∷ 0 ∷ []) ∷ done [] ∷ done (0 ∷ 0 ∷ []) ∷ []) addressed ∷
    on T configured (status ∷ []) (done (0 ∷ 0 ∷ []) ∷ []) configured ∷
    on S configured (Power 1 ∷ status ∷ []) (done [] ∷ done (1 ∷ 0 ∷ []) ∷ []) (with_power 1 configured) ∷
    -- in Default GET_STATUS stays refused
    on T fresh (Power 1 ∷ status ∷ []) (done [] ∷ refused 11 ∷ []) (with_power 1 fresh) ∷
    -- "Bus reset keeps it"
    on T configured (Power 1 ∷ BusReset 0 ∷ []) (done [] ∷ done [] ∷ []) (with_power 1 fresh) ∷
    -- "the power event leaves every other byte": an address goes on waiting
    on S (with_waiting 5 fresh) (Power 1 ∷ StatusEnd ∷ []) (done [] ∷ done [] ∷ []) (with_power 1 addressed) ∷
    -- "a value above 1 gets 16", and a record with one does not fit
    on S (with_waiting 5 fresh) (Power 2 ∷ Power 255 ∷ []) (refused 16 ∷ refused 16 ∷ []) (with_waiting 5 fresh) ∷
    on S (with_power 2 fresh) (Power 2 ∷ BusReset 0 ∷ []) (refused 8 ∷ refused 8 ∷ []) (with_power 2 fresh) ∷ []

-- ---- L6: T lists German, then English; S lists none
-- a part of the serial block
abbrev of_block : ℕ → Values
of_block size = record { number = 0; bytes = []; part = record { block = of_serial; offset = 0; length = size } }

language : List Later
language =
    -- string 2 in German, in English; in Italian and in language 0, which are not listed: in German
    on T fresh (setup 0x800602030704FF00 ∷ setup 0x800602030904FF00 ∷ setup 0x800602031004FF00 ∷ setup 0x800602030000FF00 ∷ [])
    (given 195 4 ∷ given 203 4 ∷ given 195 4 ∷ given 195 4 ∷ []) fresh ∷
    -- string 5 has no entry in German: "stays 13" there, and in Italian
    on T fresh (setup 0x800605030704FF00 ∷ setup 0x800605030904FF00 ∷ setup 0x800605031004FF00 ∷ []) (refused 13 ∷ given 207 2 ∷ refused 13 ∷ []) fresh ∷
    -- "or the serial index"
    on T fresh (setup 0x800603030904FF00 ∷ setup 0x800603031004FF00 ∷ []) (of_block 4 ∷ of_block 4 ∷ []) fresh ∷
    -- string 0 for any wIndex, and an index that does not exist
    on T fresh (setup 0x800600031004FF00 ∷ setup 0x800609031004FF00 ∷ []) (given 185 6 ∷ refused 13 ∷ []) fresh ∷
    on S fresh (setup 0x800601030904FF00 ∷ setup 0x800600030904FF00 ∷ []) (refused 13 ∷ refused 13 ∷ []) fresh ∷ []

-- ---- L12: a device that sleeps
abbrev asleep : Device → Device
asleep d = with_suspended 1 d

sleep : List Later
sleep =
    -- "Suspend sets it; resume, bus reset .. clear it", in every state
    on T fresh (Suspend ∷ Suspend ∷ []) (done [] ∷ done [] ∷ []) (asleep fresh) ∷
    on T configured (Suspend ∷ Resume ∷ Resume ∷ []) (done [] ∷ done [] ∷ done [] ∷ []) configured ∷
    on T (asleep (with_power 1 configured)) (BusReset 0 ∷ []) (done [] ∷ []) (with_power 1 fresh) ∷
    -- "any setup past 7 to 9", refused or not; a setup of 7 bytes does not
    on T (asleep configured) (status ∷ []) (done (0 ∷ 0 ∷ []) ∷ []) configured ∷
    on T (asleep (with_waiting 9 addressed)) (setup 0x8006000600000A00 ∷ []) (refused 13 ∷ []) addressed ∷
    on T (asleep (with_waiting 9 addressed)) (setup_event (0x80 ∷ 0x06 ∷ []) ∷ []) (refused 9 ∷ []) (asleep (with_waiting 9 addressed)) ∷
    -- "any accepted packet passed event"; "a function halt does not", nor a refused packet, nor a status end, nor a power event
    on T (asleep configured) (PacketPassed 0x81 ∷ []) (done [] ∷ []) (with_endpoints zeros 0 0x20000 configured) ∷
    on T (asleep configured) (PacketPassed 0x83 ∷ StatusEnd ∷ Power 0 ∷ Power 2 ∷ Halt 0x81 ∷ [])
    (refused 16 ∷ done [] ∷ done [] ∷ refused 16 ∷ done [] ∷ []) (asleep (with_endpoints zeros 0x20000 0 configured)) ∷
    -- "A wake event succeeds exactly if the device is suspended and wakeup is on, and changes nothing by itself"
    on T (asleep (with_wakeup 1 configured)) (Wake ∷ Wake ∷ []) (done [] ∷ done [] ∷ []) (asleep (with_wakeup 1 configured)) ∷
    on T (asleep configured) (Wake ∷ []) (refused 19 ∷ []) (asleep configured) ∷
    on T (with_wakeup 1 configured) (Wake ∷ []) (refused 19 ∷ []) (with_wakeup 1 configured) ∷
    on T (with_suspended 2 fresh) (Resume ∷ []) (refused 8 ∷ []) (with_suspended 2 fresh) ∷ []

pub examples : List Later
unfolding power language sleep
examples = power ++ language ++ sleep

pub later : map (λ l. ending l.run) examples ≡ map (λ l. l.ends) examples
unfolding computed examples
later = refl
