-- Request L9's premises hold of something, and none can be left out, from power-on: the titrator T, with every kind of event in the run; the pair, with a test mode
-- that waits; a run in which a struck setup drops it, and one in which a struck packet ends the sleep.
use Rattle.std.specs.Prelude.{◌≡◌, refl, List, [], ◌∷◌, ◌++◌, false}
use Rattle.std.proofs.lemmas.Bool.{false≢true}
use Rattle.records.specs.declared.Device.{Device}
use Rattle.records.specs.Device.{fresh}
use Rattle.events.specs.Answer.{Answer, Done, SetPart, Refused}
use Rattle.events.specs.declared.Event.{Event}
use Rattle.events.specs.declared.Event.TheVariants.{StatusEnd, BusReset, Halt, PacketPassed, Power, Suspend, Resume, Wake}
use Rattle.events.specs.Step.{setup_event}
use Rattle.order.specs.Run.{log}
use Rattle.order.specs.Strike.{strike, left}
use Rattle.promises.specs.Examples.{computed, T}
use Rattle.promises.specs.Bench.{setup}
use Rattle.promises.specs.Inhabited.{accepted_t, bytes_t}
use Rattle.promises.specs.Rearranged.{answer_of, next_of}
use Rattle.promises.specs.Order.{struck_for, Unnoticed}
use Rattle.promises.specs.Pairs.{pair, accepted_pair, bytes_pair}
use Rattle.promises.specs.Struck.{PageRun, struck_by_page}

-- ---- T: interface 0's packet and halt at 81 and its GET_STATUS are struck; what is left is interface 1's, and the device's
abbrev pub whole : List Event
whole =
    BusReset 0 ∷ Power 1 ∷ setup 0x0005050000000000 ∷ StatusEnd ∷ setup 0x0009010000000000 ∷ StatusEnd ∷ PacketPassed 0x81 ∷ setup 0x010B010001000000 ∷
    Halt 0x81 ∷ Halt 0x85 ∷ setup 0x8200000081000200 ∷ setup 0x8200000085000200 ∷ setup_event [] ∷ Suspend ∷ Wake ∷ Resume ∷ StatusEnd ∷ []

pub kept : strike (next_of T) (struck_for T 1) fresh whole
    ≡ BusReset 0 ∷ Power 1 ∷ setup 0x0005050000000000 ∷ StatusEnd ∷ setup 0x0009010000000000 ∷ StatusEnd ∷ setup 0x010B010001000000 ∷
    Halt 0x85 ∷ setup 0x8200000085000200 ∷ setup_event [] ∷ Suspend ∷ Wake ∷ Resume ∷ StatusEnd ∷ []
unfolding computed
kept = refl

page : PageRun T 1 (λ (d : Device). d) (λ (e : Event). e) (next_of T) false fresh whole
unfolding computed
page = (
  λ p. (refl, λ q. refl),
  (
    λ p. (refl, λ q. refl),
    (
      λ p. (refl, λ q. refl),
      (
        λ p. (refl, λ q. refl),
        (
          λ p. (refl, λ q. refl),
          (
            λ p. (refl, λ q. refl),
            (
              λ p. (refl, λ q. refl),
              (
                λ p. (refl, λ q. refl),
                (
                  λ p. (refl, λ q. refl),
                  (
                    λ p. (refl, λ q. refl),
                    (
                      λ p. (refl, λ q. refl),
                      (
                        λ p. (refl, λ q. refl),
                        (λ p. (refl, λ q. refl), (λ p. (refl, λ q. refl), (λ p. absurd (false≢true p), (λ p. absurd (false≢true p), (λ p. (refl, λ q. refl), tt))))),
                      ),
                    ),
                  ),
                ),
              ),
            ),
          ),
        ),
      ),
    ),
  ),
)

pub titrator : Unnoticed T 1 fresh whole
titrator = struck_by_page T bytes_t accepted_t 1 whole page

-- ---- the pair: it is opened, reset to high speed and configured; k is an interface that it has not, so all of interface 0's events are struck
abbrev configuring : List Event
configuring = BusReset 1 ∷ setup 0x0005050000000000 ∷ StatusEnd ∷ setup 0x0009010000000000 ∷ StatusEnd ∷ []

abbrev test_mode : Event
test_mode = setup 0x0003020000010000

-- with a test mode waiting: before the request a setup is struck, and while it waits a packet and a halt
abbrev pub testing : List Event
testing = configuring ++ setup 0x8100000000000200 ∷ test_mode ∷ PacketPassed 0x81 ∷ Halt 0x81 ∷ StatusEnd ∷ setup 0x8006000100004000 ∷ []

pub kept_in_test : strike (next_of pair) (struck_for pair 1) fresh testing ≡ configuring ++ test_mode ∷ StatusEnd ∷ setup 0x8006000100004000 ∷ []
unfolding computed
kept_in_test = refl

page_in_test : PageRun pair 1 (λ (d : Device). d) (λ (e : Event). e) (next_of pair) false fresh testing
unfolding computed
page_in_test = (
  λ p. (refl, λ q. refl),
  (
    λ p. (refl, λ q. refl),
    (
      λ p. (refl, λ q. refl),
      (
        λ p. (refl, λ q. refl),
        (
          λ p. (refl, λ q. refl),
          (
            λ p. (refl, λ q. refl),
            (
              λ p. (refl, λ q. refl),
              (λ p. (refl, λ q. absurd (false≢true q)), (λ p. (refl, λ q. absurd (false≢true q)), (λ p. (refl, λ q. absurd (false≢true q)), (λ p. (refl, λ q. refl), tt)))),
            ),
          ),
        ),
      ),
    ),
  ),
)

pub test_waits : Unnoticed pair 1 fresh testing
test_waits = struck_by_page pair bytes_pair accepted_pair 1 testing page_in_test

-- ---- without L7's premise it is false: GET_STATUS of interface 0 is struck while the test mode waits. In the whole run it drops the test mode; in the other the
-- status end enters it, and the setup that is left gets 17
abbrev dropping : List Event
dropping = configuring ++ test_mode ∷ setup 0x8100000000000200 ∷ StatusEnd ∷ setup 0x8006000100004000 ∷ []

abbrev configured_as : List (Event × Answer)
configured_as = (BusReset 1, Done) ∷ (setup 0x0005050000000000, Done) ∷ (StatusEnd, Done) ∷ (setup 0x0009010000000000, Done) ∷ (StatusEnd, Done) ∷ []

pub noticed_in_test : (left (answer_of pair) (next_of pair) (struck_for pair 1) fresh dropping
    ≡ configured_as ++ (test_mode, Done) ∷ (StatusEnd, Done) ∷ (setup 0x8006000100004000, SetPart 36 18) ∷ [])
    × (log (answer_of pair) (next_of pair) fresh (strike (next_of pair) (struck_for pair 1) fresh dropping)
    ≡ configured_as ++ (test_mode, Done) ∷ (StatusEnd, Done) ∷ (setup 0x8006000100004000, Refused 17) ∷ [])
unfolding computed
noticed_in_test = (refl, refl)

-- ---- without L12's premise it is false: on T interface 0's packet ends the sleep, so that the wake which is left is refused in the whole run alone
abbrev waking : List Event
waking = setup 0x0005050000000000 ∷ StatusEnd ∷ setup 0x0009010000000000 ∷ setup 0x0003010000000000 ∷ Suspend ∷ []

abbrev asleep : List Event
asleep = waking ++ PacketPassed 0x81 ∷ Wake ∷ []

abbrev waking_as : List (Event × Answer)
waking_as = (setup 0x0005050000000000, Done) ∷ (StatusEnd, Done) ∷ (setup 0x0009010000000000, Done) ∷ (setup 0x0003010000000000, Done) ∷ (Suspend, Done) ∷ []

pub noticed_asleep : (left (answer_of T) (next_of T) (struck_for T 1) fresh asleep ≡ waking_as ++ (Wake, Refused 19) ∷ [])
    × (log (answer_of T) (next_of T) fresh (strike (next_of T) (struck_for T 1) fresh asleep) ≡ waking_as ++ (Wake, Done) ∷ [])
unfolding computed
noticed_asleep = (refl, refl)
