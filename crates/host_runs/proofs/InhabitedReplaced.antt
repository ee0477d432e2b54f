-- Replacement at work beside the titrator (Inhabited): the bench set S; a pair of sets with two interfaces, at high speed; and the second of two titrators at ports.
use Rattle.octets.proofs.Vocabulary.{◌≡◌, refl, ℕ, List, [], ◌∷◌, ◌++◌, false, arith}
use Rattle.sets.specs.Opening.{Board}
use Rattle.records.specs.declared.Device.{Device}
use Rattle.records.specs.Device.{fresh}
use Rattle.records.specs.Image.{device_of, image_of}
use Rattle.order.specs.Run.{run}
use Rattle.promises.specs.Examples.{computed, bytes, S, T}
use Rattle.promises.specs.Inhabited.{bytes_s, bytes_t}
use Rattle.promises.specs.InhabitedPairs.{twins, bytes_twins}
use Rattle.promises.specs.Refusal.{fresh_image}
use Rattle.promises.specs.Struck.{PageRun}
use Rattle.board.specs.Exports.{Opens, Spots, record_at}
use Rattle.board.specs.Runs.{Call, Given, setup, tell, record_event, event_of, runs, leaves, halt, packet_passed}
use Rattle.board.specs.Unnoticed.{kept, kept_of, Alike, QuietRun}
use Rattle.board.specs.Records.{as_images}
use Rattle.board.specs.InhabitedRuns.{start, configuring, lie}
use Rattle.board.specs.InhabitedTwo.{lie_two}
use Rattle.board.specs.InhabitedPorts.{opened, fresh_sized}
use Rattle.board.specs.InhabitedPorts as ports
use Rattle.board.specs.Ports.{PortCall, RowRuns, calls_at}
use Rattle.board.proofs.PortRuns.{port_run}
use Rattle.host_runs.proofs.Replaced.{replaced_by_page, replaced}
use Rattle.host_runs.proofs.AtPorts.{replaced_at_ports}

-- ---- S has interface 0 alone: its driver lets a packet pass at 81, or halts 81 and is refused the packet; what the whole device is asked is given the same, here GET_CONFIGURATION
opens_s : Opens S start 0 fresh_image
unfolding computed
opens_s = record { number = refl; leaves = refl }

abbrev get_configuration : Call
get_configuration = setup (bytes 8 0x8008000000000100)

abbrev passing : List Call
passing = configuring ++ tell (packet_passed 0x81) ∷ get_configuration ∷ []

abbrev halting : List Call
halting = configuring ++ tell (halt 0x81) ∷ tell (packet_passed 0x81) ∷ get_configuration ∷ []

-- interface 0's are struck out, for an interface that is not 0
left_s : (kept S lie 1 fresh_image passing ≡ configuring ++ get_configuration ∷ []) × (kept S lie 1 fresh_image halting ≡ configuring ++ get_configuration ∷ [])
unfolding computed
left_s = (refl, refl)

same_left_s : kept S lie 1 fresh_image passing ≡ kept S lie 1 fresh_image halting
unfolding computed
same_left_s = refl

quiet_one : QuietRun S lie 1 fresh_image passing
unfolding computed
quiet_one = (λ p. (refl, λ q. refl), (λ p. (refl, λ q. refl), (λ p. (refl, λ q. refl), (λ p. (refl, λ q. refl), (λ p. (refl, λ q. refl), tt)))))

quiet_two : QuietRun S lie 1 fresh_image halting
unfolding computed
quiet_two = (λ p. (refl, λ q. refl), (λ p. (refl, λ q. refl), (λ p. (refl, λ q. refl), (λ p. (refl, λ q. refl), (λ p. (refl, λ q. refl), (λ p. (refl, λ q. refl), tt))))))

pub replaced_s : (kept_of S lie 1 (runs S lie fresh_image passing) ≡ kept_of S lie 1 (runs S lie fresh_image halting))
    × Alike S lie 1 (run (leaves S lie) fresh_image passing) (run (leaves S lie) fresh_image halting)
replaced_s = replaced S lie 1 bytes_s start fresh_image refl opens_s passing halting _ _ _ _ (runs S lie fresh_image passing) quiet_one (runs S lie fresh_image halting) quiet_two same_left_s

-- ---- the pair `twins`, reset to high speed and configured: interface 0's driver sets its setting, or asks for it, and then for one that is not there; interface 1's SET_INTERFACE 1
-- and GET_INTERFACE are given the same
opens_twins : Opens twins start 0 fresh_image
unfolding computed
opens_twins = record { number = refl; leaves = refl }

abbrev asks : ℕ → Call
asks bits = record_event 0 0 (bytes 8 bits)

abbrev at_high : List Call
at_high = record_event 2 1 [] ∷ asks 0x0005050000000000 ∷ record_event 1 0 [] ∷ asks 0x0009010000000000 ∷ []

abbrev setting : List Call
setting = at_high ++ asks 0x010B000000000000 ∷ asks 0x010B010001000000 ∷ asks 0x810A000001000100 ∷ []

abbrev asking : List Call
asking = at_high ++ asks 0x810A000000000100 ∷ asks 0x010B010001000000 ∷ asks 0x010B050000000000 ∷ asks 0x810A000001000100 ∷ []

same_left_twins : kept twins lie_two 1 fresh_image setting ≡ kept twins lie_two 1 fresh_image asking
unfolding computed
same_left_twins = refl

abbrev PageTwins : List Call → Type 0
PageTwins cs = PageRun twins 1 device_of event_of (leaves twins lie_two) false fresh_image cs

page_setting : PageTwins setting
unfolding computed
page_setting = (λ p. (refl, λ q. refl), (λ p. (refl, λ q. refl), (λ p. (refl, λ q. refl), (λ p. (refl, λ q. refl), (λ p. (refl, λ q. refl), (λ p. (refl, λ q. refl), (λ p. (refl, λ q. refl), tt)))))))

page_asking : PageTwins asking
unfolding computed
page_asking = (λ p. (refl, λ q. refl), (λ p. (refl, λ q. refl), (λ p. (refl, λ q. refl), (λ p. (refl, λ q. refl), (λ p. (refl, λ q. refl), (λ p. (refl, λ q. refl), (λ p. (refl, λ q. refl), (λ p. (refl, λ q. refl), tt))))))))

pub replaced_twins : (kept_of twins lie_two 1 (runs twins lie_two fresh_image setting) ≡ kept_of twins lie_two 1 (runs twins lie_two fresh_image asking))
    × Alike twins lie_two 1 (run (leaves twins lie_two) fresh_image setting) (run (leaves twins lie_two) fresh_image asking)
replaced_twins = replaced_by_page twins lie_two 1 bytes_twins start fresh_image refl opens_twins setting asking _ _ _ _ (runs twins lie_two fresh_image setting) page_setting
    (runs twins lie_two fresh_image asking) page_asking same_left_twins

-- ---- two titrators at ports: at port 1 interface 0's driver lets a packet pass at 81, or halts 02, with other calls at port 0: interface 1's are given the same
abbrev titrators : ℕ → Board
titrators k = T

abbrev spots : ℕ → Spots
spots k = lie

abbrev at : ℕ → ℕ → ℕ → PortCall
at port kind value = record { port = port; kind = kind; value = value; setup = [] }

abbrev ask : ℕ → ℕ → PortCall
ask port bits = record { port = port; kind = 0; value = 0; setup = bytes 8 bits }

abbrev pub other_run : List PortCall
other_run = ask 1 0x0005050000000000 ∷ at 1 1 0 ∷ ask 1 0x0009010000000000 ∷ at 0 2 0 ∷ at 1 3 0x02 ∷ ask 1 0x010B010001000000 ∷ at 1 3 0x85 ∷ []

same_left_at_port : kept T lie 1 (image_of fresh) (calls_at 1 ports.whole_run) ≡ kept T lie 1 (image_of fresh) (calls_at 1 other_run)
unfolding computed
same_left_at_port = refl

abbrev PageAtPort : List PortCall → Type 0
PageAtPort cs = PageRun T 1 device_of event_of (leaves T lie) false (image_of fresh) (calls_at 1 cs)

page_whole : PageAtPort ports.whole_run
unfolding computed
page_whole = (λ p. (refl, λ q. refl), (λ p. (refl, λ q. refl), (λ p. (refl, λ q. refl), (λ p. (refl, λ q. refl), (λ p. (refl, λ q. refl), (λ p. (refl, λ q. refl), tt))))))

page_other : PageAtPort other_run
unfolding computed
page_other = (λ p. (refl, λ q. refl), (λ p. (refl, λ q. refl), (λ p. (refl, λ q. refl), (λ p. (refl, λ q. refl), (λ p. (refl, λ q. refl), (λ p. (refl, λ q. refl), tt))))))

pub replaced_at_one : {gs hs : List Given} {last other : List Device} (one : RowRuns titrators spots opened ports.whole_run gs last) (two : RowRuns titrators spots opened other_run hs other)
    → (kept_of T lie 1 (as_images T lie bytes_t fresh_sized (port_run titrators spots 1 (omega arith) one)).0 ≡ kept_of T lie 1 (as_images T lie bytes_t fresh_sized (port_run titrators spots 1 (omega arith) two)).0)
    × Alike T lie 1 (image_of (record_at last 1)) (image_of (record_at other 1))
replaced_at_one {gs} {hs} {last} {other} one two = replaced_at_ports titrators spots 1 1 bytes_t start opened refl fresh_sized (omega arith) ports.opens ports.whole_run other_run gs hs last other
    one page_whole two page_other same_left_at_port
