-- Demand 3's premises hold of a board that lends two sets, with a test mode waiting: two interfaces' setups in either order drop it, and end the same.
use Rattle.std.specs.Prelude.{ℕ, zero, suc, ◌≡◌, refl, List, [], ◌∷◌, true, set}
use Rattle.std.proofs.Common.{arith, ne_eqb}
use Rattle.sets.specs.Opening.{Board, lent_two, BytesOf}
use Rattle.sets.specs.View.{accepted}
use Rattle.records.specs.declared.Device.{Device}
use Rattle.records.specs.Device.{zeros, with_waiting, with_speed, with_endpoints, Sized}
use Rattle.records.specs.Fits.{fits_on}
use Rattle.events.specs.declared.Event.{Event}
use Rattle.promises.specs.Examples.{computed, bytes}
use Rattle.promises.specs.Bench.{configured, setup}
use Rattle.promises.specs.Inhabited.{octets}
use Rattle.promises.specs.Rearranged.{Rearranged, events_of, after, heard}
use Rattle.promises.specs.Order.{order}

-- ---- two interfaces without endpoints, the second with two settings: at either speed the same set
abbrev pub twin : List ℕ
twin = bytes 136 0x88000400_0100000024001200_0200000036002400_060000005A000A00_0700000064002400_120100020000004034127856000100000001_090224000201008032_0904000000FF000000_0904010000FF000000_0904010100FF000000_0A060002000000400100_090724000201008032_0904000000FF000000_0904010000FF000000_0904010100FF000000

abbrev pub twins : Board
twins = lent_two twin twin []

pub accepted_twins : accepted twins ≡ true
unfolding computed
accepted_twins = refl

pub bytes_twins : BytesOf twins
unfolding computed
bytes_twins = (octets twin refl, octets twin refl)

-- Configured at high speed, test mode 1 waiting
abbrev pub test_waiting : Device
test_waiting = with_waiting 129 (with_speed 1 configured)

pub test_fits : fits_on twins test_waiting ≡ true
unfolding computed
test_fits = refl

pub test_sized : Sized test_waiting
test_sized = record { sixteen = refl; halts-fit = omega arith; toggles-fit = omega arith }

-- SET_INTERFACE of each
abbrev pub one_order : List Event
one_order = setup 0x010B000000000000 ∷ setup 0x010B010001000000 ∷ []

abbrev pub other_order : List Event
other_order = setup 0x010B010001000000 ∷ setup 0x010B000000000000 ∷ []

same : (k : ℕ) → events_of twins test_waiting k one_order ≡ events_of twins test_waiting k other_order
unfolding computed
same zero = refl
same (suc zero) = refl
same (suc (suc k)) = rw (ne_eqb 0 (suc (suc k)) (λ p. omega arith), ne_eqb 1 (suc (suc k)) (λ p. omega arith)) refl

pub rearranged : Rearranged twins test_waiting one_order other_order
unfolding computed
rearranged = record { one = refl; other = refl; same = same }

pub ends_same : (after twins test_waiting one_order ≡ after twins test_waiting other_order) × ((k : ℕ) → heard twins test_waiting k one_order ≡ heard twins test_waiting k other_order)
ends_same = order twins bytes_twins accepted_twins test_waiting test_sized test_fits one_order other_order rearranged

-- interface 1 in setting 1, and nothing waits any more
pub the_end : after twins test_waiting other_order ≡ with_endpoints (set zeros 1 1) 0 0 (with_speed 1 configured)
unfolding computed
the_end = refl
