-- U2 where address and attributes tell too little: a board whose interface 0 has endpoint 81 in both settings, with 8 bytes in setting 0 and 64 in setting 1.
use Rattle.std.specs.Prelude.{ℕ, ◌<◌, ◌≡◌, refl, true, set}
use Rattle.std.proofs.Common.{arith}
use mathlib.Core.List.{List, [], ◌∷◌, flat_map}
use Rattle.octets.specs.Sentences.{only}
use Rattle.sets.specs.Opening.{Board, BytesOf}
use Rattle.sets.specs.View.{accepted}
use Rattle.records.specs.declared.Device.{Device}
use Rattle.records.specs.Device.{zeros, with_endpoints, Sized}
use Rattle.records.specs.Image.{image_of}
use Rattle.records.specs.Fits.{fits_on}
use Rattle.promises.specs.Examples.{computed, board, piece, configuration, interface, endpoint, device}
use Rattle.promises.specs.Inhabited.{octets, configured}
use Rattle.promises.specs.Keeps.{image_fits}
use Rattle.board.specs.Exports.{Spot, GivesEndpoint}
use Rattle.board.specs.InhabitedRuns.{lie}
use Rattle.board.specs.CurrentGroups.{PartGiven, placed, grouped_at, endpoints_exactly, endpoints_given, endpoints_behind}

-- device, configuration 1 of one interface: setting 0 with endpoint 81 of 8 bytes, setting 1 with endpoint 81 of 64 bytes, both interrupt
abbrev pub two_sizes : Board
two_sizes =
    board (piece 1 0 0 (device 255 0 64 0 0 0 1) ∷
    piece 2 0 0 (configuration 1 1 0 0x80 50 (interface 0 0 1 0 ∷ endpoint 0x81 3 8 10 ∷ interface 0 1 1 0 ∷ endpoint 0x81 3 64 10 ∷ [])) ∷ []) []

abbrev pub in_setting_one : Device
in_setting_one = with_endpoints (set zeros 0 1) 0 0 configured

pub two_sizes_accepted : accepted two_sizes ≡ true
unfolding computed
two_sizes_accepted = refl

pub two_sizes_bytes : BytesOf two_sizes
unfolding computed
two_sizes_bytes = (octets two_sizes.set refl, tt)

pub setting_one_fits : fits_on two_sizes in_setting_one ≡ true
unfolding computed
setting_one_fits = refl

setting_one_sized : Sized in_setting_one
setting_one_sized = record { sixteen = refl; halts-fit = omega arith; toggles-fit = omega arith }

abbrev part_given : List ℕ → Spot → PartGiven
part_given bytes spot = record { bytes = bytes; spot = spot }

-- whatever meets the statement gives the descriptor of 64 bytes, the set's last 7 bytes, and then 16: setting 0's, of the same address and attributes, 16 bytes before it, it is not
pub gives_its_own : (number : ℕ → ℕ) (shown : ℕ → List ℕ) (spot : ℕ → Spot) → ((k : ℕ) → k < 256 → GivesEndpoint two_sizes lie (image_of in_setting_one) k (number k) (shown k) (spot k))
    → (part_given (shown 0) (spot 0) ∷ [] ≡ part_given (endpoint 0x81 3 64 10) (record { block = 1; offset = 72 }) ∷ []) × (number 0 ≡ 0) × (number 1 ≡ 16)
unfolding computed only flat_map placed grouped_at
gives_its_own number shown spot gives =
    let fit = image_fits two_sizes two_sizes_bytes two_sizes_accepted in_setting_one (setting_one_fits, setting_one_sized) in (
      endpoints_exactly two_sizes two_sizes_bytes two_sizes_accepted fit lie number shown spot gives,
      endpoints_given two_sizes two_sizes_bytes two_sizes_accepted fit lie number shown spot gives 0 (omega arith),
      endpoints_behind two_sizes two_sizes_bytes two_sizes_accepted fit lie number shown spot gives 1 (omega arith) (omega arith),
    )
