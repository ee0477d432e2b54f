-- The premises of the theorems over runs hold of a board that lends two sets: the pair, opened, reset to high speed, its device descriptor read from
-- the high-speed set, and test mode 4 entered, in which a setup gets 17.
use Rattle.std.specs.Prelude.{ℕ, ◌≡◌, refl, List, [], ◌∷◌, replicate}
use Rattle.promises.specs.Examples.{bytes, computed}
use Rattle.promises.specs.Pairs.{pair, bytes_pair}
use Rattle.promises.specs.Refusal.{fresh_image}
use Rattle.board.specs.Exports.{Opens, Spot, Spots, spots_two}
use Rattle.board.specs.Runs.{Call, record_event, Given, handed, Runs, runs, decided, Refuses, refusals, NotEight, Throughout, never_eight_after}
use Rattle.board.specs.InhabitedRuns.{start, set_spot, serial_spot}

pub opens_two : Opens pair start 0 fresh_image
unfolding computed
opens_two = record { number = refl; leaves = refl }

-- where the high-speed set lies
abbrev pub high_spot : Spot
high_spot = record { block = 3; offset = 0 }

abbrev pub lie_two : Spots
lie_two = spots_two set_spot high_spot serial_spot

abbrev get_device : List ℕ
get_device = bytes 8 0x8006000100004000

abbrev test_four : List ℕ
test_four = bytes 8 0x0003020000040000

-- hk_two_event: a reset to 1, GET_DESCRIPTOR(device), SET_FEATURE(TEST_MODE) 4, its status end, GET_DESCRIPTOR(device)
abbrev pub testing : List Call
testing = record_event 2 1 [] ∷ record_event 0 0 get_device ∷ record_event 0 0 test_four ∷ record_event 1 0 [] ∷ record_event 0 0 get_device ∷ []

-- the descriptor lies in the high-speed set; an answer without a part, and 17, have the full-speed set's first 0 bytes
abbrev pub given : List Given
given =
    handed 0 (0 ∷ 0 ∷ []) 0 [] set_spot ∷
    handed 0 (0 ∷ 0 ∷ []) 0 (bytes 18 0x120100020000004034127856000100000001) (record { block = 3; offset = 36 }) ∷
    handed 0 (0 ∷ 0 ∷ []) 0 [] set_spot ∷ handed 0 (0 ∷ 0 ∷ []) 0 [] set_spot ∷ handed 17 (0 ∷ 0 ∷ []) 0 [] set_spot ∷ []

abbrev pub in_test : List ℕ
in_test = 0 ∷ 0 ∷ 255 ∷ 0 ∷ 0 ∷ 0 ∷ 0 ∷ 65 ∷ replicate 24 0

pub tested : Runs pair lie_two fresh_image testing given in_test
unfolding computed
tested = runs pair lie_two fresh_image testing

-- whatever a device's calls give and leave that meets the statements, it is this
pub tested_decided : {gs : List Given} {last : List ℕ} → Runs pair lie_two fresh_image testing gs last → (gs ≡ given) × (last ≡ in_test)
tested_decided r = decided pair lie_two r tested

pub tested_refuses : Throughout (Refuses pair lie_two) tested
tested_refuses = refusals pair lie_two tested

pub tested_not_eight : Throughout NotEight tested
tested_not_eight = never_eight_after pair lie_two bytes_pair refl opens_two tested
