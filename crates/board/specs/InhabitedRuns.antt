-- The premises of the theorems over runs hold of something: the titrator T, opened, addressed and configured, and two orders of its two
-- interfaces' calls.
use Rattle.std.specs.Prelude.{ℕ, zero, suc, ◌≡◌, refl, List, [], ◌∷◌, ◌++◌, replicate}
use Rattle.std.proofs.Common.{arith, ne_eqb}
use Rattle.std.proofs.Math.Option.{some}
use Rattle.std.proofs.Math.ListN.{get_elem?}
use Rattle.octets.specs.Sentences.{only}
use Rattle.order.specs.Run.{own}
use Rattle.order.specs.Places.{Permuted}
use Rattle.order.proofs.Places.{places-own}
use Rattle.promises.specs.Examples.{bytes, computed, T}
use Rattle.promises.specs.Inhabited.{accepted_t, bytes_t}
use Rattle.promises.specs.Refusal.{fresh_image}
use Rattle.promises.specs.InhabitedOrder.{configured_image, configured_fit}
use Rattle.board.specs.Exports.{Opens, Spot, Spots, spots}
use Rattle.board.specs.Runs.{Call, setup, tell, status_end, halt, packet_passed, Given, number, handed, Runs, runs, decided, Refuses, refusals, NotEight, Throughout, never_eight_after}
use Rattle.board.specs.Order.{concerns_this, Reordered, told, order_after_opening}
use Rattle.board.specs.Places.{whom, order_places}
use Rattle.board.specs.Unnoticed.{kept, kept_of, Alike, unnoticed_by_page}

-- ---- any 32 bytes, opened; then SET_ADDRESS 5, its status end, SET_CONFIGURATION 1
abbrev pub start : List ℕ
start = replicate 32 170

pub opens : Opens T start 0 fresh_image
unfolding computed
opens = record { number = refl; leaves = refl }

abbrev pub configuring : List Call
configuring = setup (bytes 8 0x0005050000000000) ∷ tell status_end ∷ setup (bytes 8 0x0009010000000000) ∷ []

-- where the set and the serial block lie
abbrev pub set_spot : Spot
set_spot = record { block = 1; offset = 0 }

abbrev pub serial_spot : Spot
serial_spot = record { block = 2; offset = 0 }

abbrev pub lie : Spots
lie = spots set_spot serial_spot

abbrev pub done_alone : Given
done_alone = handed 0 (0 ∷ 0 ∷ []) 0 [] set_spot

pub configures : Runs T lie fresh_image configuring (done_alone ∷ number 0 ∷ done_alone ∷ []) configured_image
unfolding computed
configures = runs T lie fresh_image configuring

pub configures_decided : {gs : List Given} {last : List ℕ} → Runs T lie fresh_image configuring gs last → last ≡ configured_image
configures_decided r = (decided T lie r configures).1

pub configures_refuses : Throughout (Refuses T lie) configures
configures_refuses = refusals T lie configures

pub configures_not_eight : Throughout NotEight configures
configures_not_eight = never_eight_after T lie bytes_t refl opens configures

-- ---- interface 0's packet at 81 and interface 1's SET_INTERFACE 1, then its halt at 85
abbrev pub one_order : List Call
one_order = tell (packet_passed 0x81) ∷ setup (bytes 8 0x010B010001000000) ∷ tell (halt 0x85) ∷ []

abbrev pub other_order : List Call
other_order = setup (bytes 8 0x010B010001000000) ∷ tell (halt 0x85) ∷ tell (packet_passed 0x81) ∷ []

-- interface 1 in setting 1, 85 halted, 81's toggle up
abbrev pub last_image : List ℕ
last_image = 2 ∷ 5 ∷ 255 ∷ 1 ∷ 0 ∷ 0 ∷ 0 ∷ 0 ∷ 0 ∷ 1 ∷ replicate 14 0 ++ 0 ∷ 0 ∷ 32 ∷ 0 ∷ 0 ∷ 0 ∷ 2 ∷ 0 ∷ []

same : (k : ℕ) → only (concerns_this T configured_image k) one_order ≡ only (concerns_this T configured_image k) other_order
unfolding computed
same zero = refl
same (suc zero) = refl
same (suc (suc k)) = rw (ne_eqb 0 (suc (suc k)) (λ p. omega arith), ne_eqb 1 (suc (suc k)) (λ p. omega arith)) refl

pub reordered : Reordered T configured_image one_order other_order
unfolding computed
reordered = record { one = refl; other = refl; same = same }

pub one_ends : Runs T lie configured_image one_order (number 0 ∷ done_alone ∷ number 0 ∷ []) last_image
unfolding computed
one_ends = runs T lie configured_image one_order

-- whatever the other run gives and leaves, it leaves that
pub other_ends : {gs : List Given} {last : List ℕ} → Runs T lie configured_image other_order gs last → last_image ≡ last
unfolding computed
other_ends r = (order_after_opening T lie bytes_t refl opens configures one_ends r reordered).0

-- place by place: the packet at 81 stands first in the one and last in the other, and is given the same
pub own_same : (k : ℕ) → own (whom T configured_image) k one_order ≡ own (whom T configured_image) k other_order
unfolding computed
own_same zero = refl
own_same (suc zero) = refl
own_same (suc (suc k)) = rw (ne_eqb 0 (suc (suc k)) (λ p. omega arith), ne_eqb 1 (suc (suc k)) (λ p. omega arith)) refl

abbrev pub moved : Permuted (whom T configured_image) one_order other_order
moved = places-own one_order other_order own_same

pub same_place : {gs : List Given} {last : List ℕ} → Runs T lie configured_image other_order gs last
    → get_elem? gs (moved.to 0) ≡ some (number 0)
unfolding computed
same_place r = (order_places T lie bytes_t accepted_t configured_fit one_ends r refl moved).1 0 (number 0) refl

-- ---- one driver does not notice the other: from the opening on, without interface 0's packet at 81 interface 1 is given the same
abbrev pub whole_run : List Call
whole_run = configuring ++ one_order

abbrev pub left_run : List Call
left_run = configuring ++ setup (bytes 8 0x010B010001000000) ∷ tell (halt 0x85) ∷ []

pub struck_out : kept T lie 1 fresh_image whole_run ≡ left_run
unfolding computed
struck_out = refl

pub unnoticed_by_one : {gs others : List Given} {last other : List ℕ} → (r : Runs T lie fresh_image whole_run gs last)
    → Runs T lie fresh_image left_run others other
    → (kept_of T lie 1 r ≡ told left_run others) × Alike T lie 1 last other
unfolding computed
unnoticed_by_one r = unnoticed_by_page T lie 1 bytes_t {start = start} refl opens r (λ p. (refl, λ q. refl), (λ p. (refl, λ q. refl), (λ p. (refl, λ q. refl), (λ p. (refl, λ q. refl), (λ p. (refl, λ q. refl), (λ p. (refl, λ q. refl), tt))))))
