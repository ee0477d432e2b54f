-- The premises of the theorems over a row hold of something: three titrators T behind one set, the middle one's calls in two orders among the others'.
use Rattle.std.specs.Prelude.{ℕ, zero, suc, ◌≡◌, refl, List, [], ◌∷◌}
use Rattle.std.proofs.Common.{arith, ne_eqb}
use Rattle.octets.specs.Sentences.{only}
use Rattle.sets.specs.Opening.{Board}
use Rattle.records.specs.declared.Device.{Device}
use Rattle.records.specs.Device.{fresh, Sized}
use Rattle.records.specs.Image.{image_of}
use Rattle.promises.specs.Examples.{bytes, computed, T}
use Rattle.promises.specs.Inhabited.{configured}
use Rattle.board.specs.Exports.{Opens, Spots}
use Rattle.board.specs.Order.{concerns_this, Reordered}
use Rattle.board.specs.Unnoticed.{kept}
use Rattle.board.specs.Ports.{PortCall, calls_at}
use Rattle.board.specs.InhabitedRuns.{start, lie}

abbrev pub titrators : ℕ → Board
titrators k = T

abbrev pub spots : ℕ → Spots
spots k = lie

-- an event at a port, and a setup
abbrev at : ℕ → ℕ → ℕ → PortCall
at port kind value = record { port = port; kind = kind; value = value; setup = [] }

abbrev ask : ℕ → ℕ → PortCall
ask port setup = record { port = port; kind = 0; value = 0; setup = bytes 8 setup }

-- ---- demand 3: port 1 is configured; interface 0's packet at 81 before or after interface 1's SET_INTERFACE 1 and halt at 85, with calls at ports 0, 2 and 9 between
abbrev pub row : List Device
row = fresh ∷ configured ∷ fresh ∷ []

abbrev pub one_order : List PortCall
one_order = at 1 4 0x81 ∷ at 0 2 0 ∷ ask 1 0x010B010001000000 ∷ at 9 6 0 ∷ at 1 3 0x85 ∷ []

abbrev pub other_order : List PortCall
other_order = ask 1 0x010B010001000000 ∷ at 1 3 0x85 ∷ at 2 6 0 ∷ at 1 4 0x81 ∷ []

same : (k : ℕ) → only (concerns_this T (image_of configured) k) (calls_at 1 one_order) ≡ only (concerns_this T (image_of configured) k) (calls_at 1 other_order)
unfolding computed
same zero = refl
same (suc zero) = refl
same (suc (suc k)) = rw (ne_eqb 0 (suc (suc k)) (λ p. omega arith), ne_eqb 1 (suc (suc k)) (λ p. omega arith)) refl

pub reordered : Reordered T (image_of configured) (calls_at 1 one_order) (calls_at 1 other_order)
unfolding computed
reordered = record { one = refl; other = refl; same = same }

-- ---- L9: from power-on at port 1, SET_ADDRESS 5, its status end, SET_CONFIGURATION 1 and the same; without interface 0's packet interface 1 is given the same
abbrev pub opened : List Device
opened = configured ∷ fresh ∷ []

pub fresh_sized : Sized fresh
fresh_sized = record { sixteen = refl; halts-fit = omega arith; toggles-fit = omega arith }

pub opens : Opens T start 0 (image_of fresh)
unfolding computed
opens = record { number = refl; leaves = refl }

abbrev pub whole_run : List PortCall
whole_run = ask 1 0x0005050000000000 ∷ at 1 1 0 ∷ at 0 3 0x85 ∷ ask 1 0x0009010000000000 ∷ at 1 4 0x81 ∷ ask 1 0x010B010001000000 ∷ at 1 3 0x85 ∷ []

abbrev pub left_run : List PortCall
left_run = ask 1 0x0005050000000000 ∷ at 1 1 0 ∷ ask 1 0x0009010000000000 ∷ ask 1 0x010B010001000000 ∷ at 0 4 0x81 ∷ at 1 3 0x85 ∷ []

pub struck_out : calls_at 1 left_run ≡ kept T lie 1 (image_of fresh) (calls_at 1 whole_run)
unfolding computed
struck_out = refl
