-- Working definitions for the contracts of tables of numbers below 256; no promise cites them.
use Rattle.std.specs.Prelude.{ℕ, ◌/◌, ◌%◌, Bool, List, get_or, set}
use Rattle.octets.specs.Bit.{bit, set_bit}

-- number k is in the table
abbrev pub has : List ℕ → ℕ → Bool
has table k = bit (get_or table (k / 32) 0) (k % 32)

abbrev pub with : List ℕ → ℕ → List ℕ
with table k = set table (k / 32) (set_bit (get_or table (k / 32) 0) (k % 32))
