-- Bit e of a number, and the number with that bit set, cleared and flipped.
use Rattle.std.specs.Prelude.{ℕ, ◌+◌, ◌-◌, ◌/◌, ◌%◌, ◌^◌, Bool, eqb}
use Rattle.octets.specs.Sentences.{pick}

abbrev pub bit : ℕ → ℕ → Bool
bit word e = eqb (word / 2 ^ e % 2) 1

abbrev pub set_bit : ℕ → ℕ → ℕ
set_bit word e = pick (bit word e) word (word + 2 ^ e)

abbrev pub clear_bit : ℕ → ℕ → ℕ
clear_bit word e = pick (bit word e) (word - 2 ^ e) word

abbrev pub flip_bit : ℕ → ℕ → ℕ
flip_bit word e = pick (bit word e) (word - 2 ^ e) (word + 2 ^ e)
