-- Working definitions for the order of settings; no promise cites them.
use Rattle.std.specs.Prelude.{ℕ, ◌%◌, Bool, ◌&&◌, ltb}
use Rattle.octets.specs.Sentences.{◌⇒◌}

-- of a setting as one number: no sum of it overflows, and it names one of 16 interfaces, if any
abbrev pub low : ℕ → Bool
low last = ltb last 131072 && (ltb last 4096 ⇒ ltb (last % 256) 16)
