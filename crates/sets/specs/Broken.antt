-- Working definitions for the contracts of opening; no promise cites them. The numbers of what opening refuses, as the header has them.
use Rattle.std.specs.Prelude.{ℕ, Result, Ok, Err}
use Rattle.sets.specs.declared.opening.Broken.{Broken}
use Rattle.sets.specs.declared.opening.Broken.TheVariants.{Frame, Contents, Device, Configuration, Strings, Serial, Pair}

abbrev pub number_of : Broken → ℕ
number_of Frame = 1
number_of Contents = 2
number_of Device = 3
number_of Configuration = 4
number_of Strings = 5
number_of Serial = 6
number_of Pair = 24

-- 0: what is lent may be opened
abbrev pub opened_number : Result (Unit {0}) Broken → ℕ
opened_number (Ok _) = 0
opened_number (Err broken) = number_of broken
