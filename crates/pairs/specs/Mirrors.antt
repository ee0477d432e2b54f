-- A working definition for the contract that looks a type 2 entry up; no promise cites it.
use Rattle.std.specs.Prelude.{ℕ, List, Bool, false}
use Rattle.std.proofs.Math.Option.{Option, some, none}
use Rattle.sets.specs.declared.Entry.{Entry}
use Rattle.sets.specs.Pair.{mirrors_entry}

-- an entry beside the one that was looked up
abbrev pub mirrors_found : List ℕ → List ℕ → Entry → Option Entry → Bool
mirrors_found set other e none = false
mirrors_found set other e (some f) = mirrors_entry set other e f
