-- Working definitions for the contracts of code that asks one rule after another; no promise cites them.
use Rattle.std.specs.Prelude.{List, [], ◌∷◌, Bool, true, false, Option, Some, None, Result, Ok, Err}
use Rattle.std.specs.Option.{option_or}
use Rattle.std.proofs.Math.Option.{Option as Maybe, some, none}
use Rattle.octets.specs.Sentences.{pick}
use Rattle.sets.specs.declared.Entry.{Entry}
use Rattle.sets.specs.Broken.{number_of}
use Rattle.rules.specs.declared.Fault.{Fault}
use Rattle.rules.specs.declared.Explained.{Explained as Refused}
use Rattle.rules.specs.Findings.{Finding}
use Rattle.rules.specs.Frame.{no_entry}
use Rattle.rules.specs.Explained.{Explained}

-- what one rule gives: the fault, where it does not hold
unfoldable pub told_of : Finding → Option Fault
told_of x = pick x.holds None (Some (record { rule = x.rule; place = x.place }))

-- the fault that was found before, or else the first of these
unfoldable pub after : Option Fault → List Finding → Option Fault
after f [] = f
after f (x ∷ xs) = after (option_or f (told_of x)) xs

abbrev pub first_of : List Finding → Option Fault
first_of xs = after None xs

-- the fault that a finding is
abbrev pub fault_in : Maybe Finding → Option Fault
fault_in none = None
fault_in (some x) = Some (record { rule = x.rule; place = x.place })

-- the entry before another, where it is not the first
abbrev pub is_first : Option Entry → Bool
is_first None = true
is_first (Some e) = false

abbrev pub last_of : Option Entry → Entry
last_of None = no_entry
last_of (Some e) = e

-- what explaining gives, as its definition has it: number 0, rule 0 and byte 0 of what is accepted
abbrev pub told : Result (Unit {0}) Refused → Explained
told (Ok _) = record { number = 0; rule = 0; place = 0 }
told (Err e) = record { number = number_of e.broken; rule = e.rule; place = e.place }
