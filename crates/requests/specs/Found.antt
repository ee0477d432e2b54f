-- Working definitions for the contracts of `requests`; no promise cites them. What the search of the table finds, as the code says it.
use Rattle.std.specs.Prelude.{Option, Some, None}
use Rattle.std.proofs.Math.Option.{Option as Maybe, some, none}
use Rattle.requests.specs.declared.Row.{Row}

abbrev pub found_of : Maybe Row → Option Row
found_of none = None
found_of (some row) = Some row
