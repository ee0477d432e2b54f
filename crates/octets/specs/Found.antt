-- What is looked up, as code gives it. For contracts alone: no promise cites it.
use Rattle.std.specs.Prelude.{Option, Some, None}
use Rattle.std.proofs.Math.Option.{Option as Maybe, some, none}

abbrev pub found : {A : Type 0} → Maybe A → Option A
found none = None
found (some x) = Some x
