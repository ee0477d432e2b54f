-- Working definitions for the contracts of the walk that looks for an endpoint descriptor; no promise cites them.
use Rattle.std.specs.Prelude.{ℕ, ◌+◌, ◌-◌, List, Bool, ◌&&◌, length, eqb, Option, Some, None}
use Rattle.std.proofs.Math.Option.{Option as Maybe, some, none}
use Rattle.octets.specs.Sentences.{pick}
use Rattle.descriptors.specs.declared.endpoints.DescriptorPlace.{DescriptorPlace}
use Rattle.descriptors.specs.Configuration.{is_current}
use Rattle.descriptors.specs.Walk.{Walk}
use Rattle.descriptors.specs.Lookup.{lists_one}
use Rattle.descriptors.specs.Endpoints.{DescriptorAt}

-- an answer as the code gives it
abbrev pub found_at : Maybe DescriptorAt → Option DescriptorPlace
found_at none = None
found_at (some d) = Some (record { offset = d.offset; length = length d.bytes })

-- what is known when a descriptor comes: how many endpoint descriptors are to be passed by, and where it begins
pub record Seek : Type 0 where
  pub left : ℕ
  pub offset : ℕ

-- after one that is passed by, or that does not count
abbrev pub passing : Bool → ℕ → ℕ
passing counts left = pick counts (left - 1) left

abbrev pub seeking : List ℕ → Walk Seek (Option DescriptorPlace)
seeking alternates = record {
  stop = λ w last stand d. pick (lists_one (is_current alternates) stand d && eqb w.left 0) (some (Some (record { offset = w.offset; length = length d }))) none;
  on = λ w last stand d. record { left = passing (lists_one (is_current alternates) stand d) w.left; offset = w.offset + length d };
  finish = λ w stand. None;
  astray = λ w. None;
}
