-- When the address byte may change (PIPE 53): "only at a taken in status in after a SET_ADDRESS that was answered with 0, with no SETUP of 8 bytes and no reset answered with 0
-- since; or at a reset".
use Rattle.std.specs.Prelude.{ℕ, ◌≡◌, Bool, false, List, length, eqb}
use Rattle.sets.specs.Opening.{Board}
use Rattle.requests.specs.Table.{setup_of}
use Rattle.events.specs.declared.Event.TheVariants.{BusReset}
use Rattle.events.specs.Answer.{number_of}
use Rattle.events.specs.Step.{event}
use Rattle.pipes.specs.declared.Wire.{Wire}
use Rattle.pipes.specs.declared.Wire.TheVariants.{Setup, Taken, Received, Reset, Reply, Room, Accept, Refuse, Unknown}
use Rattle.pipes.specs.Transfer.{status_in}
use Rattle.pipes.specs.Image.{transfer_of}
use Rattle.pipes.specs.Pipe.{Told, Records}
use Rattle.pipe_runs.specs.Runs.{Happening, on_wire, beside, leaves, leaves_by, a_setup, answered_with, address_in}

-- "no SETUP of 8 bytes and no reset answered with 0 since": what drops a transfer
abbrev pub drops : Board → Records → Told → Wire → Bool
drops b r e Setup = eqb (length e.setup) 8
drops b r e (Reset speed) = eqb (number_of (event b r.image (BusReset speed)).answer) 0
drops b r e Unknown = false
drops b r e Taken = false
drops b r e (Received n) = false
drops b r e Reply = false
drops b r e (Room n) = false
drops b r e Accept = false
drops b r e Refuse = false

abbrev pub drops_by : Board → Records → Happening → Bool
drops_by b r (on_wire e) = drops b r e e.wire
drops_by b r (beside x) = false

-- "after a SET_ADDRESS that was answered with 0, with no SETUP .. since", to the address a
pub data Addressed (b : Board) (a : ℕ) : Records → Type 0 where
  asks : (r : Records) (setup reply : List ℕ) → length setup ≡ 8 → (setup_of setup).bRequest ≡ 0x05 → (setup_of setup).wValue ≡ a → answered_with b r.image setup ≡ 0
      → Addressed b a (leaves b r (a_setup setup reply))
  waits : (r : Records) (h : Happening) → drops_by b r h ≡ false → Addressed b a r → Addressed b a (leaves_by b r h)

-- what happens to the address
pub data Readdresses (b : Board) (r : Records) : Happening → Type 0 where
  stays : (h : Happening) → address_in (leaves_by b r h).image ≡ address_in r.image → Readdresses b r h
  resets : (e : Told) (speed : ℕ) → e.wire ≡ Reset speed → Readdresses b r (on_wire e)
  takes : (e : Told) → e.wire ≡ Taken → (transfer_of r.pipe).stage ≡ status_in → Addressed b (address_in (leaves b r e).image) r → Readdresses b r (on_wire e)
