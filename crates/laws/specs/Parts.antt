-- The words of locality. The record taken apart: the shared fields, which every interface may read and no event of an interface changes, each interface's own part,
-- and the rest. `Same b k r s`: interface k cannot tell r from s.
use Rattle.std.specs.Prelude.{ℕ, ◌≡◌, Bool, true, false, get_or, eqb}
use Rattle.std.proofs.Math.Option.{Option, some, none, map}
use Rattle.octets.specs.Bit.{bit}
use Rattle.octets.specs.Sentences.{pick, first, is_some}
use Rattle.descriptors.specs.Configuration.{Configuration, bit_of}
use Rattle.sets.specs.Opening.{Board}
use Rattle.sets.specs.View.{View}
use Rattle.records.specs.declared.Device.{Device}
use Rattle.records.specs.Device.{fresh, awake, settled, Sized}
use Rattle.records.specs.Current.{view_at, selected_in}
use Rattle.records.specs.Fits.{fits_on}
use Rattle.events.specs.declared.Event.{Event}
use Rattle.events.specs.declared.Event.TheVariants.{Request, Malformed, StatusEnd, BusReset, Halt, PacketPassed, Power, Suspend, Resume, Wake}
use Rattle.events.specs.Answer.{Answer, number_of}
use Rattle.events.specs.Concerns.{concerns_on}

-- a record that fits, of the size that the code has
abbrev pub Good : Board → Device → Type 0
Good b d = Sized d × (fits_on b d ≡ true)

-- no interface's number
abbrev pub nobody : ℕ
nobody = 16

abbrev pub or_nobody : Option ℕ → ℕ
or_nobody none = nobody
or_nobody (some j) = j

-- the interface that lists the address with this bit, in any setting
abbrev pub home_in : Configuration → ℕ → ℕ
home_in c k = or_nobody (map (λ e. e.interface) (first (λ e. eqb (bit_of e.address) k) c.endpoints))

-- the shared fields that no event of an interface changes
pub record Shared : Type 0 where
  pub state : ℕ
  pub address : ℕ
  pub configuration : ℕ
  pub wakeup : ℕ
  pub power : ℕ
  pub speed : ℕ

abbrev pub shared : Device → Shared
shared d = record { state = d.state; address = d.address; configuration = d.configuration; wakeup = d.wakeup; power = d.power; speed = d.speed }

-- where bit k is at home: in the selected configuration
unfoldable pub home : View → Shared → ℕ → ℕ
home v s k = home_in (selected_in v s.state s.configuration) k

-- the shared fields, k's alternate setting, and the halts and toggles of the addresses that k lists
pub record SameIn (v : View) (k : ℕ) (r s : Device) : Type 0 where
  pub firm : shared r ≡ shared s
  pub alternate : get_or r.alternates k 0 ≡ get_or s.alternates k 0
  pub halts : (e : ℕ) → home v (shared r) e ≡ k → bit r.halts e ≡ bit s.halts e
  pub toggles : (e : ℕ) → home v (shared r) e ≡ k → bit r.toggles e ≡ bit s.toggles e

-- interface k cannot tell r from s, on a board: the shared fields choose the set in use
abbrev pub Same : Board → ℕ → Device → Device → Type 0
Same b k r s = SameIn (view_at b r) k r s

-- the rest: what waits, and the sleep byte
abbrev pub rest : Device → ℕ × ℕ
rest d = (d.waiting, d.suspended)

-- d's interfaces, with other shared fields and another rest
abbrev pub with_common : Shared → ℕ × ℕ → Device → Device
with_common x w d = record { state = x.state; address = x.address; waiting = w.0; configuration = x.configuration; wakeup = x.wakeup; power = x.power; suspended = w.1; speed = x.speed; alternates = d.alternates; halts = d.halts; toggles = d.toggles }

-- ---- events: whether one concerns an interface, and which
abbrev pub owned : Board → Device → Event → Bool
owned b d e = is_some (concerns_on b d e)

abbrev pub who : Board → Device → Event → ℕ
who b d e = or_nobody (concerns_on b d e)

-- ---- settling: what of the rest an event that concerns an interface changes, by the event and its answer
pub data Settling : Type 0 where
  keeps settles wakes : Settling

abbrev pub settled_by : Settling → Device → Device
settled_by keeps d = d
settled_by settles d = settled d
settled_by wakes d = awake d

-- a setup of eight bytes drops what waits
abbrev pub drops : Event → Bool
drops (Request s) = true
drops (PacketPassed e) = false
drops (Halt e) = false
drops Malformed = false
drops StatusEnd = false
drops (BusReset speed) = false
drops (Power source) = false
drops Suspend = false
drops Resume = false
drops Wake = false

-- "Past 7 to 9, a setup first drops any waiting address"; "any setup past 7 to 9 and any accepted packet passed event clear" byte 6; "a function
-- halt does not" (L12). The events that name neither a setup nor an endpoint concern no interface
abbrev pub kind : Event → Answer → Settling
kind (Request s) a = settles
kind (PacketPassed e) a = pick (eqb (number_of a) 0) wakes keeps
kind (Halt e) a = keeps
kind Malformed a = keeps
kind StatusEnd a = keeps
kind (BusReset speed) a = keeps
kind (Power source) a = keeps
kind Suspend a = keeps
kind Resume a = keeps
kind Wake a = keeps

-- the same on the rest alone: that of a settled record with this rest
abbrev pub settle : Settling → ℕ × ℕ → ℕ × ℕ
settle m w = rest (settled_by m (with_common (shared fresh) w fresh))
