-- Which interface an event concerns (document 01: "An event concerns interface j, in Configured, if ..").
use Rattle.std.specs.Prelude.{ℕ, Bool, false, eqb}
use Rattle.std.proofs.Math.Option.{Option, some, none, map}
use Rattle.octets.specs.Sentences.{pick}
use Rattle.descriptors.specs.Configuration.{Configuration, has_interface, addressed}
use Rattle.sets.specs.Opening.{Board}
use Rattle.sets.specs.View.{View}
use Rattle.records.specs.declared.Device.{Device}
use Rattle.records.specs.Device.{in_configured}
use Rattle.records.specs.Current.{view_at, selected}
use Rattle.requests.specs.declared.Setup.{Setup}
use Rattle.requests.specs.Table.{recipient}
use Rattle.events.specs.declared.Event.{Event}
use Rattle.events.specs.declared.Event.TheVariants.{Request, Malformed, StatusEnd, BusReset, Halt, PacketPassed, Power, Suspend, Resume, Wake}

-- the interface that lists an address "in any setting" of the configuration; no second interface does. An address is one byte,
-- so a wIndex whose high byte is not 0 is none
abbrev pub listed_by : Configuration → ℕ → Option ℕ
listed_by c address = map (λ e. e.interface) (addressed address c.endpoints)

abbrev pub setup_concerns : Configuration → Setup → Option ℕ
setup_concerns c s =
    pick (eqb (recipient s) 1) (pick (has_interface c s.wIndex) (some s.wIndex) none)
    (pick (eqb (recipient s) 2) (listed_by c s.wIndex) none)

-- what an event names: a setup, the address of an endpoint, or neither: then it is the whole device's
pub data Subject : Type 0 where
  a_setup : Setup → Subject
  an_endpoint : ℕ → Subject
  the_device : Subject

abbrev pub subject_of : Event → Subject
subject_of (Request s) = a_setup s
subject_of Malformed = the_device
subject_of StatusEnd = the_device
subject_of (BusReset speed) = the_device
subject_of (Halt a) = an_endpoint a
subject_of (PacketPassed a) = an_endpoint a
subject_of (Power source) = the_device
subject_of Suspend = the_device
subject_of Resume = the_device
subject_of Wake = the_device

abbrev pub subject_concerns : Configuration → Subject → Option ℕ
subject_concerns c (a_setup s) = setup_concerns c s
subject_concerns c (an_endpoint a) = listed_by c a
subject_concerns c the_device = none

abbrev pub event_concerns : Configuration → Event → Option ℕ
event_concerns c e = subject_concerns c (subject_of e)

unfoldable pub concerns : View → Device → Event → Option ℕ
concerns v d e = pick (eqb d.state in_configured) (event_concerns (selected v d) e) none

-- on a board: by the set in use
abbrev pub concerns_on : Board → Device → Event → Option ℕ
concerns_on b d e = concerns (view_at b d) d e

-- whether that is interface k
abbrev pub is_this : ℕ → Option ℕ → Bool
is_this k none = false
is_this k (some j) = eqb j k
