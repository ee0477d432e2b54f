-- n ports are n devices: a run at all ports of a row is at each port a run of its own, so everything that is said of one board after an opening holds at each port, whatever is called at
-- the others in between. Proved in proofs/AtPorts.
use Rattle.std.specs.Prelude.{ℕ, ◌≤◌, ◌<◌, ◌≡◌, true, false, length, take}
use mathlib.Core.List.{List, map, Memᴰ}
use Rattle.octets.specs.Sentences.{is_some}
use Rattle.descriptors.specs.Configuration.{bConfigurationValue}
use Rattle.descriptors.specs.Limits.{full_speed}
use Rattle.sets.specs.Device.{device_body, bNumConfigurations}
use Rattle.sets.specs.Pieces.{Piece}
use Rattle.sets.specs.Opening.{Board, BytesOf, lent}
use Rattle.set_writer.specs.Writer.{pieces}
use Rattle.records.specs.declared.Device.{Device}
use Rattle.records.specs.Device.{in_test_mode, Sized}
use Rattle.records.specs.Image.{device_of, image_of}
use Rattle.records.specs.Current.{set_for}
use Rattle.events.specs.Step.{good_reset}
use Rattle.promises.specs.Struck.{PageRun}
use Rattle.enumeration.specs.Script.{does, reading, get_descriptor}
use Rattle.enumeration.specs.Bodies.{configuration_body}
use Rattle.enumeration.specs.Enumeration.{enumeration, enumerated}
use Rattle.board.specs.Exports.{Opens, Spot, Spots, record_at, numbered, AnswersPortEvent}
use Rattle.board.specs.Makers.{Writes}
use Rattle.board.specs.Runs.{event_of, Given, handed, leaves}
use Rattle.board.specs.Records.{as_images}
use Rattle.board.specs.Unnoticed.{kept, kept_of, Alike}
use Rattle.board.specs.Ports.{PortCall, RowRuns, calls_at}
use Rattle.board.proofs.PortRuns.{port_run}
use Rattle.host_runs.specs.Calls.{seen_given, PlayedFrom, CalledSince}

-- ---- from where, at port k: hk_open or hk_two_open gave 0 on the port's record, by its 32 bytes, and any calls followed, at any ports
pub record PortSince (boards : ℕ → Board) (lies : ℕ → Spots) (k : ℕ) (last : List Device) : Type 0 where
  pub start : List ℕ
  pub row : List Device
  pub before : List PortCall
  pub gave : List Given
  pub long : length start ≡ 32
  pub opens : Opens (boards k) start 0 (image_of (record_at row k))
  pub sized : Sized (record_at row k)
  pub within : k < length row
  pub run : RowRuns boards lies row before gave last

-- the port is there, its record is of C's size, and its 32 bytes were opened and called as those of a board of its own
pub record OwnDevice (boards : ℕ → Board) (lies : ℕ → Spots) (k : ℕ) (last : List Device) : Type 0 where
  pub within : k < length last
  pub sized : Sized (record_at last k)
  pub since : CalledSince (boards k) (lies k) (image_of (record_at last k))

abbrev pub PortsAreDevices : Type 0
PortsAreDevices = (boards : ℕ → Board) (lies : ℕ → Spots) (k : ℕ) → BytesOf (boards k) → (last : List Device) → PortSince boards lies k last → OwnDevice boards lies k last

-- ---- no host can lock a port out: calls at port k whose events are the script's, hk_port_event or hk_two_port_event, with any calls at other ports between them
abbrev pub NeverLockedOutAtPorts : Type 0
NeverLockedOutAtPorts =
    (boards : ℕ → Board) (lies : ℕ → Spots) (k : ℕ) (bytes : BytesOf (boards k)) (last : List Device) → PortSince boards lies k last → in_test_mode (record_at last k) ≡ false
    → (speed : ℕ) → good_reset (is_some (boards k).high) speed ≡ true → (address : ℕ) → 1 ≤ address → address ≤ 127
    → (i : ℕ) → i < bNumConfigurations (device_body (set_for (boards k) speed))
    → (z : Sized (record_at last k)) (within : k < length last) (cs : List PortCall) (gs : List Given) (final : List Device)
    → map event_of (calls_at k cs) ≡ does (enumeration (boards k) speed address i) → (r : RowRuns boards lies last cs gs final)
    → PlayedFrom (as_images (boards k) (lies k) bytes z (port_run boards lies k within r)).0 (enumeration (boards k) speed address i)
    (enumerated speed address (bConfigurationValue (configuration_body (set_for (boards k) speed) i)) (record_at last k))

-- ---- what was written is read at every port, each with its own serial block
abbrev pub ReadsGivenAtPorts : Type 0
ReadsGivenAtPorts =
    (stream buffer left : List ℕ) (size : ℕ) (serials : ℕ → List ℕ) (lies : ℕ → Spots) (k : ℕ) → Writes full_speed stream (serials k) buffer 0 left size
    → (let boards : ℕ → Board = λ p. lent (take size left) (serials p) in (last : List Device) → PortSince boards lies k last
    → (p : Piece) → Memᴰ p (pieces stream) → (asked : ℕ) → asked ≤ 65535
    → (kind value : ℕ) (setup : List ℕ) → numbered kind value setup ≡ get_descriptor p.kind p.index p.language asked
    → (n : ℕ) (next : List Device) (bytes : List ℕ) (count : ℕ) (shown : List ℕ) (spot : Spot)
    → AnswersPortEvent (boards k) (lies k) last k (numbered kind value setup) n next bytes count shown spot
    → seen_given (handed n bytes count shown spot) ≡ reading (take asked p.body))

-- ---- replacement at port k, with L9's premises there, whatever is called at the others
abbrev pub ReplacedAtPorts : Type 0
ReplacedAtPorts =
    (boards : ℕ → Board) (lies : ℕ → Spots) (k i : ℕ) (bytes : BytesOf (boards k)) (start : List ℕ) (row : List Device) → length start ≡ 32 → (z : Sized (record_at row k))
    → (within : k < length row) → (let image = image_of (record_at row k) in Opens (boards k) start 0 image
    → (xs ys : List PortCall) (gs hs : List Given) (last other : List Device)
    → (one : RowRuns boards lies row xs gs last) → PageRun (boards k) i device_of event_of (leaves (boards k) (lies k)) false image (calls_at k xs)
    → (two : RowRuns boards lies row ys hs other) → PageRun (boards k) i device_of event_of (leaves (boards k) (lies k)) false image (calls_at k ys)
    → kept (boards k) (lies k) i image (calls_at k xs) ≡ kept (boards k) (lies k) i image (calls_at k ys)
    → (kept_of (boards k) (lies k) i (as_images (boards k) (lies k) bytes z (port_run boards lies k within one)).0
    ≡ kept_of (boards k) (lies k) i (as_images (boards k) (lies k) bytes z (port_run boards lies k within two)).0)
    × Alike (boards k) (lies k) i (image_of (record_at last k)) (image_of (record_at other k)))
