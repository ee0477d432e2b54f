-- n ports are n devices (specs/AtPorts). No axiom.
use Rattle.octets.proofs.Vocabulary.{◌≡◌, refl, ◌∙◌, ℕ, List, length, take}
use Rattle.sets.specs.Opening.{Board, lent}
use Rattle.records.specs.declared.Device.{Device}
use Rattle.records.specs.Image.{image_of}
use Rattle.records.proofs.Image.{device-image}
use Rattle.board.specs.Exports.{Spots, record_at}
use Rattle.board.specs.Runs.{Given, handed, record_event, by_record_event}
use Rattle.board.specs.Records.{on_image, as_images}
use Rattle.board.specs.Ports.{PortCall, RowRuns, ended, called, calls_at, given_at, at_port}
use Rattle.board.proofs.PortRuns.{port_run, same_length}
use Rattle.host_runs.specs.AtPorts.{PortsAreDevices, NeverLockedOutAtPorts, ReadsGivenAtPorts, ReplacedAtPorts}
use Rattle.host_runs.proofs.NeverLockedOut.{never_locked_out}
use Rattle.host_runs.proofs.Given.{bytes-so, reads_given}
use Rattle.host_runs.proofs.Replaced.{replaced_by_page}

row-length : {boards : ℕ → Board} {lies : ℕ → Spots} {row last : List Device} {cs : List PortCall} {gs : List Given} → RowRuns boards lies row cs gs last → length last ≡ length row
row-length ended = refl
row-length (called a r) = row-length r ∙ same_length a

pub ports_are_devices : PortsAreDevices
ports_are_devices boards lies k bytes last p =
    let r = port_run boards lies k p.within p.run in
    let (images, z) = as_images (boards k) (lies k) bytes p.sized r in
    record {
      within = rw (row-length p.run) p.within;
      sized = z;
      since = record {
        start = p.start;
        image = image_of (record_at p.row k);
        before = calls_at k p.before;
        gave = given_at k p.before p.gave;
        long = p.long;
        opens = p.opens;
        run = images;
      };
    }

pub never_locked_out_at_ports : NeverLockedOutAtPorts
never_locked_out_at_ports boards lies k bytes last p calm speed good a low high i there z within cs gs final same r =
    let own = ports_are_devices boards lies k bytes last p in
    let back = device-image (record_at last k) z in
    let plays = never_locked_out (boards k) (lies k) bytes (image_of (record_at last k)) own.since (rw back calm) speed good a low high i there in
    rw back at (plays (calls_at k cs) (given_at k cs gs) (image_of (record_at final k)) same (as_images (boards k) (lies k) bytes z (port_run boards lies k within r)).0)

pub reads_given_at_ports : ReadsGivenAtPorts
reads_given_at_ports stream buffer left size serials lies k wrote last p piece m asked s kind value setup e n next handed_back count shown spot a =
    let own = ports_are_devices (λ (q : ℕ). lent (take size left) (serials q)) lies k (bytes-so wrote, tt) last p in
    reads_given stream (serials k) buffer left size wrote (lies k) (image_of (record_at last k)) own.since piece m asked s
    (record_event kind value setup) (handed n handed_back count shown spot) (image_of (record_at next k)) e (by_record_event (on_image own.sized (at_port a own.within)))

pub replaced_at_ports : ReplacedAtPorts
replaced_at_ports boards lies k i bytes start row long z within o xs ys gs hs last other one p two q same =
    replaced_by_page (boards k) (lies k) i bytes start (image_of (record_at row k)) long o (calls_at k xs) (calls_at k ys) (given_at k xs gs) (given_at k ys hs)
    (image_of (record_at last k)) (image_of (record_at other k))
    (as_images (boards k) (lies k) bytes z (port_run boards lies k within one)).0 p (as_images (boards k) (lies k) bytes z (port_run boards lies k within two)).0 q same
