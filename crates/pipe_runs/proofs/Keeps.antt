-- The host of the enumeration on the wire keeps to what it is ordered. No axiom.
use Rattle.octets.proofs.Vocabulary.{◌≡◌, refl, ℕ, ◌-◌, List, [], ◌∷◌, ◌++◌, map, flat_map, append_assoc, Bool, true, false, eqb}
use Rattle.octets.specs.Sentences.{pick, from}
use Rattle.descriptors.specs.Configuration.{bConfigurationValue}
use Rattle.sets.specs.Device.{device_body}
use Rattle.records.specs.Current.{set_for}
use Rattle.events.specs.declared.Event.{Event}
use Rattle.events.specs.declared.Event.TheVariants.{Request, Malformed, StatusEnd, BusReset, Halt, PacketPassed, Power, Suspend, Resume, Wake}
use Rattle.pipes.specs.Transfer.{nothing, send}
use Rattle.enumeration.specs.Script.{Line, line, done, set_address, set_configuration}
use Rattle.enumeration.specs.Bodies.{configuration_body}
use Rattle.enumeration.specs.Enumeration.{device_lines}
use Rattle.pipe_runs.specs.Packets.{packets_of}
use Rattle.pipe_runs.specs.Host.{WireLine, keeps_to, without_data, takes_next, takes_last, in_packets, transfer_for, transfer_on, transfers_on, read_lines, size_for}
use Rattle.pipe_runs.specs.Promises.{TakesEachPacket}

taking : (bytes : List ℕ) (w p : ℕ) (ks : List ℕ) (rest : List WireLine) → keeps_to nothing rest ≡ true
    → keeps_to send ((map (takes_next bytes w p) ks ++ takes_last) ++ rest) ≡ true
taking bytes w p [] rest k = k
taking bytes w p (x ∷ ks) rest k = taking bytes w p ks rest k

transfer : (p : ℕ) (e : Event) (bytes : List ℕ) (rest : List WireLine) → keeps_to nothing rest ≡ true → keeps_to nothing (transfer_for p e bytes ++ rest) ≡ true
transfer p (Request s) bytes rest k = go (eqb s.wLength 0)
  where
    go : (x : Bool) → keeps_to nothing (pick x (without_data s) (in_packets p s bytes) ++ rest) ≡ true
    go true = k
    go false = taking bytes s.wLength p (from 1 (packets_of bytes s.wLength p - 1)) rest k
transfer p Malformed bytes rest k = k
transfer p StatusEnd bytes rest k = k
transfer p (BusReset speed) bytes rest k = k
transfer p (Halt a) bytes rest k = k
transfer p (PacketPassed a) bytes rest k = k
transfer p (Power source) bytes rest k = k
transfer p Suspend bytes rest k = k
transfer p Resume bytes rest k = k
transfer p Wake bytes rest k = k

transfers : (p : ℕ) (ls : List Line) (rest : List WireLine) → keeps_to nothing rest ≡ true → keeps_to nothing (transfers_on p ls ++ rest) ≡ true
unfolding flat_map
transfers p [] rest k = k
transfers p (l ∷ ls) rest k = rw append_assoc (transfer p l.0 l.1.reads (transfers_on p ls ++ rest) (transfers p ls rest k))

pub takes_each_packet : TakesEachPacket
takes_each_packet b speed address i =
    let p = size_for b speed in
    let configures = transfer_on p (line (set_configuration (bConfigurationValue (configuration_body (set_for b speed) i))) done) in
    let reads = transfers_on p (read_lines b speed) ++ configures in
    transfers p (device_lines (device_body (set_for b speed))) (transfer_on p (line (set_address address) done) ++ reads)
    (transfer p (set_address address) [] reads (transfers p (read_lines b speed) configures refl))
