-- Working definitions for the contracts of `packets`; no promise cites them. What is told of a packet that is there, and of one that is not.
use Rattle.std.specs.Prelude.{Option, Some, None}
use Rattle.packets.specs.declared.Packet.{Packet as Place}
use Rattle.packets.specs.Packets.{Packet}

abbrev pub told : Option Place → Packet
told None = record { number = 15; offset = 0; length = 0 }
told (Some place) = record { number = 0; offset = place.offset; length = place.length }
