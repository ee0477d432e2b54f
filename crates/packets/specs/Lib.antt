pub mod Packets
pub mod Told
