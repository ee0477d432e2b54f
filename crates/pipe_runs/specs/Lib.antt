pub mod Runs
pub mod Packets
pub mod Addresses
pub mod Host
pub mod Promises
