pub mod Octets
pub mod Sentences
pub mod Bit
pub mod Table
pub mod Found
