pub mod Run
pub mod Places
pub mod Strike
pub mod Owners
