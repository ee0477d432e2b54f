pub mod Run
pub mod Shuffle
pub mod Order
pub mod Places
pub mod Parts
pub mod Strike
pub mod Owners
pub mod Beside
