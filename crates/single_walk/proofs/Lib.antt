pub mod Rules
pub mod Finding
pub mod Reaching
pub mod Whole
pub mod Learning
pub mod AtSpeed
pub mod InUse
pub mod Opened
