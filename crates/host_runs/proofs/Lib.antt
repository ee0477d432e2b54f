pub mod Calls
pub mod NeverLockedOut
pub mod Given
pub mod Replaced
pub mod AtPorts
pub mod Inhabited
pub mod InhabitedReplaced
pub mod InhabitedCalls
