pub mod Script
pub mod Bodies
pub mod Enumeration
pub mod Enumerates
pub mod Works
pub mod Toggles
pub mod Unasked
pub mod Checklist
