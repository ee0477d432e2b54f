pub mod Collected
pub mod Course
pub mod Passes
