pub mod Image
pub mod InUse
pub mod Fitting
pub mod Putting
