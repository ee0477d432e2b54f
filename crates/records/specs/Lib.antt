pub mod Device
pub mod Image
pub mod Change
pub mod Current
pub mod Fits
