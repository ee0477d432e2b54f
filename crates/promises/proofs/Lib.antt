pub mod Refusals
pub mod Inhabited
pub mod Language
