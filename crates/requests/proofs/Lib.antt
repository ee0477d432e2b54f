pub mod Found
pub mod States
