pub mod Decimal
pub mod Lines
pub mod Bound
pub mod Listed
