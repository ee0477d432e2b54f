pub mod Trimmed
pub mod Explained
pub mod Dumped
pub mod Written
pub mod Example
pub mod StringExample
