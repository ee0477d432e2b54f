pub mod Agreeing
pub mod Entries
pub mod Grouped
pub mod First
pub mod RulePair
