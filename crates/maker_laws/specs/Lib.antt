pub mod TrimRequests
pub mod RuleNamed
