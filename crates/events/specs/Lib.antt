pub mod Answer
pub mod Coded
pub mod Requests
pub mod Facts
pub mod Step
pub mod Concerns
