pub mod Gathering
pub mod Endpoint
pub mod Selected
