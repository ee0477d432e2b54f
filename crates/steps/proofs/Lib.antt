pub mod Configurations
pub mod Telling
pub mod Steps
pub mod Images
pub mod EndpointParts
