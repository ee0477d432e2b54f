pub mod Lengths
pub mod Spots
pub mod EndpointImages
pub mod TwoSets
pub mod PortAnswers
pub mod Piping
pub mod PortRuns
pub mod InhabitedPorts
