pub mod Packets
pub mod Inverse
pub mod Fitting
pub mod Looking
pub mod Settling
pub mod Ending
pub mod Replies
