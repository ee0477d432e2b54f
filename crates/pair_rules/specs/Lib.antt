pub mod Pair
pub mod Explained
pub mod Placed
