pub mod Added
pub mod Called
pub mod Circle
pub mod Groups
pub mod Inner
pub mod Paths
pub mod Runs
pub mod Setups
