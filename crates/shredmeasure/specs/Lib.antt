pub mod Counts
pub mod Adds
pub mod Entries
pub mod Adders
pub mod Random
pub mod Orders
pub mod Measured
