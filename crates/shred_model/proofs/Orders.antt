-- Orders of records that keep dependent pairs.
pub mod Swap
pub mod Reorder
pub mod ReplaySteps
pub mod Serializable
