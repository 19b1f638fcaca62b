pub mod Bounds
pub mod Entries
pub mod OneBatch
pub mod Rounds
pub mod Tiers
pub mod WorkSteps
