-- Runs of a plan's entries in the order in which they were added.
pub mod Entries
pub mod InOrder
pub mod Past
pub mod Runs
pub mod Sorted
