-- Where the planner places an entry, and what plans keep.
pub mod Addition
pub mod Earlier
pub mod EntriesAt
pub mod SearchStart
pub mod Spots
pub mod StageKeeps
pub mod Widest
