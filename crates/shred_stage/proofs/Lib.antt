pub mod Planner
pub mod Names
pub mod Runs
mod Lookups
