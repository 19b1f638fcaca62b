pub mod Async
pub mod Planner
pub mod Names
pub mod Taken
pub mod HeldOver
mod Changed
