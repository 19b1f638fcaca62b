pub mod Counted
pub mod Inserted
pub mod Wraps
pub mod Done
pub mod Dispatched
pub mod Worlds
pub mod Asked
