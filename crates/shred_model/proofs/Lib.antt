pub mod Records
pub mod Orders
pub mod Joined
