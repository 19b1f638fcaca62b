pub mod Holders
pub mod Turns
pub mod Enclosed
