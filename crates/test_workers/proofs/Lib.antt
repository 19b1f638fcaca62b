pub mod Each
pub mod Halves
