pub mod Leaves
pub mod Tripled
