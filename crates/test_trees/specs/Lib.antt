pub mod Named
pub mod TwoThenOne
