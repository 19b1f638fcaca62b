-- Slots of tables, and values that move between them.
mod IdOrder
pub mod InOrder
pub mod Ids
pub mod Slots
pub mod Held
pub mod Moves
pub mod AsOne
pub mod Members
pub mod Halving
pub mod Counted
