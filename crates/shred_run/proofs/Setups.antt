-- Setups and disposals of plans, told entry by entry.
pub mod InOrder
pub mod Places
pub mod Works
