-- What views show, refuse and keep.
pub mod Shown
pub mod Lent
pub mod Ended
pub mod Settled
pub mod Filled
pub mod Refusals
pub mod HeldKinds
pub mod KeptIds
pub mod Whole
