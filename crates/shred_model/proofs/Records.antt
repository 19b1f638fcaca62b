-- Records, and what they may touch.
pub mod Framed
pub mod Within
pub mod Lift
pub mod Element
pub mod Telling
pub mod Membership
pub mod Places
