-- Views that are parted, and joined again.
pub mod Hands
pub mod Beside
