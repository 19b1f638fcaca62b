pub mod FirstHeld
pub mod Reported
pub mod Shown
pub mod Trimmed
pub mod Written
pub mod Parsing
pub mod Changed
pub mod Kept
