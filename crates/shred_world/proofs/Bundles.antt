-- What bundles take and give back.
pub mod Grants
pub mod Parts
pub mod Both
pub mod Worked
pub mod Kept
