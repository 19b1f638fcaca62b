pub mod Views
pub mod Bundles
pub mod Parted
