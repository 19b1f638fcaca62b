pub mod Tables
pub mod Parted
pub mod Walks
