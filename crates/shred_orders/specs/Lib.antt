pub mod EntryPaths
pub mod Interleavings
pub mod OneEnd
pub mod OverWorlds
