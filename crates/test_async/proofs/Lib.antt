pub mod Waited
pub mod SevenShown
