pub mod AtHome
pub mod Shown
pub mod Stepped
