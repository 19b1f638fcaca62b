pub mod Declares
pub mod Overlaid
pub mod Lines
pub mod Printed
pub mod Runs
pub mod Rounds
pub mod SetUp
pub mod Tables
