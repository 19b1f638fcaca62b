-- Runs that are joined, one after the other or beside each other.
pub mod Ran
pub mod UpToFault
pub mod InTurn
pub mod FirstFault
pub mod Faults
pub mod AllWent
pub mod Apart
pub mod Beside
pub mod BesideAsOne
