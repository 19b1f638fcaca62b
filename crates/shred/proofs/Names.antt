-- Names of systems.
pub mod Consistent
pub mod KnownNames
