-- Names of systems, and the printed plan.
pub mod Known
pub mod Sinks
