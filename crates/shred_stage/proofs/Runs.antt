-- Runs and setups of stages.
pub mod InTurn
pub mod Plans
pub mod Setups
