-- Runs of entries, groups and stages.
pub mod Forked
pub mod Handed
pub mod Hands
