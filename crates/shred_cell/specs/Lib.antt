pub mod Word
pub mod Agreement
pub mod Bits
pub mod Cells
pub mod Shared
pub mod SharedWorlds
pub mod Refusals
pub mod Texts
