pub mod Kinds
pub mod MetaTables
pub mod Walks
pub mod MetaWalks
