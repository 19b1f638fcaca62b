pub mod Apart
pub mod Beside
pub mod OverViews
pub mod Joined
pub mod Walked
pub mod ListsJoined
pub mod Within
pub mod HalvesApart
