pub mod AgentSteps
pub mod Opened
pub mod ToldFaults
pub mod OwnDepth
pub mod Within
pub mod Works
