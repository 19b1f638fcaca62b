mod Told
mod Lists
mod Found
mod Place
mod Remade
pub mod PassedBy
mod JoinedRows
mod LiveCount
mod RemadeTables
mod Outcomes
mod Shown
mod SetValues
pub mod KeptStates
pub mod Ticked
pub mod Counted
pub mod PlanOrder
pub mod RuleRuns
pub mod Planned
pub mod Dispatches
mod RuleRun
