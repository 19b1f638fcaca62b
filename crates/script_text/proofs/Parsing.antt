-- What the words and the lines of a script say, met one after another.
pub mod Passing
pub mod Naming
pub mod Changes
pub mod OneMore
pub mod LineCuts
pub mod LinesSaid
