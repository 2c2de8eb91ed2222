pub mod History
pub mod Answered
pub mod Runs
pub mod Begins
pub mod Law
pub mod Made
pub mod Outcomes
