pub mod Outcomes
pub mod Closing
