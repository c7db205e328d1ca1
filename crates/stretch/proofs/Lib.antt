pub mod Entered
pub mod Stands
pub mod Passed
pub mod Called
