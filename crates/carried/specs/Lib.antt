pub mod State
pub mod Beside
pub mod Next
