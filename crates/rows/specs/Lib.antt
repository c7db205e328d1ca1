pub mod Checks
pub mod Rows
pub mod Filled
pub mod Library
