pub mod Digits
pub mod Put
pub mod Rows
pub mod Refused
pub mod Loads
pub mod Saves
