pub mod Along
pub mod Whole
