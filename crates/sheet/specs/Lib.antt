pub mod Kinds
pub mod Lines
pub mod Tokens
pub mod Faults
pub mod Effects
pub mod Sheets
pub mod Good
pub mod Examples
