pub mod Views
pub mod Places
pub mod Columns
pub mod Pairs
pub mod Told
pub mod Entries
