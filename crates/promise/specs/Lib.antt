pub mod Refusals
pub mod Lent
pub mod Calls
pub mod Exported
pub mod Records
pub mod WithRecords
pub mod Numbers
