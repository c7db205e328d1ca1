pub mod Cells
pub mod Kept
pub mod Examples
