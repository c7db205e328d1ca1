pub mod Blanked
pub mod Went
