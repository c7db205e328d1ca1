pub mod Tracks
pub mod Resumed
