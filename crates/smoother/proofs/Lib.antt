pub mod Looked
pub mod Judged
