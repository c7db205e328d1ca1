pub mod View
pub mod Looked
pub mod Call
