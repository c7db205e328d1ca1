pub mod Transposes
pub mod Unread
