pub mod RoundTrip
pub mod Written
pub mod Read
pub mod Decisions
