pub mod Again
pub mod Arrays
pub mod Lent
pub mod Locals
pub mod Pieces
pub mod Shared
