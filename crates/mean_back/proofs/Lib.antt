pub mod Sizes
pub mod Laws
pub mod Going
