pub mod Lengths
pub mod Lists
pub mod Places
pub mod Noise
pub mod Past
