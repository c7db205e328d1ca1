pub mod Seen
pub mod Filter
pub mod Smooth
pub mod Lists
pub mod FilterList
pub mod SmoothList
pub mod Stretch
pub mod ForC
