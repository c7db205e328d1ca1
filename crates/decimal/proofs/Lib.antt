pub mod Numbers
pub mod Runs
pub mod Scaling
pub mod Printing
