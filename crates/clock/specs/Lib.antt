pub mod Transition
