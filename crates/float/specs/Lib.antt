pub mod Inner
pub mod Edges
