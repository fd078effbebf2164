pub mod Edges
pub mod Cycles
pub mod Leaving
pub mod Grouping
