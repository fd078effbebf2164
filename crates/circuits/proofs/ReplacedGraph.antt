-- A part of a graph by names replaced by a graph that refines it.
pub mod Lookups
pub mod Consumers
pub mod EndNames
pub mod Circuits
pub mod BufferRule
