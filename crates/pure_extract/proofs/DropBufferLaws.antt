-- The rule drop_buffer: it is sound, and its calls make it.
pub mod EndNames
pub mod Sound
pub mod PassingNode
pub mod Sides
