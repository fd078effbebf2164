-- Circuits and graphs without a Buffer.
pub mod Steps
pub mod Circuits
pub mod Drains
pub mod DrainsWith
pub mod Graphs
pub mod Several
