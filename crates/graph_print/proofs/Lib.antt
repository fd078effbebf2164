pub mod WireOrder
pub mod WholeDocument
pub mod PortsInOrder
mod WiresInOrder
mod Markers
