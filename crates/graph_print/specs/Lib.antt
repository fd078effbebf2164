pub mod CanonicalText
pub mod Markers
pub mod PrintedWires
pub mod DocumentParts
